-- What is seen of a world after its code turned a day, or sent, accepted or heard what is of a day.
use Rattle.std.proofs.Common.{◌≡◌, ℕ, ◌<◌, ◌≤◌, List, [], ◌∷◌, ◌++◌, length, set, get_or, Some, true, false, sym, ap, ◌∙◌, subst}
use Rattle.std.specs.Prelude.{Result, Ok, Err}
use Rattle.std.proofs.lemmas.List.{length_push}
use Rattle.fare_record.specs.Values.{StatementValue}
use Rattle.fare_record.specs.declared.item.Item.{Item}
use Rattle.fare_record.specs.declared.item.Item.TheVariants as item
use Rattle.fare_scheme.specs.Words.{position_of_device, position_of_owner}
use Rattle.fare_collector.specs.Collecting.{next_in, statement_judged}
use Rattle.fare_collector.specs.declared.fault.StatementRefusal.{StatementRefusal}
use Rattle.fare_device.specs.DeviceWords.{DeviceValue}
use Rattle.fare_device.specs.Turning as device
use Rattle.fare_device.specs.declared.device.TurnRefusal.{TurnRefusal}
use Rattle.fare_frame.specs.Grammar.{frame_bytes, IsFrame}
use Rattle.fare_frame.specs.declared.frame.Frame.{Frame}
use Rattle.fare_event.specs.declared.reply.Refusal.{Refusal}
use Rattle.fare_event.specs.declared.reply.Refusal.TheVariants.{Busy}
use Rattle.fare_event.specs.declared.reply.Reply.{Reply}
use Rattle.fare_event.specs.declared.reply.Reply.TheVariants.{Idle, Refused, Opened, SentDay, Accepted, DroppedDay}
use Rattle.fare_side.specs.declared.station.Station.{Station}
use Rattle.fare_world.specs.System.{Stated, DayAcked, System}
use Rattle.fare_world.specs.Tapping.{turn, state}
use Rattle.fare_world.specs.Arriving.{statement_refusal_of, comes}
use Rattle.fare_world.specs.Kept.{IsDayAck, IsPacket}
use Rattle.fare_world.specs.Rooms.{HasStation}
use Rattle.fare_world.specs.Shown.{IsStatementOf, entry, Shows}
use Rattle.fare_world.specs.Whole.{Seen, station_shape, shape}
use Rattle.fare_world.proofs.ShowTap.{device_read, device_same}
use Rattle.fare_world.proofs.ShowStation.{device_written, station_read}
use Rattle.fare_world.proofs.ShowDays.{TurnSeen, shown_turn, shown_state, shown_statement_refused, shown_statement_busy, shown_statement_accepted, shown_heard_day, shown_heard_before}
use Rattle.fare_world.proofs.Showing.{Answers}

-- a device that the code wrote as it was
pub device_kept : (w : Seen) (k : ℕ) (x new : DeviceValue) (y : System × Reply) (r : Reply) → x ≡ get_or w.devices k x → new ≡ x → Answers w.scheme (shape w) y r → Answers w.scheme (record (shape w) { devices = λ e. entry (position_of_device w.scheme e) (set w.devices k new) }) y r
device_kept w k x new y r read same = subst (λ f. Answers w.scheme (record (shape w) { devices = f }) y r) (sym (device_same w k x new read same))

-- a turn that was judged so
pub world_turn : (w : Seen) (s : System) (d k : ℕ) (x : DeviceValue) (judged : Result ℕ TurnRefusal) → Shows w.scheme (shape w) s → position_of_device w.scheme d ≡ Some k → k < length w.devices → x ≡ get_or w.devices k x → judged ≡ device.turn_judged x → TurnSeen w.scheme (shape w) s d x judged
world_turn w s d k x judged sh at within read is = subst (TurnSeen w.scheme (shape w) s d x) (sym is) (shown_turn w.scheme (shape w) s d k x sh at (device_read w d k x at within read))

pub world_turned : (w : Seen) (s : System) (d k day : ℕ) (x new : DeviceValue) → Shows w.scheme (shape w) s → position_of_device w.scheme d ≡ Some k → k < length w.devices → x ≡ get_or w.devices k x → Ok day ≡ device.turn_judged x → new ≡ device.turned x
    → Answers w.scheme (record (shape w) { devices = λ e. entry (position_of_device w.scheme e) (set w.devices k new) }) (turn w.scheme s d) (Opened day)
world_turned w s d k day x new sh at within read judged is =
    subst (λ (z : DeviceValue). Answers w.scheme (record (shape w) { devices = λ e. entry (position_of_device w.scheme e) (set w.devices k z) }) (turn w.scheme s d) (Opened day)) (sym is)
    (device_written w d k (device.turned x) (turn w.scheme s d) (Opened day) at within (world_turn w s d k x (Ok day) sh at within read judged))

-- a statement in the air
pub world_stated : (w : Seen) (s : System) (d k day o place n : ℕ) (x : DeviceValue) (f : Frame) (air : List (List ℕ)) → Shows w.scheme (shape w) s → position_of_device w.scheme d ≡ Some k → position_of_owner w.scheme o ≡ Some place → k < length w.devices → x ≡ get_or w.devices k x → device.is_waiting x.days day ≡ true → device.stated x day o ≡ Some f → IsFrame f → air ≡ w.air ++ frame_bytes f ∷ [] → n ≡ length air
    → Answers w.scheme (record (shape w) { air = air }) (state w.scheme s d day o) (SentDay n day o)
world_stated w s d k day o place n x f air sh at owned within read waits stated lawful pushed count =
    subst (λ l. Answers w.scheme (record (shape w) { air = l }) (state w.scheme s d day o) (SentDay n day o)) (sym pushed)
    (shown_state w.scheme (shape w) s d k day o place n x f sh at owned (device_read w d k x at within read) waits stated lawful (count ∙ ap length pushed ∙ length_push w.air (frame_bytes f)))

-- a statement at its station
pub world_statement_refused : (w : Seen) (s : System) (k : ℕ) (x : Station) (r : StatementValue) (why : StatementRefusal) (named : Refusal) → Shows w.scheme (shape w) s → HasStation w.scheme r.device k → k < length w.stations → x ≡ get_or w.stations k x → statement_judged (next_in x.collector r.device) (position_of_owner w.scheme r.owner) ≡ Err why → named ≡ statement_refusal_of why
    → Answers w.scheme (shape w) (comes w.scheme s (Some (Stated r.device r.day r.owner))) (Refused named)
world_statement_refused w s k x r why named sh has within read judged is =
    subst (λ q. Answers w.scheme (shape w) (comes w.scheme s (Some (Stated r.device r.day r.owner))) (Refused q)) (sym is)
    (shown_statement_refused w.scheme (shape w) s has.station (station_shape x) r why sh has.of (station_read w has.station k x has.at within read) judged)

pub world_statement_busy : (w : Seen) (s : System) (k : ℕ) (x : Station) (r : StatementValue) (inbox : List Item) → Shows w.scheme (shape w) s → HasStation w.scheme r.device k → k < length w.stations → x ≡ get_or w.stations k x → statement_judged (next_in x.collector r.device) (position_of_owner w.scheme r.owner) ≡ Ok tt → w.scheme.inbox_capacity ≤ length w.inbox → inbox ≡ w.inbox
    → Answers w.scheme (record (shape w) { inbox = inbox }) (comes w.scheme s (Some (Stated r.device r.day r.owner))) (Refused Busy)
world_statement_busy w s k x r inbox sh has within read judged full kept =
    subst (λ l. Answers w.scheme (record (shape w) { inbox = l }) (comes w.scheme s (Some (Stated r.device r.day r.owner))) (Refused Busy)) (sym kept)
    (shown_statement_busy w.scheme (shape w) s has.station (station_shape x) r sh has.of (station_read w has.station k x has.at within read) judged full)

pub world_statement_accepted : (w : Seen) (s : System) (k : ℕ) (x : Station) (r : StatementValue) (inbox : List Item) → Shows w.scheme (shape w) s → IsPacket w.scheme s.devices s.held (Stated r.device r.day r.owner) → IsStatementOf s.devices r.device r.day r.owner r → HasStation w.scheme r.device k → k < length w.stations → x ≡ get_or w.stations k x
    → statement_judged (next_in x.collector r.device) (position_of_owner w.scheme r.owner) ≡ Ok tt → length w.inbox < w.scheme.inbox_capacity → inbox ≡ w.inbox ++ item.Stated r ∷ []
    → Answers w.scheme (record (shape w) { inbox = inbox }) (comes w.scheme s (Some (Stated r.device r.day r.owner))) Accepted
world_statement_accepted w s k x r inbox sh sent met has within read judged room pushed =
    subst (λ l. Answers w.scheme (record (shape w) { inbox = l }) (comes w.scheme s (Some (Stated r.device r.day r.owner))) Accepted) (sym pushed)
    (shown_statement_accepted w.scheme (shape w) s has.station (station_shape x) r sh sent met has.of (station_read w has.station k x has.at within read) judged room)

-- a device that heard of a day
pub world_heard_day : (w : Seen) (s : System) (d day k : ℕ) (x new : DeviceValue) → Shows w.scheme (shape w) s → IsDayAck w.scheme s.held d day → position_of_device w.scheme d ≡ Some k → k < length w.devices → x ≡ get_or w.devices k x → device.is_waiting x.days day ≡ true → new ≡ device.day_acknowledged x day
    → Answers w.scheme (record (shape w) { devices = λ e. entry (position_of_device w.scheme e) (set w.devices k new) }) (comes w.scheme s (Some (DayAcked d day))) (DroppedDay day)
world_heard_day w s d day k x new sh met at within read waits is =
    device_written w d k new (comes w.scheme s (Some (DayAcked d day))) (DroppedDay day) at within (shown_heard_day w.scheme (shape w) s d day x new sh met (device_read w d k x at within read) waits is)

pub world_heard_before : (w : Seen) (s : System) (d day k : ℕ) (x new : DeviceValue) → Shows w.scheme (shape w) s → position_of_device w.scheme d ≡ Some k → k < length w.devices → x ≡ get_or w.devices k x → device.is_waiting x.days day ≡ false → new ≡ x
    → Answers w.scheme (record (shape w) { devices = λ e. entry (position_of_device w.scheme e) (set w.devices k new) }) (comes w.scheme s (Some (DayAcked d day))) Idle
world_heard_before w s d day k x new sh at within read gone same =
    device_kept w k x new (comes w.scheme s (Some (DayAcked d day))) Idle read same (shown_heard_before w.scheme (shape w) s d day x sh (device_read w d k x at within read) gone)
