-- What a world shows after a turned day, a statement that is sent or comes, and the acknowledgement of a day.
use Rattle.std.proofs.Common.{◌≡◌, ℕ, ◌+◌, ◌<◌, ◌≤◌, List, [], ◌∷◌, ◌++◌, length, Some, None, Bool, true, false, refl, sym, ap, ◌∙◌, subst, arith}
use Rattle.std.specs.Prelude.{◌==◌, ◌||◌, not, nat_eq, nat_le, if◌then◌else◌, Option, IfSome, is_some, option_map, Result, Ok, Err, position, IsSome}
use Rattle.std.specs.Map.{keys_of}
use Rattle.std.specs.List.{list_all}
use Rattle.std.proofs.lemmas.Bool.Decides.{nat_tests}
use Rattle.std.proofs.lemmas.List.{map-append, length-map}
use Rattle.fare_record.specs.Values.{RecordValue, StatementValue}
use Rattle.fare_record.specs.Lanes.{part}
use Rattle.fare_record.specs.declared.item.Item.TheVariants as item
use Rattle.fare_scheme.specs.Values.{SchemeValue}
use Rattle.fare_scheme.specs.Words.{station_of, position_of_device, position_of_owner}
use Rattle.fare_collector.specs.Collecting.{statement_judged}
use Rattle.fare_collector.specs.declared.fault.StatementRefusal.{StatementRefusal}
use Rattle.fare_collector.specs.declared.fault.StatementRefusal.TheVariants as statement
use Rattle.fare_device.specs.DeviceWords.{DeviceValue}
use Rattle.fare_device.specs.Turning as device
use Rattle.fare_device.specs.declared.device.TurnRefusal.{TurnRefusal}
use Rattle.fare_device.specs.declared.device.TurnRefusal.TheVariants as turn_refusal
use Rattle.fare_device.proofs.Numbering.{numbered_turn, numbered_day_ack, numbered_count}
use Rattle.fare_frame.specs.Grammar.{frame_bytes, IsFrame}
use Rattle.fare_frame.specs.declared.frame.Frame.{Frame}
use Rattle.fare_frame.specs.declared.frame.Frame.TheVariants as frame
use Rattle.fare_event.specs.declared.event.Event.TheVariants as event
use Rattle.fare_event.specs.declared.reply.Refusal.TheVariants.{UnknownDevice, UnknownOwner, LastDay, StatementsFull, NotWaiting, Stranger, Misrouted, Busy, Unstated}
use Rattle.fare_event.specs.declared.reply.Reply.{Reply}
use Rattle.fare_event.specs.declared.reply.Reply.TheVariants.{Idle, Refused, Opened, SentDay, Accepted, DroppedDay, AcknowledgedDay}
use Rattle.fare_record.specs.declared.ack_item.AckItem.TheVariants as ack_item
use Rattle.fare_store.specs.Tables.{put}
use Rattle.fare_world.specs.System.{Stated, DayAcked, Statement_of, DayAck_of, DeviceState, System}
use Rattle.fare_world.specs.Knowing.{knows_owner}
use Rattle.fare_world.specs.Tapping.{is_waiting, turned, turn_on, turn, state_on, state}
use Rattle.fare_world.specs.Arriving.{without, statement_refusal_of, statement_comes, heard_day, comes}
use Rattle.fare_world.specs.Storing.{gains_answer, are_all_held, day_ack_by, day_ack}
use Rattle.fare_route.specs.Stating.{are_all_stated}
use Rattle.fare_world.specs.Kept.{IsSystem, IsTurned, IsDayAck, IsPacket}
use Rattle.fare_world.specs.Shown.{statement_of, IsStatementOf, IsPacketOf, IsArrivedOf, IsDeviceOf, count_of, StationShape, Shape, Shows}
use Rattle.fare_world.proofs.Known.{no_station}
use Rattle.fare_world.proofs.Lists.{Each2-push, length-Each2, has_room, has_no_room}
use Rattle.fare_store.proofs.Entries.{if_all, at_most, above, put_all, put_both}
use Rattle.fare_world.proofs.Kept.{moves_step}
use Rattle.fare_world.proofs.KeptArrive.{comes_kept}
use Rattle.fare_world.proofs.KeptLink.{among}
use Rattle.fare_world.proofs.Showing.{Answers, answers_by, shows_device, stations_same, device_shown, station_shown}
use Rattle.fare_world.proofs.ShowLink.{next_of, line_length, shown_gains}

-- WAITING DAYS
-- the device's test is that of the days alone
pub same_waiting : (days : List (ℕ × List ℕ)) (day : ℕ) → device.is_waiting days day ≡ is_waiting (keys_of days) day
same_waiting [] day = refl
same_waiting (d ∷ days) day = ap (λ b. (d.0 == day) || b) (same_waiting days day)

-- and so are the days without one
same_without : (days : List (ℕ × List ℕ)) (day : ℕ) → keys_of (device.without days day) ≡ without (keys_of days) day
same_without [] day = refl
same_without (d ∷ days) day = by (not (d.0 == day)) (same_without days day)
  where
    by : (b : Bool) → keys_of (device.without days day) ≡ without (keys_of days) day → keys_of (if b then d ∷ device.without days day else device.without days day) ≡ (if b then d.0 ∷ without (keys_of days) day else without (keys_of days) day)
    by true rest = ap (λ l. d.0 ∷ l) rest
    by false rest = rest

-- what waits in the model waits in the device
pub waits_in : (sc : SchemeValue) (d day : ℕ) (v : DeviceState) (x : DeviceValue) → IsDeviceOf sc d v x → device.is_waiting x.days day ≡ is_waiting v.waiting day
waits_in sc d day v x sd = same_waiting x.days day ∙ ap (λ l. is_waiting l day) sd.days

-- TURN
turn_known : (sc : SchemeValue) (s : System) (d k : ℕ) → position_of_device sc d ≡ Some k → turn sc s d ≡ turn_on s d
turn_known sc s d k at = ap (λ o. if is_some o then turn_on s d else (s, Refused UnknownDevice)) at

pub shown_turn_unknown : (sc : SchemeValue) (h : Shape) (s : System) (d : ℕ) → Shows sc h s → position_of_device sc d ≡ None → Answers sc h (turn sc s d) (Refused UnknownDevice)
shown_turn_unknown sc h s d w none = answers_by sc h (Refused UnknownDevice) (turn sc s d) (s, Refused UnknownDevice) (ap (λ o. if is_some o then turn_on s d else (s, Refused UnknownDevice)) none) refl w

-- a device whose open day is over
turned_device : (sc : SchemeValue) (d : ℕ) (v : DeviceState) (x : DeviceValue) → IsDeviceOf sc d v x → IsDeviceOf sc d (record v { day = v.day + 1; waiting = v.waiting ++ v.day ∷ [] }) (device.turned x)
turned_device sc d v x sd = record {
  id = sd.id;
  day = ap (λ n. n + 1) sd.day;
  room = sd.room;
  base = sd.base;
  cursor = sd.cursor;
  owners = sd.owners;
  days = map-append (λ (e : ℕ × List ℕ). e.0) x.days ((x.day, x.counts) ∷ []) ∙ (λ i. sd.days i ++ sd.day i ∷ []);
  numbered = numbered_turn v.taps x sd.numbered;
}

shown_turned : (sc : SchemeValue) (h : Shape) (s : System) (d k : ℕ) (x : DeviceValue) → Shows sc h s → position_of_device sc d ≡ Some k → h.devices d ≡ Some x → x.day < 100000 → length x.days < 8 → Answers sc (record h { devices = put h.devices d (Some (device.turned x)) }) (turn sc s d) (Opened (x.day + 1))
shown_turned sc h s d k x w at here early room =
    answers_by sc (record h { devices = put h.devices d (Some (device.turned x)) }) (Opened (x.day + 1)) (turn sc s d) (turned s d, Opened (v.day + 1)) goes (ap (λ n. Opened (n + 1)) sd.day)
    (shows_device sc h s d after (put h.devices d (Some (device.turned x))) h.stations w (subst (λ (y : System × Reply). IsSystem sc y.0) goes (moves_step sc s (event.Turn d) w.system).system) refl refl (omega arith)
    (put_both (λ j a b. IfSome a (IsDeviceOf sc j b)) h.devices s.devices d (Some (device.turned x)) after w.devices (turned_device sc d v x sd))
    (stations_same sc h s (put s.devices d after) (put_all (λ j a. a.next ≡ (s.devices j).next) s.devices d after (λ j. refl) refl) w))
  where
    v : DeviceState
    v = s.devices d

    after : DeviceState
    after = record v { day = v.day + 1; waiting = v.waiting ++ v.day ∷ [] }

    sd : IsDeviceOf sc d v x
    sd = device_shown sc h s d x w here

    tests : v.day < 100000 → length v.waiting < 8 → turn_on s d ≡ (turned s d, Opened (v.day + 1))
    tests early room = grind (arith, nat_tests)

    goes : turn sc s d ≡ (turned s d, Opened (v.day + 1))
    goes = turn_known sc s d k at ∙ tests (omega (arith, early, sd.day)) (omega (arith, room, sym (length-map x.days (λ (e : ℕ × List ℕ). e.0)) ∙ ap length sd.days))

-- what is seen after a turn that was judged so
abbrev pub TurnSeen : SchemeValue → Shape → System → ℕ → DeviceValue → Result ℕ TurnRefusal → Type 0
TurnSeen sc h s d x (Ok day) = Answers sc (record h { devices = put h.devices d (Some (device.turned x)) }) (turn sc s d) (Opened day)
TurnSeen sc h s d x (Err turn_refusal.LastDay) = Answers sc h (turn sc s d) (Refused LastDay)
TurnSeen sc h s d x (Err turn_refusal.StatementsFull) = Answers sc h (turn sc s d) (Refused StatementsFull)

pub shown_turn : (sc : SchemeValue) (h : Shape) (s : System) (d k : ℕ) (x : DeviceValue) → Shows sc h s → position_of_device sc d ≡ Some k → h.devices d ≡ Some x → TurnSeen sc h s d x (device.turn_judged x)
shown_turn sc h s d k x w at here =
    if_all (nat_le 100000 x.day) (TurnSeen sc h s d x) _ _
    (λ a. answers_by sc h (Refused LastDay) (turn sc s d) (s, Refused LastDay) (turn_known sc s d k at ∙ last (omega (arith, at_most _ _ a, sd.day))) refl w)
    (λ a. if_all (nat_le 8 (length x.days)) (TurnSeen sc h s d x) _ _
    (λ b. answers_by sc h (Refused StatementsFull) (turn sc s d) (s, Refused StatementsFull) (turn_known sc s d k at ∙ full (omega (arith, above _ _ a, sd.day)) (omega (arith, at_most _ _ b, long))) refl w)
    (λ b. shown_turned sc h s d k x w at here (above _ _ a) (above _ _ b)))
  where
    sd : IsDeviceOf sc d (s.devices d) x
    sd = device_shown sc h s d x w here

    long : length x.days ≡ length (s.devices d).waiting
    long = sym (length-map x.days (λ (e : ℕ × List ℕ). e.0)) ∙ ap length sd.days

    last : 100000 ≤ (s.devices d).day → turn_on s d ≡ (s, Refused LastDay)
    last late = grind (arith, nat_tests)

    full : (s.devices d).day < 100000 → 8 ≤ length (s.devices d).waiting → turn_on s d ≡ (s, Refused StatementsFull)
    full early many = grind (arith, nat_tests)

-- STATE
state_known : (sc : SchemeValue) (s : System) (d k day o : ℕ) → position_of_device sc d ≡ Some k → state sc s d day o ≡ (if knows_owner sc o then state_on s d day o else (s, Refused UnknownOwner))
state_known sc s d k day o at = ap (λ p. if is_some p then (if knows_owner sc o then state_on s d day o else (s, Refused UnknownOwner)) else (s, Refused UnknownDevice)) at

state_for : (sc : SchemeValue) (s : System) (d k day o place : ℕ) → position_of_device sc d ≡ Some k → position_of_owner sc o ≡ Some place → state sc s d day o ≡ state_on s d day o
state_for sc s d k day o place at owned = state_known sc s d k day o at ∙ ap (λ p. if is_some p then state_on s d day o else (s, Refused UnknownOwner)) owned

pub shown_state_unknown : (sc : SchemeValue) (h : Shape) (s : System) (d day o : ℕ) → Shows sc h s → position_of_device sc d ≡ None → Answers sc h (state sc s d day o) (Refused UnknownDevice)
shown_state_unknown sc h s d day o w none =
    answers_by sc h (Refused UnknownDevice) (state sc s d day o) (s, Refused UnknownDevice) (ap (λ p. if is_some p then (if knows_owner sc o then state_on s d day o else (s, Refused UnknownOwner)) else (s, Refused UnknownDevice)) none) refl w

pub shown_state_nobody : (sc : SchemeValue) (h : Shape) (s : System) (d k day o : ℕ) → Shows sc h s → position_of_device sc d ≡ Some k → position_of_owner sc o ≡ None → Answers sc h (state sc s d day o) (Refused UnknownOwner)
shown_state_nobody sc h s d k day o w at none =
    answers_by sc h (Refused UnknownOwner) (state sc s d day o) (s, Refused UnknownOwner) (state_known sc s d k day o at ∙ ap (λ p. if is_some p then state_on s d day o else (s, Refused UnknownOwner)) none) refl w

pub shown_not_waiting : (sc : SchemeValue) (h : Shape) (s : System) (d k day o place : ℕ) (x : DeviceValue) → Shows sc h s → position_of_device sc d ≡ Some k → position_of_owner sc o ≡ Some place → h.devices d ≡ Some x → device.is_waiting x.days day ≡ false → Answers sc h (state sc s d day o) (Refused NotWaiting)
shown_not_waiting sc h s d k day o place x w at owned here gone =
    let none : is_waiting (s.devices d).waiting day ≡ false = sym (waits_in sc d day (s.devices d) x (device_shown sc h s d x w here)) ∙ gone in
    answers_by sc h (Refused NotWaiting) (state sc s d day o) (s, Refused NotWaiting)
    (state_for sc s d k day o place at owned ∙ ap (λ b. if b then (record s { air = s.air ++ Stated d day o ∷ [] }, SentDay (length s.air + 1) day o) else (s, Refused NotWaiting)) none) refl w

-- a device that has no statement of a day for an owner of the scheme does not wait with the day
pub never_stated : (sc : SchemeValue) (h : Shape) (s : System) (d day o place : ℕ) (x : DeviceValue) → Shows sc h s → position_of_owner sc o ≡ Some place → h.devices d ≡ Some x → (device.is_waiting x.days day ≡ true × IsSome (position (nat_eq o) x.owners) → false ≡ true) → device.is_waiting x.days day ≡ false
never_stated sc h s d day o place x w owned here none = by (device.is_waiting x.days day) none
  where
    known : IsSome (position (nat_eq o) x.owners)
    known = ap (λ l. is_some (position (nat_eq o) l)) (device_shown sc h s d x w here).owners ∙ ap is_some owned

    by : (b : Bool) → (b ≡ true × IsSome (position (nat_eq o) x.owners) → false ≡ true) → b ≡ false
    by true gives = let never : false ≡ true = gives (refl, known) in absurd (cc)
    by false gives = refl

-- the frame is the statement with the count that is kept
abbrev framed : DeviceValue → ℕ → ℕ → ℕ → Frame
framed x day o count = frame.Stated (record { device = x.id; day = day; owner = o; count = count })

stated_frame : (x : DeviceValue) (day o : ℕ) (f : Frame) → device.stated x day o ≡ Some f → (count : ℕ) × (device.kept_count x day o ≡ Some count) × (frame.Stated (record { device = x.id; day = day; owner = o; count = count }) ≡ f)
stated_frame x day o f e = by (device.kept_count x day o) refl
  where
    same_one : (g : Frame) → Some g ≡ Some f → g ≡ f
    same_one g s = cc

    by : (c : Option ℕ) → device.kept_count x day o ≡ c → (count : ℕ) × (device.kept_count x day o ≡ Some count) × (frame.Stated (record { device = x.id; day = day; owner = o; count = count }) ≡ f)
    by None q = let none : None ≡ Some f = ap (option_map (framed x day o)) (sym q) ∙ e in absurd (cc)
    by (Some count) q = (count, q, same_one (framed x day o count) (ap (option_map (framed x day o)) (sym q) ∙ e))

pub shown_state : (sc : SchemeValue) (h : Shape) (s : System) (d k day o place n : ℕ) (x : DeviceValue) (f : Frame) → Shows sc h s → position_of_device sc d ≡ Some k → position_of_owner sc o ≡ Some place → h.devices d ≡ Some x → device.is_waiting x.days day ≡ true → device.stated x day o ≡ Some f → IsFrame f → n ≡ length h.air + 1
    → Answers sc (record h { air = h.air ++ frame_bytes f ∷ [] }) (state sc s d day o) (SentDay n day o)
shown_state sc h s d k day o place n x f w at owned here waits stated lawful count =
    answers_by sc (record h { air = h.air ++ frame_bytes f ∷ [] }) (SentDay n day o) (state sc s d day o) (record s { air = s.air ++ Stated d day o ∷ [] }, SentDay (length s.air + 1) day o) goes (ap (λ m. SentDay m day o) number)
    (record {
      system = subst (λ (y : System × Reply). IsSystem sc y.0) goes (moves_step sc s (event.State d day o) w.system).system;
      devices = w.devices;
      stations = w.stations;
      air = Each2-push (IsPacketOf s.devices) s.air h.air (Stated d day o) (frame_bytes f) w.air (stated_packet);
      inbox = w.inbox;
      hand = w.hand;
      upto = w.upto;
      rows = w.rows;
      row_count = w.row_count;
      stated = w.stated;
      stated_count = w.stated_count;
      owners = w.owners;
    })
  where
    sd : IsDeviceOf sc d (s.devices d) x
    sd = device_shown sc h s d x w here

    found : (count : ℕ) × (device.kept_count x day o ≡ Some count) × (frame.Stated (record { device = x.id; day = day; owner = o; count = count }) ≡ f)
    found = stated_frame x day o f stated

    sent : StatementValue
    sent = record { device = x.id; day = day; owner = o; count = found.0 }

    same : sent ≡ statement_of s.devices d day o
    same = λ i. record { device = sd.id i; day = day; owner = o; count = numbered_count (s.devices d).taps x day o found.0 sd.numbered found.1 i }

    waiting : is_waiting (s.devices d).waiting day ≡ true
    waiting = sym (waits_in sc d day (s.devices d) x sd) ∙ waits

    past : day < (s.devices d).day
    past = (among (IsTurned sc.start (s.devices d).day) (s.devices d).waiting day (w.system.devices d).days.waiting waiting).past

    stated_packet : IsPacketOf s.devices (Stated d day o) (frame_bytes f)
    stated_packet = record { statement = sent; of = record { past = past; is = same }; lawful = subst IsFrame (sym found.2) lawful; spelled = ap frame_bytes (sym found.2) }

    number : n ≡ length s.air + 1
    number = count ∙ ap (λ j. j + 1) (sym (length-Each2 (IsPacketOf s.devices) s.air h.air w.air))

    goes : state sc s d day o ≡ (record s { air = s.air ++ Stated d day o ∷ [] }, SentDay (length s.air + 1) day o)
    goes = state_for sc s d k day o place at owned ∙ ap (λ b. if b then (record s { air = s.air ++ Stated d day o ∷ [] }, SentDay (length s.air + 1) day o) else (s, Refused NotWaiting)) waiting

-- A STATEMENT COMES
pub shown_statement_stranger : (sc : SchemeValue) (h : Shape) (s : System) (x : StatementValue) → Shows sc h s → station_of sc x.device ≡ None → Answers sc h (comes sc s (Some (Stated x.device x.day x.owner))) (Refused Stranger)
shown_statement_stranger sc h s x w none = answers_by sc h (Refused Stranger) (comes sc s (Some (Stated x.device x.day x.owner))) (s, Refused Stranger) (ap (statement_comes sc s x.device x.day x.owner) none) refl w

-- the station's test is that of the owner alone, since the device is one of its own
judged_by_owner : (sc : SchemeValue) (h : Shape) (s : System) (station : ℕ) (x : StationShape) (r : StatementValue) → Shows sc h s → station_of sc r.device ≡ Some station → h.stations station ≡ Some x → x.nexts r.device ≡ Some (s.devices r.device).next
judged_by_owner sc h s station x r w of here = (station_shown sc h s station x w here).nexts r.device ∙ next_of sc s.devices r.device station of

-- what a statement does at its station, by the place of its owner
abbrev comes_for : SchemeValue → System → ℕ → ℕ → ℕ → Option ℕ → System × Reply
comes_for sc s device day owner p =
    if not (is_some p) then (s, Refused Misrouted) else
    if nat_le sc.inbox_capacity (length s.inbox) then (s, Refused Busy) else
    (record s { inbox = s.inbox ++ Statement_of device day owner ∷ [] }, Accepted)

pub shown_statement_refused : (sc : SchemeValue) (h : Shape) (s : System) (station : ℕ) (x : StationShape) (r : StatementValue) (why : StatementRefusal) → Shows sc h s → station_of sc r.device ≡ Some station → h.stations station ≡ Some x → statement_judged (x.nexts r.device) (position_of_owner sc r.owner) ≡ Err why → Answers sc h (comes sc s (Some (Stated r.device r.day r.owner))) (Refused (statement_refusal_of why))
shown_statement_refused sc h s station x r why w of here is = by (position_of_owner sc r.owner) refl
  where
    judged : statement_judged (Some (s.devices r.device).next) (position_of_owner sc r.owner) ≡ Err why
    judged = ap (λ n. statement_judged n (position_of_owner sc r.owner)) (sym (judged_by_owner sc h s station x r w of here)) ∙ is

    misrouted : (why : StatementRefusal) → ◌≡◌ {A = Result (Unit {0}) StatementRefusal} (Err statement.Misrouted) (Err why) → statement.Misrouted ≡ why
    misrouted why e = cc

    by : (p : Option ℕ) → position_of_owner sc r.owner ≡ p → Answers sc h (comes sc s (Some (Stated r.device r.day r.owner))) (Refused (statement_refusal_of why))
    by None e =
        let same : statement.Misrouted ≡ why = misrouted why (sym (ap (statement_judged (Some (s.devices r.device).next)) e) ∙ judged) in
        answers_by sc h (Refused (statement_refusal_of why)) (comes sc s (Some (Stated r.device r.day r.owner))) (s, Refused Misrouted)
        (ap (statement_comes sc s r.device r.day r.owner) of ∙ unknown (position_of_owner sc r.owner) e) (ap (λ y. Refused (statement_refusal_of y)) (sym same)) w
      where
        unknown : (p : Option ℕ) → p ≡ None → ◌≡◌ {A = System × Reply} (comes_for sc s r.device r.day r.owner p) (s, Refused Misrouted)
        unknown p q = ap (comes_for sc s r.device r.day r.owner) q
    by (Some place) e = let fine : Ok tt ≡ Err why = sym (ap (statement_judged (Some (s.devices r.device).next)) e) ∙ judged in absurd (cc)

-- a statement that the station accepts comes to the inbox
statement_goes : (sc : SchemeValue) (h : Shape) (s : System) (station : ℕ) (x : StationShape) (r : StatementValue) → Shows sc h s → station_of sc r.device ≡ Some station → h.stations station ≡ Some x → statement_judged (x.nexts r.device) (position_of_owner sc r.owner) ≡ Ok tt
    → comes sc s (Some (Stated r.device r.day r.owner)) ≡ (if nat_le sc.inbox_capacity (length s.inbox) then (s, Refused Busy) else (record s { inbox = s.inbox ++ Statement_of r.device r.day r.owner ∷ [] }, Accepted))
statement_goes sc h s station x r w of here is = ap (statement_comes sc s r.device r.day r.owner) of ∙ by (position_of_owner sc r.owner) refl
  where
    judged : statement_judged (Some (s.devices r.device).next) (position_of_owner sc r.owner) ≡ Ok tt
    judged = ap (λ n. statement_judged n (position_of_owner sc r.owner)) (sym (judged_by_owner sc h s station x r w of here)) ∙ is

    rest : System × Reply
    rest = if nat_le sc.inbox_capacity (length s.inbox) then (s, Refused Busy) else (record s { inbox = s.inbox ++ Statement_of r.device r.day r.owner ∷ [] }, Accepted)

    by : (p : Option ℕ) → position_of_owner sc r.owner ≡ p → (if not (knows_owner sc r.owner) then (s, Refused Misrouted) else rest) ≡ rest
    by None e = let misrouted : Err statement.Misrouted ≡ Ok tt = sym (ap (statement_judged (Some (s.devices r.device).next)) e) ∙ judged in absurd (cc)
    by (Some place) e = ap (λ p. if not (is_some p) then (s, Refused Misrouted) else rest) e

pub shown_statement_busy : (sc : SchemeValue) (h : Shape) (s : System) (station : ℕ) (x : StationShape) (r : StatementValue) → Shows sc h s → station_of sc r.device ≡ Some station → h.stations station ≡ Some x → statement_judged (x.nexts r.device) (position_of_owner sc r.owner) ≡ Ok tt → sc.inbox_capacity ≤ length h.inbox
    → Answers sc h (comes sc s (Some (Stated r.device r.day r.owner))) (Refused Busy)
shown_statement_busy sc h s station x r w of here is full =
    answers_by sc h (Refused Busy) (comes sc s (Some (Stated r.device r.day r.owner))) (s, Refused Busy)
    (statement_goes sc h s station x r w of here is ∙ ap (λ b. if b then (s, Refused Busy) else (record s { inbox = s.inbox ++ Statement_of r.device r.day r.owner ∷ [] }, Accepted)) (has_no_room sc.inbox_capacity s.inbox (omega (arith, full, length-Each2 (IsArrivedOf s.devices) s.inbox h.inbox w.inbox)))) refl w

pub shown_statement_accepted : (sc : SchemeValue) (h : Shape) (s : System) (station : ℕ) (x : StationShape) (r : StatementValue) → Shows sc h s → IsPacket sc s.devices s.held (Stated r.device r.day r.owner) → IsStatementOf s.devices r.device r.day r.owner r → station_of sc r.device ≡ Some station → h.stations station ≡ Some x
    → statement_judged (x.nexts r.device) (position_of_owner sc r.owner) ≡ Ok tt → length h.inbox < sc.inbox_capacity → Answers sc (record h { inbox = h.inbox ++ item.Stated r ∷ [] }) (comes sc s (Some (Stated r.device r.day r.owner))) Accepted
shown_statement_accepted sc h s station x r w sent met of here is room =
    answers_by sc (record h { inbox = h.inbox ++ item.Stated r ∷ [] }) Accepted (comes sc s (Some (Stated r.device r.day r.owner))) (record s { inbox = s.inbox ++ Statement_of r.device r.day r.owner ∷ [] }, Accepted) goes refl
    (record {
      system = subst (λ (y : System × Reply). IsSystem sc y.0) goes (comes_kept sc s (Stated r.device r.day r.owner) w.system sent);
      devices = w.devices;
      stations = w.stations;
      air = w.air;
      inbox = Each2-push (IsArrivedOf s.devices) s.inbox h.inbox (Statement_of r.device r.day r.owner) (item.Stated r) w.inbox met;
      hand = w.hand;
      upto = w.upto;
      rows = w.rows;
      row_count = w.row_count;
      stated = w.stated;
      stated_count = w.stated_count;
      owners = w.owners;
    })
  where
    goes : comes sc s (Some (Stated r.device r.day r.owner)) ≡ (record s { inbox = s.inbox ++ Statement_of r.device r.day r.owner ∷ [] }, Accepted)
    goes = statement_goes sc h s station x r w of here is ∙ ap (λ b. if b then (s, Refused Busy) else (record s { inbox = s.inbox ++ Statement_of r.device r.day r.owner ∷ [] }, Accepted)) (has_room sc.inbox_capacity s.inbox (omega (arith, room, length-Each2 (IsArrivedOf s.devices) s.inbox h.inbox w.inbox)))

-- A DAY'S ACKNOWLEDGEMENT COMES
pub shown_heard_day : (sc : SchemeValue) (h : Shape) (s : System) (d day : ℕ) (x new : DeviceValue) → Shows sc h s → IsDayAck sc s.held d day → h.devices d ≡ Some x → device.is_waiting x.days day ≡ true → new ≡ device.day_acknowledged x day
    → Answers sc (record h { devices = put h.devices d (Some new) }) (comes sc s (Some (DayAcked d day))) (DroppedDay day)
shown_heard_day sc h s d day x new w is here waits heard =
    answers_by sc (record h { devices = put h.devices d (Some new) }) (DroppedDay day) (comes sc s (Some (DayAcked d day))) (heard_day s d day, DroppedDay day) goes refl
    (shows_device sc h s d after (put h.devices d (Some new)) h.stations w (subst (λ (y : System × Reply). IsSystem sc y.0) goes (comes_kept sc s (DayAcked d day) w.system is)) refl refl (omega arith)
    (put_both (λ j a b. IfSome a (IsDeviceOf sc j b)) h.devices s.devices d (Some new) after w.devices (subst (IsDeviceOf sc d after) (sym heard) heard_device))
    (stations_same sc h s (put s.devices d after) (put_all (λ j a. a.next ≡ (s.devices j).next) s.devices d after (λ j. refl) refl) w))
  where
    v : DeviceState
    v = s.devices d

    after : DeviceState
    after = record v { waiting = without v.waiting day }

    sd : IsDeviceOf sc d v x
    sd = device_shown sc h s d x w here

    goes : comes sc s (Some (DayAcked d day)) ≡ (heard_day s d day, DroppedDay day)
    goes = ap (λ b. if b then (heard_day s d day, DroppedDay day) else (s, Idle)) (sym (waits_in sc d day v x sd) ∙ waits)

    heard_device : IsDeviceOf sc d after (device.day_acknowledged x day)
    heard_device = record {
      id = sd.id;
      day = sd.day;
      room = sd.room;
      base = sd.base;
      cursor = sd.cursor;
      owners = sd.owners;
      days = same_without x.days day ∙ ap (λ l. without l day) sd.days;
      numbered = numbered_day_ack v.taps x day sd.numbered;
    }

pub shown_heard_before : (sc : SchemeValue) (h : Shape) (s : System) (d day : ℕ) (x : DeviceValue) → Shows sc h s → h.devices d ≡ Some x → device.is_waiting x.days day ≡ false → Answers sc h (comes sc s (Some (DayAcked d day))) Idle
shown_heard_before sc h s d day x w here gone =
    answers_by sc h Idle (comes sc s (Some (DayAcked d day))) (s, Idle) (ap (λ b. if b then (heard_day s d day, DroppedDay day) else (s, Idle)) (sym (waits_in sc d day (s.devices d) x (device_shown sc h s d x w here)) ∙ gone)) refl w

-- the device of such an acknowledgement is registered
pub never_unheard : (sc : SchemeValue) (s : System) (d day : ℕ) → IsDayAck sc s.held d day → position_of_device sc d ≡ None → ⊥
never_unheard sc s d day is none = let some : is_some (station_of sc d) ≡ true = is.0 in let not_some : is_some (station_of sc d) ≡ false = ap is_some (no_station sc d none) in absurd (cc)

-- DAYACK
-- what the outbox holds for all owners, as it is seen
all_held : (sc : SchemeValue) (h : Shape) (s : System) (d day : ℕ) → Shows sc h s → are_all_stated sc h.outbox d day ≡ are_all_held sc s.held d day
all_held sc h s d day w = λ i. list_all (λ o. held o.0 i) sc.owners
  where
    is_there : (b : Bool) (rs : List RecordValue) → is_some (count_of b rs day) ≡ b
    is_there true rs = refl
    is_there false rs = refl

    held : (o : ℕ) → is_some (h.outbox.stated o d day) ≡ s.held o d day
    held o = ap is_some (w.stated o d day) ∙ is_there (s.held o d day) (part o (s.devices d).taps)

pub shown_day_ack_unknown : (sc : SchemeValue) (h : Shape) (s : System) (d day : ℕ) → Shows sc h s → station_of sc d ≡ None → Answers sc h (day_ack sc s d day) (Refused UnknownDevice)
shown_day_ack_unknown sc h s d day w none = answers_by sc h (Refused UnknownDevice) (day_ack sc s d day) (s, Refused UnknownDevice) (ap (day_ack_by sc s d day) none) refl w

-- the answer to a device's day, once its station is found
stated_or_not : SchemeValue → System → ℕ → ℕ → ℕ → Bool → System × Reply
stated_or_not sc s d day station stated =
    if stated then
    if nat_le sc.inbox_capacity (length (s.lines station)) then (s, Refused Busy) else (gains_answer s station (DayAck_of d day), AcknowledgedDay day)
    else (s, Refused Unstated)

day_ack_goes : (sc : SchemeValue) (h : Shape) (s : System) (d day station : ℕ) (stated : Bool) → Shows sc h s → station_of sc d ≡ Some station → are_all_stated sc h.outbox d day ≡ stated → day_ack sc s d day ≡ stated_or_not sc s d day station stated
unfolding stated_or_not
day_ack_goes sc h s d day station stated w of is = ap (day_ack_by sc s d day) of ∙ ap (stated_or_not sc s d day station) (sym (all_held sc h s d day w) ∙ is)

pub shown_unstated : (sc : SchemeValue) (h : Shape) (s : System) (d day station : ℕ) → Shows sc h s → station_of sc d ≡ Some station → are_all_stated sc h.outbox d day ≡ false → Answers sc h (day_ack sc s d day) (Refused Unstated)
unfolding stated_or_not
shown_unstated sc h s d day station w of is = answers_by sc h (Refused Unstated) (day_ack sc s d day) (s, Refused Unstated) (day_ack_goes sc h s d day station false w of is) refl w

pub shown_day_ack_busy : (sc : SchemeValue) (h : Shape) (s : System) (d day station : ℕ) (x : StationShape) → Shows sc h s → station_of sc d ≡ Some station → are_all_stated sc h.outbox d day ≡ true → h.stations station ≡ Some x → sc.inbox_capacity ≤ length x.line → Answers sc h (day_ack sc s d day) (Refused Busy)
unfolding stated_or_not
shown_day_ack_busy sc h s d day station x w of is here full =
    answers_by sc h (Refused Busy) (day_ack sc s d day) (s, Refused Busy)
    (day_ack_goes sc h s d day station true w of is ∙ ap (λ b. if b then (s, Refused Busy) else (gains_answer s station (DayAck_of d day), AcknowledgedDay day)) (has_no_room sc.inbox_capacity (s.lines station) (omega (arith, full, line_length sc h s station x w here)))) refl w

pub shown_day_ack : (sc : SchemeValue) (h : Shape) (s : System) (d day station : ℕ) (x new : StationShape) → Shows sc h s → station_of sc d ≡ Some station → are_all_stated sc h.outbox d day ≡ true → h.stations station ≡ Some x → ((j : ℕ) → new.nexts j ≡ x.nexts j) → new.line ≡ x.line ++ ack_item.Day (record { device = d; day = day }) ∷ [] → length x.line < sc.inbox_capacity
    → Answers sc (record h { stations = put h.stations station (Some new) }) (day_ack sc s d day) (AcknowledgedDay day)
unfolding stated_or_not
shown_day_ack sc h s d day station x new w of is here same gained room =
    answers_by sc (record h { stations = put h.stations station (Some new) }) (AcknowledgedDay day) (day_ack sc s d day) (gains_answer s station (DayAck_of d day), AcknowledgedDay day) goes refl
    (shown_gains sc h s station (DayAck_of d day) (ack_item.Day (record { device = d; day = day })) x new w here same gained refl
    (subst (λ (y : System × Reply). IsSystem sc y.0) goes (moves_step sc s (event.DayAck d day) w.system).system))
  where
    goes : day_ack sc s d day ≡ (gains_answer s station (DayAck_of d day), AcknowledgedDay day)
    goes = day_ack_goes sc h s d day station true w of is ∙ ap (λ b. if b then (s, Refused Busy) else (gains_answer s station (DayAck_of d day), AcknowledgedDay day)) (has_room sc.inbox_capacity (s.lines station) (omega (arith, room, line_length sc h s station x w here)))
