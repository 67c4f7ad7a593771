-- What is seen of a world after its code accepted, acknowledged, answered or resumed.
use Rattle.std.proofs.Common.{◌≡◌, ℕ, ◌+◌, ◌<◌, ◌≤◌, List, [], ◌∷◌, ◌++◌, length, set, get_or, Some, refl, sym, ap, ◌∙◌, subst, true}
use Rattle.std.specs.Prelude.{Option, Ok, Err, option_map}
use Rattle.std.proofs.lemmas.List.{length_push}
use Rattle.fare_record.specs.Values.{RecordValue}
use Rattle.fare_record.specs.declared.item.Item.{Item}
use Rattle.fare_record.specs.declared.item.Item.TheVariants as item
use Rattle.fare_scheme.specs.Words.{position_of_station}
use Rattle.fare_collector.specs.Collecting.{next_in, is_owned, collect_judged, changed}
use Rattle.fare_collector.specs.declared.collector.Collector.{Collector}
use Rattle.fare_collector.specs.declared.fault.CollectRefusal.{CollectRefusal}
use Rattle.fare_frame.specs.Grammar.{frame_bytes, IsFrame}
use Rattle.fare_record.specs.declared.ack_item.AckItem.{AckItem}
use Rattle.fare_record.specs.declared.ack_item.AckItem.TheVariants as ack_item
use Rattle.fare_event.specs.declared.reply.Reply.{Reply}
use Rattle.fare_route.specs.Stating.{are_all_stated}
use Rattle.fare_world.specs.Acknowledging.{answered_by}
use Rattle.fare_frame.specs.Grammar.{frame_of}
use Rattle.fare_event.specs.declared.reply.Refusal.{Refusal}
use Rattle.fare_event.specs.declared.reply.Refusal.TheVariants.{Busy}
use Rattle.fare_event.specs.declared.reply.Reply.TheVariants.{Refused, Accepted, Acknowledged, AcknowledgedDay, Resumed}
use Rattle.fare_side.specs.declared.station.Station.{Station}
use Rattle.fare_world.specs.System.{Tapped, System}
use Rattle.fare_world.specs.Arriving.{refusal_of, comes}
use Rattle.fare_world.specs.Restarting.{resume}
use Rattle.fare_world.specs.Rooms.{HasStation}
use Rattle.fare_world.specs.Shown.{IsAt, entry, StationShape, Shows}
use Rattle.fare_world.specs.Whole.{Seen, station_shape, shape}
use Rattle.fare_world.proofs.ShowLink.{shown_refused, shown_busy, shown_accepted, shown_ack, shown_answer, shown_resume}
use Rattle.fare_world.proofs.ShowDays.{shown_day_ack, shown_day_ack_busy}
use Rattle.fare_world.proofs.ShowStation.{station_read, station_write, station_same}
use Rattle.fare_world.specs.Storing as storing
use Rattle.fare_world.proofs.Showing.{Answers}

-- the stations where the code wrote one
abbrev pub with_station : Seen → ℕ → Station → ℕ → Option StationShape
with_station w k new j = option_map station_shape (entry (position_of_station w.scheme j) (set w.stations k new))

pub world_refused_tap : (w : Seen) (s : System) (k : ℕ) (x : Station) (collector : Collector) (inbox : List Item) (r : RecordValue) (why : CollectRefusal) (named : Refusal) → Shows w.scheme (shape w) s → IsAt (s.devices r.device).taps r.link r → HasStation w.scheme r.device k → k < length w.stations → x ≡ get_or w.stations k x
    → collect_judged (next_in x.collector r.device) (is_owned w.scheme r) r.link ≡ Err why → ((d : ℕ) → next_in collector d ≡ next_in x.collector d) → inbox ≡ w.inbox → named ≡ refusal_of why
    → Answers w.scheme (record (shape w) { stations = with_station w k (record x { collector = collector }); inbox = inbox }) (comes w.scheme s (Some (Tapped r.device r.link))) (Refused named)
world_refused_tap w s k x collector inbox r why named sh at has within read judged same kept is =
    subst (λ (q : (ℕ → Option StationShape) × List Item × Refusal). Answers w.scheme (record (shape w) { stations = q.0; inbox = q.1 }) (comes w.scheme s (Some (Tapped r.device r.link))) (Refused q.2))
    (λ i. (sym (station_same w has.station k x (record x { collector = collector }) has.at within read (λ i. record { nexts = λ d. same d i; line = x.line.items })) i, sym kept i, sym is i))
    (shown_refused w.scheme (shape w) s has.station (station_shape x) r why sh at has.of (station_read w has.station k x has.at within read) judged)

-- a tap that finds the inbox full, and whose accept is undone
pub world_busy : (w : Seen) (s : System) (k : ℕ) (x : Station) (collector : Collector) (inbox : List Item) (r : RecordValue) → Shows w.scheme (shape w) s → IsAt (s.devices r.device).taps r.link r → HasStation w.scheme r.device k → k < length w.stations → x ≡ get_or w.stations k x
    → collect_judged (next_in x.collector r.device) (is_owned w.scheme r) r.link ≡ Ok tt → ((d : ℕ) → next_in collector d ≡ next_in x.collector d) → inbox ≡ w.inbox → w.scheme.inbox_capacity ≤ length w.inbox
    → Answers w.scheme (record (shape w) { stations = with_station w k (record x { collector = collector }); inbox = inbox }) (comes w.scheme s (Some (Tapped r.device r.link))) (Refused Busy)
world_busy w s k x collector inbox r sh at has within read judged same kept full =
    subst (λ (q : (ℕ → Option StationShape) × List Item). Answers w.scheme (record (shape w) { stations = q.0; inbox = q.1 }) (comes w.scheme s (Some (Tapped r.device r.link))) (Refused Busy))
    (λ i. (sym (station_same w has.station k x (record x { collector = collector }) has.at within read (λ i. record { nexts = λ d. same d i; line = x.line.items })) i, sym kept i))
    (shown_busy w.scheme (shape w) s has.station (station_shape x) r sh at has.of (station_read w has.station k x has.at within read) judged full)

pub world_accepted : (w : Seen) (s : System) (k : ℕ) (x : Station) (collector : Collector) (inbox : List Item) (r : RecordValue) → Shows w.scheme (shape w) s → IsAt (s.devices r.device).taps r.link r → HasStation w.scheme r.device k → k < length w.stations → x ≡ get_or w.stations k x
    → collect_judged (next_in x.collector r.device) (is_owned w.scheme r) r.link ≡ Ok tt → next_in x.collector r.device ≡ Some r.link → ((d : ℕ) → next_in collector d ≡ changed (λ n. n + 1) (next_in x.collector) r.device d) → inbox ≡ w.inbox ++ item.Tap r ∷ [] → length w.inbox < w.scheme.inbox_capacity
    → Answers w.scheme (record (shape w) { stations = with_station w k (record x { collector = collector }); inbox = inbox }) (comes w.scheme s (Some (Tapped r.device r.link))) Accepted
world_accepted w s k x collector inbox r sh at has within read judged due does pushed room =
    subst (λ (q : (ℕ → Option StationShape) × List Item). Answers w.scheme (record (shape w) { stations = q.0; inbox = q.1 }) (comes w.scheme s (Some (Tapped r.device r.link))) Accepted)
    (λ i. (sym (station_write w has.station k (record x { collector = collector }) has.at within) i, sym pushed i))
    (shown_accepted w.scheme (shape w) s has.station (station_shape x) (station_shape (record x { collector = collector })) r sh at has.of (station_read w has.station k x has.at within read) judged due does refl room)

pub world_acked : (w : Seen) (s : System) (d k u : ℕ) (x new : Station) → Shows w.scheme (shape w) s → HasStation w.scheme d k → k < length w.stations → x ≡ get_or w.stations k x → u ≡ w.outbox.upto d → new.collector ≡ x.collector → new.line.items ≡ x.line.items ++ ack_item.Upto (record { device = d; upto = u }) ∷ [] → length x.line.items < w.scheme.inbox_capacity
    → Answers w.scheme (record (shape w) { stations = with_station w k new }) (storing.ack w.scheme s d) (Acknowledged u)
world_acked w s d k u x new sh has within read is same gained room =
    subst (λ (q : ℕ → Option StationShape). Answers w.scheme (record (shape w) { stations = q }) (storing.ack w.scheme s d) (Acknowledged u)) (sym (station_write w has.station k new has.at within))
    (shown_ack w.scheme (shape w) s d has.station u (station_shape x) (station_shape new) sh has.of (station_read w has.station k x has.at within read) is (λ j. ap (λ (c : Collector). next_in c j) same) gained room)

-- a day's acknowledgement that found the line full
pub world_day_busy : (w : Seen) (s : System) (d day k : ℕ) (x new : Station) → Shows w.scheme (shape w) s → HasStation w.scheme d k → k < length w.stations → x ≡ get_or w.stations k x → are_all_stated w.scheme w.outbox d day ≡ true → new.collector ≡ x.collector → new.line.items ≡ x.line.items → w.scheme.inbox_capacity ≤ length x.line.items
    → Answers w.scheme (record (shape w) { stations = with_station w k new }) (storing.day_ack w.scheme s d day) (Refused Busy)
world_day_busy w s d day k x new sh has within read is same kept full =
    subst (λ (q : ℕ → Option StationShape). Answers w.scheme (record (shape w) { stations = q }) (storing.day_ack w.scheme s d day) (Refused Busy))
    (sym (station_same w has.station k x new has.at within read (λ i. record { nexts = λ e. next_in (same i) e; line = kept i })))
    (shown_day_ack_busy w.scheme (shape w) s d day has.station (station_shape x) sh has.of is (station_read w has.station k x has.at within read) full)

pub world_day_acked : (w : Seen) (s : System) (d day k : ℕ) (x new : Station) → Shows w.scheme (shape w) s → HasStation w.scheme d k → k < length w.stations → x ≡ get_or w.stations k x → are_all_stated w.scheme w.outbox d day ≡ true → new.collector ≡ x.collector → new.line.items ≡ x.line.items ++ ack_item.Day (record { device = d; day = day }) ∷ [] → length x.line.items < w.scheme.inbox_capacity
    → Answers w.scheme (record (shape w) { stations = with_station w k new }) (storing.day_ack w.scheme s d day) (AcknowledgedDay day)
world_day_acked w s d day k x new sh has within read is same gained room =
    subst (λ (q : ℕ → Option StationShape). Answers w.scheme (record (shape w) { stations = q }) (storing.day_ack w.scheme s d day) (AcknowledgedDay day)) (sym (station_write w has.station k new has.at within))
    (shown_day_ack w.scheme (shape w) s d day has.station (station_shape x) (station_shape new) sh has.of is (station_read w has.station k x has.at within read) (λ j. ap (λ (c : Collector). next_in c j) same) gained room)

pub world_answered : (w : Seen) (s : System) (station k n : ℕ) (x new : Station) (a : AckItem) (air : List (List ℕ)) (r : Reply) → Shows w.scheme (shape w) s → position_of_station w.scheme station ≡ Some k → k < length w.stations → x ≡ get_or w.stations k x → x.line.items ≡ a ∷ new.line.items → new.collector ≡ x.collector → IsFrame (frame_of a) → air ≡ w.air ++ frame_bytes (frame_of a) ∷ [] → n ≡ length air → r ≡ answered_by n a
    → Answers w.scheme (record (shape w) { stations = with_station w k new; air = air }) (storing.answer w.scheme s station) r
world_answered w s station k n x new a air r sh at within read front same lawful pushed count is =
    subst (λ (q : (ℕ → Option StationShape) × List (List ℕ) × Reply). Answers w.scheme (record (shape w) { stations = q.0; air = q.1 }) (storing.answer w.scheme s station) q.2)
    (λ i. (sym (station_write w station k new at within) i, sym pushed i, sym is i))
    (shown_answer w.scheme (shape w) s station k n (station_shape x) (station_shape new) a sh at (station_read w station k x at within read) front (λ j. ap (λ (c : Collector). next_in c j) same) lawful (count ∙ ap length pushed ∙ length_push w.air (frame_bytes (frame_of a))))

pub world_resumed : (w : Seen) (s : System) (d k u : ℕ) (x : Station) (collector : Collector) → Shows w.scheme (shape w) s → HasStation w.scheme d k → k < length w.stations → x ≡ get_or w.stations k x → u ≡ w.outbox.upto d → ((j : ℕ) → next_in collector j ≡ changed (λ _. u + 1) (next_in x.collector) d j)
    → Answers w.scheme (record (shape w) { stations = with_station w k (record x { collector = collector }) }) (resume w.scheme s d) (Resumed u)
world_resumed w s d k u x collector sh has within read is does =
    subst (λ (q : ℕ → Option StationShape). Answers w.scheme (record (shape w) { stations = q }) (resume w.scheme s d) (Resumed u)) (sym (station_write w has.station k (record x { collector = collector }) has.at within))
    (shown_resume w.scheme (shape w) s d has.station u (station_shape x) (station_shape (record x { collector = collector })) sh has.of (station_read w has.station k x has.at within read) is does refl)
