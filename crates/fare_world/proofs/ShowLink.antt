-- What a world shows after an arrival, an acknowledgement, its answer, a rewind and a resume.
use Rattle.std.proofs.Common.{◌≡◌, ℕ, ◌+◌, ◌-◌, ◌<◌, ◌≤◌, List, [], ◌∷◌, ◌++◌, length, max, Some, None, Bool, true, false, refl, sym, ap, ◌∙◌, subst, arith}
use Rattle.std.specs.Prelude.{◌==◌, slice_get, if◌then◌else◌, Option, IfSome, is_some, not, Ok, Err, option_map}
use Rattle.std.proofs.lemmas.Bool.Decides.{nat_tests, Decides-eqb}
use Rattle.std.proofs.lemmas.Option.{slice_get_within}
use Rattle.fare_record.specs.Values.{RecordValue, StatementValue, AckValue, DayAckValue}
use Rattle.fare_record.specs.declared.item.Item.TheVariants as item
use Rattle.fare_scheme.specs.Values.{SchemeValue}
use Rattle.fare_scheme.specs.Words.{station_of, position_of_device, position_of_station}
use Rattle.fare_collector.specs.Collecting.{is_id, is_owned, collect_judged, changed}
use Rattle.fare_collector.specs.declared.fault.CollectRefusal.{CollectRefusal}
use Rattle.fare_device.specs.DeviceWords.{DeviceValue, last_link}
use Rattle.fare_device.specs.DeviceWords as device
use Rattle.fare_frame.specs.Grammar.{frame_bytes, tap_of, statement_of, ack_of, day_ack_of, IsFrame}
use Rattle.fare_frame.specs.declared.frame.Frame.{Frame}
use Rattle.fare_frame.specs.declared.frame.Frame.TheVariants as frame
use Rattle.fare_event.specs.declared.event.Event.TheVariants as event
use Rattle.fare_event.specs.declared.reply.Refusal.TheVariants.{NoPacket, Stranger, Busy, UnknownDevice, UnknownStation}
use Rattle.fare_event.specs.declared.reply.Reply.{Reply}
use Rattle.fare_event.specs.declared.reply.Reply.TheVariants.{Empty, Refused, Rewound, Accepted, Dropped, Acknowledged, Answered, AnsweredDay, Resumed, Restarted}
use Rattle.fare_store.specs.Tables.{put}
use Rattle.fare_world.specs.System.{Packet, Tapped, Stated, Acked, DayAcked, Tap_of, Answer, Ack_of, DayAck_of, DeviceState, System}
use Rattle.fare_frame.specs.Grammar.{frame_of}
use Rattle.fare_world.specs.Packets.{bytes_at, IsPacketRead}
use Rattle.fare_world.specs.Acknowledging.{answered_by}
use Rattle.fare_record.specs.declared.ack_item.AckItem.{AckItem}
use Rattle.fare_record.specs.declared.ack_item.AckItem.TheVariants as ack_item
use Rattle.fare_world.specs.Steps.{has_line_room}
use Rattle.fare_world.specs.Arriving.{is_owned_tap, next_at, refusal_of, accepted, judged, tap_comes, heard, ack_comes, comes, packet_at, arrive}
use Rattle.fare_world.specs.Restarting.{resumed_device, resume, restart_device}
use Rattle.fare_world.specs.Storing.{gains_answer, ack_by, packet_of, answered_reply, answer_from}
use Rattle.fare_world.specs.Tapping.{rewound, rewind}
use Rattle.fare_world.specs.Shown.{IsAt, IsStatementOf, IsPacketOf, IsArrivedOf, IsAnswerOf, IsDeviceOf, IsStationOf, Both, Each2, StationShape, Shape, Shows}
use Rattle.fare_world.specs.Kept.{IsDevice, IsSystem, IsAck, IsDayAck, IsPacket}
use Rattle.fare_world.proofs.Known.{no_station, no_place, placed, is_own_id}
use Rattle.fare_world.proofs.Lists.{AllByRecursion-at, Each2-push, Each2-get, Each2-nil, Each2-cons, length-Each2, Both-none, IfSome-weaken, has_room, has_no_room}
use Rattle.fare_store.proofs.Entries.{put_all, put_apart, put_both, put_here}
use Rattle.fare_world.proofs.Kept.{moves_step}
use Rattle.fare_world.proofs.KeptArrive.{comes_kept}
use Rattle.fare_world.proofs.KeptParts.{device_changes}
use Rattle.fare_world.proofs.Showing.{Answers, answers_by, shows_device, shows_line, stations_same, same_device, device_shown, station_shown, last_link_is, frame_there, packet_is, packet_states, packet_acks, packet_acks_day, packet_has}
use Rattle.fare_world.specs.Storing as storing
use Rattle.fare_device.proofs.Numbering.{numbered_cursor, numbered_ack}

-- WHAT WAS READ
packets_match : (sc : SchemeValue) (h : Shape) (s : System) (n : ℕ) → Shows sc h s → Both (IsPacketOf s.devices) (packet_at s n) (bytes_at h.air n)
packets_match sc h s n w = match_if (n == 0)
  where
    match_if : (b : Bool) → Both (IsPacketOf s.devices) (if b then None else slice_get s.air (n - 1)) (if b then None else slice_get h.air (n - 1))
    match_if true = tt
    match_if false = Each2-get (IsPacketOf s.devices) s.air h.air (n - 1) w.air

-- no frame was read where there is no packet, and only there
none_read : (s : System) (x : Option Packet) (bytes : Option (List ℕ)) → Both (IsPacketOf s.devices) x bytes → IsPacketRead bytes None → x ≡ None
none_read s x None both read = Both-none (IsPacketOf s.devices) x both
none_read s None (Some bytes) both read = refl
none_read s (Some x) (Some bytes) both read =
    let is = frame_there s.devices x bytes both in
    let none : None ≡ Some is.0 = read is.0 is.1 is.2 in
    absurd (cc)

pub shown_no_packet : (sc : SchemeValue) (h : Shape) (s : System) (n : ℕ) → Shows sc h s → IsPacketRead (bytes_at h.air n) None → Answers sc h (arrive sc s n) (Refused NoPacket)
shown_no_packet sc h s n w read =
    answers_by sc h (Refused NoPacket) (arrive sc s n) (s, Refused NoPacket) (ap (comes sc s) (none_read s (packet_at s n) (bytes_at h.air n) (packets_match sc h s n w) read)) refl w

-- the packet of which a tap was read
pub tap_found : (sc : SchemeValue) (h : Shape) (s : System) (n : ℕ) (f : Frame) (r : RecordValue) → Shows sc h s → IsPacketRead (bytes_at h.air n) (Some f) → tap_of f ≡ Some r → IsAt (s.devices r.device).taps r.link r × (arrive sc s n ≡ comes sc s (Some (Tapped r.device r.link)))
tap_found sc h s n f r w read tapped = let found = of (packet_at s n) (bytes_at h.air n) (packets_match sc h s n w) read in (found.1, ap (comes sc s) found.0)
  where
    of : (x : Option Packet) (bytes : Option (List ℕ)) → Both (IsPacketOf s.devices) x bytes → IsPacketRead bytes (Some f) → (x ≡ Some (Tapped r.device r.link)) × IsAt (s.devices r.device).taps r.link r
    of x None both read = absurd (cc)
    of None (Some bytes) both read = absurd both
    of (Some x) (Some bytes) both read = let t = packet_is sc s x bytes f r w.system both read tapped in (ap Some t.0, t.1)

-- what is in the air
pub lies_there : (sc : SchemeValue) (s : System) (n : ℕ) (x : Packet) → IsSystem sc s → packet_at s n ≡ Some x → IsPacket sc s.devices s.held x
lies_there sc s n x is at = place (n == 0) at
  where
    place : (b : Bool) → (if b then None else slice_get s.air (n - 1)) ≡ Some x → IsPacket sc s.devices s.held x
    place true e = absurd (cc)
    place false e = AllByRecursion-at (IsPacket sc s.devices s.held) s.air (n - 1) x is.air e

-- that of which a statement was
pub statement_found : (sc : SchemeValue) (h : Shape) (s : System) (n : ℕ) (f : Frame) (x : StatementValue) → Shows sc h s → IsPacketRead (bytes_at h.air n) (Some f) → statement_of f ≡ Some x → (IsPacket sc s.devices s.held (Stated x.device x.day x.owner) × IsStatementOf s.devices x.device x.day x.owner x) × (arrive sc s n ≡ comes sc s (Some (Stated x.device x.day x.owner)))
statement_found sc h s n f x w read stated =
    let found = of (packet_at s n) (bytes_at h.air n) (packets_match sc h s n w) read in
    ((lies_there sc s n (Stated x.device x.day x.owner) w.system found.0, found.1), ap (comes sc s) found.0)
  where
    of : (y : Option Packet) (bytes : Option (List ℕ)) → Both (IsPacketOf s.devices) y bytes → IsPacketRead bytes (Some f) → (y ≡ Some (Stated x.device x.day x.owner)) × IsStatementOf s.devices x.device x.day x.owner x
    of y None both read = absurd (cc)
    of None (Some bytes) both read = absurd both
    of (Some y) (Some bytes) both read = let t = packet_states s.devices y bytes f x both read stated in (ap Some t.0, t.1)

-- and those of which acknowledgements were
pub ack_found : (sc : SchemeValue) (h : Shape) (s : System) (n : ℕ) (f : Frame) (a : AckValue) → Shows sc h s → IsPacketRead (bytes_at h.air n) (Some f) → ack_of f ≡ Some a → IsAck sc s.devices a.device a.upto × (arrive sc s n ≡ comes sc s (Some (Acked a.device a.upto)))
ack_found sc h s n f a w read acked =
    let found = of (packet_at s n) (bytes_at h.air n) (packets_match sc h s n w) read in
    (lies_there sc s n (Acked a.device a.upto) w.system found, ap (comes sc s) found)
  where
    of : (x : Option Packet) (bytes : Option (List ℕ)) → Both (IsPacketOf s.devices) x bytes → IsPacketRead bytes (Some f) → x ≡ Some (Acked a.device a.upto)
    of x None both read = absurd (cc)
    of None (Some bytes) both read = absurd both
    of (Some x) (Some bytes) both read = ap Some (packet_acks s.devices x bytes f a both read acked)

pub day_ack_found : (sc : SchemeValue) (h : Shape) (s : System) (n : ℕ) (f : Frame) (a : DayAckValue) → Shows sc h s → IsPacketRead (bytes_at h.air n) (Some f) → day_ack_of f ≡ Some a → IsDayAck sc s.held a.device a.day × (arrive sc s n ≡ comes sc s (Some (DayAcked a.device a.day)))
day_ack_found sc h s n f a w read acked =
    let found = of (packet_at s n) (bytes_at h.air n) (packets_match sc h s n w) read in
    (lies_there sc s n (DayAcked a.device a.day) w.system found, ap (comes sc s) found)
  where
    of : (x : Option Packet) (bytes : Option (List ℕ)) → Both (IsPacketOf s.devices) x bytes → IsPacketRead bytes (Some f) → x ≡ Some (DayAcked a.device a.day)
    of x None both read = absurd (cc)
    of None (Some bytes) both read = absurd both
    of (Some x) (Some bytes) both read = ap Some (packet_acks_day s.devices x bytes f a both read acked)

-- a frame that was read is one of these
pub nothing_else : (sc : SchemeValue) (h : Shape) (s : System) (n : ℕ) (f : Frame) → Shows sc h s → IsPacketRead (bytes_at h.air n) (Some f) → tap_of f ≡ None → statement_of f ≡ None → ack_of f ≡ None → day_ack_of f ≡ None → ⊥
nothing_else sc h s n f w read untapped unstated unacked undayed = of (packet_at s n) (bytes_at h.air n) (packets_match sc h s n w) read
  where
    of : (x : Option Packet) (bytes : Option (List ℕ)) → Both (IsPacketOf s.devices) x bytes → IsPacketRead bytes (Some f) → ⊥
    of x None both read = absurd (cc)
    of None (Some bytes) both read = absurd both
    of (Some x) (Some bytes) both read = packet_has s.devices x bytes f both read untapped unstated unacked undayed

-- NEXT LINKS
-- what another station accepts next does not change with a device
next_elsewhere : (sc : SchemeValue) (f : ℕ → DeviceState) (d station other : ℕ) (v : DeviceState) → station_of sc d ≡ Some station → (other == station) ≡ false → (j : ℕ) → next_at sc (put f d v) other j ≡ next_at sc f other j
next_elsewhere sc f d station other v of apart = put_all (λ j a. (if is_id (station_of sc j) other then Some a.next else None) ≡ next_at sc f other j) f d v (λ j. refl) (none v ∙ sym (none (f d)))
  where
    turned : (a b : ℕ) → (a == b) ≡ false → (b == a) ≡ false
    turned a b e = grind (arith, nat_tests)

    none : (a : DeviceState) → (if is_id (station_of sc d) other then Some a.next else None) ≡ None
    none a = ap (λ o. if is_id o other then Some a.next else None) of ∙ ap (λ b. if b then Some a.next else None) (turned other station apart)

-- what a device's station accepts next
pub next_of : (sc : SchemeValue) (f : ℕ → DeviceState) (d station : ℕ) → station_of sc d ≡ Some station → next_at sc f station d ≡ Some (f d).next
next_of sc f d station of = ap (λ o. if is_id o station then Some (f d).next else None) of ∙ ap (λ b. if b then Some (f d).next else None) (is_own_id station)

-- the station of a device whose next link changes
station_put : (sc : SchemeValue) (f : ℕ → DeviceState) (d station : ℕ) (v : DeviceState) (change : ℕ → ℕ) (line : List Answer) (x new : StationShape) → station_of sc d ≡ Some station → IsStationOf sc f station line x → ((j : ℕ) → new.nexts j ≡ changed change x.nexts d j) → new.line ≡ x.line → change (f d).next ≡ v.next → IsStationOf sc (put f d v) station line new
station_put sc f d station v change line x new of w does same next = record {
  nexts = λ j. does j ∙ put_apart (λ j a. (if j == d then option_map change (x.nexts j) else x.nexts j) ≡ (if is_id (station_of sc j) station then Some a.next else None)) f d v other here j;
  waits = subst (Each2 IsAnswerOf line) (sym same) w.waits;
}
  where
    other : (j : ℕ) → (j == d) ≡ false → (if j == d then option_map change (x.nexts j) else x.nexts j) ≡ next_at sc f station j
    other j apart = ap (λ b. if b then option_map change (x.nexts j) else x.nexts j) apart ∙ w.nexts j

    here : (if d == d then option_map change (x.nexts d) else x.nexts d) ≡ (if is_id (station_of sc d) station then Some v.next else None)
    here =
        ap (λ b. if b then option_map change (x.nexts d) else x.nexts d) ((Decides-eqb d d).1 refl)
        ∙ ap (option_map change) (w.nexts d ∙ next_of sc f d station of)
        ∙ ap Some next
        ∙ sym (ap (λ o. if is_id o station then Some v.next else None) of ∙ ap (λ b. if b then Some v.next else None) (is_own_id station))

-- and all stations
stations_put : (sc : SchemeValue) (h : Shape) (s : System) (d station : ℕ) (v : DeviceState) (new : StationShape) → Shows sc h s → station_of sc d ≡ Some station → IsStationOf sc (put s.devices d v) station (s.lines station) new
    → (j : ℕ) → IfSome (put h.stations station (Some new) j) (IsStationOf sc (put s.devices d v) j (s.lines j))
stations_put sc h s d station v new w of here =
    put_apart (λ j a. IfSome a (IsStationOf sc (put s.devices d v) j (s.lines j))) h.stations station (Some new)
    (λ j apart. IfSome-weaken (IsStationOf sc s.devices j (s.lines j)) (IsStationOf sc (put s.devices d v) j (s.lines j)) (λ x q. record { nexts = λ i. q.nexts i ∙ sym (next_elsewhere sc s.devices d station j v of apart i); waits = q.waits }) (h.stations j) (w.stations j))
    here

-- A TAP COMES
comes_to : (sc : SchemeValue) (h : Shape) (s : System) (station : ℕ) (x : StationShape) (r : RecordValue) → Shows sc h s → IsAt (s.devices r.device).taps r.link r → station_of sc r.device ≡ Some station → h.stations station ≡ Some x
    → comes sc s (Some (Tapped r.device r.link)) ≡ judged sc s r.device r.link (collect_judged (x.nexts r.device) (is_owned sc r) r.link)
comes_to sc h s station x r w at of here =
    ap (tap_comes sc s r.device r.link) of
    ∙ (λ i. judged sc s r.device r.link (collect_judged (sym ((station_shown sc h s station x w here).nexts r.device) i) (is_owned_tap sc (at.here i)) r.link))

pub shown_stranger : (sc : SchemeValue) (h : Shape) (s : System) (r : RecordValue) → Shows sc h s → station_of sc r.device ≡ None → Answers sc h (comes sc s (Some (Tapped r.device r.link))) (Refused Stranger)
shown_stranger sc h s r w none = answers_by sc h (Refused Stranger) (comes sc s (Some (Tapped r.device r.link))) (s, Refused Stranger) (ap (tap_comes sc s r.device r.link) none) refl w

pub shown_refused : (sc : SchemeValue) (h : Shape) (s : System) (station : ℕ) (x : StationShape) (r : RecordValue) (why : CollectRefusal) → Shows sc h s → IsAt (s.devices r.device).taps r.link r → station_of sc r.device ≡ Some station → h.stations station ≡ Some x
    → collect_judged (x.nexts r.device) (is_owned sc r) r.link ≡ Err why → Answers sc h (comes sc s (Some (Tapped r.device r.link))) (Refused (refusal_of why))
shown_refused sc h s station x r why w at of here is =
    answers_by sc h (Refused (refusal_of why)) (comes sc s (Some (Tapped r.device r.link))) (s, Refused (refusal_of why)) (comes_to sc h s station x r w at of here ∙ ap (judged sc s r.device r.link) is) refl w

pub shown_busy : (sc : SchemeValue) (h : Shape) (s : System) (station : ℕ) (x : StationShape) (r : RecordValue) → Shows sc h s → IsAt (s.devices r.device).taps r.link r → station_of sc r.device ≡ Some station → h.stations station ≡ Some x
    → collect_judged (x.nexts r.device) (is_owned sc r) r.link ≡ Ok tt → sc.inbox_capacity ≤ length h.inbox → Answers sc h (comes sc s (Some (Tapped r.device r.link))) (Refused Busy)
shown_busy sc h s station x r w at of here is full =
    answers_by sc h (Refused Busy) (comes sc s (Some (Tapped r.device r.link))) (s, Refused Busy)
    (comes_to sc h s station x r w at of here ∙ ap (judged sc s r.device r.link) is ∙ ap (λ b. if b then (s, Refused Busy) else (accepted s r.device r.link, Accepted)) (has_no_room sc.inbox_capacity s.inbox (omega (arith, full, length-Each2 (IsArrivedOf s.devices) s.inbox h.inbox w.inbox)))) refl w

pub shown_accepted : (sc : SchemeValue) (h : Shape) (s : System) (station : ℕ) (x new : StationShape) (r : RecordValue) → Shows sc h s → IsAt (s.devices r.device).taps r.link r → station_of sc r.device ≡ Some station → h.stations station ≡ Some x
    → collect_judged (x.nexts r.device) (is_owned sc r) r.link ≡ Ok tt → x.nexts r.device ≡ Some r.link → ((j : ℕ) → new.nexts j ≡ changed (λ n. n + 1) x.nexts r.device j) → new.line ≡ x.line → length h.inbox < sc.inbox_capacity
    → Answers sc (record h { stations = put h.stations station (Some new); inbox = h.inbox ++ item.Tap r ∷ [] }) (comes sc s (Some (Tapped r.device r.link))) Accepted
shown_accepted sc h s station x new r w at of here is due does same room =
    answers_by sc (record h { stations = put h.stations station (Some new); inbox = h.inbox ++ item.Tap r ∷ [] }) Accepted (comes sc s (Some (Tapped d r.link))) (accepted s d r.link, Accepted) goes refl
    (record {
      system = subst (λ (y : System × Reply). IsSystem sc y.0) goes (comes_kept sc s (Tapped d r.link) w.system place);
      devices = devices.devices;
      stations = devices.stations;
      air = devices.air;
      inbox = Each2-push (IsArrivedOf g) s.inbox h.inbox (Tap_of d r.link) (item.Tap r) devices.inbox (subst (λ l. IsAt l r.link r) (ap (λ (z : DeviceState). z.taps) (sym (put_here s.devices d after))) at);
      hand = devices.hand;
      upto = devices.upto;
      rows = devices.rows;
      row_count = devices.row_count;
      stated = devices.stated;
      stated_count = devices.stated_count;
      owners = devices.owners;
    })
  where
    d : ℕ
    d = r.device

    place : IsPacket sc s.devices s.held (Tapped d r.link)
    place = (at.positive, let lt = slice_get_within (s.devices d).taps (r.link - 1) r at.here in omega (arith, at.positive, lt))

    goes : comes sc s (Some (Tapped d r.link)) ≡ (accepted s d r.link, Accepted)
    goes = comes_to sc h s station x r w at of here ∙ ap (judged sc s d r.link) is ∙ ap (λ b. if b then (s, Refused Busy) else (accepted s d r.link, Accepted)) (has_room sc.inbox_capacity s.inbox (omega (arith, room, length-Each2 (IsArrivedOf s.devices) s.inbox h.inbox w.inbox)))

    after : DeviceState
    after = record (s.devices d) { next = r.link + 1 }

    g : ℕ → DeviceState
    g = put s.devices d after

    shown : IsStationOf sc s.devices station (s.lines station) x
    shown = station_shown sc h s station x w here

    same_Some : (a b : ℕ) → Some a ≡ Some b → a ≡ b
    same_Some a b e = cc

    next : (s.devices d).next ≡ r.link
    next = same_Some (s.devices d).next r.link (sym (next_of sc s.devices d station of) ∙ sym (shown.nexts d) ∙ due)

    is_device : IsDevice sc d (s.devices d)
    is_device = w.system.devices d

    devices : Shows sc (record h { devices = h.devices; stations = put h.stations station (Some new) }) (record s { devices = g })
    devices = shows_device sc h s d after h.devices (put h.stations station (Some new)) w
        (device_changes sc s d after w.system (record { taps = refl; upto = omega arith; day = omega arith })
        (record { base = is_device.base; cursor = is_device.cursor; stored = is_device.stored; upto = is_device.upto; first = omega arith; next = omega (arith, place.1); few = is_device.few; numbered = is_device.numbered; known = is_device.known; days = is_device.days }))
        refl refl (omega arith)
        (put_all (λ j a. IfSome (h.devices j) (IsDeviceOf sc j a)) s.devices d after w.devices (same_device sc d (s.devices d) after (h.devices d) refl refl refl refl refl (w.devices d)))
        (stations_put sc h s d station after new w of (station_put sc s.devices d station after (λ n. n + 1) (s.lines station) x new of shown does same (ap (λ n. n + 1) next)))

-- AN ACKNOWLEDGEMENT COMES
hears : (s : System) (d u : ℕ) → u ≤ length (s.devices d).taps → ack_comes s d u ≡ (heard s d u, Dropped (u - (s.devices d).base))
hears s d u le = grind (arith, nat_tests)

-- a device that heard an acknowledgement
heard_device : (sc : SchemeValue) (d u : ℕ) (v : DeviceState) (x : DeviceValue) → IsDeviceOf sc d v x → u ≤ last_link x → IsDeviceOf sc d (record v { base = max v.base u; cursor = max v.cursor u }) (device.acknowledged x u)
heard_device sc d u v x sd within = record {
  id = sd.id;
  day = sd.day;
  room = sd.room;
  base = ap (λ n. max n u) sd.base;
  cursor = ap (λ n. max n u) sd.cursor;
  owners = sd.owners;
  days = sd.days;
  numbered = numbered_ack v.taps x u within sd.numbered;
}

pub shown_heard : (sc : SchemeValue) (h : Shape) (s : System) (d u n : ℕ) (x new : DeviceValue) → Shows sc h s → IsAck sc s.devices d u → h.devices d ≡ Some x → new ≡ device.acknowledged x u → n ≡ u - x.base
    → Answers sc (record h { devices = put h.devices d (Some new) }) (comes sc s (Some (Acked d u))) (Dropped n)
shown_heard sc h s d u n x new w is here heard_is count =
    answers_by sc (record h { devices = put h.devices d (Some new) }) (Dropped n) (comes sc s (Some (Acked d u))) (heard s d u, Dropped (u - v.base)) goes (ap Dropped (count ∙ ap (λ b. u - b) sd.base))
    (shows_device sc h s d after (put h.devices d (Some new)) h.stations w (subst (λ (y : System × Reply). IsSystem sc y.0) goes (comes_kept sc s (Acked d u) w.system is)) refl refl (omega arith)
    (put_both (λ j a b. IfSome a (IsDeviceOf sc j b)) h.devices s.devices d (Some new) after w.devices (subst (IsDeviceOf sc d after) (sym heard_is) (heard_device sc d u v x sd (omega (arith, is.1, (w.system.devices d).upto, last_link_is sc d v x (w.system.devices d) sd)))))
    (stations_same sc h s (put s.devices d after) (put_all (λ j a. a.next ≡ (s.devices j).next) s.devices d after (λ j. refl) refl) w))
  where
    v : DeviceState
    v = s.devices d

    after : DeviceState
    after = record v { base = max v.base u; cursor = max v.cursor u }

    sd : IsDeviceOf sc d v x
    sd = device_shown sc h s d x w here

    goes : comes sc s (Some (Acked d u)) ≡ (heard s d u, Dropped (u - v.base))
    goes = hears s d u (omega (arith, is.1, (w.system.devices d).upto))

-- a device has numbered what it is told that the hub has
pub never_ahead : (sc : SchemeValue) (h : Shape) (s : System) (d u : ℕ) (x : DeviceValue) → Shows sc h s → IsAck sc s.devices d u → h.devices d ≡ Some x → last_link x < u → ⊥
never_ahead sc h s d u x w is here past = absurd (omega (arith, past, is.1, (w.system.devices d).upto, last_link_is sc d (s.devices d) x (w.system.devices d) (device_shown sc h s d x w here)))

-- and is registered
pub never_unknown : (sc : SchemeValue) (s : System) (d u : ℕ) → IsAck sc s.devices d u → position_of_device sc d ≡ None → ⊥
never_unknown sc s d u is none = let some : is_some (station_of sc d) ≡ true = is.0 in let not_some : is_some (station_of sc d) ≡ false = ap is_some (no_station sc d none) in absurd (cc)

-- REWIND and RESTART DEVICE
rewound_shows : (sc : SchemeValue) (h : Shape) (s : System) (d : ℕ) (x new : DeviceValue) → Shows sc h s → h.devices d ≡ Some x → new ≡ record x { cursor = x.base } → IsSystem sc (rewound s d) → Shows sc (record h { devices = put h.devices d (Some new) }) (rewound s d)
rewound_shows sc h s d x new w here same is =
    shows_device sc h s d after (put h.devices d (Some new)) h.stations w is refl refl (omega arith)
    (put_both (λ j a b. IfSome a (IsDeviceOf sc j b)) h.devices s.devices d (Some new) after w.devices (subst (IsDeviceOf sc d after) (sym same) (record { id = sd.id; day = sd.day; room = sd.room; base = sd.base; cursor = sd.base; owners = sd.owners; days = sd.days; numbered = numbered_cursor (s.devices d).taps x x.base sd.numbered })))
    (stations_same sc h s (put s.devices d after) (put_all (λ j a. a.next ≡ (s.devices j).next) s.devices d after (λ j. refl) refl) w)
  where
    after : DeviceState
    after = record (s.devices d) { cursor = (s.devices d).base }

    sd : IsDeviceOf sc d (s.devices d) x
    sd = device_shown sc h s d x w here

pub shown_rewind_unknown : (sc : SchemeValue) (h : Shape) (s : System) (d : ℕ) → Shows sc h s → position_of_device sc d ≡ None → Answers sc h (rewind sc s d) (Refused UnknownDevice)
shown_rewind_unknown sc h s d w none = answers_by sc h (Refused UnknownDevice) (rewind sc s d) (s, Refused UnknownDevice) (ap (λ o. if is_some o then (rewound s d, Rewound) else (s, Refused UnknownDevice)) none) refl w

pub shown_rewind : (sc : SchemeValue) (h : Shape) (s : System) (d k : ℕ) (x new : DeviceValue) → Shows sc h s → position_of_device sc d ≡ Some k → h.devices d ≡ Some x → new ≡ record x { cursor = x.base } → Answers sc (record h { devices = put h.devices d (Some new) }) (rewind sc s d) Rewound
shown_rewind sc h s d k x new w at here same =
    let goes : rewind sc s d ≡ (rewound s d, Rewound) = ap (λ o. if is_some o then (rewound s d, Rewound) else (s, Refused UnknownDevice)) at in
    answers_by sc (record h { devices = put h.devices d (Some new) }) Rewound (rewind sc s d) (rewound s d, Rewound) goes refl
    (rewound_shows sc h s d x new w here same (subst (λ (y : System × Reply). IsSystem sc y.0) goes (moves_step sc s (event.Rewind d) w.system).system))

pub shown_restart_device_unknown : (sc : SchemeValue) (h : Shape) (s : System) (d : ℕ) → Shows sc h s → position_of_device sc d ≡ None → Answers sc h (restart_device sc s d) (Refused UnknownDevice)
shown_restart_device_unknown sc h s d w none = answers_by sc h (Refused UnknownDevice) (restart_device sc s d) (s, Refused UnknownDevice) (ap (λ o. if is_some o then (rewound s d, Restarted) else (s, Refused UnknownDevice)) none) refl w

pub shown_restart_device : (sc : SchemeValue) (h : Shape) (s : System) (d k : ℕ) (x new : DeviceValue) → Shows sc h s → position_of_device sc d ≡ Some k → h.devices d ≡ Some x → new ≡ record x { cursor = x.base } → Answers sc (record h { devices = put h.devices d (Some new) }) (restart_device sc s d) Restarted
shown_restart_device sc h s d k x new w at here same =
    let goes : restart_device sc s d ≡ (rewound s d, Restarted) = ap (λ o. if is_some o then (rewound s d, Restarted) else (s, Refused UnknownDevice)) at in
    answers_by sc (record h { devices = put h.devices d (Some new) }) Restarted (restart_device sc s d) (rewound s d, Restarted) goes refl
    (rewound_shows sc h s d x new w here same (subst (λ (y : System × Reply). IsSystem sc y.0) goes (moves_step sc s (event.RestartDevice d) w.system).system))

-- ACK and ANSWER
pub shown_ack_unknown : (sc : SchemeValue) (h : Shape) (s : System) (d : ℕ) → Shows sc h s → station_of sc d ≡ None → Answers sc h (storing.ack sc s d) (Refused UnknownDevice)
shown_ack_unknown sc h s d w none = answers_by sc h (Refused UnknownDevice) (storing.ack sc s d) (s, Refused UnknownDevice) (ap (ack_by sc s d) none) refl w

-- the line's length
pub line_length : (sc : SchemeValue) (h : Shape) (s : System) (station : ℕ) (x : StationShape) → Shows sc h s → h.stations station ≡ Some x → length (s.lines station) ≡ length x.line
line_length sc h s station x w here = length-Each2 IsAnswerOf (s.lines station) x.line (station_shown sc h s station x w here).waits

pub shown_ack_busy : (sc : SchemeValue) (h : Shape) (s : System) (d station : ℕ) (x : StationShape) → Shows sc h s → station_of sc d ≡ Some station → h.stations station ≡ Some x → sc.inbox_capacity ≤ length x.line → Answers sc h (storing.ack sc s d) (Refused Busy)
shown_ack_busy sc h s d station x w of here full =
    answers_by sc h (Refused Busy) (storing.ack sc s d) (s, Refused Busy)
    (ap (ack_by sc s d) of ∙ ap (λ b. if b then (s, Refused Busy) else (gains_answer s station (Ack_of d (s.devices d).upto), Acknowledged (s.devices d).upto)) (has_no_room sc.inbox_capacity (s.lines station) (omega (arith, full, line_length sc h s station x w here)))) refl w

-- where the line has room, the outbox is asked
pub ack_may_fail : (sc : SchemeValue) (h : Shape) (s : System) (d station : ℕ) (x : StationShape) → Shows sc h s → station_of sc d ≡ Some station → h.stations station ≡ Some x → length x.line < sc.inbox_capacity → has_line_room sc s (station_of sc d) ≡ true
ack_may_fail sc h s d station x w of here room = ap (has_line_room sc s) of ∙ ap not (has_room sc.inbox_capacity (s.lines station) (omega (arith, room, line_length sc h s station x w here)))

-- a line that gained an answer
pub shown_gains : (sc : SchemeValue) (h : Shape) (s : System) (station : ℕ) (y : Answer) (a : AckItem) (x new : StationShape) → Shows sc h s → h.stations station ≡ Some x → ((j : ℕ) → new.nexts j ≡ x.nexts j) → new.line ≡ x.line ++ a ∷ [] → IsAnswerOf y a → IsSystem sc (gains_answer s station y) → Shows sc (record h { stations = put h.stations station (Some new) }) (gains_answer s station y)
shown_gains sc h s station y a x new w here same gained of is =
    shows_line sc h s station (s.lines station ++ y ∷ []) new w is
    (record {
      nexts = λ j. same j ∙ shown.nexts j;
      waits = subst (Each2 IsAnswerOf (s.lines station ++ y ∷ [])) (sym gained) (Each2-push IsAnswerOf (s.lines station) x.line y a shown.waits of);
    })
  where
    shown : IsStationOf sc s.devices station (s.lines station) x
    shown = station_shown sc h s station x w here

pub shown_ack : (sc : SchemeValue) (h : Shape) (s : System) (d station u : ℕ) (x new : StationShape) → Shows sc h s → station_of sc d ≡ Some station → h.stations station ≡ Some x → u ≡ h.outbox.upto d → ((j : ℕ) → new.nexts j ≡ x.nexts j) → new.line ≡ x.line ++ ack_item.Upto (record { device = d; upto = u }) ∷ [] → length x.line < sc.inbox_capacity
    → Answers sc (record h { stations = put h.stations station (Some new) }) (storing.ack sc s d) (Acknowledged u)
shown_ack sc h s d station u x new w of here is same gained room =
    answers_by sc (record h { stations = put h.stations station (Some new) }) (Acknowledged u) (storing.ack sc s d) (gains_answer s station (Ack_of d (s.devices d).upto), Acknowledged (s.devices d).upto) goes (ap Acknowledged stored)
    (shown_gains sc h s station (Ack_of d (s.devices d).upto) (ack_item.Upto (record { device = d; upto = u })) x new w here same gained (λ i. record { device = d; upto = stored i })
    (subst (λ (y : System × Reply). IsSystem sc y.0) goes (moves_step sc s (event.Ack d) w.system).system))
  where
    stored : u ≡ (s.devices d).upto
    stored = is ∙ w.upto d

    goes : storing.ack sc s d ≡ (gains_answer s station (Ack_of d (s.devices d).upto), Acknowledged (s.devices d).upto)
    goes = ap (ack_by sc s d) of ∙ ap (λ b. if b then (s, Refused Busy) else (gains_answer s station (Ack_of d (s.devices d).upto), Acknowledged (s.devices d).upto)) (has_room sc.inbox_capacity (s.lines station) (omega (arith, room, line_length sc h s station x w here)))

pub shown_answer_unknown : (sc : SchemeValue) (h : Shape) (s : System) (station : ℕ) → Shows sc h s → position_of_station sc station ≡ None → Answers sc h (storing.answer sc s station) (Refused UnknownStation)
shown_answer_unknown sc h s station w none =
    answers_by sc h (Refused UnknownStation) (storing.answer sc s station) (s, Refused UnknownStation) (ap (λ o. if is_some o then answer_from s station (s.lines station) else (s, Refused UnknownStation)) none) refl w

answer_known : (sc : SchemeValue) (s : System) (station k : ℕ) → position_of_station sc station ≡ Some k → storing.answer sc s station ≡ answer_from s station (s.lines station)
answer_known sc s station k at = ap (λ o. if is_some o then answer_from s station (s.lines station) else (s, Refused UnknownStation)) at

pub shown_no_answer : (sc : SchemeValue) (h : Shape) (s : System) (station k : ℕ) (x : StationShape) → Shows sc h s → position_of_station sc station ≡ Some k → h.stations station ≡ Some x → x.line ≡ [] → Answers sc h (storing.answer sc s station) Empty
shown_no_answer sc h s station k x w at here none =
    let line = Each2-nil IsAnswerOf (s.lines station) (subst (Each2 IsAnswerOf (s.lines station)) none (station_shown sc h s station x w here).waits) in
    answers_by sc h Empty (storing.answer sc s station) (s, Empty) (answer_known sc s station k at ∙ ap (answer_from s station) line) refl w

-- the packet of an answer
answer_packet : (f : ℕ → DeviceState) (y : Answer) (a : AckItem) → IsAnswerOf y a → IsFrame (frame_of a) → IsPacketOf f (packet_of y) (frame_bytes (frame_of a))
answer_packet f (Ack_of d u) (ack_item.Upto b) is lawful = record { lawful = subst (λ b. IsFrame (frame.Acked b)) is lawful; spelled = ap (λ b. frame_bytes (frame.Acked b)) is }
answer_packet f (Ack_of d u) (ack_item.Day b) is lawful = absurd is
answer_packet f (DayAck_of d day) (ack_item.Upto b) is lawful = absurd is
answer_packet f (DayAck_of d day) (ack_item.Day b) is lawful = record { lawful = subst (λ b. IsFrame (frame.DayAcked b)) is lawful; spelled = ap (λ b. frame_bytes (frame.DayAcked b)) is }

-- and what is replied of it
answer_reply : (n m : ℕ) (y : Answer) (a : AckItem) → n ≡ m → IsAnswerOf y a → answered_by n a ≡ answered_reply m y
answer_reply n m (Ack_of d u) (ack_item.Upto b) same is = λ i. Answered (same i) (is i).device (is i).upto
answer_reply n m (Ack_of d u) (ack_item.Day b) same is = absurd is
answer_reply n m (DayAck_of d day) (ack_item.Upto b) same is = absurd is
answer_reply n m (DayAck_of d day) (ack_item.Day b) same is = λ i. AnsweredDay (same i) (is i).device (is i).day

pub shown_answer : (sc : SchemeValue) (h : Shape) (s : System) (station k n : ℕ) (x new : StationShape) (a : AckItem) → Shows sc h s → position_of_station sc station ≡ Some k → h.stations station ≡ Some x → x.line ≡ a ∷ new.line → ((j : ℕ) → new.nexts j ≡ x.nexts j) → IsFrame (frame_of a) → n ≡ length h.air + 1
    → Answers sc (record h { stations = put h.stations station (Some new); air = h.air ++ frame_bytes (frame_of a) ∷ [] }) (storing.answer sc s station) (answered_by n a)
shown_answer sc h s station k n x new a w at here front same lawful count =
    answers_by sc (record h { stations = put h.stations station (Some new); air = h.air ++ frame_bytes (frame_of a) ∷ [] }) (answered_by n a) (storing.answer sc s station)
    (record s { air = s.air ++ packet_of y ∷ []; lines = put s.lines station found.1 }, answered_reply (length s.air + 1) y) goes (answer_reply n (length s.air + 1) y a number found.3)
    (record {
      system = subst (λ (y : System × Reply). IsSystem sc y.0) goes (moves_step sc s (event.Answer station) w.system).system;
      devices = w.devices;
      stations = put_both (λ j b l. IfSome b (IsStationOf sc s.devices j l)) h.stations s.lines station (Some new) found.1 w.stations (record { nexts = λ j. same j ∙ shown.nexts j; waits = found.4 });
      air = Each2-push (IsPacketOf s.devices) s.air h.air (packet_of y) (frame_bytes (frame_of a)) w.air (answer_packet s.devices y a found.3 lawful);
      inbox = w.inbox;
      hand = w.hand;
      upto = w.upto;
      rows = w.rows;
      row_count = w.row_count;
      stated = w.stated;
      stated_count = w.stated_count;
      owners = w.owners;
    })
  where
    shown : IsStationOf sc s.devices station (s.lines station) x
    shown = station_shown sc h s station x w here

    found : (y : Answer) × (rest : List Answer) × (s.lines station ≡ y ∷ rest) × IsAnswerOf y a × Each2 IsAnswerOf rest new.line
    found = Each2-cons IsAnswerOf (s.lines station) a new.line (subst (Each2 IsAnswerOf (s.lines station)) front shown.waits)

    y : Answer
    y = found.0

    number : n ≡ length s.air + 1
    number = count ∙ ap (λ j. j + 1) (sym (length-Each2 (IsPacketOf s.devices) s.air h.air w.air))

    goes : storing.answer sc s station ≡ (record s { air = s.air ++ packet_of y ∷ []; lines = put s.lines station found.1 }, answered_reply (length s.air + 1) y)
    goes = answer_known sc s station k at ∙ ap (answer_from s station) found.2

-- RESUME and RESTART STATION
pub shown_resume_unknown : (sc : SchemeValue) (h : Shape) (s : System) (d : ℕ) → Shows sc h s → station_of sc d ≡ None → Answers sc h (resume sc s d) (Refused UnknownDevice)
shown_resume_unknown sc h s d w none =
    answers_by sc h (Refused UnknownDevice) (resume sc s d) (s, Refused UnknownDevice) (ap (λ o. if is_some o then (record s { devices = put s.devices d (resumed_device (s.devices d)) }, Resumed (s.devices d).upto) else (s, Refused UnknownDevice)) (no_place sc d none)) refl w

pub shown_resume : (sc : SchemeValue) (h : Shape) (s : System) (d station u : ℕ) (x new : StationShape) → Shows sc h s → station_of sc d ≡ Some station → h.stations station ≡ Some x → u ≡ h.outbox.upto d → ((j : ℕ) → new.nexts j ≡ changed (λ _. u + 1) x.nexts d j) → new.line ≡ x.line
    → Answers sc (record h { stations = put h.stations station (Some new) }) (resume sc s d) (Resumed u)
shown_resume sc h s d station u x new w of here is does same =
    answers_by sc (record h { stations = put h.stations station (Some new) }) (Resumed u) (resume sc s d) (record s { devices = put s.devices d after }, Resumed (s.devices d).upto) goes (ap Resumed stored)
    (shows_device sc h s d after h.devices (put h.stations station (Some new)) w (subst (λ (y : System × Reply). IsSystem sc y.0) goes (moves_step sc s (event.Resume d) w.system).system) refl refl (omega arith)
    (put_all (λ j a. IfSome (h.devices j) (IsDeviceOf sc j a)) s.devices d after w.devices (same_device sc d (s.devices d) after (h.devices d) refl refl refl refl refl (w.devices d)))
    (stations_put sc h s d station after new w of (station_put sc s.devices d station after (λ _. u + 1) (s.lines station) x new of (station_shown sc h s station x w here) does same (ap (λ n. n + 1) stored))))
  where
    after : DeviceState
    after = resumed_device (s.devices d)

    stored : u ≡ (s.devices d).upto
    stored = is ∙ w.upto d

    goes : resume sc s d ≡ (record s { devices = put s.devices d after }, Resumed (s.devices d).upto)
    goes = ap (λ b. if b then (record s { devices = put s.devices d after }, Resumed (s.devices d).upto) else (s, Refused UnknownDevice)) (placed sc d station of)
