-- What a world shows after a tap and a send.
use Rattle.std.proofs.Common.{◌≡◌, ℕ, ◌+◌, ◌-◌, ◌<◌, ◌≤◌, List, [], ◌∷◌, ◌++◌, length, take, set, get_or, Some, None, true, refl, sym, ap, ◌∙◌, subst, arith}
use Rattle.std.specs.Prelude.{slice_get, slice_index, if◌then◌else◌, Option, IfSome, is_some, option_map, unwrap_or}
use Rattle.std.proofs.lemmas.Bool.Decides.{nat_tests}
use Rattle.std.proofs.lemmas.List.{take-append-le, length-drop, length_push}
use Rattle.std.proofs.lemmas.Option.{slice_get-get_or, slice_get_within}
use Rattle.fare_record.specs.Values.{RecordValue, TapValue}
use Rattle.fare_record.specs.Lanes.{part}
use Rattle.fare_scheme.specs.Values.{SchemeValue}
use Rattle.fare_scheme.specs.Words.{owner_of, position_of_device}
use Rattle.fare_world.specs.System.{day_of}
use Rattle.fare_device.specs.DeviceWords.{DeviceValue, last_link}
use Rattle.fare_device.specs.Tapping.{IsTapped}
use Rattle.fare_frame.specs.Grammar.{frame_bytes, IsFrame}
use Rattle.fare_frame.specs.declared.frame.Frame.{Frame}
use Rattle.fare_frame.specs.declared.frame.Frame.TheVariants as frame
use Rattle.fare_event.specs.declared.event.Event.TheVariants as event
use Rattle.fare_event.specs.declared.reply.Refusal.{Refusal}
use Rattle.fare_event.specs.declared.reply.Refusal.TheVariants.{UnknownDevice, BadMoment, UnknownProduct, DayClosed, DayAhead, NumbersSpent, BufferFull}
use Rattle.fare_event.specs.declared.reply.Reply.{Reply}
use Rattle.fare_event.specs.declared.reply.Reply.TheVariants.{Idle, Refused, Recorded, Sent}
use Rattle.fare_store.specs.Tables.{put}
use Rattle.fare_world.specs.System.{Tapped, DeviceState, System, numbered_for, arrived_of}
use Rattle.fare_world.specs.Tapping.{next_record, with_tap, room_of, waiting_count, tap_for, tap_on, tap, sent, send_next, send}
use Rattle.std.proofs.lemmas.List.{set-get_or}
use Rattle.std.proofs.lemmas.Option.{slice_get_read}
use Rattle.fare_device.specs.Tapping.{TapRefused}
use Rattle.fare_device.specs.declared.device.TapRefusal.{TapRefusal}
use Rattle.fare_device.specs.declared.device.TapRefusal.TheVariants as why
use Rattle.fare_device.specs.Numbered.{HasNumbered}
use Rattle.fare_device.proofs.Numbering.{numbered_tap, numbered_cursor}
use Rattle.fare_world.specs.Whole.{Seen, shape}
use Rattle.fare_world.specs.Shown.{entry}
use Rattle.fare_world.specs.Shown.{IsAt, IsPacketOf, IsDeviceOf, Shape, Shows}
use Rattle.fare_world.specs.Kept.{IsDevice, IsSystem}
use Rattle.fare_world.proofs.Lists.{Each2-push, length-Each2, take-part-push, slice_get-drop}
use Rattle.fare_world.proofs.TableLemmas.{entry-set, owner_within}
use Rattle.fare_side.proofs.Positions.{devices_apart}
use Rattle.fare_store.proofs.Entries.{put_all, put_both, put_here}
use Rattle.fare_world.proofs.Kept.{moves_step}
use Rattle.fare_world.proofs.KeptParts.{device_changes, took_numbered}
use Rattle.fare_world.proofs.Showing.{Answers, answers_by, grows_by_tap, shows_devices, shows_device, stations_same, waits_behind, lane_counted, last_link_is, device_shown}

-- what waits in the device's buffer, and how much may
room_is : (sc : SchemeValue) (d : ℕ) (v : DeviceState) (x : DeviceValue) → IsDeviceOf sc d v x → room_of sc d ≡ x.room
room_is sc d v x sd = ap (λ o. unwrap_or o 0) sd.room

waiting_is : (sc : SchemeValue) (d : ℕ) (v : DeviceState) (x : DeviceValue) → IsDeviceOf sc d v x → length x.waiting ≡ length v.taps - v.base
waiting_is sc d v x sd = ap length (waits_behind sc d v x sd) ∙ length-drop v.base v.taps

-- TAP, down to its tests
tap_on_known : (sc : SchemeValue) (s : System) (d k p t m u : ℕ) → position_of_device sc d ≡ Some k → tap sc s d p t m u ≡ tap_on sc s d p t m u (day_of sc m)
tap_on_known sc s d k p t m u at = ap (λ o. if is_some o then tap_on sc s d p t m u (day_of sc m) else (s, Refused UnknownDevice)) at

tap_on_day : (sc : SchemeValue) (s : System) (d k p t m u day : ℕ) → position_of_device sc d ≡ Some k → day_of sc m ≡ Some day → tap sc s d p t m u ≡ tap_for s d (room_of sc d) (record { product = p; token = t; moment = m; day = day; route = u }) (owner_of sc p)
tap_on_day sc s d k p t m u day at dated = tap_on_known sc s d k p t m u at ∙ ap (tap_on sc s d p t m u) dated

pub shown_unknown : (sc : SchemeValue) (h : Shape) (s : System) (d p t m u : ℕ) → Shows sc h s → position_of_device sc d ≡ None → Answers sc h (tap sc s d p t m u) (Refused UnknownDevice)
shown_unknown sc h s d p t m u w none = answers_by sc h (Refused UnknownDevice) (tap sc s d p t m u) (s, Refused UnknownDevice) (ap (λ o. if is_some o then tap_on sc s d p t m u (day_of sc m) else (s, Refused UnknownDevice)) none) refl w

pub shown_bad_moment : (sc : SchemeValue) (h : Shape) (s : System) (d k p t m u : ℕ) → Shows sc h s → position_of_device sc d ≡ Some k → day_of sc m ≡ None → Answers sc h (tap sc s d p t m u) (Refused BadMoment)
shown_bad_moment sc h s d k p t m u w at none = answers_by sc h (Refused BadMoment) (tap sc s d p t m u) (s, Refused BadMoment) (tap_on_known sc s d k p t m u at ∙ ap (tap_on sc s d p t m u) none) refl w

pub shown_unknown_product : (sc : SchemeValue) (h : Shape) (s : System) (d k p t m u day : ℕ) → Shows sc h s → position_of_device sc d ≡ Some k → day_of sc m ≡ Some day → owner_of sc p ≡ None → Answers sc h (tap sc s d p t m u) (Refused UnknownProduct)
shown_unknown_product sc h s d k p t m u day w at dated none =
    answers_by sc h (Refused UnknownProduct) (tap sc s d p t m u) (s, Refused UnknownProduct) (tap_on_day sc s d k p t m u day at dated ∙ ap (tap_for s d (room_of sc d) (record { product = p; token = t; moment = m; day = day; route = u })) none) refl w

-- a refusal that comes after the product is known
refused_for : (sc : SchemeValue) (h : Shape) (s : System) (d k p t m u day : ℕ) (why : Refusal) → Shows sc h s → position_of_device sc d ≡ Some k → day_of sc m ≡ Some day → (o : Option ℕ) → owner_of sc p ≡ o → is_some o ≡ true → ((o : ℕ) → tap_for s d (room_of sc d) (record { product = p; token = t; moment = m; day = day; route = u }) (Some o) ≡ (s, Refused why)) → Answers sc h (tap sc s d p t m u) (Refused why)
refused_for sc h s d k p t m u day why w at dated None owned some goes = absurd (cc)
refused_for sc h s d k p t m u day why w at dated (Some o) owned some goes =
    answers_by sc h (Refused why) (tap sc s d p t m u) (s, Refused why) (tap_on_day sc s d k p t m u day at dated ∙ ap (tap_for s d (room_of sc d) (record { product = p; token = t; moment = m; day = day; route = u })) owned ∙ goes o) refl w

pub shown_day_closed : (sc : SchemeValue) (h : Shape) (s : System) (d k p t m u day : ℕ) (x : DeviceValue) → Shows sc h s → position_of_device sc d ≡ Some k → day_of sc m ≡ Some day → h.devices d ≡ Some x → is_some (owner_of sc p) ≡ true → day < x.day → Answers sc h (tap sc s d p t m u) (Refused DayClosed)
shown_day_closed sc h s d k p t m u day x w at dated here known lt =
    let early : day < (s.devices d).day = omega (arith, (device_shown sc h s d x w here).day) in
    refused_for sc h s d k p t m u day DayClosed w at dated (owner_of sc p) refl known (λ o. grind (arith, nat_tests))

pub shown_day_ahead : (sc : SchemeValue) (h : Shape) (s : System) (d k p t m u day : ℕ) (x : DeviceValue) → Shows sc h s → position_of_device sc d ≡ Some k → day_of sc m ≡ Some day → h.devices d ≡ Some x → is_some (owner_of sc p) ≡ true → x.day < day → Answers sc h (tap sc s d p t m u) (Refused DayAhead)
shown_day_ahead sc h s d k p t m u day x w at dated here known lt =
    let late : (s.devices d).day < day = omega (arith, (device_shown sc h s d x w here).day) in
    refused_for sc h s d k p t m u day DayAhead w at dated (owner_of sc p) refl known (λ o. grind (arith, nat_tests))

pub shown_spent : (sc : SchemeValue) (h : Shape) (s : System) (d k p t m u day : ℕ) (x : DeviceValue) → Shows sc h s → position_of_device sc d ≡ Some k → day_of sc m ≡ Some day → h.devices d ≡ Some x → is_some (owner_of sc p) ≡ true → day ≡ x.day → 1099511627775 ≤ last_link x → Answers sc h (tap sc s d p t m u) (Refused NumbersSpent)
shown_spent sc h s d k p t m u day x w at dated here known same full =
    let sd = device_shown sc h s d x w here in
    let current : day ≡ (s.devices d).day = same ∙ sd.day in
    let spent : 1099511627775 ≤ length (s.devices d).taps = omega (arith, last_link_is sc d (s.devices d) x (w.system.devices d) sd) in
    refused_for sc h s d k p t m u day NumbersSpent w at dated (owner_of sc p) refl known (λ o. grind (arith, nat_tests))

pub shown_full : (sc : SchemeValue) (h : Shape) (s : System) (d k p t m u day : ℕ) (x : DeviceValue) → Shows sc h s → position_of_device sc d ≡ Some k → day_of sc m ≡ Some day → h.devices d ≡ Some x → is_some (owner_of sc p) ≡ true → day ≡ x.day → last_link x < 1099511627775 → length x.waiting ≡ x.room → Answers sc h (tap sc s d p t m u) (Refused BufferFull)
shown_full sc h s d k p t m u day x w at dated here known same few full =
    let sd = device_shown sc h s d x w here in
    let current : day ≡ (s.devices d).day = same ∙ sd.day in
    let left : length (s.devices d).taps < 1099511627775 = omega (arith, few, last_link_is sc d (s.devices d) x (w.system.devices d) sd) in
    let no_room : room_of sc d ≤ waiting_count s d = omega (arith, full, room_is sc d (s.devices d) x sd, waiting_is sc d (s.devices d) x sd) in
    refused_for sc h s d k p t m u day BufferFull w at dated (owner_of sc p) refl known (λ o. grind (arith, nat_tests))

tap_goes : (s : System) (d o room : ℕ) (tv : TapValue) → tv.day ≡ (s.devices d).day → length (s.devices d).taps < 1099511627775 → waiting_count s d < room → tap_for s d room tv (Some o) ≡ (with_tap s d (next_record s d o tv), Recorded (length (s.devices d).taps + 1) (length (numbered_for s o d) + 1))
tap_goes s d o room tv current few left = grind (arith, nat_tests)

-- the device with the tap at its end
tapped_device : (sc : SchemeValue) (d : ℕ) (v : DeviceState) (x new : DeviceValue) (p t m u day : ℕ) (r : RecordValue) → IsDeviceOf sc d v x → IsTapped sc x p t m day u r new → IsDeviceOf sc d (record v { taps = v.taps ++ r ∷ [] }) new
tapped_device sc d v x new p t m u day r sd did =
    subst (IsDeviceOf sc d (record v { taps = v.taps ++ r ∷ [] })) (sym did.value)
    (record {
      id = sd.id;
      day = sd.day;
      room = sd.room;
      base = sd.base;
      cursor = sd.cursor;
      owners = sd.owners;
      days = sd.days;
      numbered = subst (HasNumbered (v.taps ++ r ∷ [])) did.value (numbered_tap sc v.taps x new p t m day u r sd.owners sd.numbered did);
    })

pub shown_tap : (sc : SchemeValue) (h : Shape) (s : System) (d k p t m u day : ℕ) (x new : DeviceValue) (r : RecordValue) → Shows sc h s → position_of_device sc d ≡ Some k → day_of sc m ≡ Some day → h.devices d ≡ Some x → length x.lanes ≡ length sc.owners → IsTapped sc x p t m day u r new → Answers sc (record h { devices = put h.devices d (Some new) }) (tap sc s d p t m u) (Recorded r.link r.lane)
shown_tap sc h s d k p t m u day x new r w at dated here long did =
    answers_by sc (record h { devices = put h.devices d (Some new) }) (Recorded r.link r.lane) (tap sc s d p t m u) (with_tap s d r, Recorded r.link r.lane) goes refl
    (shows_devices sc h s g (put h.devices d (Some new)) h.stations w system (grows_by_tap s d after r refl refl (ap (λ (z : RecordValue). z.tap.day) same ∙ did.current ∙ sd.day))
    (put_both (λ j a b. IfSome a (IsDeviceOf sc j b)) h.devices s.devices d (Some new) after w.devices (tapped_device sc d v x new p t m u day r sd did))
    (stations_same sc h s g (put_all (λ j a. a.next ≡ (s.devices j).next) s.devices d after (λ j. refl) refl) w)
    (put_all (λ j a. a.upto ≡ (s.devices j).upto) s.devices d after (λ j. refl) refl)
    (λ o. put_all (λ j a. arrived_of o a ≡ arrived_of o (s.devices j)) s.devices d after (λ j. refl) (ap (part o) (take-append-le v.upto v.taps (r ∷ []) is.upto)))
    (λ o. put_all (λ j a. take (s.lanes o j).took (part o a.taps) ≡ take (s.lanes o j).took (numbered_for s o j)) s.devices d after (λ j. refl) (take-part-push (s.lanes o d).took o v.taps r (took_numbered sc s o d w.system))))
  where
    v : DeviceState
    v = s.devices d

    is : IsDevice sc d v
    is = w.system.devices d

    sd : IsDeviceOf sc d v x
    sd = device_shown sc h s d x w here

    tv : TapValue
    tv = record { product = p; token = t; moment = m; day = day; route = u }

    within : did.place < length x.lanes
    within = omega (arith, long, owner_within sc r.owner did.place did.at)

    count : slice_index x.lanes did.place ≡ length (part r.owner v.taps)
    count = lane_counted sc d v x sd r.owner did.place (slice_index x.lanes did.place) did.at (slice_get-get_or x.lanes did.place 0 within)

    last : last_link x ≡ length v.taps
    last = last_link_is sc d v x is sd

    same : r ≡ next_record s d r.owner tv
    same = did.is ∙ (λ i. record { device = sd.id i; link = last i + 1; owner = r.owner; lane = count i + 1; tap = tv })

    lane : r.lane ≡ length (part r.owner v.taps) + 1
    lane = ap (λ (z : RecordValue). z.lane) same

    link : r.link ≡ length v.taps + 1
    link = ap (λ (z : RecordValue). z.link) same

    after : DeviceState
    after = record v { taps = v.taps ++ r ∷ [] }

    g : ℕ → DeviceState
    g = put s.devices d after

    goes : tap sc s d p t m u ≡ (with_tap s d r, Recorded r.link r.lane)
    goes =
        tap_on_day sc s d k p t m u day at dated ∙ ap (tap_for s d (room_of sc d) tv) did.owner ∙ tap_goes s d r.owner (room_of sc d) tv (did.current ∙ sd.day) (omega (arith, did.few, last)) (omega (arith, did.room, room_is sc d v x sd, waiting_is sc d v x sd))
        ∙ (λ i. (with_tap s d (sym same i), Recorded (sym link i) (sym lane i)))

    system : IsSystem sc (record s { devices = g })
    system = subst (λ (y : System × Reply). IsSystem sc y.0) goes (moves_step sc s (event.Tap d p (Some u) t m) w.system).system

-- SEND
send_known : (sc : SchemeValue) (s : System) (d k : ℕ) → position_of_device sc d ≡ Some k → send sc s d ≡ send_next s d
send_known sc s d k at = ap (λ o. if is_some o then send_next s d else (s, Refused UnknownDevice)) at

send_rests : (s : System) (d : ℕ) → length (s.devices d).taps ≤ (s.devices d).cursor → send_next s d ≡ (s, Idle)
send_rests s d past = grind (arith, nat_tests)

send_goes : (s : System) (d : ℕ) → (s.devices d).cursor < length (s.devices d).taps → send_next s d ≡ (sent s d, Sent (length s.air + 1) ((s.devices d).cursor + 1))
send_goes s d unsent = grind (arith, nat_tests)

pub shown_send_unknown : (sc : SchemeValue) (h : Shape) (s : System) (d : ℕ) → Shows sc h s → position_of_device sc d ≡ None → Answers sc h (send sc s d) (Refused UnknownDevice)
shown_send_unknown sc h s d w none =
    answers_by sc h (Refused UnknownDevice) (send sc s d) (s, Refused UnknownDevice) (ap (λ o. if is_some o then send_next s d else (s, Refused UnknownDevice)) none) refl w

pub shown_idle : (sc : SchemeValue) (h : Shape) (s : System) (d k : ℕ) (x : DeviceValue) → Shows sc h s → position_of_device sc d ≡ Some k → h.devices d ≡ Some x → x.cursor ≡ last_link x → Answers sc h (send sc s d) Idle
shown_idle sc h s d k x w at here all =
    let sd = device_shown sc h s d x w here in
    answers_by sc h Idle (send sc s d) (s, Idle) (send_known sc s d k at ∙ send_rests s d (omega (arith, sd.cursor, last_link_is sc d (s.devices d) x (w.system.devices d) sd))) refl w

pub shown_send : (sc : SchemeValue) (h : Shape) (s : System) (d k : ℕ) (x : DeviceValue) (r : RecordValue) (n : ℕ) → Shows sc h s → position_of_device sc d ≡ Some k → h.devices d ≡ Some x → slice_get x.waiting (x.cursor - x.base) ≡ Some r → IsFrame (frame.Tapped r) → n ≡ length h.air + 1 → Answers sc (record h { devices = put h.devices d (Some (record x { cursor = x.cursor + 1 })); air = h.air ++ frame_bytes (frame.Tapped r) ∷ [] }) (send sc s d) (Sent n (x.cursor + 1))
shown_send sc h s d k x r n w at here e lawful count =
    answers_by sc (record h { devices = put h.devices d (Some new); air = h.air ++ frame_bytes (frame.Tapped r) ∷ [] }) (Sent n (x.cursor + 1)) (send sc s d) (sent s d, Sent (length s.air + 1) (v.cursor + 1)) goes (λ i. Sent (number i) (link i))
    (record {
      system = system;
      devices = devices.devices;
      stations = devices.stations;
      air = Each2-push (IsPacketOf g) s.air h.air (Tapped d (v.cursor + 1)) (frame_bytes (frame.Tapped r)) devices.air (record { tap = r; at = at_end; lawful = lawful; spelled = refl });
      inbox = devices.inbox;
      hand = devices.hand;
      upto = devices.upto;
      rows = devices.rows;
      row_count = devices.row_count;
      stated = devices.stated;
      stated_count = devices.stated_count;
      owners = devices.owners;
    })
  where
    v : DeviceState
    v = s.devices d

    is : IsDevice sc d v
    is = w.system.devices d

    sd : IsDeviceOf sc d v x
    sd = device_shown sc h s d x w here

    new : DeviceValue
    new = record x { cursor = x.cursor + 1 }

    after : DeviceState
    after = record v { cursor = v.cursor + 1 }

    g : ℕ → DeviceState
    g = put s.devices d after

    place : slice_get v.taps v.cursor ≡ Some r
    place =
        let from : v.cursor ≡ v.base + (x.cursor - x.base) = omega (arith, sd.cursor, sd.base, is.base) in
        ap (slice_get v.taps) from ∙ sym (slice_get-drop v.base v.taps (x.cursor - x.base)) ∙ ap (λ l. slice_get l (x.cursor - x.base)) (sym (waits_behind sc d v x sd)) ∙ e

    at_end : IsAt (g d).taps (v.cursor + 1) r
    at_end = subst (λ l. IsAt l (v.cursor + 1) r) (ap (λ (z : DeviceState). z.taps) (sym (put_here s.devices d after))) (record { positive = omega arith; here = ap (slice_get v.taps) (omega arith) ∙ place })

    unsent : v.cursor < length v.taps
    unsent = slice_get_within v.taps v.cursor r place

    goes : send sc s d ≡ (sent s d, Sent (length s.air + 1) (v.cursor + 1))
    goes = send_known sc s d k at ∙ send_goes s d unsent

    number : n ≡ length s.air + 1
    number = count ∙ ap (λ j. j + 1) (sym (length-Each2 (IsPacketOf s.devices) s.air h.air w.air))

    link : x.cursor + 1 ≡ v.cursor + 1
    link = ap (λ j. j + 1) sd.cursor

    system : IsSystem sc (sent s d)
    system = subst (λ (y : System × Reply). IsSystem sc y.0) goes (moves_step sc s (event.Send d) w.system).system

    devices : Shows sc (record h { devices = put h.devices d (Some new); stations = h.stations }) (record s { devices = g })
    devices = shows_device sc h s d after (put h.devices d (Some new)) h.stations w
        (device_changes sc s d after w.system (record { taps = refl; upto = omega arith; day = omega arith })
        (record { base = omega (arith, is.base); cursor = omega (arith, unsent); stored = is.stored; upto = is.upto; first = is.first; next = is.next; few = is.few; numbered = is.numbered; known = is.known; days = is.days }))
        refl refl (omega arith)
        (put_both (λ j a b. IfSome a (IsDeviceOf sc j b)) h.devices s.devices d (Some new) after w.devices (record { id = sd.id; day = sd.day; room = sd.room; base = sd.base; cursor = ap (λ j. j + 1) sd.cursor; owners = sd.owners; days = sd.days; numbered = numbered_cursor v.taps x (x.cursor + 1) sd.numbered }))
        (stations_same sc h s g (put_all (λ j a. a.next ≡ (s.devices j).next) s.devices d after (λ j. refl) refl) w)

-- THE CODE'S TABLES
-- a device that the code read
pub device_read : (w : Seen) (d k : ℕ) (x : DeviceValue) → position_of_device w.scheme d ≡ Some k → k < length w.devices → x ≡ get_or w.devices k x → (shape w).devices d ≡ Some x
device_read w d k x at within e = ap (λ o. entry o w.devices) at ∙ slice_get_read w.devices (length w.devices) k x refl within e

-- and wrote
pub device_write : (w : Seen) (d k : ℕ) (x : DeviceValue) → position_of_device w.scheme d ≡ Some k → k < length w.devices → (λ e. entry (position_of_device w.scheme e) (set w.devices k x)) ≡ put (shape w).devices d (Some x)
device_write w d k x at within = λ i e. entry-set (position_of_device w.scheme) (devices_apart w.scheme) w.devices d k x at within e i

-- or wrote as it was
pub device_same : (w : Seen) (k : ℕ) (x new : DeviceValue) → x ≡ get_or w.devices k x → new ≡ x → (λ e. entry (position_of_device w.scheme e) (set w.devices k new)) ≡ (shape w).devices
device_same w k x new e same = λ i d. entry (position_of_device w.scheme d) (written i)
  where
    written : set w.devices k new ≡ w.devices
    written = ap (set w.devices k) (same ∙ e) ∙ set-get_or w.devices k x

pub world_tapped : (w : Seen) (s : System) (d k p t m u day : ℕ) (x new : DeviceValue) (r : RecordValue) (link lane : ℕ) → ((j : ℕ) (y : DeviceValue) → slice_get w.devices j ≡ Some y → length y.lanes ≡ length w.scheme.owners) → Shows w.scheme (shape w) s → position_of_device w.scheme d ≡ Some k → k < length w.devices → x ≡ get_or w.devices k x → day_of w.scheme m ≡ Some day → IsTapped w.scheme x p t m day u r new → link ≡ r.link → lane ≡ r.lane
    → Answers w.scheme (record (shape w) { devices = λ e. entry (position_of_device w.scheme e) (set w.devices k new) }) (tap w.scheme s d p t m u) (Recorded link lane)
world_tapped w s d k p t m u day x new r link lane lanes sh at within e dated did same_link same_lane =
    let here = device_read w d k x at within e in
    let long = lanes k x (slice_get_read w.devices (length w.devices) k x refl within e) in
    subst (λ (q : (ℕ → Option DeviceValue) × Reply). Answers w.scheme (record (shape w) { devices = q.0 }) (tap w.scheme s d p t m u) q.1)
    (λ i. (sym (device_write w d k new at within) i, Recorded (sym same_link i) (sym same_lane i)))
    (shown_tap w.scheme (shape w) s d k p t m u day x new r sh at dated here long did)

-- what a refusal of the device says of the tap
abbrev pub AnswersRefused : Seen → (ℕ → Option DeviceValue) → System → ℕ → ℕ → ℕ → ℕ → ℕ → TapRefusal → Type 0
AnswersRefused w devices s d p t m u why.UnknownProduct = Answers w.scheme (record (shape w) { devices = devices }) (tap w.scheme s d p t m u) (Refused UnknownProduct)
AnswersRefused w devices s d p t m u why.DayClosed = Answers w.scheme (record (shape w) { devices = devices }) (tap w.scheme s d p t m u) (Refused DayClosed)
AnswersRefused w devices s d p t m u why.DayAhead = Answers w.scheme (record (shape w) { devices = devices }) (tap w.scheme s d p t m u) (Refused DayAhead)
AnswersRefused w devices s d p t m u why.NumbersSpent = Answers w.scheme (record (shape w) { devices = devices }) (tap w.scheme s d p t m u) (Refused NumbersSpent)
AnswersRefused w devices s d p t m u why.BufferFull = Answers w.scheme (record (shape w) { devices = devices }) (tap w.scheme s d p t m u) (Refused BufferFull)

refused_as_it_was : (w : Seen) (s : System) (d k p t m u day : ℕ) (x : DeviceValue) (e : TapRefusal) → Shows w.scheme (shape w) s → position_of_device w.scheme d ≡ Some k → (shape w).devices d ≡ Some x → day_of w.scheme m ≡ Some day → TapRefused w.scheme x p day e → AnswersRefused w (shape w).devices s d p t m u e
refused_as_it_was w s d k p t m u day x why.UnknownProduct sh at here dated cause = shown_unknown_product w.scheme (shape w) s d k p t m u day sh at dated cause
refused_as_it_was w s d k p t m u day x why.DayClosed sh at here dated cause = shown_day_closed w.scheme (shape w) s d k p t m u day x sh at dated here cause.0 cause.1
refused_as_it_was w s d k p t m u day x why.DayAhead sh at here dated cause = shown_day_ahead w.scheme (shape w) s d k p t m u day x sh at dated here cause.0 cause.1
refused_as_it_was w s d k p t m u day x why.NumbersSpent sh at here dated cause = shown_spent w.scheme (shape w) s d k p t m u day x sh at dated here cause.0 cause.1 cause.2
refused_as_it_was w s d k p t m u day x why.BufferFull sh at here dated cause = shown_full w.scheme (shape w) s d k p t m u day x sh at dated here cause.0 cause.1 cause.2 cause.3

pub world_refused : (w : Seen) (s : System) (d k p t m u day : ℕ) (x new : DeviceValue) (e f : TapRefusal) → Shows w.scheme (shape w) s → position_of_device w.scheme d ≡ Some k → k < length w.devices → x ≡ get_or w.devices k x → day_of w.scheme m ≡ Some day → new ≡ x → TapRefused w.scheme x p day e → e ≡ f
    → AnswersRefused w (λ j. entry (position_of_device w.scheme j) (set w.devices k new)) s d p t m u f
world_refused w s d k p t m u day x new e f sh at within read dated same cause is =
    subst (λ (q : (ℕ → Option DeviceValue) × TapRefusal). AnswersRefused w q.0 s d p t m u q.1) (λ i. (sym (device_same w k x new read same) i, is i))
    (refused_as_it_was w s d k p t m u day x e sh at (device_read w d k x at within read) dated cause)

pub world_sent : (w : Seen) (s : System) (d k : ℕ) (x new : DeviceValue) (f : Frame) (air : List (List ℕ)) (n link : ℕ) → Shows w.scheme (shape w) s → position_of_device w.scheme d ≡ Some k → k < length w.devices → x ≡ get_or w.devices k x → option_map frame.Tapped (slice_get x.waiting (x.cursor - x.base)) ≡ Some f → IsFrame f → new ≡ record x { cursor = x.cursor + 1 } → air ≡ w.air ++ frame_bytes f ∷ [] → n ≡ length air → link ≡ x.cursor + 1
    → Answers w.scheme (record (shape w) { devices = λ e. entry (position_of_device w.scheme e) (set w.devices k new); air = air }) (send w.scheme s d) (Sent n link)
world_sent w s d k x new f air n link sh at within e next lawful is pushed count same_link = of_tap (slice_get x.waiting (x.cursor - x.base)) refl
  where
    long : n ≡ length w.air + 1
    long = count ∙ ap length pushed ∙ length_push w.air (frame_bytes f)

    same_frame : (g : Frame) → Some g ≡ Some f → g ≡ f
    same_frame g q = cc

    of_tap : (o : Option RecordValue) → slice_get x.waiting (x.cursor - x.base) ≡ o → Answers w.scheme (record (shape w) { devices = λ e. entry (position_of_device w.scheme e) (set w.devices k new); air = air }) (send w.scheme s d) (Sent n link)
    of_tap None place = let none : None ≡ Some f = ap (option_map frame.Tapped) (sym place) ∙ next in absurd (cc)
    of_tap (Some r) place =
        let tap : frame.Tapped r ≡ f = same_frame (frame.Tapped r) (ap (option_map frame.Tapped) (sym place) ∙ next) in
        let sent_bytes : w.air ++ frame_bytes (frame.Tapped r) ∷ [] ≡ air = ap (λ g. w.air ++ frame_bytes g ∷ []) tap ∙ sym pushed in
        subst (λ (q : (ℕ → Option DeviceValue) × List (List ℕ) × ℕ). Answers w.scheme (record (shape w) { devices = q.0; air = q.1 }) (send w.scheme s d) (Sent n q.2))
        (λ i. (sym (device_write w d k new at within) i, sent_bytes i, sym same_link i))
        (subst (λ (y : DeviceValue). Answers w.scheme (record (shape w) { devices = put (shape w).devices d (Some y); air = w.air ++ frame_bytes (frame.Tapped r) ∷ [] }) (send w.scheme s d) (Sent n (x.cursor + 1))) (sym is)
        (shown_send w.scheme (shape w) s d k x r n sh at (device_read w d k x at within e) place (subst IsFrame (sym tap) lawful) long))

pub world_idle : (w : Seen) (s : System) (d k : ℕ) (x new : DeviceValue) (air : List (List ℕ)) → Shows w.scheme (shape w) s → position_of_device w.scheme d ≡ Some k → k < length w.devices → x ≡ get_or w.devices k x → x.cursor ≡ last_link x → new ≡ x → air ≡ w.air
    → Answers w.scheme (record (shape w) { devices = λ e. entry (position_of_device w.scheme e) (set w.devices k new); air = air }) (send w.scheme s d) Idle
world_idle w s d k x new air sh at within e all same kept =
    subst (λ (q : (ℕ → Option DeviceValue) × List (List ℕ)). Answers w.scheme (record (shape w) { devices = q.0; air = q.1 }) (send w.scheme s d) Idle) (λ i. (sym (device_same w k x new e same) i, sym kept i))
    (shown_idle w.scheme (shape w) s d k x sh at (device_read w d k x at within e) all)
