-- What a world shows after its parts changed.
use Rattle.std.proofs.Common.{◌≡◌, ℕ, zero, suc, ◌+◌, ◌-◌, ◌<◌, ◌≤◌, List, [], ◌∷◌, ◌++◌, length, take, drop, Some, None, Bool, true, false, refl, sym, ap, ◌∙◌, subst, arith, length-drop, inl, inr}
use Rattle.std.specs.Prelude.{◌==◌, nat_eq, position, slice_get, if◌then◌else◌, Option, IfSome, is_some}
use Rattle.std.proofs.lemmas.Bool.Decides.{Decides-eqb}
use Rattle.std.proofs.Math.Seq.{take-length}
use Rattle.fare_record.specs.Values.{RecordValue, StatementValue, AckValue, DayAckValue, HelloValue}
use Rattle.fare_record.specs.Lanes.{part, day_count}
use Rattle.fare_record.specs.declared.item.Item.{Item}
use Rattle.fare_record.specs.declared.item.Item.TheVariants as item
use Rattle.fare_scheme.specs.Values.{SchemeValue}
use Rattle.fare_scheme.specs.Words.{station_of, position_of_owner}
use Rattle.fare_collector.specs.Collecting.{is_id}
use Rattle.fare_device.specs.DeviceWords.{DeviceValue, last_link}
use Rattle.fare_device.specs.Numbered.{HasNumbered}
use Rattle.fare_event.specs.declared.reply.Reply.{Reply}
use Rattle.fare_frame.specs.Grammar.{frame_bytes, IsFrame, tap_of, statement_of, ack_of, day_ack_of}
use Rattle.fare_frame.specs.declared.frame.Frame.{Frame}
use Rattle.fare_frame.specs.declared.frame.Frame.TheVariants as frame
use Rattle.fare_store.specs.Tables.{put}
use Rattle.fare_world.specs.System.{Packet, Tapped, Stated, Acked, DayAcked, Arrived, Tap_of, Statement_of, Answer, Routed, Lane_of, Day_of, DeviceState, OwnerState, LaneState, System, numbered_for, arrived_of}
use Rattle.fare_world.specs.Packets.{IsRead}
use Rattle.fare_world.specs.Kept.{IsNumbered, IsDevice, IsSystem}
use Rattle.fare_world.specs.Shown.{IsAt, IsStatementOf, count_of, IsPacketOf, IsArrivedOf, IsRoutedOf, IsDeviceOf, IsStationOf, IsOwnerOf, StationShape, OwnerShape, Shape, Shows, row_at}
use Rattle.fare_world.proofs.Places.{slice_get-push_cases, slice_get-front}
use Rattle.fare_world.proofs.Lanes.{day_count-other}
use Rattle.fare_world.proofs.Lists.{Each2-weaken, Both-weaken, IfSome-weaken, take-one_more, part-push}
use Rattle.fare_side.proofs.Positions.{element_at}
use Rattle.fare_store.proofs.Entries.{if_all, put_all, put_apart, put_both}

-- the reply and the system of a step
pub record Answers (sc : SchemeValue) (h : Shape) (y : System × Reply) (r : Reply) : Type 0 where
  pub reply : r ≡ y.1
  pub shows : Shows sc h y.0

pub answers_by : (sc : SchemeValue) (h : Shape) (r : Reply) (y z : System × Reply) → y ≡ z → r ≡ z.1 → Shows sc h z.0 → Answers sc h y r
answers_by sc h r y z e same w = subst (λ q. Answers sc h q r) (sym e) (record { reply = same; shows = w })

-- what stands at a number stays, and so does the count of a turned day, where the devices have what they had, and maybe more
pub record GrowsAt (f g : ℕ → DeviceState) : Type 0 where
  pub link : (d k : ℕ) (r : RecordValue) → IsAt (f d).taps k r → IsAt (g d).taps k r
  pub lane : (o d k : ℕ) (r : RecordValue) → IsAt (part o (f d).taps) k r → IsAt (part o (g d).taps) k r
  pub day : (d : ℕ) → (f d).day ≤ (g d).day
  pub count : (o d day : ℕ) → day < (f d).day → day_count (part o (g d).taps) day ≡ day_count (part o (f d).taps) day

is_at_push : (rs : List RecordValue) (q : RecordValue) (k : ℕ) (r : RecordValue) → IsAt rs k r → IsAt (rs ++ q ∷ []) k r
is_at_push rs q k r h = record { positive = h.positive; here = slice_get-front rs (q ∷ []) (k - 1) r h.here }

-- one tap of the open day more
pub grows_by_tap : (s : System) (d : ℕ) (v : DeviceState) (q : RecordValue) → v.taps ≡ (s.devices d).taps ++ q ∷ [] → v.day ≡ (s.devices d).day → q.tap.day ≡ (s.devices d).day → GrowsAt s.devices (put s.devices d v)
grows_by_tap s d v q e day dated = record {
  link = put_all (λ j a. (k : ℕ) (r : RecordValue) → IsAt (s.devices j).taps k r → IsAt a.taps k r) s.devices d v (λ j k r h. h)
      (λ k r h. subst (λ l. IsAt l k r) (sym e) (is_at_push (s.devices d).taps q k r h));
  lane = λ o. put_all (λ j a. (k : ℕ) (r : RecordValue) → IsAt (part o (s.devices j).taps) k r → IsAt (part o a.taps) k r) s.devices d v (λ j k r h. h)
      (λ k r h. subst (λ l. IsAt (part o l) k r) (sym e) (more o k r h));
  day = put_all (λ j a. (s.devices j).day ≤ a.day) s.devices d v (λ j. omega arith) (omega (arith, day));
  count = λ o. put_all (λ j a. (k : ℕ) → k < (s.devices j).day → day_count (part o a.taps) k ≡ day_count (part o (s.devices j).taps) k) s.devices d v (λ j k lt. refl)
      (λ k lt. ap (λ l. day_count (part o l) k) e ∙ same o k lt);
}
  where
    more : (o k : ℕ) (r : RecordValue) → IsAt (part o (s.devices d).taps) k r → IsAt (part o ((s.devices d).taps ++ q ∷ [])) k r
    more o k r h =
        let rs = part o (s.devices d).taps in
        if_all (q.owner == o) (λ l. part o ((s.devices d).taps ++ q ∷ []) ≡ l → IsAt (part o ((s.devices d).taps ++ q ∷ [])) k r) (rs ++ q ∷ []) rs
        (λ _ f. subst (λ l. IsAt l k r) (sym f) (is_at_push rs q k r h)) (λ _ f. subst (λ l. IsAt l k r) (sym f) h) (part-push o (s.devices d).taps q)

    same : (o k : ℕ) → k < (s.devices d).day → day_count (part o ((s.devices d).taps ++ q ∷ [])) k ≡ day_count (part o (s.devices d).taps) k
    same o k lt =
        let rs = part o (s.devices d).taps in
        if_all (q.owner == o) (λ l. part o ((s.devices d).taps ++ q ∷ []) ≡ l → day_count (part o ((s.devices d).taps ++ q ∷ [])) k ≡ day_count rs k) (rs ++ q ∷ []) rs
        (λ _ f. ap (λ l. day_count l k) f ∙ day_count-other rs q k (λ is. absurd (omega (arith, is, dated, lt)))) (λ _ f. ap (λ l. day_count l k) f) (part-push o (s.devices d).taps q)

-- the same taps everywhere
pub grows_same : (f g : ℕ → DeviceState) → ((d : ℕ) → (g d).taps ≡ (f d).taps) → ((d : ℕ) → (f d).day ≤ (g d).day) → GrowsAt f g
grows_same f g same day = record {
  link = λ d k r h. subst (λ l. IsAt l k r) (sym (same d)) h;
  lane = λ o d k r h. subst (λ l. IsAt (part o l) k r) (sym (same d)) h;
  day = day;
  count = λ o d k lt. ap (λ l. day_count (part o l) k) (same d);
}

-- the same taps
pub grows_by_none : (s : System) (d : ℕ) (v : DeviceState) → v.taps ≡ (s.devices d).taps → (s.devices d).day ≤ v.day → GrowsAt s.devices (put s.devices d v)
grows_by_none s d v e day =
    grows_same s.devices (put s.devices d v) (put_all (λ j a. a.taps ≡ (s.devices j).taps) s.devices d v (λ j. refl) e) (put_all (λ j a. (s.devices j).day ≤ a.day) s.devices d v (λ j. omega arith) day)

-- a statement keeps its count
pub statement_grows : (f g : ℕ → DeviceState) → GrowsAt f g → (d day o : ℕ) (x : StatementValue) → IsStatementOf f d day o x → IsStatementOf g d day o x
statement_grows f g up d day o x h = record {
  past = omega (arith, h.past, up.day d);
  is = h.is ∙ (λ i. record { device = d; day = day; owner = o; count = sym (up.count o d day h.past) i });
}

pub packet_grows : (f g : ℕ → DeviceState) → GrowsAt f g → (x : Packet) (bytes : List ℕ) → IsPacketOf f x bytes → IsPacketOf g x bytes
packet_grows f g up (Tapped d k) bytes h = record { tap = h.tap; at = up.link d k h.tap h.at; lawful = h.lawful; spelled = h.spelled }
packet_grows f g up (Stated d day o) bytes h = record { statement = h.statement; of = statement_grows f g up d day o h.statement h.of; lawful = h.lawful; spelled = h.spelled }
packet_grows f g up (Acked d u) bytes h = record { lawful = h.lawful; spelled = h.spelled }
packet_grows f g up (DayAcked d day) bytes h = record { lawful = h.lawful; spelled = h.spelled }

pub arrived_grows : (f g : ℕ → DeviceState) → GrowsAt f g → (x : Arrived) (y : Item) → IsArrivedOf f x y → IsArrivedOf g x y
arrived_grows f g up (Tap_of d k) (item.Tap r) h = up.link d k r h
arrived_grows f g up (Tap_of d k) (item.Stated y) h = h
arrived_grows f g up (Statement_of d day o) (item.Tap r) h = h
arrived_grows f g up (Statement_of d day o) (item.Stated y) h = statement_grows f g up d day o y h

pub routed_grows : (f g : ℕ → DeviceState) → GrowsAt f g → (o : ℕ) (x : Routed) (y : Item) → IsRoutedOf f o x y → IsRoutedOf g o x y
routed_grows f g up o (Lane_of d k) (item.Tap r) h = up.lane o d k r h
routed_grows f g up o (Lane_of d k) (item.Stated y) h = h
routed_grows f g up o (Day_of d day) (item.Tap r) h = h
routed_grows f g up o (Day_of d day) (item.Stated y) h = statement_grows f g up d day o y h

-- a count of a statement that is there stays where its day's does
pub count_same : (b : Bool) (xs ys : List RecordValue) (day : ℕ) → (b ≡ true → day_count ys day ≡ day_count xs day) → count_of b xs day ≡ count_of b ys day
count_same true xs ys day same = ap Some (sym (same refl))
count_same false xs ys day same = refl

-- a held statement is of a turned day
pub held_past : (sc : SchemeValue) (s : System) → IsSystem sc s → (o d day : ℕ) → s.held o d day ≡ true → day < (s.devices d).day
held_past sc s is o d day e = (is.held o d day e).turned.past

-- and so is one that was taken
pub stated_past : (sc : SchemeValue) (s : System) → IsSystem sc s → (o d day : ℕ) → (s.lanes o d).stated day ≡ true → day < (s.devices d).day
stated_past sc s is o d day e = held_past sc s is o d day ((is.lanes o d).stated day e)

-- an owner, where the devices alone change
pub owner_grows : (sc : SchemeValue) (s : System) (g : ℕ → DeviceState) → IsSystem sc s → GrowsAt s.devices g → ((o d : ℕ) → take (s.lanes o d).took (part o (g d).taps) ≡ take (s.lanes o d).took (numbered_for s o d)) → (o : ℕ) (x : OwnerShape) → IsOwnerOf sc s.devices o (s.owners o) (s.lanes o) x → IsOwnerOf sc g o (s.owners o) (s.lanes o) x
owner_grows sc s g is up took o x w = record {
  ledger = w.ledger;
  taken = λ d. w.taken d ∙ sym (took o d);
  stated = λ d day. w.stated d day ∙ count_same ((s.lanes o d).stated day) (numbered_for s o d) (part o (g d).taps) day (λ e. up.count o d day (stated_past sc s is o d day e));
  closed = w.closed;
  retired = w.retired;
  queue = Each2-weaken (IsRoutedOf s.devices o) (IsRoutedOf g o) (routed_grows s.devices g up o) (s.owners o).queue x.queue w.queue;
  hand = Both-weaken (IsRoutedOf s.devices o) (IsRoutedOf g o) (routed_grows s.devices g up o) (s.owners o).hand x.hand w.hand;
  cursors = w.cursors;
}

-- a station, where its devices' next links are the same
pub station_same : (sc : SchemeValue) (f g : ℕ → DeviceState) → ((d : ℕ) → (g d).next ≡ (f d).next) → (station : ℕ) (line : List Answer) (x : StationShape) → IsStationOf sc f station line x → IsStationOf sc g station line x
station_same sc f g same station line x w = record {
  nexts = λ d. w.nexts d ∙ ap (λ n. if is_id (station_of sc d) station then Some n else None) (sym (same d));
  waits = w.waits;
}

-- all stations
pub stations_same : (sc : SchemeValue) (h : Shape) (s : System) (g : ℕ → DeviceState) → ((d : ℕ) → (g d).next ≡ (s.devices d).next) → Shows sc h s → (station : ℕ) → IfSome (h.stations station) (IsStationOf sc g station (s.lines station))
stations_same sc h s g same w station =
    IfSome-weaken (IsStationOf sc s.devices station (s.lines station)) (IsStationOf sc g station (s.lines station)) (station_same sc s.devices g same station (s.lines station)) (h.stations station) (w.stations station)

-- what is seen where the devices alone change, and the outbox has had what it had
pub shows_devices : (sc : SchemeValue) (h : Shape) (s : System) (g : ℕ → DeviceState) (devices : ℕ → Option DeviceValue) (stations : ℕ → Option StationShape) → Shows sc h s → IsSystem sc (record s { devices = g }) → GrowsAt s.devices g
    → ((d : ℕ) → IfSome (devices d) (IsDeviceOf sc d (g d))) → ((station : ℕ) → IfSome (stations station) (IsStationOf sc g station (s.lines station)))
    → ((d : ℕ) → (g d).upto ≡ (s.devices d).upto) → ((o d : ℕ) → arrived_of o (g d) ≡ arrived_of o (s.devices d))
    → ((o d : ℕ) → take (s.lanes o d).took (part o (g d).taps) ≡ take (s.lanes o d).took (numbered_for s o d))
    → Shows sc (record h { devices = devices; stations = stations }) (record s { devices = g })
shows_devices sc h s g devices stations w is up each station upto arrived took = record {
  system = is;
  devices = each;
  stations = station;
  air = Each2-weaken (IsPacketOf s.devices) (IsPacketOf g) (packet_grows s.devices g up) s.air h.air w.air;
  inbox = Each2-weaken (IsArrivedOf s.devices) (IsArrivedOf g) (arrived_grows s.devices g up) s.inbox h.inbox w.inbox;
  hand = Both-weaken (IsArrivedOf s.devices) (IsArrivedOf g) (arrived_grows s.devices g up) s.hand h.hand w.hand;
  upto = λ d. w.upto d ∙ sym (upto d);
  rows = λ o d l. w.rows o d l ∙ ap (λ rs. row_at (s.lanes o d).gone rs l) (sym (arrived o d));
  row_count = w.row_count;
  stated = λ o d day. w.stated o d day ∙ count_same (s.held o d day) (numbered_for s o d) (part o (g d).taps) day (λ e. up.count o d day (held_past sc s w.system o d day e));
  stated_count = w.stated_count;
  owners = λ o. IfSome-weaken (IsOwnerOf sc s.devices o (s.owners o) (s.lanes o)) (IsOwnerOf sc g o (s.owners o) (s.lanes o)) (owner_grows sc s g w.system up took o) (h.owners o) (w.owners o);
}

-- the same where one device alone changes, and neither its taps nor what the outbox has had of them
pub shows_device : (sc : SchemeValue) (h : Shape) (s : System) (d : ℕ) (v : DeviceState) (devices : ℕ → Option DeviceValue) (stations : ℕ → Option StationShape) → Shows sc h s → IsSystem sc (record s { devices = put s.devices d v }) → v.taps ≡ (s.devices d).taps → v.upto ≡ (s.devices d).upto → (s.devices d).day ≤ v.day
    → ((j : ℕ) → IfSome (devices j) (IsDeviceOf sc j (put s.devices d v j))) → ((station : ℕ) → IfSome (stations station) (IsStationOf sc (put s.devices d v) station (s.lines station)))
    → Shows sc (record h { devices = devices; stations = stations }) (record s { devices = put s.devices d v })
shows_device sc h s d v devices stations w is taps upto day each station =
    shows_devices sc h s (put s.devices d v) devices stations w is (grows_by_none s d v taps day) each station
    (put_all (λ j a. a.upto ≡ (s.devices j).upto) s.devices d v (λ j. refl) upto)
    (λ o. put_all (λ j a. arrived_of o a ≡ arrived_of o (s.devices j)) s.devices d v (λ j. refl) (λ i. part o (take (upto i) (taps i))))
    (λ o. put_all (λ j a. take (s.lanes o j).took (part o a.taps) ≡ take (s.lanes o j).took (numbered_for s o j)) s.devices d v (λ j. refl) (ap (λ l. take (s.lanes o d).took (part o l)) taps))

-- a device that means what it meant
pub same_device : (sc : SchemeValue) (d : ℕ) (v after : DeviceState) (o : Option DeviceValue) → after.taps ≡ v.taps → after.base ≡ v.base → after.cursor ≡ v.cursor → after.day ≡ v.day → after.waiting ≡ v.waiting → IfSome o (IsDeviceOf sc d v) → IfSome o (IsDeviceOf sc d after)
same_device sc d v after None taps base cursor day waiting e = tt
same_device sc d v after (Some x) taps base cursor day waiting e = record {
  id = e.id;
  day = e.day ∙ sym day;
  room = e.room;
  base = e.base ∙ sym base;
  cursor = e.cursor ∙ sym cursor;
  owners = e.owners;
  days = e.days ∙ sym waiting;
  numbered = subst (λ l. HasNumbered l x) (sym taps) e.numbered;
}

-- what is seen where one station's line alone changes
pub shows_line : (sc : SchemeValue) (h : Shape) (s : System) (station : ℕ) (line : List Answer) (x : StationShape) → Shows sc h s → IsSystem sc (record s { lines = put s.lines station line }) → IsStationOf sc s.devices station line x
    → Shows sc (record h { stations = put h.stations station (Some x) }) (record s { lines = put s.lines station line })
shows_line sc h s station line x w is here = record {
  system = is;
  devices = w.devices;
  stations = put_both (λ j a l. IfSome a (IsStationOf sc s.devices j l)) h.stations s.lines station (Some x) line w.stations here;
  air = w.air;
  inbox = w.inbox;
  hand = w.hand;
  upto = w.upto;
  rows = w.rows;
  row_count = w.row_count;
  stated = w.stated;
  stated_count = w.stated_count;
  owners = w.owners;
}

pub put_other : {A : Type 0} (f : ℕ → A) (k : ℕ) (v : A) (j : ℕ) → (j == k) ≡ false → put f k v j ≡ f j
put_other f k v j apart = ap (λ b. if b then v else f j) apart

-- what is seen where one owner and its lanes change
pub shows_owner : (sc : SchemeValue) (h : Shape) (s : System) (o : ℕ) (owners : ℕ → OwnerState) (lanes : ℕ → ℕ → LaneState) (x : OwnerShape) → Shows sc h s → IsSystem sc (record s { owners = owners; lanes = lanes })
    → ((j : ℕ) → (j == o) ≡ false → owners j ≡ s.owners j) → ((j : ℕ) → (j == o) ≡ false → lanes j ≡ s.lanes j) → ((j d : ℕ) → (lanes j d).gone ≡ (s.lanes j d).gone) → IsOwnerOf sc s.devices o (owners o) (lanes o) x
    → Shows sc (record h { owners = put h.owners o (Some x) }) (record s { owners = owners; lanes = lanes })
shows_owner sc h s o owners lanes x w is other_owners other_lanes gone here = record {
  system = is;
  devices = w.devices;
  stations = w.stations;
  air = w.air;
  inbox = w.inbox;
  hand = w.hand;
  upto = w.upto;
  rows = λ j d l. w.rows j d l ∙ ap (λ n. row_at n (arrived_of j (s.devices d)) l) (sym (gone j d));
  row_count = w.row_count;
  stated = w.stated;
  stated_count = w.stated_count;
  owners = put_apart (λ j a. IfSome a (IsOwnerOf sc s.devices j (owners j) (lanes j))) h.owners o (Some x)
      (λ j apart. subst (λ (q : OwnerState × (ℕ → LaneState)). IfSome (h.owners j) (IsOwnerOf sc s.devices j q.0 q.1)) (λ i. (sym (other_owners j apart) i, sym (other_lanes j apart) i)) (w.owners j))
      here;
}

-- READING
-- an option of which a test says that it is none
pub none_of : {A : Type 0} (o : Option A) → is_some o ≡ false → o ≡ None
none_of None e = refl
none_of (Some x) e = absurd (cc)

-- or that there is one
pub some_of : {A : Type 0} (o : Option A) → is_some o ≡ true → (x : A) × (o ≡ Some x)
some_of None e = absurd (cc)
some_of (Some x) e = (x, refl)

-- what waits in the device's buffer is what was not acknowledged
pub waits_behind : (sc : SchemeValue) (d : ℕ) (v : DeviceState) (x : DeviceValue) → IsDeviceOf sc d v x → x.waiting ≡ drop v.base v.taps
waits_behind sc d v x sd = sd.numbered.waiting ∙ ap (λ n. drop n v.taps) sd.base

-- an owner's lane of a device is as long as the owner's part of its taps
pub lane_counted : (sc : SchemeValue) (d : ℕ) (v : DeviceState) (x : DeviceValue) → IsDeviceOf sc d v x → (o place n : ℕ) → position_of_owner sc o ≡ Some place → slice_get x.lanes place ≡ Some n → n ≡ length (part o v.taps)
lane_counted sc d v x sd o place n at e = sd.numbered.lanes o place n (ap (position (nat_eq o)) sd.owners ∙ at) e

-- the taps that wait and those that were acknowledged are all taps
pub last_link_is : (sc : SchemeValue) (d : ℕ) (v : DeviceState) (x : DeviceValue) → IsDevice sc d v → IsDeviceOf sc d v x → last_link x ≡ length v.taps
last_link_is sc d v x is sd = omega (arith, ap length (waits_behind sc d v x sd), length-drop v.base v.taps, sd.base, is.base, is.cursor)

-- the device of an entry
pub device_shown : (sc : SchemeValue) (h : Shape) (s : System) (d : ℕ) (x : DeviceValue) → Shows sc h s → h.devices d ≡ Some x → IsDeviceOf sc d (s.devices d) x
device_shown sc h s d x w e = subst (λ a. IfSome a (IsDeviceOf sc d (s.devices d))) e (w.devices d)

-- the station of an entry
pub station_shown : (sc : SchemeValue) (h : Shape) (s : System) (station : ℕ) (x : StationShape) → Shows sc h s → h.stations station ≡ Some x → IsStationOf sc s.devices station (s.lines station) x
station_shown sc h s station x w e = subst (λ a. IfSome a (IsStationOf sc s.devices station (s.lines station))) e (w.stations station)

-- the owner of an entry
pub owner_shown : (sc : SchemeValue) (h : Shape) (s : System) (o : ℕ) (x : OwnerShape) → Shows sc h s → h.owners o ≡ Some x → IsOwnerOf sc s.devices o (s.owners o) (s.lanes o) x
owner_shown sc h s o x w e = subst (λ a. IfSome a (IsOwnerOf sc s.devices o (s.owners o) (s.lanes o))) e (w.owners o)

-- LANE NUMBERS
lane_of_next : (sc : SchemeValue) (d : ℕ) (taps : List RecordValue) → ((k : ℕ) (r : RecordValue) → slice_get taps k ≡ Some r → IsNumbered sc d taps k r) → (o n k : ℕ) (r q : RecordValue) → ((k : ℕ) (r : RecordValue) → slice_get (part o (take n taps)) k ≡ Some r → r.lane ≡ k + 1) → slice_get taps n ≡ Some q → slice_get (part o (take n taps ++ q ∷ [])) k ≡ Some r → r.lane ≡ k + 1
lane_of_next sc d taps all o n k r q before at f =
    if_all (q.owner == o) (λ l. part o (take n taps ++ q ∷ []) ≡ l → r.lane ≡ k + 1) (part o (take n taps) ++ q ∷ []) (part o (take n taps))
    (λ mine g.
    elim (slice_get-push_cases (part o (take n taps)) q k r (ap (λ l. slice_get l k) (sym g) ∙ f)) [
      | inl p ↦ before k r p
      | inr p ↦ ap (λ (z : RecordValue). z.lane) (sym p.1) ∙ (all n q at).lane ∙ ap (λ z. length (part z (take n taps)) + 1) ((Decides-eqb q.owner o).0 mine) ∙ ap (λ z. z + 1) (sym p.0)
    ])
    (λ other g. before k r (ap (λ l. slice_get l k) (sym g) ∙ f))
    (part-push o (take n taps) q)

-- an owner's part of a device's first taps has the lane numbers 1, 2, 3 and so on
pub lanes_of_part : (sc : SchemeValue) (d : ℕ) (taps : List RecordValue) → ((k : ℕ) (r : RecordValue) → slice_get taps k ≡ Some r → IsNumbered sc d taps k r) → (o n : ℕ) → n ≤ length taps → (k : ℕ) (r : RecordValue) → slice_get (part o (take n taps)) k ≡ Some r → r.lane ≡ k + 1
lanes_of_part sc d taps all o zero le k r e = absurd (cc)
lanes_of_part sc d taps all o (suc n) le k r e =
    let found = element_at taps n (omega arith) in
    let next : suc n ≡ n + 1 = omega arith in
    let more : take (suc n) taps ≡ take n taps ++ found.0 ∷ [] = ap (λ m. take m taps) next ∙ take-one_more taps n found.0 found.1 in
    lane_of_next sc d taps all o n k r found.0 (lanes_of_part sc d taps all o n (omega arith)) found.1 (ap (λ l. slice_get (part o l) k) (sym more) ∙ e)

part_head : (o : ℕ) (q : RecordValue) (rs : List RecordValue) (k : ℕ) (r : RecordValue) → ((k : ℕ) (r : RecordValue) → slice_get (part o rs) k ≡ Some r → (j : ℕ) × (slice_get rs j ≡ Some r) × (r.owner ≡ o)) → slice_get (q ∷ part o rs) k ≡ Some r → q.owner ≡ o → (j : ℕ) × (slice_get (q ∷ rs) j ≡ Some r) × (r.owner ≡ o)
part_head o q rs zero r before f mine = let same : q ≡ r = cc in (0, f, ap (λ (z : RecordValue). z.owner) (sym same) ∙ mine)
part_head o q rs (suc n) r before f mine = let found = before n r f in (suc found.0, found.1, found.2)

-- a record of an owner's part is one of the list, and the owner's
pub part_get : (o : ℕ) (rs : List RecordValue) (k : ℕ) (r : RecordValue) → slice_get (part o rs) k ≡ Some r → (j : ℕ) × (slice_get rs j ≡ Some r) × (r.owner ≡ o)
part_get o [] k r e = absurd (cc)
part_get o (q ∷ rs) k r e =
    if_all (q.owner == o) (λ l. part o (q ∷ rs) ≡ l → (j : ℕ) × (slice_get (q ∷ rs) j ≡ Some r) × (r.owner ≡ o)) (q ∷ part o rs) (part o rs)
    (λ mine g. part_head o q rs k r (part_get o rs) (ap (λ l. slice_get l k) (sym g) ∙ e) ((Decides-eqb q.owner o).0 mine))
    (λ other g. let found = part_get o rs k r (ap (λ l. slice_get l k) (sym g) ∙ e) in (suc found.0, found.1, found.2))
    refl

-- WHICH TAP A RECORD IS
-- the tap of a device and a link is the record with these numbers
pub record IsTapOf (s : System) (d k : ℕ) (r : RecordValue) : Type 0 where
  pub device : r.device ≡ d
  pub link : r.link ≡ k
  pub here : slice_get (s.devices d).taps (k - 1) ≡ Some r
  pub positive : 1 ≤ k
  pub lane : r.lane ≡ length (part r.owner (take (k - 1) (s.devices d).taps)) + 1

pub tap_at : (sc : SchemeValue) (s : System) (d k : ℕ) (r : RecordValue) → IsSystem sc s → IsAt (s.devices d).taps k r → IsTapOf s d k r
tap_at sc s d k r is at =
    let all = (is.devices d).numbered (k - 1) r at.here in
    record { device = all.of_device; link = omega (arith, all.link, at.positive); here = at.here; positive = at.positive; lane = all.lane }

-- the tap of a device and an owner's lane number is the record with these
pub record IsLaneTapOf (s : System) (o d n : ℕ) (r : RecordValue) : Type 0 where
  pub device : r.device ≡ d
  pub owner : r.owner ≡ o
  pub lane : r.lane ≡ n
  pub here : slice_get (numbered_for s o d) (n - 1) ≡ Some r
  pub positive : 1 ≤ n

pub lane_tap_at : (sc : SchemeValue) (s : System) (o d n : ℕ) (r : RecordValue) → IsSystem sc s → IsAt (numbered_for s o d) n r → IsLaneTapOf s o d n r
lane_tap_at sc s o d n r is at =
    let taps = (s.devices d).taps in
    let all = (is.devices d).numbered in
    let among = part_get o taps (n - 1) r at.here in
    let whole : part o (take (length taps) taps) ≡ part o taps = ap (part o) (take-length taps) in
    let lane = lanes_of_part sc d taps all o (length taps) (omega arith) (n - 1) r (ap (λ l. slice_get l (n - 1)) whole ∙ at.here) in
    record { device = (all among.0 r among.1).of_device; owner = among.2; lane = omega (arith, lane, at.positive); here = at.here; positive = at.positive }

-- WHAT IS ON ITS WAY
-- the frame of a packet
abbrev IsFrameOf : (ℕ → DeviceState) → Packet → Frame → Type 0
IsFrameOf f (Tapped d k) (frame.Tapped r) = IsAt (f d).taps k r
IsFrameOf f (Stated d day o) (frame.Stated x) = IsStatementOf f d day o x
IsFrameOf f (Acked d u) (frame.Acked a) = a ≡ record { device = d; upto = u }
IsFrameOf f (DayAcked d day) (frame.DayAcked a) = a ≡ record { device = d; day = day }
IsFrameOf f x y = ⊥

same_frame : (f g : Frame) → Some f ≡ Some g → f ≡ g
same_frame f g e = cc

same_record : (q r : RecordValue) → Some q ≡ Some r → q ≡ r
same_record q r e = cc

same_statement : (q r : StatementValue) → Some q ≡ Some r → q ≡ r
same_statement q r e = cc

same_ack : (q r : AckValue) → Some q ≡ Some r → q ≡ r
same_ack q r e = cc

same_day_ack : (q r : DayAckValue) → Some q ≡ Some r → q ≡ r
same_day_ack q r e = cc

-- a packet from which a frame was read is that frame's
frame_found : (f : ℕ → DeviceState) (x : Packet) (bytes : List ℕ) (y : Frame) → IsPacketOf f x bytes → IsRead bytes (Some y) → IsFrameOf f x y
frame_found f (Tapped d k) bytes y of read = subst (IsFrameOf f (Tapped d k)) (sym (same_frame y (frame.Tapped of.tap) (read (frame.Tapped of.tap) of.lawful of.spelled))) of.at
frame_found f (Stated d day o) bytes y of read = subst (IsFrameOf f (Stated d day o)) (sym (same_frame y (frame.Stated of.statement) (read (frame.Stated of.statement) of.lawful of.spelled))) of.of
frame_found f (Acked d u) bytes y of read =
    let is : Frame = frame.Acked (record { device = d; upto = u }) in
    subst (IsFrameOf f (Acked d u)) (sym (same_frame y is (read is of.lawful of.spelled))) refl
frame_found f (DayAcked d day) bytes y of read =
    let is : Frame = frame.DayAcked (record { device = d; day = day }) in
    subst (IsFrameOf f (DayAcked d day)) (sym (same_frame y is (read is of.lawful of.spelled))) refl

-- a packet is some frame's bytes
pub frame_there : (f : ℕ → DeviceState) (x : Packet) (bytes : List ℕ) → IsPacketOf f x bytes → (y : Frame) × IsFrame y × (bytes ≡ frame_bytes y)
frame_there f (Tapped d k) bytes of = (frame.Tapped of.tap, of.lawful, of.spelled)
frame_there f (Stated d day o) bytes of = (frame.Stated of.statement, of.lawful, of.spelled)
frame_there f (Acked d u) bytes of = (frame.Acked (record { device = d; upto = u }), of.lawful, of.spelled)
frame_there f (DayAcked d day) bytes of = (frame.DayAcked (record { device = d; day = day }), of.lawful, of.spelled)

-- which frame it is, by what it has
tap_is : (y : Frame) (r : RecordValue) → tap_of y ≡ Some r → y ≡ frame.Tapped r
tap_is (frame.Tapped q) r e = ap frame.Tapped (same_record q r e)
tap_is (frame.Stated q) r e = absurd (cc)
tap_is (frame.Acked q) r e = absurd (cc)
tap_is (frame.DayAcked q) r e = absurd (cc)
tap_is (frame.Greeted q) r e = absurd (cc)

statement_is : (y : Frame) (r : StatementValue) → statement_of y ≡ Some r → y ≡ frame.Stated r
statement_is (frame.Tapped q) r e = absurd (cc)
statement_is (frame.Stated q) r e = ap frame.Stated (same_statement q r e)
statement_is (frame.Acked q) r e = absurd (cc)
statement_is (frame.DayAcked q) r e = absurd (cc)
statement_is (frame.Greeted q) r e = absurd (cc)

ack_is : (y : Frame) (r : AckValue) → ack_of y ≡ Some r → y ≡ frame.Acked r
ack_is (frame.Tapped q) r e = absurd (cc)
ack_is (frame.Stated q) r e = absurd (cc)
ack_is (frame.Acked q) r e = ap frame.Acked (same_ack q r e)
ack_is (frame.DayAcked q) r e = absurd (cc)
ack_is (frame.Greeted q) r e = absurd (cc)

day_ack_is : (y : Frame) (r : DayAckValue) → day_ack_of y ≡ Some r → y ≡ frame.DayAcked r
day_ack_is (frame.Tapped q) r e = absurd (cc)
day_ack_is (frame.Stated q) r e = absurd (cc)
day_ack_is (frame.Acked q) r e = absurd (cc)
day_ack_is (frame.DayAcked q) r e = ap frame.DayAcked (same_day_ack q r e)
day_ack_is (frame.Greeted q) r e = absurd (cc)

-- a packet from which a tap was read is that tap's
pub packet_is : (sc : SchemeValue) (s : System) (x : Packet) (bytes : List ℕ) (y : Frame) (r : RecordValue) → IsSystem sc s → IsPacketOf s.devices x bytes → IsRead bytes (Some y) → tap_of y ≡ Some r → (x ≡ Tapped r.device r.link) × IsAt (s.devices r.device).taps r.link r
packet_is sc s x bytes y r is of read tapped = by x (subst (IsFrameOf s.devices x) (tap_is y r tapped) (frame_found s.devices x bytes y of read))
  where
    by : (x : Packet) → IsFrameOf s.devices x (frame.Tapped r) → (x ≡ Tapped r.device r.link) × IsAt (s.devices r.device).taps r.link r
    by (Tapped d k) at =
        let t = tap_at sc s d k r is at in
        ((λ i. Tapped (sym t.device i) (sym t.link i)), subst (λ (q : ℕ × ℕ). IsAt (s.devices q.0).taps q.1 r) (λ i. (sym t.device i, sym t.link i)) at)
    by (Stated d day o) at = absurd at
    by (Acked d u) at = absurd at
    by (DayAcked d day) at = absurd at

-- the numbers of a statement are its packet's
stated_by : (f : ℕ → DeviceState) (d day o : ℕ) (x : StatementValue) → IsStatementOf f d day o x → (Stated d day o ≡ Stated x.device x.day x.owner) × IsStatementOf f x.device x.day x.owner x
stated_by f d day o x h =
    let device : x.device ≡ d = ap (λ (q : StatementValue). q.device) h.is in
    let on : x.day ≡ day = ap (λ (q : StatementValue). q.day) h.is in
    let owner : x.owner ≡ o = ap (λ (q : StatementValue). q.owner) h.is in
    ((λ i. Stated (sym device i) (sym on i) (sym owner i)), subst (λ (q : ℕ × ℕ × ℕ). IsStatementOf f q.0 q.1 q.2 x) (λ i. (sym device i, sym on i, sym owner i)) h)

-- one from which a statement was read is that statement's
pub packet_states : (f : ℕ → DeviceState) (x : Packet) (bytes : List ℕ) (y : Frame) (r : StatementValue) → IsPacketOf f x bytes → IsRead bytes (Some y) → statement_of y ≡ Some r → (x ≡ Stated r.device r.day r.owner) × IsStatementOf f r.device r.day r.owner r
packet_states f x bytes y r of read stated = by x (subst (IsFrameOf f x) (statement_is y r stated) (frame_found f x bytes y of read))
  where
    by : (x : Packet) → IsFrameOf f x (frame.Stated r) → (x ≡ Stated r.device r.day r.owner) × IsStatementOf f r.device r.day r.owner r
    by (Tapped d k) at = absurd at
    by (Stated d day o) at = stated_by f d day o r at
    by (Acked d u) at = absurd at
    by (DayAcked d day) at = absurd at

-- and one from which an acknowledgement was read, that acknowledgement's
pub packet_acks : (f : ℕ → DeviceState) (x : Packet) (bytes : List ℕ) (y : Frame) (a : AckValue) → IsPacketOf f x bytes → IsRead bytes (Some y) → ack_of y ≡ Some a → x ≡ Acked a.device a.upto
packet_acks f x bytes y a of read acked = by x (subst (IsFrameOf f x) (ack_is y a acked) (frame_found f x bytes y of read))
  where
    by : (x : Packet) → IsFrameOf f x (frame.Acked a) → x ≡ Acked a.device a.upto
    by (Tapped d k) at = absurd at
    by (Stated d day o) at = absurd at
    by (Acked d u) at = ap (λ (z : AckValue). Acked z.device z.upto) (sym at)
    by (DayAcked d day) at = absurd at

pub packet_acks_day : (f : ℕ → DeviceState) (x : Packet) (bytes : List ℕ) (y : Frame) (a : DayAckValue) → IsPacketOf f x bytes → IsRead bytes (Some y) → day_ack_of y ≡ Some a → x ≡ DayAcked a.device a.day
packet_acks_day f x bytes y a of read acked = by x (subst (IsFrameOf f x) (day_ack_is y a acked) (frame_found f x bytes y of read))
  where
    by : (x : Packet) → IsFrameOf f x (frame.DayAcked a) → x ≡ DayAcked a.device a.day
    by (Tapped d k) at = absurd at
    by (Stated d day o) at = absurd at
    by (Acked d u) at = absurd at
    by (DayAcked d day) at = ap (λ (z : DayAckValue). DayAcked z.device z.day) (sym at)

-- a frame that was read has one of the four
pub packet_has : (f : ℕ → DeviceState) (x : Packet) (bytes : List ℕ) (y : Frame) → IsPacketOf f x bytes → IsRead bytes (Some y) → tap_of y ≡ None → statement_of y ≡ None → ack_of y ≡ None → day_ack_of y ≡ None → ⊥
packet_has f x bytes y of read untapped unstated unacked undayed = by x y (frame_found f x bytes y of read) untapped unstated unacked undayed
  where
    greeted : (x : Packet) (q : HelloValue) → IsFrameOf f x (frame.Greeted q) → ⊥
    greeted (Tapped d k) q at = at
    greeted (Stated d day o) q at = at
    greeted (Acked d u) q at = at
    greeted (DayAcked d day) q at = at

    by : (x : Packet) (y : Frame) → IsFrameOf f x y → tap_of y ≡ None → statement_of y ≡ None → ack_of y ≡ None → day_ack_of y ≡ None → ⊥
    by x (frame.Tapped q) at a b c d = absurd (cc)
    by x (frame.Stated q) at a b c d = absurd (cc)
    by x (frame.Acked q) at a b c d = absurd (cc)
    by x (frame.DayAcked q) at a b c d = absurd (cc)
    by x (frame.Greeted q) at a b c d = greeted x q at

-- what a station gave the writer, by what it is
pub arrived_is : (sc : SchemeValue) (s : System) (x : Arrived) (r : RecordValue) → IsSystem sc s → IsArrivedOf s.devices x (item.Tap r) → (x ≡ Tap_of r.device r.link) × IsAt (s.devices r.device).taps r.link r
arrived_is sc s (Tap_of d k) r is at =
    let t = tap_at sc s d k r is at in
    ((λ i. Tap_of (sym t.device i) (sym t.link i)), subst (λ (q : ℕ × ℕ). IsAt (s.devices q.0).taps q.1 r) (λ i. (sym t.device i, sym t.link i)) at)
arrived_is sc s (Statement_of d day o) r is at = absurd at

pub arrived_states : (f : ℕ → DeviceState) (x : Arrived) (r : StatementValue) → IsArrivedOf f x (item.Stated r) → (x ≡ Statement_of r.device r.day r.owner) × IsStatementOf f r.device r.day r.owner r
arrived_states f (Tap_of d k) r at = absurd at
arrived_states f (Statement_of d day o) r at =
    let device : r.device ≡ d = ap (λ (q : StatementValue). q.device) at.is in
    let on : r.day ≡ day = ap (λ (q : StatementValue). q.day) at.is in
    let owner : r.owner ≡ o = ap (λ (q : StatementValue). q.owner) at.is in
    ((λ i. Statement_of (sym device i) (sym on i) (sym owner i)), (stated_by f d day o r at).1)

-- what the forwarder gave an owner, by what it is
pub routed_is : (sc : SchemeValue) (s : System) (o : ℕ) (x : Routed) (r : RecordValue) → IsSystem sc s → IsRoutedOf s.devices o x (item.Tap r) → (x ≡ Lane_of r.device r.lane) × (r.owner ≡ o) × IsAt (numbered_for s o r.device) r.lane r
routed_is sc s o (Lane_of d n) r is at =
    let t = lane_tap_at sc s o d n r is at in
    ((λ i. Lane_of (sym t.device i) (sym t.lane i)), t.owner, subst (λ (q : ℕ × ℕ). IsAt (numbered_for s o q.0) q.1 r) (λ i. (sym t.device i, sym t.lane i)) at)
routed_is sc s o (Day_of d day) r is at = absurd at

pub routed_states : (f : ℕ → DeviceState) (o : ℕ) (x : Routed) (r : StatementValue) → IsRoutedOf f o x (item.Stated r) → (x ≡ Day_of r.device r.day) × (r.owner ≡ o) × IsStatementOf f r.device r.day o r
routed_states f o (Lane_of d n) r at = absurd at
routed_states f o (Day_of d day) r at =
    let device : r.device ≡ d = ap (λ (q : StatementValue). q.device) at.is in
    let on : r.day ≡ day = ap (λ (q : StatementValue). q.day) at.is in
    let owner : r.owner ≡ o = ap (λ (q : StatementValue). q.owner) at.is in
    ((λ i. Day_of (sym device i) (sym on i)), owner, subst (λ (q : ℕ × ℕ). IsStatementOf f q.0 q.1 o r) (λ i. (sym device i, sym on i)) at)
