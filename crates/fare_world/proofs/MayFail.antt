-- Where an event may fail: a packet joins the air, or a store is asked.
use Rattle.std.proofs.Common.{◌≡◌, ◌≢◌, ℕ, ◌<◌, ◌≤◌, length, Some, None, true, refl, sym, ap, ◌∙◌, arith}
use Rattle.std.specs.Prelude.{◌&&◌, nat_lt, Option, is_some}
use Rattle.std.proofs.lemmas.Bool.Decides.{nat_tests}
use Rattle.fare_record.specs.declared.item.Item.{Item}
use Rattle.fare_scheme.specs.Values.{SchemeValue}
use Rattle.fare_scheme.specs.Words.{position_of_device, position_of_station, position_of_owner}
use Rattle.fare_device.specs.DeviceWords.{DeviceValue, last_link}
use Rattle.fare_event.specs.declared.event.Event.TheVariants as event
use Rattle.fare_world.specs.System.{System}
use Rattle.fare_world.specs.Steps.{may_fail}
use Rattle.fare_world.specs.Shown.{Both, IsArrivedOf, IsRoutedOf, IsDeviceOf, OwnerShape, StationShape, Shape, Shows}
use Rattle.fare_world.proofs.Showing.{device_shown, owner_shown, last_link_is}
use Rattle.fare_world.proofs.ShowLink.{line_length}
use Rattle.fare_world.proofs.ShowDays.{waits_in}
use Rattle.fare_device.specs.Turning.{is_waiting}

-- where the one is, the other is
both_there : {X Y : Type 0} (P : X → Y → Type 0) (x : Option X) (y : Option Y) → Both P x y → is_some y ≡ true → is_some x ≡ true
both_there P (Some x) y both there = refl
both_there P None (Some y) both there = absurd both
both_there P None None both there = absurd (cc)

below : (a b : ℕ) → a ≤ b → a ≢ b → nat_lt a b ≡ true
below a b le ne = grind (arith, nat_tests)

-- what two reads of a device say of its last link and of the one that was sent
pub unsent : (x y : DeviceValue) (sent last : ℕ) → x ≡ y → sent ≡ x.cursor → last ≡ last_link y → (sent ≢ last) → x.cursor ≢ last_link x
unsent x y sent last one is_sent is_last differ same =
    differ (is_sent ∙ same ∙ ap last_link one ∙ sym is_last)

pub all_sent : (x y : DeviceValue) (sent last : ℕ) → x ≡ y → sent ≡ x.cursor → last ≡ last_link y → sent ≡ last → x.cursor ≡ last_link x
all_sent x y sent last one is_sent is_last same = sym is_sent ∙ same ∙ is_last ∙ sym (ap last_link one)

pub send_may_fail : (sc : SchemeValue) (h : Shape) (s : System) (d k : ℕ) (x : DeviceValue) → Shows sc h s → position_of_device sc d ≡ Some k → h.devices d ≡ Some x → x.cursor ≢ last_link x → may_fail sc s (event.Send d) ≡ true
send_may_fail sc h s d k x w at here more = (λ i. is_some (at i) && unsent i)
  where
    shown : IsDeviceOf sc d (s.devices d) x
    shown = device_shown sc h s d x w here

    last : last_link x ≡ length (s.devices d).taps
    last = last_link_is sc d (s.devices d) x (w.system.devices d) shown

    apart : (s.devices d).cursor ≢ length (s.devices d).taps
    apart same = more (shown.cursor ∙ same ∙ sym last)

    unsent : nat_lt (s.devices d).cursor (length (s.devices d).taps) ≡ true
    unsent =
        let le : (s.devices d).cursor ≤ length (s.devices d).taps = (w.system.devices d).cursor in
        let ne : (s.devices d).cursor ≢ length (s.devices d).taps = apart in
        below (s.devices d).cursor (length (s.devices d).taps) le ne

pub answer_may_fail : (sc : SchemeValue) (h : Shape) (s : System) (station k : ℕ) (x : StationShape) → Shows sc h s → position_of_station sc station ≡ Some k → h.stations station ≡ Some x → 0 < length x.line → may_fail sc s (event.Answer station) ≡ true
answer_may_fail sc h s station k x w at here some =
    let long = line_length sc h s station x w here in
    let waits : nat_lt 0 (length (s.lines station)) ≡ true = grind (arith, nat_tests) in
    (λ i. is_some (at i) && waits i)

pub store_may_fail : (sc : SchemeValue) (h : Shape) (s : System) (y : Item) → Shows sc h s → h.hand ≡ Some y → may_fail sc s event.Store ≡ true
store_may_fail sc h s y w hand = both_there (IsArrivedOf s.devices) s.hand h.hand w.hand (ap is_some hand)

pub take_may_fail : (sc : SchemeValue) (h : Shape) (s : System) (o a : ℕ) (x : OwnerShape) (y : Item) → Shows sc h s → position_of_owner sc o ≡ Some a → h.owners o ≡ Some x → x.hand ≡ Some y → may_fail sc s (event.Take o) ≡ true
take_may_fail sc h s o a x y w at here hand =
    let held = both_there (IsRoutedOf s.devices o) (s.owners o).hand x.hand (owner_shown sc h s o x w here).hand (ap is_some hand) in
    (λ i. is_some (at i) && held i)

pub state_may_fail : (sc : SchemeValue) (h : Shape) (s : System) (d k day o place : ℕ) (x : DeviceValue) → Shows sc h s → position_of_device sc d ≡ Some k → position_of_owner sc o ≡ Some place → h.devices d ≡ Some x → is_waiting x.days day ≡ true → may_fail sc s (event.State d day o) ≡ true
state_may_fail sc h s d k day o place x w at owned here waits =
    let there = sym (waits_in sc d day (s.devices d) x (device_shown sc h s d x w here)) ∙ waits in
    (λ i. is_some (at i) && (is_some (owned i) && there i))
