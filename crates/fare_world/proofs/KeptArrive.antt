-- What a packet does where it arrives leads to a system.
use Rattle.std.proofs.Common.{◌≡◌, ℕ, ◌+◌, ◌-◌, [], ◌∷◌, ◌++◌, length, Some, None, Bool, true, false, refl, sym, ap, ◌∙◌, subst, arith, inl, inr}
use Rattle.std.specs.Prelude.{◌==◌, not, slice_get, if◌then◌else◌, Option, IfSome, is_some, Ok, Err, max, nat_lt, ◌⊎◌}
use Rattle.std.proofs.Math.Nat.{le-max_left, le-max_right, max-le}
use Rattle.fare_scheme.specs.Values.{SchemeValue}
use Rattle.fare_scheme.specs.Words.{station_of}
use Rattle.fare_collector.specs.Collecting.{is_id, collect_judged}
use Rattle.fare_collector.specs.declared.fault.CollectRefusal.TheVariants as collect
use Rattle.fare_event.specs.declared.event.Event.{Event}
use Rattle.fare_event.specs.declared.event.Event.TheVariants as event
use Rattle.fare_event.specs.declared.reply.Refusal.TheVariants.{NoPacket, Old, Ahead, Busy}
use Rattle.fare_event.specs.declared.reply.Reply.TheVariants.{Idle, Refused, Accepted, Dropped, DroppedDay}
use Rattle.fare_store.specs.Tables.{put}
use Rattle.fare_world.specs.System.{Packet, Tapped, Stated, Acked, DayAcked, Tap_of, Statement_of, DeviceState, System}
use Rattle.fare_world.specs.Knowing.{knows_owner}
use Rattle.fare_world.specs.Tapping.{is_waiting}
use Rattle.fare_world.specs.Arriving.{tap_at, is_owned_tap, next_at, is_full, accepted, judged, tap_comes, statement_comes, heard, ack_comes, without, heard_day, day_ack_comes, comes, packet_at, arrive}
use Rattle.fare_world.specs.Storing.{are_all_held}
use Rattle.fare_world.specs.Kept.{IsDayAck, IsTurned, IsDevice, IsPlace, IsAck, IsStatement, IsPacket, IsArrived, IsSystem}
use Rattle.fare_world.proofs.Known.{is_own_id}
use Rattle.fare_world.proofs.Lists.{AllByRecursion-push, AllByRecursion-at, AllByRecursion-filter, length-filter-le}
use Rattle.fare_side.proofs.Positions.{element_at}
use Rattle.fare_world.proofs.Waiting.{waits_still}
use Rattle.fare_store.proofs.Entries.{is_one, if_all, below}
use Rattle.fare_world.proofs.KeptParts.{device_changes, hand_changes}
use Rattle.fare_world.proofs.KeptLink.{place_kept}
use Rattle.fare_world.proofs.KeptMoves.{Moves, keeps_same, keeps_devices, keeps_other_days, rests, stays}

-- A TAP
-- a numbered tap is its product's owner's
pub tap_owned : (sc : SchemeValue) (s : System) (d k : ℕ) → IsSystem sc s → IsPlace (s.devices d).taps k → is_owned_tap sc (tap_at s d k) ≡ true
tap_owned sc s d k h place =
    let found = element_at (s.devices d).taps (k - 1) (omega (arith, place.0, place.1)) in
    ap (is_owned_tap sc) found.1
    ∙ ap (λ o. is_id o found.0.owner) ((h.devices d).numbered (k - 1) found.0 found.1).owned
    ∙ is_own_id found.0.owner

-- a station accepts taps of its own device
next_known : (sc : SchemeValue) (f : ℕ → DeviceState) (st d : ℕ) → station_of sc d ≡ Some st → next_at sc f st d ≡ Some (f d).next
next_known sc f st d of = ap (λ b. if b then Some (f d).next else None) (ap (λ o. is_id o st) of ∙ is_own_id st)

accepts : (sc : SchemeValue) (s : System) (n d k : ℕ) → IsSystem sc s → IsPlace (s.devices d).taps k → Moves sc s (event.Arrive n) (accepted s d k, Accepted)
accepts sc s n d k h place =
    let is = h.devices d in
    let new : DeviceState = record (s.devices d) { next = k + 1 } in
    let device : IsDevice sc d new = record { base = is.base; cursor = is.cursor; stored = is.stored; upto = is.upto; first = omega arith; next = omega (arith, place.1); few = is.few; numbered = is.numbered; known = is.known; days = is.days } in
    let devices = device_changes sc s d new h (record { taps = refl; upto = omega arith; day = omega arith }) device in
    let inbox = AllByRecursion-push (IsArrived sc (put s.devices d new)) s.inbox (Tap_of d k) devices.inbox (place_kept s.devices d k new refl place) in
    rests sc s (event.Arrive n) (accepted s d k, Accepted) refl refl
    (hand_changes sc (record s { devices = put s.devices d new }) (s.inbox ++ Tap_of d k ∷ []) s.hand devices inbox devices.hand)
    (keeps_devices sc s d new (accepted s d k) refl refl refl refl refl refl)

-- a tap that was numbered comes neither to a strange station nor for another owner
moves_tap_in : (sc : SchemeValue) (s : System) (n d k : ℕ) → IsSystem sc s → IsPlace (s.devices d).taps k → Moves sc s (event.Arrive n) (tap_comes sc s d k (station_of sc d))
moves_tap_in sc s n d k h place = at (station_of sc d) refl
  where
    e : Event
    e = event.Arrive n

    room : Moves sc s e (judged sc s d k (Ok tt))
    room = if_all (is_full sc.inbox_capacity s.inbox) (Moves sc s e) _ _ (λ _. stays sc s e (Refused Busy) refl refl h) (λ _. accepts sc s n d k h place)

    due : (next : ℕ) → Moves sc s e (judged sc s d k (collect_judged (Some next) true k))
    due next =
        if_all (nat_lt k next) (λ r. Moves sc s e (judged sc s d k r)) (Err collect.Old) _ (λ _. stays sc s e (Refused Old) refl refl h)
        (λ _. if_all (nat_lt next k) (λ r. Moves sc s e (judged sc s d k r)) (Err collect.Ahead) (Ok tt) (λ _. stays sc s e (Refused Ahead) refl refl h) (λ _. room))

    at : (o : Option ℕ) → station_of sc d ≡ o → Moves sc s e (tap_comes sc s d k o)
    at None none = absurd (omega (arith, place.0, place.1, ap length ((h.devices d).known none)))
    at (Some st) of =
        subst (λ o. Moves sc s e (judged sc s d k (collect_judged o (is_owned_tap sc (tap_at s d k)) k))) (sym (next_known sc s.devices st d of))
        (subst (λ b. Moves sc s e (judged sc s d k (collect_judged (Some (s.devices d).next) b k))) (sym (tap_owned sc s d k h place)) (due (s.devices d).next))

-- A STATEMENT
-- one of a registered device for a registered owner comes neither to a strange station nor for an unknown owner
moves_statement_in : (sc : SchemeValue) (s : System) (n d day o : ℕ) → IsSystem sc s → IsStatement sc s.devices d day o → Moves sc s (event.Arrive n) (statement_comes sc s d day o (station_of sc d))
moves_statement_in sc s n d day o h is = at (station_of sc d) is.registered
  where
    e : Event
    e = event.Arrive n

    known : (b : Bool) → b ≡ true → not b ≡ true → ⊥
    known b is_so differs =
        let both : false ≡ true = sym (ap not is_so) ∙ differs in
        absurd (cc)

    at : (station : Option ℕ) → is_some station ≡ true → Moves sc s e (statement_comes sc s d day o station)
    at None none = absurd (cc)
    at (Some st) of =
        if_all (not (knows_owner sc o)) (Moves sc s e) _ _ (λ strange. absurd (known (knows_owner sc o) is.known strange))
        (λ _. if_all (is_full sc.inbox_capacity s.inbox) (Moves sc s e) _ _ (λ _. stays sc s e (Refused Busy) refl refl h)
        (λ _. rests sc s e (record s { inbox = s.inbox ++ Statement_of d day o ∷ [] }, Accepted) refl refl
        (hand_changes sc s (s.inbox ++ Statement_of d day o ∷ []) s.hand h (AllByRecursion-push (IsArrived sc s.devices) s.inbox (Statement_of d day o) h.inbox is) h.hand)
        (keeps_same sc s (record s { inbox = s.inbox ++ Statement_of d day o ∷ [] }) refl refl refl)))

-- ACKNOWLEDGEMENTS
-- a device hears of no tap that it has not numbered
moves_ack_in : (sc : SchemeValue) (s : System) (n d u : ℕ) → IsSystem sc s → IsAck sc s.devices d u → Moves sc s (event.Arrive n) (ack_comes s d u)
moves_ack_in sc s n d u h is =
    if_all (nat_lt (length v.taps) u) (Moves sc s e) _ _ (λ a. absurd (omega (arith, below _ _ a, is.1, was.upto)))
    (λ _. rests sc s e (heard s d u, Dropped (u - v.base)) refl refl (device_changes sc s d new h (record { taps = refl; upto = omega arith; day = omega arith }) device) (keeps_devices sc s d new (heard s d u) refl refl refl refl refl refl))
  where
    e : Event
    e = event.Arrive n

    v : DeviceState
    v = s.devices d

    was : IsDevice sc d v
    was = h.devices d

    new : DeviceState
    new = record v { base = max v.base u; cursor = max v.cursor u }

    device : IsDevice sc d new
    device = record {
      base = max-le (omega (arith, was.base, le-max_left v.cursor u)) (le-max_right v.cursor u);
      cursor = max-le was.cursor (omega (arith, is.1, was.upto));
      stored = max-le was.stored is.1;
      upto = was.upto;
      first = was.first;
      next = was.next;
      few = was.few;
      numbered = was.numbered;
      known = was.known;
      days = was.days;
    }

moves_day_ack_in : (sc : SchemeValue) (s : System) (n d day : ℕ) → IsSystem sc s → IsDayAck sc s.held d day → Moves sc s (event.Arrive n) (day_ack_comes s d day)
moves_day_ack_in sc s n d day h ack =
    if_all (is_waiting v.waiting day) (Moves sc s e) _ _
    (λ _. rests sc s e (heard_day s d day, DroppedDay day) refl refl (device_changes sc s d new h (record { taps = refl; upto = omega arith; day = omega arith }) device) (keeps_other_days sc s d new (heard_day s d day) refl refl refl refl refl waits))
    (λ _. stays sc s e Idle refl refl h)
  where
    e : Event
    e = event.Arrive n

    v : DeviceState
    v = s.devices d

    was : IsDevice sc d v
    was = h.devices d

    new : DeviceState
    new = record v { waiting = without v.waiting day }

    -- the acknowledged day is held, and each other one waits on
    waits : (k : ℕ) → is_waiting v.waiting k ≡ true → (is_waiting (without v.waiting day) k ≡ true) ⊎ (are_all_held sc s.held d k ≡ true)
    waits k w = by (k == day) refl
      where
        by : (b : Bool) → (k == day) ≡ b → (is_waiting (without v.waiting day) k ≡ true) ⊎ (are_all_held sc s.held d k ≡ true)
        by true same = inr (ap (are_all_held sc s.held d) (is_one k day same) ∙ ack.1)
        by false other = inl (waits_still v.waiting day k other w)

    others : ℕ → Bool
    others k = not (k == day)

    device : IsDevice sc d new
    device = record {
      base = was.base;
      cursor = was.cursor;
      stored = was.stored;
      upto = was.upto;
      first = was.first;
      next = was.next;
      few = was.few;
      numbered = was.numbered;
      known = was.known;
      days = record {
        first = was.days.first;
        last = was.days.last;
        dated = was.days.dated;
        waiting = AllByRecursion-filter (IsTurned sc.start v.day) others v.waiting was.days.waiting;
        few = omega (arith, was.days.few, length-filter-le others v.waiting);
      };
    }

-- ARRIVE
comes_moves : (sc : SchemeValue) (s : System) (n : ℕ) (x : Packet) → IsSystem sc s → IsPacket sc s.devices s.held x → Moves sc s (event.Arrive n) (comes sc s (Some x))
comes_moves sc s n (Tapped d k) h is = moves_tap_in sc s n d k h is
comes_moves sc s n (Stated d day o) h is = moves_statement_in sc s n d day o h is
comes_moves sc s n (Acked d u) h is = moves_ack_in sc s n d u h is
comes_moves sc s n (DayAcked d day) h is = moves_day_ack_in sc s n d day h is

-- what comes in leaves a system
pub comes_kept : (sc : SchemeValue) (s : System) (x : Packet) → IsSystem sc s → IsPacket sc s.devices s.held x → IsSystem sc (comes sc s (Some x)).0
comes_kept sc s x h is = (comes_moves sc s 0 x h is).system

pub moves_arrive : (sc : SchemeValue) (s : System) (n : ℕ) → IsSystem sc s → Moves sc s (event.Arrive n) (arrive sc s n)
moves_arrive sc s n h = comes_in (packet_at s n) (lies (n == 0))
  where
    lies : (b : Bool) → IfSome (if b then None else slice_get s.air (n - 1)) (IsPacket sc s.devices s.held)
    lies true = tt
    lies false = found (slice_get s.air (n - 1)) refl
      where
        found : (o : Option Packet) → slice_get s.air (n - 1) ≡ o → IfSome o (IsPacket sc s.devices s.held)
        found None g = tt
        found (Some x) g = AllByRecursion-at (IsPacket sc s.devices s.held) s.air (n - 1) x h.air g

    comes_in : (o : Option Packet) → IfSome o (IsPacket sc s.devices s.held) → Moves sc s (event.Arrive n) (comes sc s o)
    comes_in None is = stays sc s (event.Arrive n) (Refused NoPacket) refl refl h
    comes_in (Some x) is = comes_moves sc s n x h is
