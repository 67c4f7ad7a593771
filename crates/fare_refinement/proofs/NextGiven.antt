-- What a forwarder's event gives is an item that comes next in the words of the stores; and how a list of such items is made.
use Rattle.std.proofs.Common.{◌≡◌, ◌≢◌, ℕ, ◌+◌, ◌-◌, ◌<◌, ◌≤◌, List, length, Some, None, Bool, true, false, refl, sym, ap, ◌∙◌, subst, arith}
use Rattle.std.specs.Prelude.{slice_get, if◌then◌else◌, Option, option_map, nat_lt}
use Rattle.fare_record.specs.Values.{RecordValue}
use Rattle.fare_record.specs.Lanes.{day_count}
use Rattle.fare_scheme.specs.Values.{SchemeValue}
use Rattle.fare_world.specs.System.{Routed, Lane_of, Day_of, System, arrived_of, numbered_for}
use Rattle.fare_world.specs.Owning.{first_held, next_routed}
use Rattle.fare_world.proofs.RowPlaces.{row_here, row_past}
use Rattle.fare_world.specs.Kept.{pending, lane_numbers, IsSystem}
use Rattle.fare_world.specs.Shown.{statement_of, count_of}
use Rattle.fare_record.specs.declared.item.Item.TheVariants as item
use Rattle.fare_store.specs.OutboxWords.{OutboxValue}
use Rattle.fare_refinement.specs.ShownStores.{ShowsOutbox}
use Rattle.fare_history.specs.Serving.{Cursors}
use Rattle.fare_refinement.specs.Served.{ComesNext, IsAsFar}
use Rattle.fare_side.proofs.Positions.{element_at}
use Rattle.fare_store.proofs.Entries.{below, not_below}
use Rattle.fare_world.proofs.Lanes.{Runs-le}
use Rattle.fare_world.proofs.Showing.{lane_tap_at}
use Rattle.fare_refinement.proofs.ServeSteps.{arrived_front}
use Rattle.fare_world.proofs.NextDay.{IsNextDay, finds_next_day}

-- WHAT THE EVENT GIVES
counted_here : (b : Bool) (rs : List RecordValue) (day : ℕ) → count_of b rs day ≢ None → count_of b rs day ≡ Some (day_count rs day)
counted_here true rs day some = refl
counted_here false rs day some = absurd (some refl)

pub forward_comes : (sc : SchemeValue) (t : System) (o d : ℕ) (x : OutboxValue) (c : Cursors) (y : Routed) → IsSystem sc t → ShowsOutbox t x → IsAsFar t o c → next_routed t o d ≡ Some y → ComesNext o x c y
forward_comes sc t o d x c y h shows far e = by (nat_lt forward (length arrived)) refl e
  where
    forward : ℕ
    forward = (t.lanes o d).forward

    from : ℕ
    from = (t.lanes o d).from_day

    gone : ℕ
    gone = (t.lanes o d).gone

    arrived : List RecordValue
    arrived = arrived_of o (t.devices d)

    before : gone ≤ forward
    before =
        let l = h.lanes o d in
        omega (arith, l.gone, l.took)

    row : forward < length arrived → ComesNext o x c (Lane_of d (forward + 1))
    row lt =
        let found = element_at arrived forward lt in
        let place : forward + 1 - 1 ≡ forward = omega arith in
        let tap = lane_tap_at sc t o d (forward + 1) found.0 h (record { positive = omega arith; here = ap (slice_get (numbered_for t o d)) place ∙ arrived_front o (t.devices d) forward found.0 found.1 }) in
        record {
          item = item.Tap found.0;
          numbers = λ i. Lane_of (tap.device i) (tap.lane i);
          next = record {
            mine = tap.owner;
            lane = omega (arith, tap.lane, far.lane d, ap c.lane tap.device);
            held = (λ i. x.rows o (tap.device i) (c.lane (tap.device i) + 1)) ∙ ap (λ n. x.rows o d (n + 1)) (sym (far.lane d)) ∙ shows.rows o d (forward + 1) ∙ row_here gone arrived (forward + 1) (omega (arith, before)) ∙ ap (slice_get arrived) place ∙ found.1;
          };
        }

    -- no row is above the last arrived
    behind : length arrived ≤ forward → (lane : ℕ) → c.lane d < lane → x.rows o d lane ≡ None
    behind le lane lt = shows.rows o d lane ∙ row_past gone arrived lane (omega (arith, le, lt, far.lane d))

    stated : (found : Option ℕ) → length arrived ≤ forward → IsNextDay (x.stated o d) from found → option_map (Day_of d) found ≡ Some y → ComesNext o x c y
    stated None le is f = absurd (cc)
    stated (Some day) le is f = subst (ComesNext o x c) same (record {
      item = item.Stated (statement_of t.devices d day o);
      numbers = refl;
      next = record {
        mine = refl;
        held = shows.stated o d day ∙ counted_here (t.held o d day) (numbered_for t o d) day (λ none. is.held (shows.stated o d day ∙ none));
        from_there = omega (arith, is.from_there, far.day d);
        least = λ k le lt. is.least k (omega (arith, le, far.day d)) lt;
        last = behind le;
      };
    })
      where
        same : Day_of d day ≡ y
        same = cc

    by : (b : Bool) → nat_lt forward (length arrived) ≡ b → (if b then Some (Lane_of d (forward + 1)) else option_map (Day_of d) (first_held (t.held o d) from ((t.devices d).day - from))) ≡ Some y → ComesNext o x c y
    by true lt f = subst (ComesNext o x c) same (row (below forward (length arrived) lt))
      where
        same : Lane_of d (forward + 1) ≡ y
        same = cc
    by false ge f = stated (first_held (t.held o d) from ((t.devices d).day - from)) (not_below forward (length arrived) ge) (finds_next_day sc t (x.stated o d) o d h (shows.stated o d)) f
