use Rattle.std.proofs.Common.{◌≡◌, ℕ, ◌≤◌, nat_eq, length, Option, Some, None, ap, arith}
use Rattle.std.specs.HashMap.{get}
use Rattle.std.specs.Map.{lookup}
use Rattle.std.specs.List.{list_any}
use Rattle.fare_scheme.proofs.Slices.{item_at, none_left}
use Rattle.fare_store.specs.TapPlaces.{items_of, marks_of, gone_in, from_in, same_day}
use Rattle.fare_store.specs.PlainLedgerWords.{days_closed, filled}
use Rattle.fare_store.proofs.LedgerMaking.{none_fresh, more_fresh, all_known, fresh_numbered, fresh_marked, fresh_gone, fresh_days}
use Rattle.fare_store.proofs.plain_ledger.PlainLedger.new.Goals as goal

pub loop-device-init : goal.loop-device-init
loop-device-init c = none_fresh c.args.scheme.now (get nat_eq c.new-taken.result) (λ d. ap (lookup (nat_eq d)) c.new-taken.ensures.empty)

pub loop-device-preserved : goal.loop-device-preserved
loop-device-preserved c = more_fresh c.args.scheme.now c.loop-device.device-index c.device-item.result c.new.result (get nat_eq c.loop-device.taken) (get nat_eq c.insert.new.self) (c.devices-device-items.ensures.placed c.loop-device.device-index c.device-item.result (item_at c.devices-device-items.result.now c.loop-device.device-index c.device-item.result c.loop-device-test.true c.device-item.is)) c.new.ensures.items c.in-Ok.ensures.updates.0 c.loop-device.invariant

pub invariant_of-result : goal.invariant_of-result
invariant_of-result c =
    let t = c.loop-device.taken in
    let none = c.loop-device.invariant.empty in
    record {
      numbered = fresh_numbered (λ d. gone_in (get nat_eq c.new-2.result d)) (λ d. items_of (get nat_eq t d)) none;
      marked = fresh_marked (λ d. gone_in (get nat_eq c.new-2.result d)) (λ d. items_of (get nat_eq t d)) (λ d. marks_of (get nat_eq c.new-3.result d)) none (λ d. ap (λ es. marks_of (lookup (nat_eq d) es)) c.new-3.ensures.empty);
      let_go = fresh_gone (get nat_eq c.new-2.result) (λ d. ap (lookup (nat_eq d)) c.new-2.ensures.empty);
      begun_at = record { none = λ _ d. (ap (λ es. gone_in (lookup (nat_eq d) es)) c.new-2.ensures.empty, none d); one = λ d is. absurd (let e : ◌≡◌ {A = Option ℕ} None (Some d) = is in cc) };
      ends = fresh_days c.start.result (get nat_eq c.new-5.result) (λ d. ap (lookup (nat_eq d)) c.new-5.ensures.empty);
    }

pub returns-clause-empty : goal.returns-clause-empty
returns-clause-empty c =
    let t = c.loop-device.taken in
    let none = c.loop-device.invariant.empty in record {
      taken = λ d. λ i. filled (ap (λ es. gone_in (lookup (nat_eq d) es)) c.new-2.ensures.empty i) (none d i);
      stated = λ d e. ap (lookup (same_day (d, e))) c.new-4.ensures.empty;
      closed = λ d. ap (λ es. days_closed c.start.result (lookup (nat_eq d) es)) c.new-5.ensures.empty;
      retired = λ d. ap (λ ks. list_any (nat_eq d) ks) c.new-6.ensures.empty;
      from = λ d. ap (λ es. from_in (lookup (nat_eq d) es)) c.new-2.ensures.empty;
    }

pub returns-clause-scheme : goal.returns-clause-scheme
returns-clause-scheme c =
    let sc = c.args.scheme.now in
    let all : length sc.devices ≤ c.loop-device.device-index = none_left sc.devices c.devices-device-items.result.now c.loop-device.device-index c.devices-device-items.ensures.value (omega (arith, c.loop-device-test.false)) in
    record { start = c.start.ensures.value; knows = all_known sc c.loop-device.device-index (get nat_eq c.loop-device.taken) all c.loop-device.invariant }
