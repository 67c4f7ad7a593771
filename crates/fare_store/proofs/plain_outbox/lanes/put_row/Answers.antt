use Rattle.std.proofs.Common.{◌≡◌, Some, None, cond, is_some, sym, ap, ◌∙◌}
use Rattle.std.specs.HashMap.{get}
use Rattle.std.specs.Map.{lookup}
use Rattle.std.specs.Ordering.{is_eq}
use Rattle.fare_store.specs.Falling.{falling}
use Rattle.fare_store.specs.Keys.{same_lane}
use Rattle.fare_store.specs.PlacedRows.{row_in}
use Rattle.fare_store.proofs.Tables.{on_err}
use Rattle.fare_store.proofs.Lanes.{lane_kept, lane_more}
use Rattle.fare_store.proofs.plain_outbox.lanes.put_row.Goals as goal

pub returns-in_err-insert-clause-err : goal.returns-in_err-insert-clause-err
returns-in_err-insert-clause-err c =
    let a = c.owner.result in
    let b = c.device.result in
    let found : get same_lane c.args.lanes.now (a, b) ≡ Some c.in-Some.rows.now = sym c.in-Some.ensures.value in
    on_err c.from_residual.result (lane_kept a b c.in-Some.rows.now c.insert.new.self (get same_lane c.args.lanes.now) (get same_lane (c.get_mut.follows.lender c.insert.new.self)) found c.in_err-insert.ensures.err ((c.get_mut.follows.holds c.insert.new.self).3 (ap is_some found)).0)

pub returns-in-Some-clause-ok : goal.returns-in-Some-clause-ok
returns-in-Some-clause-ok c =
    let a = c.owner.result in
    let b = c.device.result in
    let found : get same_lane c.args.lanes.now (a, b) ≡ Some c.in-Some.rows.now = sym c.in-Some.ensures.value in
    rw (c.owner.ensures, c.device.ensures, c.lane.ensures.value) at (lane_more a b c.lane.result c.args.row.now c.in-Some.rows.now c.insert.new.self (get same_lane c.args.lanes.now) (get same_lane (c.get_mut.follows.lender c.insert.new.self)) (λ l. ap (λ o. row_in o l) (sym found)) c.in_ok-insert.ensures.updates.0 ((c.get_mut.follows.holds c.insert.new.self).3 (ap is_some found)).0)

pub returns-clause-ok : goal.returns-clause-ok
returns-clause-ok c =
    let a = c.owner.result in
    let b = c.device.result in
    let none : get same_lane c.args.lanes.now (a, b) ≡ None = sym c.in_default.ensures.value in
    rw (c.owner.ensures, c.device.ensures, c.lane-2.ensures.value) at (lane_more a b c.lane-2.result c.args.row.now c.new-rows.result c.insert-2.new.self (get same_lane c.args.lanes.now) (get same_lane c.insert-3.new.self) (λ l. ap (lookup (λ k. is_eq (falling l k))) c.new-rows.ensures.empty ∙ ap (λ o. row_in o l) (sym none)) c.in_ok-insert-2.ensures.updates.0
    (λ q. c.in_ok-insert-3.ensures.updates.0 q ∙ ap (λ m. cond (same_lane (a, b) q) (Some c.insert-2.new.self) (get same_lane m q)) c.get_mut.follows.holds-at-none))
