use Rattle.std.proofs.Common.{◌≡◌, ℕ, Some, None, is_some, sym, ap, ◌∙◌}
use Rattle.std.specs.HashMap.{get}
use Rattle.fare_store.specs.Keys.{same_lane}
use Rattle.fare_store.specs.PlacedRows.{row_in, rows_in}
use Rattle.fare_store.proofs.Pruning.{count_none, nothing_behind, lane_behind}
use Rattle.fare_store.proofs.plain_outbox.lanes.prune_lane.Goals as goal

pub returns-in_default-clause-count : goal.returns-in_default-clause-count
returns-in_default-clause-count c =
    let rows = rows_in (get same_lane c.args.lanes.now) c.args.lane.0 c.args.lane.1 in
    let none : (l : ℕ) → rows l ≡ None = λ l. ap (λ o. row_in o l) (sym c.in_default.ensures.value) in
    sym (count_none c.args.upto rows (λ l h. none l))

pub returns-in_default-clause-left : goal.returns-in_default-clause-left
returns-in_default-clause-left c x y z =
    let rows = rows_in (get same_lane c.args.lanes.now) in
    let none : (l : ℕ) → rows c.args.lane.0 c.args.lane.1 l ≡ None = λ l. ap (λ o. row_in o l) (sym c.in_default.ensures.value) in
    ap (λ m. rows_in (get same_lane m) x y z) c.get_mut.follows.holds-at-none ∙ nothing_behind c.args.lane.0 c.args.lane.1 c.args.upto rows none x y z

pub returns-clause-left : goal.returns-clause-left
returns-clause-left c =
    let found : get same_lane c.args.lanes.now c.args.lane ≡ Some c.in-Some.rows.now = sym c.in-Some.ensures.value in
    lane_behind c.args.lane.0 c.args.lane.1 c.args.upto c.in-Some.rows.now c.drop_rows.new.rows (get same_lane c.args.lanes.now) (get same_lane (c.get_mut.follows.lender c.drop_rows.new.rows)) found c.drop_rows.ensures.left ((c.get_mut.follows.holds c.drop_rows.new.rows).3 (ap is_some found)).0
