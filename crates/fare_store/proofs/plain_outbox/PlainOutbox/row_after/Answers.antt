use Rattle.std.proofs.Common.{sym, ap}
use Rattle.std.specs.HashMap.{get}
use Rattle.fare_store.specs.Falling.{falling}
use Rattle.std.specs.declared.ops.Bound.TheVariants.{Excluded, Unbounded}
use Rattle.fare_store.specs.Keys.{same_lane}
use Rattle.fare_store.specs.PlacedRows.{row_in, rows_in}
use Rattle.fare_store.proofs.NextRows.{last_of, least_row}
use Rattle.fare_store.proofs.plain_outbox.PlainOutbox.row_after.Goals as goal

pub returns : goal.returns
returns c =
    let a = c.args in
    let rows = c.in_ok-rows.rows.now in
    let row = c.in_ok-row.row.now in
    let last = last_of falling rows Unbounded (Excluded a.after) c.range.result (c.in_ok-row.field-0-0.now, row) c.next_back.new.self c.in_ok-row.ensures.steps (c.range.ensures.in_range tt) in
    least_row (rows_in (get same_lane a.self.now.lanes)) rows a.owner a.device a.after c.in_ok-row.field-0-0.now row a.self.now.placed (λ l. ap (λ o. row_in o l) (sym c.in_ok-rows.ensures.value)) last
