use Rattle.std.proofs.Common.{[], Ok}
use Rattle.sqlite.specs.Held.{state}
use Rattle.sqlite.specs.State.{QueriesRow}
use Rattle.fare_outbox_rows.proofs.Texts.{statements_text, statements_reads}
use Rattle.fare_opening.proofs.Asked.{total_is}
use Rattle.fare_outbox_rows.proofs.Found.{statements_counted}
use Rattle.fare_outbox.proofs.reading.count_statements.Goals as goal

pub ask-requires : goal.ask-requires
ask-requires g c = statements_reads c.args.layout.now

pub returns-in-Some-clause-value : goal.returns-in-Some-clause-value
returns-in-Some-clause-value g c live ready =
    let old = state g.S.Store c.args.conn.now in
    let new = state g.S.Store c.ask.new.conn in
    let h : QueriesRow statements_text [] old new (Ok c.in-Some.row) = rw c.in-Some.is at (c.in_ok-row.ensures.row live.0 ready.rest) in
    total_is c.cell_total.result c.in-Some.row _ (statements_counted c.args.layout.now old new c.in-Some.row ready.rest.schema_is h) c.cell_total.ensures.read c.cell_total.ensures.valid
