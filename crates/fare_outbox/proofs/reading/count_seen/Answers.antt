use Rattle.std.proofs.Common.{[], Ok}
use Rattle.sqlite.specs.Held.{state}
use Rattle.sqlite.specs.State.{QueriesRow}
use Rattle.fare_outbox_rows.proofs.Texts.{seen_text, seen_reads}
use Rattle.fare_opening.proofs.Asked.{number_is}
use Rattle.fare_outbox_rows.proofs.Found.{seen_counted}
use Rattle.fare_outbox.proofs.reading.count_seen.Goals as goal

pub ask-requires : goal.ask-requires
ask-requires g c = seen_reads c.args.layout.now

pub returns-in-Some-clause-value : goal.returns-in-Some-clause-value
returns-in-Some-clause-value g c live ready =
    let old = state g.S.Store c.args.conn.now in
    let new = state g.S.Store c.ask.new.conn in
    let h : QueriesRow seen_text [] old new (Ok c.in-Some.row) = rw c.in-Some.is at (c.in_ok-row.ensures.row live.0 ready.rest) in
    number_is c.cell_number.result c.in-Some.row _ (seen_counted c.args.layout.now old new c.in-Some.row ready.rest.schema_is ready.fits.devices h) c.cell_number.ensures.read
