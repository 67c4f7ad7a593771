use Rattle.std.proofs.Common.{Ok}
use Rattle.sqlite.specs.Held.{state}
use Rattle.sqlite.specs.State.{QueriesRow}
use Rattle.fare_ledger.proofs.Texts.{day_text, day_reads}
use Rattle.fare_opening.proofs.Asked.{total_is}
use Rattle.fare_ledger.proofs.Found.{asked, day_counted}
use Rattle.fare_ledger.proofs.reading.count_day.Goals as goal

pub ask-requires : goal.ask-requires
ask-requires g c = day_reads c.args.layout.now

pub returns-in-Some-clause-value : goal.returns-in-Some-clause-value
returns-in-Some-clause-value g c live ready =
    let old = state g.S.Store c.args.conn.now in
    let new = state g.S.Store c.ask.new.conn in
    let h : QueriesRow day_text (asked c.args.device c.args.day) old new (Ok c.in-Some.row) =
    rw (c.parameter.ensures, c.parameter-2.ensures, c.from.ensures, c.from-2.ensures, c.get.ensures.value, c.get-2.ensures.value, c.in-Some.is) at (c.in_ok-row.ensures.row live.0 ready.rest) in
    total_is c.cell_total.result c.in-Some.row _ (day_counted c.args.layout.now old new c.args.device c.args.day c.in-Some.row ready.rest.schema_is ready.fits.taps h) c.cell_total.ensures.read c.cell_total.ensures.valid
