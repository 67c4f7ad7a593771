use Rattle.std.proofs.Common.{[], Ok}
use Rattle.sqlite.specs.Held.{state}
use Rattle.sqlite.specs.State.{QueriesRow, Shown}
use Rattle.fare_ledger.proofs.Texts.{stated_text, stated_reads}
use Rattle.fare_ledger.proofs.Found.{asked, said_row, said_none}
use Rattle.fare_ledger.proofs.reading.read_stated.Goals as goal

pub ask-requires : goal.ask-requires
ask-requires g c = stated_reads c.args.layout.now

pub returns-in_ok-cell_count-in-Some-clause-value : goal.returns-in_ok-cell_count-in-Some-clause-value
returns-in_ok-cell_count-in-Some-clause-value g c live ready apart =
    let old = state g.S.Store c.args.conn.now in
    let new = state g.S.Store c.ask.new.conn in
    let h : QueriesRow stated_text (asked c.args.device c.args.day) old new (Ok c.in-Some.row) =
    rw (c.parameter.ensures, c.parameter-2.ensures, c.from.ensures, c.from-2.ensures, c.get.ensures.value, c.get-2.ensures.value, c.in-Some.is) at (c.in_ok-row.ensures.row live.0 ready.rest) in
    said_row c.args.layout.now old new c.args.device c.args.day c.in_ok-cell_count-in-Some.field-0 c.in-Some.row ready.rest.schema_is ready.fits.statements apart h c.in_ok-cell_count-in-Some.ensures.read

pub returns-in-None-clause-value : goal.returns-in-None-clause-value
returns-in-None-clause-value g c live ready apart =
    let old = state g.S.Store c.args.conn.now in
    let new = state g.S.Store c.ask.new.conn in
    let h : Shown stated_text (asked c.args.device c.args.day) old new [] =
    rw (c.parameter.ensures, c.parameter-2.ensures, c.from.ensures, c.from-2.ensures, c.get.ensures.value, c.get-2.ensures.value, c.in-None.is) at (c.in_ok-row.ensures.row live.0 ready.rest) in
    said_none c.args.layout.now old new c.args.device c.args.day ready.rest.schema_is ready.fits.statements apart h
