use Rattle.std.proofs.Common.{[], Ok}
use Rattle.sqlite.specs.Held.{state}
use Rattle.sqlite.specs.State.{QueriesRow, Shown}
use Rattle.fare_outbox_rows.proofs.Texts.{next_day_text, next_day_reads}
use Rattle.fare_outbox_rows.proofs.Found.{asked, next_day_row, next_day_none}
use Rattle.fare_outbox.proofs.reading.read_statement.Goals as goal

pub ask-requires : goal.ask-requires
ask-requires g c = next_day_reads c.args.layout.now

pub returns-in_ok-statement_in-in-Some-clause-value : goal.returns-in_ok-statement_in-in-Some-clause-value
returns-in_ok-statement_in-in-Some-clause-value g c live ready =
    let old = state g.S.Store c.args.conn.now in
    let new = state g.S.Store c.ask.new.conn in
    let h : QueriesRow next_day_text (asked c.args.owner c.args.device c.args.from) old new (Ok c.in-Some.row) =
    rw (c.parameter.ensures, c.parameter-2.ensures, c.parameter-3.ensures, c.from.ensures, c.from-2.ensures, c.get.ensures.value, c.get-2.ensures.value, c.in-Some.is) at (c.in_ok-row.ensures.row live.0 ready.rest) in
    next_day_row c.args.layout.now old new c.args.owner c.args.device c.args.from c.in_ok-statement_in-in-Some.field-0 c.in-Some.row c.in_ok-statement_in-in-Some.ensures ready.rest.schema_is ready.fits.statements h

pub returns-in-None-clause-value : goal.returns-in-None-clause-value
returns-in-None-clause-value g c live ready =
    let old = state g.S.Store c.args.conn.now in
    let new = state g.S.Store c.ask.new.conn in
    let h : Shown next_day_text (asked c.args.owner c.args.device c.args.from) old new [] =
    rw (c.parameter.ensures, c.parameter-2.ensures, c.parameter-3.ensures, c.from.ensures, c.from-2.ensures, c.get.ensures.value, c.get-2.ensures.value, c.in-None.is) at (c.in_ok-row.ensures.row live.0 ready.rest) in
    next_day_none c.args.layout.now old new c.args.owner c.args.device c.args.from ready.rest.schema_is ready.fits.statements h
