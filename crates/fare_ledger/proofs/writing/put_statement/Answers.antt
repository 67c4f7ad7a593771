use Rattle.std.proofs.Common.{Ok}
use Rattle.sqlite.specs.Held.{state}
use Rattle.sqlite.specs.State.{Executes}
use Rattle.fare_ledger.specs.Held.{stated_cells, row_stated}
use Rattle.fare_ledger.proofs.Texts.{put_stated_text}
use Rattle.fare_ledger.proofs.Puts.{puts_stated, one_more}
use Rattle.fare_ledger.proofs.writing.put_statement.Goals as goal

pub returns-clause-puts : goal.returns-clause-puts
returns-clause-puts g c clean inside schema readable =
    let old = state g.S.Store c.args.tx.now.conn.now in
    let new = state g.S.Store c.change.new.tx.conn.now in
    let ran = c.in_ok-change.ensures.ran clean inside in
    let h : Executes put_stated_text (stated_cells (row_stated c.args.statement.now)) old new (Ok c.in_ok-change.field-0) = rw c.cells_stated-cells.ensures at ran.0 in
    (one_more c.args.layout.now old.now new.now (row_stated c.args.statement.now) readable (puts_stated c.args.layout.now old new (row_stated c.args.statement.now) c.in_ok-change.field-0 schema h), ran.1)
