use Rattle.std.proofs.Common.{Ok}
use Rattle.sqlite.specs.Held.{state}
use Rattle.sqlite.specs.State.{Executes}
use Rattle.fare_ledger.specs.Held.{tap_cells, row_of}
use Rattle.fare_ledger.proofs.Texts.{put_tap_text}
use Rattle.fare_ledger.proofs.Puts.{puts_tap}
use Rattle.fare_ledger.proofs.writing.put_tap.Goals as goal

pub returns-clause-puts : goal.returns-clause-puts
returns-clause-puts g c clean inside schema =
    let old = state g.S.Store c.args.tx.now.conn.now in
    let new = state g.S.Store c.change.new.tx.conn.now in
    let ran = c.in_ok-change.ensures.ran clean inside in
    let h : Executes put_tap_text (tap_cells (row_of c.args.row.now)) old new (Ok c.in_ok-change.field-0) = rw c.cells_of-cells.ensures at ran.0 in
    (puts_tap c.args.layout.now old new (row_of c.args.row.now) c.in_ok-change.field-0 schema h, ran.1)
