use Rattle.std.proofs.Common.{Ok, [], ◌∷◌}
use Rattle.sqlite.specs.Held.{state}
use Rattle.sqlite.specs.State.{Executes}
use Rattle.fare_tables.specs.Cells.{int}
use Rattle.fare_ledger.proofs.Texts.{put_retired_text}
use Rattle.fare_ledger.proofs.Puts.{puts_retired, one_retired}
use Rattle.fare_ledger.proofs.writing.put_retired.Goals as goal

pub returns-clause-puts : goal.returns-clause-puts
returns-clause-puts g c clean inside schema readable =
    let old = state g.S.Store c.args.tx.now.conn.now in
    let new = state g.S.Store c.change.new.tx.conn.now in
    let ran = c.in_ok-change.ensures.ran clean inside in
    let h : Executes put_retired_text (int c.args.device ∷ []) old new (Ok c.in_ok-change.field-0) = rw (c.parameter.ensures, c.from.ensures, c.get.ensures.value) at ran.0 in
    (one_retired c.args.layout.now old.now new.now c.args.device readable (puts_retired c.args.layout.now old new c.args.device c.in_ok-change.field-0 schema h), ran.1)
