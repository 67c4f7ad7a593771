use Rattle.std.proofs.Common.{Ok}
use Rattle.sqlite.specs.Held.{state}
use Rattle.sqlite.specs.State.{Executes}
use Rattle.fare_ledger.proofs.Texts.{told_text}
use Rattle.fare_ledger.proofs.Found.{asked}
use Rattle.fare_ledger.proofs.Cuts.{unsays}
use Rattle.fare_ledger.proofs.forgetting.cut_statements.Goals as goal

pub returns-clause-puts : goal.returns-clause-puts
returns-clause-puts g c clean inside schema readable =
    let old = state g.S.Store c.args.tx.now.conn.now in
    let new = state g.S.Store c.change.new.tx.conn.now in
    let ran = c.in_ok-change.ensures.ran clean inside in
    let h : Executes told_text (asked c.args.device c.args.day) old new (Ok c.in_ok-change.field-0) = rw (c.parameter.ensures, c.parameter-2.ensures, c.from.ensures, c.get.ensures.value, c.from-2.ensures, c.get-2.ensures.value) at ran.0 in
    (unsays c.args.layout.now old new c.args.device c.args.day c.in_ok-change.field-0 schema readable h, ran.1)
