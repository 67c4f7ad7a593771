use Rattle.std.proofs.Common.{Ok}
use Rattle.std.proofs.lemmas.Result.{IfOk-weaker}
use Rattle.sqlite.specs.Held.{state}
use Rattle.sqlite.specs.State.{Executes}
use Rattle.fare_outbox_rows.proofs.Texts.{cut_text}
use Rattle.fare_outbox_rows.proofs.Found.{asked}
use Rattle.fare_outbox.proofs.Cuts.{cuts}
use Rattle.fare_outbox.proofs.pruning.cut_rows.Goals as goal

pub returns-clause-puts : goal.returns-clause-puts
returns-clause-puts g c clean inside schema readable =
    let old = state g.S.Store c.args.tx.now.conn.now in
    let new = state g.S.Store c.change.new.tx.conn.now in
    IfOk-weaker c.change.result _ _ (λ count ran.
    let h : Executes cut_text (asked c.args.owner c.args.device c.args.upto) old new (Ok count) = rw (c.parameter.ensures, c.parameter-2.ensures, c.parameter-3.ensures, c.from.ensures, c.from-2.ensures, c.get.ensures.value, c.get-2.ensures.value) at ran.0 in
    ((cuts c.args.layout.now old new c.args.owner c.args.device c.args.upto count schema readable h).becomes, ran.1)) (c.change.ensures.ran clean inside)

pub returns-clause-count : goal.returns-clause-count
returns-clause-count g c clean inside schema readable =
    let old = state g.S.Store c.args.tx.now.conn.now in
    let new = state g.S.Store c.change.new.tx.conn.now in
    IfOk-weaker c.change.result _ _ (λ count ran.
    let h : Executes cut_text (asked c.args.owner c.args.device c.args.upto) old new (Ok count) = rw (c.parameter.ensures, c.parameter-2.ensures, c.parameter-3.ensures, c.from.ensures, c.from-2.ensures, c.get.ensures.value, c.get-2.ensures.value) at ran.0 in
    (cuts c.args.layout.now old new c.args.owner c.args.device c.args.upto count schema readable h).counted) (c.change.ensures.ran clean inside)
