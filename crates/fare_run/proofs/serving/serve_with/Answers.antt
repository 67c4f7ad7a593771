use Rattle.std.proofs.Common.{inl, inr, refl, rules}
use Rattle.std.specs.Prelude.{is_some}
use Rattle.fare_run.specs.Serving.{FailsOver, LeavesStores, serving_failure}
use Rattle.fare_keeping.proofs.Since.{err_says}
use Rattle.fare_run.proofs.Served.{over_serving}
use Rattle.fare_run.proofs.serving.serve_with.Goals as goal

pub returns-clause-served : goal.returns-clause-served
returns-clause-served g c = record { ports = c.in_ok-announce.ensures.told.0; are_ports = c.in_ok-announce.ensures.told.1; mid = g.O.Write.contents c.announce.new.output; told = c.in_ok-announce.ensures.told.2; served = c.in_ok-serve_rounds.ensures.served }

pub returns-in_err-listener-clause-stores : goal.returns-in_err-listener-clause-stores
returns-in_err-listener-clause-stores g c =
    let left : LeavesStores g.P.Pause.does g.Ob.Outbox.standing g.L.Ledger.standing c.args.hub.now c.args.hub.now c.in_err-listener.field-0.0 = inl refl in
    search (rules, left)

pub returns-in_err-announce-clause-stores : goal.returns-in_err-announce-clause-stores
returns-in_err-announce-clause-stores g c =
    let left : LeavesStores g.P.Pause.does g.Ob.Outbox.standing g.L.Ledger.standing c.args.hub.now c.args.hub.now c.in_err-announce.field-0.0 = inl refl in
    search (rules, left)

pub returns-in_err-serve_rounds-clause-stores : goal.returns-in_err-serve_rounds-clause-stores
returns-in_err-serve_rounds-clause-stores g c =
    let fault = c.in_err-serve_rounds.field-0.0 in
    err_says c.from_residual-in_err-serve_rounds.result (LeavesStores g.P.Pause.does g.Ob.Outbox.standing g.L.Ledger.standing c.args.hub.now c.serve_rounds.new.hub) (serving_failure fault) c.from_residual-in_err-serve_rounds.ensures.1 (inr (fault, refl, c.in_err-serve_rounds.ensures.failed))

pub returns-in_err-serve_rounds-clause-fails : goal.returns-in_err-serve_rounds-clause-fails
returns-in_err-serve_rounds-clause-fails g c =
    let told = c.in_ok-announce.ensures.told in
    let before = g.O.Write.contents c.args.output.now in
    let mid = g.O.Write.contents c.announce.new.output in
    let after = g.O.Write.contents c.serve_rounds.new.output in
    let fault = c.in_err-serve_rounds.field-0.0 in
    err_says c.from_residual-in_err-serve_rounds.result (FailsOver (is_some c.args.answering) before after) (serving_failure fault) c.from_residual-in_err-serve_rounds.ensures.1
    (over_serving (is_some c.args.answering) before mid after told.0 fault told.1 told.2 c.in_err-serve_rounds.ensures.kept)
