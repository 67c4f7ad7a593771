use Rattle.std.proofs.Common.{◌∙◌}
use Rattle.fare_desk.proofs.Causes.{counted_fault, counted_memory, counted_ok, counted_write}
use Rattle.fare_desk.proofs.LetGo.{one_let_go, one_rest}
use Rattle.fare_desk.proofs.forgetting.forget_lane.Goals as goal

pub returns-in_err-lane-clause-rest : goal.returns-in_err-lane-clause-rest
returns-in_err-lane-clause-rest g c =
    one_rest g.O.Outbox.standing g.L.Ledger.standing c.args.hub.now c.let_lane.new.hub c.args.day c.args.owner c.args.device c.let_lane.ensures.some.rest

pub returns-in_err-lane-clause-cause : goal.returns-in_err-lane-clause-cause
returns-in_err-lane-clause-cause g c = λ clean sound known. counted_fault _ _ c.let_lane.result c.from_residual.result c.in_err-lane.field-0.0 c.in_err-lane.was c.from_residual.ensures.1 (c.let_lane.ensures.cause clean sound known)

pub returns-in_err-line-clause-cause : goal.returns-in_err-line-clause-cause
returns-in_err-line-clause-cause g c = λ clean sound known. counted_memory _ _ c.from_residual-in_err-line.result c.from_residual-in_err-line.ensures.1 (counted_ok _ _ c.let_lane.result c.in_ok-lane.lane c.in_ok-lane.was (c.let_lane.ensures.cause clean sound known))

pub returns-in_err-line-clause-rest : goal.returns-in_err-line-clause-rest
returns-in_err-line-clause-rest g c =
    one_rest g.O.Outbox.standing g.L.Ledger.standing c.args.hub.now c.let_lane.new.hub c.args.day c.args.owner c.args.device c.let_lane.ensures.some.rest

pub returns-clause-rest : goal.returns-clause-rest
returns-clause-rest g c =
    one_rest g.O.Outbox.standing g.L.Ledger.standing c.args.hub.now c.let_lane.new.hub c.args.day c.args.owner c.args.device c.let_lane.ensures.some.rest

pub returns-clause-cause : goal.returns-clause-cause
returns-clause-cause g c = λ clean sound known. counted_write _ _ c.write_text.result c.write_text.ensures.failed (counted_ok _ _ c.let_lane.result c.in_ok-lane.lane c.in_ok-lane.was (c.let_lane.ensures.cause clean sound known))

pub returns-clause-gone : goal.returns-clause-gone
returns-clause-gone g c =
    one_let_go g.O.Outbox.standing g.L.Ledger.standing c.args.hub.now c.let_lane.new.hub c.args.day c.args.owner c.args.device c.in_ok-lane.lane (g.W.Write.contents c.args.output.now) (g.W.Write.contents c.write_text.new.output) c.as_bytes.result.now (c.as_bytes.ensures.value ∙ c.in_ok-line.ensures) c.in_ok-lane.ensures.gone c.write_text.result c.write_text.ensures.written
