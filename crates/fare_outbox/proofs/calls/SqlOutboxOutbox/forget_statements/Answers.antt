use Rattle.fare_store.specs.OutboxWords.{OutboxValue, without_statements, stated_before}
use Rattle.fare_tables.proofs.Steps.{remove_on, remove_failed}
use Rattle.fare_outbox.specs.Words.{stands}
use Rattle.fare_outbox.proofs.calls.SqlOutboxOutbox.forget_statements.Goals as goal

pub returns : goal.returns
returns g c = remove_on (stands g.S.Store c.args.self.now) (stands g.S.Store c.begin.new.self) (stands g.S.Store c.cut_statements.new.self) (without_statements c.args.owner c.args.device c.args.day) (λ (v : OutboxValue). stated_before c.args.day (v.stated c.args.owner c.args.device)) c.cut_statements.result
    c.in_ok-begin.ensures.does c.cut_statements.ensures

pub returns-in_err-begin : goal.returns-in_err-begin
returns-in_err-begin g c = remove_failed (stands g.S.Store c.args.self.now) (stands g.S.Store c.begin.new.self) _ _ _ c.from_residual.result _ c.from_residual.ensures.1 c.in_err-begin.ensures.does
