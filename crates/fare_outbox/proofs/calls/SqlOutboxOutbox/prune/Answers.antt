use Rattle.fare_store.specs.OutboxWords.{OutboxValue, pruned, rows_upto}
use Rattle.fare_tables.proofs.Steps.{remove_on, remove_failed}
use Rattle.fare_outbox.specs.Words.{stands}
use Rattle.fare_outbox.proofs.calls.SqlOutboxOutbox.prune.Goals as goal

pub returns : goal.returns
returns g c = remove_on (stands g.S.Store c.args.self.now) (stands g.S.Store c.begin.new.self) (stands g.S.Store c.cut.new.self) (pruned c.args.owner c.args.device c.args.upto) (λ (v : OutboxValue). rows_upto c.args.upto (v.rows c.args.owner c.args.device)) c.cut.result
    c.in_ok-begin.ensures.does c.cut.ensures

pub returns-in_err-begin : goal.returns-in_err-begin
returns-in_err-begin g c = remove_failed (stands g.S.Store c.args.self.now) (stands g.S.Store c.begin.new.self) _ _ _ c.from_residual.result _ c.from_residual.ensures.1 c.in_err-begin.ensures.does
