use Rattle.std.proofs.Common.{None, sym, ◌∙◌, inr}
use Rattle.fare_store.specs.PlainOutboxWords.{plain_outbox}
use Rattle.fare_store.proofs.PlainLemmas.{plain_call, plain_write_failed}
use Rattle.fare_store.proofs.plain_outbox.calls.PlainOutboxOutbox.store_statement.Goals as goal

pub returns-in_ok-push_statement-in-Ok : goal.returns-in_ok-push_statement-in-Ok
returns-in_ok-push_statement-in-Ok c = plain_call (plain_outbox c.args.self.now) (plain_outbox c.push_statement.new.self) None _ _ (λ e. absurd (cc)) (sym c.judge_statement.ensures ∙ c.in-Ok.is, c.in_ok-push_statement-in-Ok.ensures.ok) (inr (sym c.judge_statement.ensures ∙ c.in-Ok.is, c.in_ok-push_statement-in-Ok.ensures.ok))

pub returns-in_err-push_statement-in-Ok : goal.returns-in_err-push_statement-in-Ok
returns-in_err-push_statement-in-Ok c = plain_write_failed (plain_outbox c.args.self.now) (plain_outbox c.push_statement.new.self) _ _ c.from_residual.result c.from_residual.ensures.1 c.in_err-push_statement-in-Ok.ensures.err
