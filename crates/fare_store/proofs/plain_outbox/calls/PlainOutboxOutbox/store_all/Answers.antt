use Rattle.fare_store.specs.OutboxWords.{store_judged, stored}
use Rattle.fare_store.specs.PlainOutboxWords.{plain_outbox}
use Rattle.fare_store.proofs.PlainLemmas.{plain_first_failed}
use Rattle.fare_store.proofs.plain_outbox.calls.PlainOutboxOutbox.store_all.Goals as goal

pub returns-in_err-push_all-clause-does : goal.returns-in_err-push_all-clause-does
returns-in_err-push_all-clause-does c = plain_first_failed store_judged stored (plain_outbox c.args.self.now) (plain_outbox c.push_all.new.self) c.args.rows.now c.from_residual.result c.from_residual.ensures.1 c.in_err-push_all.ensures.err
