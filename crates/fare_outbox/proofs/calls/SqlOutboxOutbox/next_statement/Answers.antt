use Rattle.fare_store.specs.OutboxWords.{OutboxValue, IsNextStatement}
use Rattle.fare_tables.proofs.Steps.{read_on}
use Rattle.fare_outbox.specs.Words.{stands}
use Rattle.fare_outbox.proofs.calls.SqlOutboxOutbox.next_statement.Goals as goal

pub returns : goal.returns
returns g c = read_on (stands g.S.Store c.args.self.now) (stands g.S.Store c.begin.new.self) (stands g.S.Store c.statement_from.new.self) (λ (v : OutboxValue) next. IsNextStatement v.stated c.args.owner c.args.device c.args.from next) c.statement_from.result c.in_ok-begin.ensures.does c.statement_from.ensures.does
