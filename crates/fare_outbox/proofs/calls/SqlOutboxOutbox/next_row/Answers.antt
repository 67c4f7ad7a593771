use Rattle.fare_store.specs.OutboxWords.{OutboxValue, IsNextRow}
use Rattle.fare_tables.proofs.Steps.{read_on}
use Rattle.fare_outbox.specs.Words.{stands}
use Rattle.fare_outbox.proofs.calls.SqlOutboxOutbox.next_row.Goals as goal

pub returns : goal.returns
returns g c = read_on (stands g.S.Store c.args.self.now) (stands g.S.Store c.begin.new.self) (stands g.S.Store c.row_after.new.self) (λ (v : OutboxValue) next. IsNextRow v.rows c.args.owner c.args.device c.args.after next) c.row_after.result c.in_ok-begin.ensures.does c.row_after.ensures.does
