use Rattle.std.proofs.Common.{◌≡◌, ℕ}
use Rattle.fare_store.specs.OutboxWords.{OutboxValue}
use Rattle.fare_tables.proofs.Steps.{read_on}
use Rattle.fare_outbox.specs.Words.{stands}
use Rattle.fare_outbox.proofs.calls.SqlOutboxOutbox.upto.Goals as goal

pub returns-clause-read : goal.returns-clause-read
returns-clause-read g c = read_on (stands g.S.Store c.args.self.now) (stands g.S.Store c.begin.new.self) (stands g.S.Store c.greatest_link.new.self) (λ (v : OutboxValue) (n : ℕ). n ≡ v.upto c.args.device) c.greatest_link.result c.in_ok-begin.ensures.does c.greatest_link.ensures.does
