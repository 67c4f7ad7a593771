use Rattle.std.proofs.Common.{◌≡◌, ℕ, Option}
use Rattle.fare_store.specs.LedgerWords.{LedgerValue, closed_through}
use Rattle.fare_tables.proofs.Steps.{read_on}
use Rattle.fare_ledger.specs.Words.{stands}
use Rattle.fare_ledger.proofs.calls.SqlLedgerLedger.closed_through.Goals as goal

pub returns : goal.returns
returns g c = read_on (stands g.S.Store c.args.self.now) (stands g.S.Store c.begin.new.self) (stands g.S.Store c.last_closed.new.self) (λ (v : LedgerValue) (day : Option ℕ). day ≡ closed_through v c.args.device) c.last_closed.result c.in_ok-begin.ensures.does c.last_closed.ensures.does
