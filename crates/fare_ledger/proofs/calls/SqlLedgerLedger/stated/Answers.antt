use Rattle.std.proofs.Common.{◌≡◌, ℕ, Option}
use Rattle.fare_store.specs.LedgerWords.{LedgerValue}
use Rattle.fare_tables.proofs.Steps.{read_on}
use Rattle.fare_ledger.specs.Words.{stands}
use Rattle.fare_ledger.proofs.calls.SqlLedgerLedger.stated.Goals as goal

pub returns : goal.returns
returns g c = read_on (stands g.S.Store c.args.self.now) (stands g.S.Store c.begin.new.self) (stands g.S.Store c.stated_of.new.self) (λ (v : LedgerValue) (n : Option ℕ). n ≡ v.stated c.args.device c.args.day) c.stated_of.result c.in_ok-begin.ensures.does c.stated_of.ensures.does
