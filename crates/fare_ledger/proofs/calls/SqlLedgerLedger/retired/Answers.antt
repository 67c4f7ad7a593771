use Rattle.std.proofs.Common.{◌≡◌, Bool}
use Rattle.fare_store.specs.LedgerWords.{LedgerValue}
use Rattle.fare_tables.proofs.Steps.{read_on}
use Rattle.fare_ledger.specs.Words.{stands}
use Rattle.fare_ledger.proofs.calls.SqlLedgerLedger.retired.Goals as goal

pub returns : goal.returns
returns g c = read_on (stands g.S.Store c.args.self.now) (stands g.S.Store c.begin.new.self) (stands g.S.Store c.retired_of.new.self) (λ (v : LedgerValue) (b : Bool). b ≡ v.retired c.args.device) c.retired_of.result c.in_ok-begin.ensures.does c.retired_of.ensures.does
