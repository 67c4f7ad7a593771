use Rattle.std.proofs.Common.{◌≡◌, ℕ}
use Rattle.fare_record.specs.Lanes.{day_count}
use Rattle.fare_store.specs.LedgerWords.{LedgerValue}
use Rattle.fare_tables.proofs.Steps.{read_on}
use Rattle.fare_ledger.specs.Words.{stands}
use Rattle.fare_ledger.proofs.calls.SqlLedgerLedger.day_count.Goals as goal

pub returns : goal.returns
returns g c = read_on (stands g.S.Store c.args.self.now) (stands g.S.Store c.begin.new.self) (stands g.S.Store c.count_of_day.new.self) (λ (v : LedgerValue) (n : ℕ). n ≡ day_count (v.taken c.args.device) c.args.day) c.count_of_day.result c.in_ok-begin.ensures.does c.count_of_day.ensures.does
