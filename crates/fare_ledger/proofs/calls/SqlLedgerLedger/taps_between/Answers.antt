use Rattle.fare_store.specs.LedgerWords.{LedgerValue, AreTapsBetween}
use Rattle.fare_tables.proofs.Steps.{read_on}
use Rattle.fare_ledger.specs.Words.{stands}
use Rattle.fare_ledger.proofs.calls.SqlLedgerLedger.taps_between.Goals as goal

pub returns : goal.returns
returns g c = read_on (stands g.S.Store c.args.self.now) (stands g.S.Store c.begin.new.self) (stands g.S.Store c.listed.new.self) (λ (v : LedgerValue) taps. AreTapsBetween v c.args.from c.args.to taps.items) c.listed.result c.in_ok-begin.ensures.does c.listed.ensures.does
