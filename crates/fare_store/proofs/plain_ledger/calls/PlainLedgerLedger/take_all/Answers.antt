use Rattle.fare_store.specs.LedgerWords.{take_judged, took}
use Rattle.fare_store.specs.PlainLedgerWords.{plain_ledger}
use Rattle.fare_store.proofs.PlainLemmas.{plain_first_failed}
use Rattle.fare_store.proofs.plain_ledger.calls.PlainLedgerLedger.take_all.Goals as goal

pub returns-in_err-take_each-clause-does : goal.returns-in_err-take_each-clause-does
returns-in_err-take_each-clause-does c = plain_first_failed take_judged took (plain_ledger c.args.self.now) (plain_ledger c.take_each.new.self) c.args.rows.now c.from_residual.result c.from_residual.ensures.1 c.in_err-take_each.ensures.err
