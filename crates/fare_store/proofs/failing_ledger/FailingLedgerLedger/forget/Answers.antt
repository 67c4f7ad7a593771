use Rattle.std.proofs.Common.{sym, ◌∙◌}
use Rattle.fare_store.proofs.FailingLemmas.{passed_on}
use Rattle.fare_store.proofs.failing_ledger.FailingLedgerLedger.forget.Goals as goal

pub returns-clause-does : goal.returns-clause-does
returns-clause-does c known = passed_on c.args.self.now.left c.fails_now.new.left _ _ _ _ _ c.fails_now.ensures.left (sym c.fails_now.ensures.now ∙ c.if-fails_now.false) (c.forget-2.ensures.does known)
