use Rattle.std.proofs.Common.{◌≡◌, None, Ok, sym, ◌∙◌, inr}
use Rattle.fare_owner.specs.RetireJudged.{retire_judged}
use Rattle.fare_store.specs.LedgerWords.{retire_of}
use Rattle.fare_store.specs.PlainLedgerWords.{plain_ledger}
use Rattle.fare_store.proofs.PlainLemmas.{plain_call, plain_write_failed}
use Rattle.fare_store.proofs.plain_ledger.calls.PlainLedgerLedger.retire.Goals as goal

pub returns-in_ok-write_retired-in-Ok-clause-does : goal.returns-in_ok-write_retired-in-Ok-clause-does
returns-in_ok-write_retired-in-Ok-clause-does c known =
    let judged : retire_of (plain_ledger c.args.self.now) c.args.device ≡ Ok tt = (λ i. retire_judged (sym c.knows.ensures i) (sym c.is_retired.ensures i)) ∙ sym c.judge_retire.ensures.judged ∙ c.in-Ok.is in
    plain_call (plain_ledger c.args.self.now) (plain_ledger c.write_retired.new.self) None _ _ (λ e. absurd (cc)) (judged, c.in_ok-write_retired-in-Ok.ensures.ok) (inr (judged, c.in_ok-write_retired-in-Ok.ensures.ok))

pub returns-in_err-write_retired-in-Ok-clause-does : goal.returns-in_err-write_retired-in-Ok-clause-does
returns-in_err-write_retired-in-Ok-clause-does c known = plain_write_failed (plain_ledger c.args.self.now) (plain_ledger c.write_retired.new.self) _ _ c.from_residual.result c.from_residual.ensures.1 c.in_err-write_retired-in-Ok.ensures.err
