use Rattle.std.proofs.Common.{◌≡◌, None, Ok, sym, ◌∙◌, inr}
use Rattle.fare_owner.specs.CloseJudged.{close_judged}
use Rattle.fare_store.specs.LedgerWords.{close_of}
use Rattle.fare_store.specs.PlainLedgerWords.{plain_ledger}
use Rattle.fare_store.proofs.PlainLemmas.{plain_call, plain_write_failed}
use Rattle.fare_store.proofs.plain_ledger.calls.PlainLedgerLedger.close.Goals as goal

pub returns-in_ok-write_close-in-Ok : goal.returns-in_ok-write_close-in-Ok
returns-in_ok-write_close-in-Ok c =
    let judged : close_of (plain_ledger c.args.self.now) c.args.device c.args.day ≡ Ok tt = (λ i. close_judged (sym c.stated_of-stated.ensures i) (sym c.is_closed-closed.ensures i) (sym c.is_next-next.ensures i) (sym c.held_of.ensures i) (sym c.is_retired-retired.ensures i)) ∙ sym c.judge_close.ensures.judged ∙ c.in-Ok.is in
    plain_call (plain_ledger c.args.self.now) (plain_ledger c.write_close.new.self) None _ _ (λ e. absurd (cc)) (judged, c.in_ok-write_close-in-Ok.ensures.ok) (inr (judged, c.in_ok-write_close-in-Ok.ensures.ok))

pub returns-in_err-write_close-in-Ok : goal.returns-in_err-write_close-in-Ok
returns-in_err-write_close-in-Ok c = plain_write_failed (plain_ledger c.args.self.now) (plain_ledger c.write_close.new.self) _ _ c.from_residual.result c.from_residual.ensures.1 c.in_err-write_close-in-Ok.ensures.err
