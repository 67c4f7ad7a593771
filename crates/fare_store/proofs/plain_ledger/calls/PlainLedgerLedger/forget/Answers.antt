use Rattle.std.proofs.Common.{◌≡◌, None, Ok, sym, ◌∙◌, inr}
use Rattle.fare_store.specs.LedgerWords.{forget_judged}
use Rattle.fare_store.specs.PlainLedgerWords.{plain_ledger}
use Rattle.fare_store.proofs.PlainLemmas.{plain_call, plain_write_failed}
use Rattle.fare_store.proofs.LettingGo.{may_forget}
use Rattle.fare_store.proofs.plain_ledger.calls.PlainLedgerLedger.forget.Goals as goal

pub returns-clause-does : goal.returns-clause-does
returns-clause-does c known =
    let v = plain_ledger c.args.self.now in
    let judged : forget_judged v c.args.device c.args.day ≡ Ok tt = may_forget v c.args.device c.args.day (sym c.knows.ensures ∙ c.if-not-knows.false) (sym c.is_over_before.ensures ∙ c.if-not-is_over_before.false) in
    plain_call (plain_ledger c.args.self.now) (plain_ledger c.let_go.new.self) None _ _ (λ e. absurd (cc)) (judged, c.in_ok-let_go.ensures.ok) (inr (judged, c.in_ok-let_go.ensures.ok))

pub returns-in_err-let_go-clause-does : goal.returns-in_err-let_go-clause-does
returns-in_err-let_go-clause-does c known = plain_write_failed (plain_ledger c.args.self.now) (plain_ledger c.let_go.new.self) _ _ c.from_residual.result c.from_residual.ensures.1 c.in_err-let_go.ensures.err
