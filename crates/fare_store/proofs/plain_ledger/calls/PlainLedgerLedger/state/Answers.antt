use Rattle.std.proofs.Common.{◌≡◌, None, Ok, sym, ap, ◌∙◌, inr}
use Rattle.fare_owner.specs.StatementJudged.{statement_judged}
use Rattle.fare_store.specs.LedgerWords.{is_mine, state_judged}
use Rattle.fare_store.specs.PlainLedgerWords.{plain_ledger}
use Rattle.fare_store.proofs.PlainLemmas.{plain_call, plain_write_failed}
use Rattle.fare_store.proofs.plain_ledger.calls.PlainLedgerLedger.state.Goals as goal

pub returns-in_ok-write_statement-in-Ok-clause-does : goal.returns-in_ok-write_statement-in-Ok-clause-does
returns-in_ok-write_statement-in-Ok-clause-does c mine =
    let v = plain_ledger c.args.self.now in
    let s = c.args.statement.now in
    let mine : c.is_mine-mine.result ≡ is_mine v s.owner s.device = c.is_mine-mine.ensures ∙ (λ i. is_mine v (c.owner.ensures i) (c.device.ensures i)) in
    let held : c.stated_of-held.result ≡ v.stated s.device s.day = c.stated_of-held.ensures ∙ (λ i. v.stated (c.device-2.ensures i) (c.day.ensures i)) in
    let retired : c.is_retired-retired.result ≡ v.retired s.device = c.is_retired-retired.ensures ∙ ap v.retired c.device-3.ensures in
    let judged : state_judged v s ≡ Ok tt = (λ i. statement_judged (sym mine i) (sym held i) (sym c.count.ensures.value i) (sym retired i)) ∙ sym c.judge_statement.ensures.judged ∙ c.in-Ok.is in
    plain_call (plain_ledger c.args.self.now) (plain_ledger c.write_statement.new.self) None _ _ (λ e. absurd (cc)) (judged, c.in_ok-write_statement-in-Ok.ensures.ok) (inr (judged, c.in_ok-write_statement-in-Ok.ensures.ok))

pub returns-in_err-write_statement-in-Ok-clause-does : goal.returns-in_err-write_statement-in-Ok-clause-does
returns-in_err-write_statement-in-Ok-clause-does c mine = plain_write_failed (plain_ledger c.args.self.now) (plain_ledger c.write_statement.new.self) _ _ c.from_residual.result c.from_residual.ensures.1 c.in_err-write_statement-in-Ok.ensures.err
