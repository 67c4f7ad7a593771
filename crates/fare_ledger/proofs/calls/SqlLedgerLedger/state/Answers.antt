use Rattle.std.proofs.Common.{◌≡◌, Some, None, Ok, Err, Result, sym, ap, subst, ◌∙◌}
use Rattle.fare_store.specs.Standing.{Calls}
use Rattle.fare_tables.specs.Tabled.{given}
use Rattle.fare_tables.proofs.Steps.{says, write_failed, given_more, write_then}
use Rattle.fare_owner.specs.declared.statement.StatementFault.{StatementFault}
use Rattle.fare_store.specs.LedgerWords.{LedgerValue, state_judged, with_statement}
use Rattle.fare_ledger.specs.Words.{stands}
use Rattle.fare_ledger.proofs.Judged.{may_state}
use Rattle.fare_ledger.proofs.calls.SqlLedgerLedger.state.Goals as goal

pub returns-in_err-why-clause-does : goal.returns-in_err-why-clause-does
returns-in_err-why-clause-does g c mine =
    write_failed (stands g.S.Store c.args.self.now) (stands g.S.Store c.judge_state.new.self) _ _ c.from_residual.result c.in_err-why.field-0.0 c.from_residual.ensures.1
    (says (stands g.S.Store c.args.self.now) (stands g.S.Store c.judge_state.new.self) (Some c.in_err-why.field-0.0) _ _ (λ v. ⊥) _ (λ lawful p. p.0) (λ v none. absurd none) c.in_err-why.ensures.does)

pub returns-in_ok-put_statement-in-Ok-clause-does : goal.returns-in_ok-put_statement-in-Ok-clause-does
returns-in_ok-put_statement-in-Ok-clause-does g c mine =
    let a = stands g.S.Store c.args.self.now in
    let b = stands g.S.Store c.judge_state.new.self in
    let d = stands g.S.Store c.put_statement.new.self in
    let r = c.args.statement.now in
    let P : Type 0 = ◌≡◌ {A = Result Unit StatementFault} (Ok tt) (state_judged a.value r) in
    let first : Calls a b None ((b.value ≡ a.value) × P) (λ v. ⊥) = rw c.in-Ok.is at c.in_ok-why.ensures.does in
    let second : Calls (given (b.value.stated r.device r.day ≡ None) b) d None (d.value ≡ with_statement r b.value) (λ v. v ≡ with_statement r b.value) = c.in_ok-put_statement-in-Ok.ensures in
    says a d None _ _ (λ v. (state_judged a.value r ≡ Ok tt) × (v ≡ with_statement r a.value)) _ (λ lawful p. (sym p.1, p.2 ∙ ap (with_statement r) p.0)) (λ v is. is)
    (write_then a b d P (d.value ≡ with_statement r b.value) None (λ v. v ≡ with_statement r b.value) (λ v. (state_judged a.value r ≡ Ok tt) × (v ≡ with_statement r a.value))
    (λ p v is. (sym p.1, is ∙ ap (with_statement r) p.0)) first
    (given_more b d _ _ _ None _ (λ p. subst (λ (v : LedgerValue). v.stated r.device r.day ≡ None) (sym p.0) (may_state a.value r p.1)) second))

pub returns-in_err-put_statement-in-Ok-clause-does : goal.returns-in_err-put_statement-in-Ok-clause-does
returns-in_err-put_statement-in-Ok-clause-does g c mine =
    let a = stands g.S.Store c.args.self.now in
    let b = stands g.S.Store c.judge_state.new.self in
    let d = stands g.S.Store c.put_statement.new.self in
    let r = c.args.statement.now in
    let P : Type 0 = ◌≡◌ {A = Result Unit StatementFault} (Ok tt) (state_judged a.value r) in
    let first : Calls a b None ((b.value ≡ a.value) × P) (λ v. ⊥) = rw c.in-Ok.is at c.in_ok-why.ensures.does in
    let second : Calls (given (b.value.stated r.device r.day ≡ None) b) d (Some c.in_err-put_statement-in-Ok.field-0.0) (d.value ≡ b.value) (λ v. v ≡ with_statement r b.value) = c.in_err-put_statement-in-Ok.ensures in
    write_failed a d _ _ c.from_residual-in_err-put_statement-in-Ok.result c.in_err-put_statement-in-Ok.field-0.0 c.from_residual-in_err-put_statement-in-Ok.ensures.1 (says a d (Some c.in_err-put_statement-in-Ok.field-0.0) _ _ (λ v. (state_judged a.value r ≡ Ok tt) × (v ≡ with_statement r a.value)) _ (λ lawful p. p.2 ∙ p.0) (λ v is. is)
    (write_then a b d P (d.value ≡ b.value) (Some c.in_err-put_statement-in-Ok.field-0.0) (λ v. v ≡ with_statement r b.value) (λ v. (state_judged a.value r ≡ Ok tt) × (v ≡ with_statement r a.value))
    (λ p v is. (sym p.1, is ∙ ap (with_statement r) p.0)) first
    (given_more b d _ _ _ (Some _) _ (λ p. subst (λ (v : LedgerValue). v.stated r.device r.day ≡ None) (sym p.0) (may_state a.value r p.1)) second)))

pub returns-in-Err-clause-does : goal.returns-in-Err-clause-does
returns-in-Err-clause-does g c mine =
    let a = stands g.S.Store c.args.self.now in
    let b = stands g.S.Store c.judge_state.new.self in
    let r = c.args.statement.now in
    let first : Calls a b None ((b.value ≡ a.value) × (◌≡◌ {A = Result Unit StatementFault} (Err c.in-Err.why) (state_judged a.value r))) (λ v. ⊥) = rw c.in-Err.is at c.in_ok-why.ensures.does in
    says a b None _ _ (λ v. ⊥) _ (λ lawful p. (sym p.1, p.0)) (λ v none. absurd none) first
