use Rattle.std.proofs.Common.{◌≡◌, Some, None, Ok, sym, ap, subst, ◌∙◌}
use Rattle.fare_store.specs.Standing.{Calls}
use Rattle.fare_tables.specs.Tabled.{given}
use Rattle.fare_tables.proofs.Steps.{says, write_failed, given_more, write_then}
use Rattle.fare_store.specs.LedgerWords.{LedgerValue, close_of, with_close}
use Rattle.fare_ledger.specs.Words.{stands, JudgesDay, MayClose}
use Rattle.fare_ledger.proofs.Judged.{may_close}
use Rattle.fare_ledger.proofs.calls.SqlLedgerLedger.close.Goals as goal

pub returns-in_err-why : goal.returns-in_err-why
returns-in_err-why g c =
    write_failed (stands g.S.Store c.args.self.now) (stands g.S.Store c.judge_day.new.self) _ _ c.from_residual.result c.in_err-why.field-0.0 c.from_residual.ensures.1
    (says (stands g.S.Store c.args.self.now) (stands g.S.Store c.judge_day.new.self) (Some c.in_err-why.field-0.0) _ _ (λ v. ⊥) _ (λ lawful p. p.0) (λ v none. absurd none) c.in_err-why.ensures.does)

pub returns-in_ok-put_close-in-Ok : goal.returns-in_ok-put_close-in-Ok
returns-in_ok-put_close-in-Ok g c =
    let a = stands g.S.Store c.args.self.now in
    let b = stands g.S.Store c.judge_day.new.self in
    let d = stands g.S.Store c.put_close.new.self in
    let P : Type 0 = JudgesDay a.value c.args.device c.args.day (Ok c.in-Ok.lane) in
    let first : Calls a b None ((b.value ≡ a.value) × P) (λ v. ⊥) = rw c.in-Ok.is at c.in_ok-why.ensures.does in
    let second : Calls (given (MayClose b.value c.args.device c.in-Ok.lane) b) d None (d.value ≡ with_close c.args.device b.value) (λ v. v ≡ with_close c.args.device b.value) = c.in_ok-put_close-in-Ok.ensures in
    says a d None _ _ (λ v. (close_of a.value c.args.device c.args.day ≡ Ok tt) × (v ≡ with_close c.args.device a.value)) _ (λ lawful p. (p.1.0, p.2 ∙ ap (with_close c.args.device) p.0)) (λ v is. is)
    (write_then a b d P (d.value ≡ with_close c.args.device b.value) None (λ v. v ≡ with_close c.args.device b.value) (λ v. (close_of a.value c.args.device c.args.day ≡ Ok tt) × (v ≡ with_close c.args.device a.value))
    (λ p v is. (p.1.0, is ∙ ap (with_close c.args.device) p.0)) first
    (given_more b d _ _ _ None _ (λ p. subst (λ (v : LedgerValue). MayClose v c.args.device c.in-Ok.lane) (sym p.0) (may_close a.value c.args.device c.args.day c.in-Ok.lane p.1)) second))

pub returns-in_err-put_close-in-Ok : goal.returns-in_err-put_close-in-Ok
returns-in_err-put_close-in-Ok g c =
    let a = stands g.S.Store c.args.self.now in
    let b = stands g.S.Store c.judge_day.new.self in
    let d = stands g.S.Store c.put_close.new.self in
    let P : Type 0 = JudgesDay a.value c.args.device c.args.day (Ok c.in-Ok.lane) in
    let first : Calls a b None ((b.value ≡ a.value) × P) (λ v. ⊥) = rw c.in-Ok.is at c.in_ok-why.ensures.does in
    let second : Calls (given (MayClose b.value c.args.device c.in-Ok.lane) b) d (Some c.in_err-put_close-in-Ok.field-0.0) (d.value ≡ b.value) (λ v. v ≡ with_close c.args.device b.value) = c.in_err-put_close-in-Ok.ensures in
    write_failed a d _ _ c.from_residual-in_err-put_close-in-Ok.result c.in_err-put_close-in-Ok.field-0.0 c.from_residual-in_err-put_close-in-Ok.ensures.1 (says a d (Some c.in_err-put_close-in-Ok.field-0.0) _ _ (λ v. (close_of a.value c.args.device c.args.day ≡ Ok tt) × (v ≡ with_close c.args.device a.value)) _ (λ lawful p. p.2 ∙ p.0) (λ v is. is)
    (write_then a b d P (d.value ≡ b.value) (Some c.in_err-put_close-in-Ok.field-0.0) (λ v. v ≡ with_close c.args.device b.value) (λ v. (close_of a.value c.args.device c.args.day ≡ Ok tt) × (v ≡ with_close c.args.device a.value))
    (λ p v is. (p.1.0, is ∙ ap (with_close c.args.device) p.0)) first
    (given_more b d _ _ _ (Some _) _ (λ p. subst (λ (v : LedgerValue). MayClose v c.args.device c.in-Ok.lane) (sym p.0) (may_close a.value c.args.device c.args.day c.in-Ok.lane p.1)) second)))
