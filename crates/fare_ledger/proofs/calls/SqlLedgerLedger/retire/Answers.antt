use Rattle.std.proofs.Common.{◌≡◌, Some, None, Ok, Err, Result, sym, ap, ◌∙◌}
use Rattle.fare_store.specs.Standing.{Calls}
use Rattle.fare_tables.proofs.Steps.{says, write_failed, given_any, write_then}
use Rattle.fare_owner.specs.declared.retiring.RetireFault.{RetireFault}
use Rattle.fare_store.specs.LedgerWords.{retire_of, with_retired}
use Rattle.fare_ledger.specs.Words.{stands}
use Rattle.fare_ledger.proofs.calls.SqlLedgerLedger.retire.Goals as goal

pub returns-in_err-why-clause-does : goal.returns-in_err-why-clause-does
returns-in_err-why-clause-does g c mine =
    write_failed (stands g.S.Store c.args.self.now) (stands g.S.Store c.judge_lane.new.self) _ _ c.from_residual.result c.in_err-why.field-0.0 c.from_residual.ensures.1
    (says (stands g.S.Store c.args.self.now) (stands g.S.Store c.judge_lane.new.self) (Some c.in_err-why.field-0.0) _ _ (λ v. ⊥) _ (λ lawful p. p.0) (λ v none. absurd none) c.in_err-why.ensures.does)

pub returns-in_ok-put_retired-in-Ok-clause-does : goal.returns-in_ok-put_retired-in-Ok-clause-does
returns-in_ok-put_retired-in-Ok-clause-does g c mine =
    let a = stands g.S.Store c.args.self.now in
    let b = stands g.S.Store c.judge_lane.new.self in
    let d = stands g.S.Store c.put_retired.new.self in
    let x = c.args.device in
    let P : Type 0 = ◌≡◌ {A = Result Unit RetireFault} (Ok tt) (retire_of a.value x) in
    let first : Calls a b None ((b.value ≡ a.value) × P) (λ v. ⊥) = rw c.in-Ok.is at c.in_ok-why.ensures.does in
    let second : Calls b d None (d.value ≡ with_retired x b.value) (λ v. v ≡ with_retired x b.value) = c.in_ok-put_retired-in-Ok.ensures in
    says a d None _ _ (λ v. (retire_of a.value x ≡ Ok tt) × (v ≡ with_retired x a.value)) _ (λ lawful p. (sym p.1, p.2 ∙ ap (with_retired x) p.0)) (λ v is. is)
    (write_then a b d P (d.value ≡ with_retired x b.value) None (λ v. v ≡ with_retired x b.value) (λ v. (retire_of a.value x ≡ Ok tt) × (v ≡ with_retired x a.value))
    (λ p v is. (sym p.1, is ∙ ap (with_retired x) p.0)) first (given_any b d _ _ None _ second))

pub returns-in_err-put_retired-in-Ok-clause-does : goal.returns-in_err-put_retired-in-Ok-clause-does
returns-in_err-put_retired-in-Ok-clause-does g c mine =
    let a = stands g.S.Store c.args.self.now in
    let b = stands g.S.Store c.judge_lane.new.self in
    let d = stands g.S.Store c.put_retired.new.self in
    let x = c.args.device in
    let P : Type 0 = ◌≡◌ {A = Result Unit RetireFault} (Ok tt) (retire_of a.value x) in
    let first : Calls a b None ((b.value ≡ a.value) × P) (λ v. ⊥) = rw c.in-Ok.is at c.in_ok-why.ensures.does in
    let second : Calls b d (Some c.in_err-put_retired-in-Ok.field-0.0) (d.value ≡ b.value) (λ v. v ≡ with_retired x b.value) = c.in_err-put_retired-in-Ok.ensures in
    write_failed a d _ _ c.from_residual-in_err-put_retired-in-Ok.result c.in_err-put_retired-in-Ok.field-0.0 c.from_residual-in_err-put_retired-in-Ok.ensures.1 (says a d (Some c.in_err-put_retired-in-Ok.field-0.0) _ _ (λ v. (retire_of a.value x ≡ Ok tt) × (v ≡ with_retired x a.value)) _ (λ lawful p. p.2 ∙ p.0) (λ v is. is)
    (write_then a b d P (d.value ≡ b.value) (Some c.in_err-put_retired-in-Ok.field-0.0) (λ v. v ≡ with_retired x b.value) (λ v. (retire_of a.value x ≡ Ok tt) × (v ≡ with_retired x a.value))
    (λ p v is. (sym p.1, is ∙ ap (with_retired x) p.0)) first (given_any b d _ _ (Some _) _ second)))

pub returns-in-Err-clause-does : goal.returns-in-Err-clause-does
returns-in-Err-clause-does g c mine =
    let a = stands g.S.Store c.args.self.now in
    let b = stands g.S.Store c.judge_lane.new.self in
    let first : Calls a b None ((b.value ≡ a.value) × (◌≡◌ {A = Result Unit RetireFault} (Err c.in-Err.why) (retire_of a.value c.args.device))) (λ v. ⊥) = rw c.in-Err.is at c.in_ok-why.ensures.does in
    says a b None _ _ (λ v. ⊥) _ (λ lawful p. (sym p.1, p.0)) (λ v none. absurd none) first
