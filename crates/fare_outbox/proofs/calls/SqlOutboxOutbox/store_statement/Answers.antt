use Rattle.std.proofs.Common.{◌≡◌, Some, None, Ok, Result, sym, ap, subst, ◌∙◌}
use Rattle.fare_store.specs.declared.fault.StatedFault.{StatedFault}
use Rattle.fare_store.specs.Standing.{Calls}
use Rattle.fare_store.specs.OutboxWords.{OutboxValue, stated_judged, stored_statement}
use Rattle.fare_tables.specs.Tabled.{given}
use Rattle.fare_tables.proofs.Steps.{says, write_failed, given_more, write_then}
use Rattle.fare_outbox.specs.Words.{stands}
use Rattle.fare_outbox.proofs.Judged.{may_state}
use Rattle.fare_outbox.proofs.calls.SqlOutboxOutbox.store_statement.Goals as goal

pub returns-in_err-why : goal.returns-in_err-why
returns-in_err-why g c =
    write_failed (stands g.S.Store c.args.self.now) (stands g.S.Store c.judge_statement.new.self) _ _ c.from_residual.result c.in_err-why.field-0.0 c.from_residual.ensures.1
    (says (stands g.S.Store c.args.self.now) (stands g.S.Store c.judge_statement.new.self) (Some c.in_err-why.field-0.0) _ _ (λ v. ⊥) _ (λ lawful p. p.0) (λ v none. absurd none) c.in_err-why.ensures.does)

pub returns-in_ok-put_statement-in-Ok : goal.returns-in_ok-put_statement-in-Ok
returns-in_ok-put_statement-in-Ok g c =
    let a = stands g.S.Store c.args.self.now in
    let b = stands g.S.Store c.judge_statement.new.self in
    let d = stands g.S.Store c.put_statement.new.self in
    let r = c.args.statement.now in
    let P : Type 0 = ◌≡◌ {A = Result Unit StatedFault} (Ok tt) (stated_judged a.value r) in
    let first : Calls a b None ((b.value ≡ a.value) × P) (λ v. ⊥) = rw c.in-Ok.is at c.in_ok-why.ensures.does in
    let second : Calls (given (b.value.stated r.owner r.device r.day ≡ None) b) d None (d.value ≡ stored_statement r b.value) (λ v. v ≡ stored_statement r b.value) = c.in_ok-put_statement-in-Ok.ensures in
    says a d None _ _ (λ v. (stated_judged a.value r ≡ Ok tt) × (v ≡ stored_statement r a.value)) _ (λ lawful p. (sym p.1, p.2 ∙ ap (stored_statement r) p.0)) (λ v is. is)
    (write_then a b d P (d.value ≡ stored_statement r b.value) None (λ v. v ≡ stored_statement r b.value) (λ v. (stated_judged a.value r ≡ Ok tt) × (v ≡ stored_statement r a.value))
    (λ p v is. (sym p.1, is ∙ ap (stored_statement r) p.0)) first
    (given_more b d _ _ _ None _ (λ p. subst (λ (v : OutboxValue). v.stated r.owner r.device r.day ≡ None) (sym p.0) (may_state a.value r p.1)) second))

pub returns-in_err-put_statement-in-Ok : goal.returns-in_err-put_statement-in-Ok
returns-in_err-put_statement-in-Ok g c =
    let a = stands g.S.Store c.args.self.now in
    let b = stands g.S.Store c.judge_statement.new.self in
    let d = stands g.S.Store c.put_statement.new.self in
    let r = c.args.statement.now in
    let P : Type 0 = ◌≡◌ {A = Result Unit StatedFault} (Ok tt) (stated_judged a.value r) in
    let first : Calls a b None ((b.value ≡ a.value) × P) (λ v. ⊥) = rw c.in-Ok.is at c.in_ok-why.ensures.does in
    let second : Calls (given (b.value.stated r.owner r.device r.day ≡ None) b) d (Some c.in_err-put_statement-in-Ok.field-0.0) (d.value ≡ b.value) (λ v. v ≡ stored_statement r b.value) = c.in_err-put_statement-in-Ok.ensures in
    write_failed a d _ _ c.from_residual-in_err-put_statement-in-Ok.result c.in_err-put_statement-in-Ok.field-0.0 c.from_residual-in_err-put_statement-in-Ok.ensures.1 (says a d (Some c.in_err-put_statement-in-Ok.field-0.0) _ _ (λ v. (stated_judged a.value r ≡ Ok tt) × (v ≡ stored_statement r a.value)) _ (λ lawful p. p.2 ∙ p.0) (λ v is. is)
    (write_then a b d P (d.value ≡ b.value) (Some c.in_err-put_statement-in-Ok.field-0.0) (λ v. v ≡ stored_statement r b.value) (λ v. (stated_judged a.value r ≡ Ok tt) × (v ≡ stored_statement r a.value))
    (λ p v is. (sym p.1, is ∙ ap (stored_statement r) p.0)) first
    (given_more b d _ _ _ (Some _) _ (λ p. subst (λ (v : OutboxValue). v.stated r.owner r.device r.day ≡ None) (sym p.0) (may_state a.value r p.1)) second)))
