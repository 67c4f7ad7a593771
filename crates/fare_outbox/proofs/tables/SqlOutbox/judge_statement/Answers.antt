use Rattle.std.proofs.Common.{◌≡◌, ℕ, Some, None, Ok, Err, Option, sym, ◌∙◌, arith}
use Rattle.fare_store.specs.declared.fault.StatedFault.TheVariants as stated
use Rattle.fare_store.specs.Standing.{Calls}
use Rattle.fare_outbox.specs.Words.{stands}
use Rattle.fare_tables.proofs.Steps.{read_then, read_failed}
use Rattle.fare_outbox.proofs.Judged.{said, held_then, stated_before, stated_otherwise, stated_full, stated_welcome}
use Rattle.fare_outbox.proofs.tables.SqlOutbox.judge_statement.Goals as goal

pub returns-in_err-held-clause-does : goal.returns-in_err-held-clause-does
returns-in_err-held-clause-does g c =
    let a = stands g.S.Store c.args.self.now in
    let b = stands g.S.Store c.begin.new.self in
    let d = stands g.S.Store c.held_count.new.self in
    let s = c.args.statement.now in
    let first : Calls a b None ((b.value ≡ a.value) × Unit {0}) (λ v. ⊥) = c.in_ok-begin.ensures.does in
    read_failed a d _ _ c.from_residual-in_err-held.result _ c.from_residual-in_err-held.ensures.1 (read_then a b d (Unit {0}) (Unit {0}) (Some _) first c.in_err-held.ensures.does)

pub returns-then-held-count-clause-does : goal.returns-then-held-count-clause-does
returns-then-held-count-clause-does g c =
    let a = stands g.S.Store c.args.self.now in
    let b = stands g.S.Store c.begin.new.self in
    let d = stands g.S.Store c.held_count.new.self in
    let s = c.args.statement.now in
    let first : Calls a b None ((b.value ≡ a.value) × Unit {0}) (λ v. ⊥) = c.in_ok-begin.ensures.does in
    let second : Calls b d None ((d.value ≡ b.value) × (Some c.in-Some.held ≡ b.value.stated s.owner s.device s.day)) (λ v. ⊥) = rw c.in-Some.is at c.in_ok-held.ensures.does in
    let same = c.if-held-count.true ∙ c.count.ensures.value in
    said a d s (Some c.in-Some.held) (Err stated.Duplicate) (λ lawful seen. stated_before a.value s c.in-Some.held same seen) (held_then a b d s (Some c.in-Some.held) first second)

pub returns-else-held-count-clause-does : goal.returns-else-held-count-clause-does
returns-else-held-count-clause-does g c =
    let a = stands g.S.Store c.args.self.now in
    let b = stands g.S.Store c.begin.new.self in
    let d = stands g.S.Store c.held_count.new.self in
    let s = c.args.statement.now in
    let first : Calls a b None ((b.value ≡ a.value) × Unit {0}) (λ v. ⊥) = c.in_ok-begin.ensures.does in
    let second : Calls b d None ((d.value ≡ b.value) × (Some c.in-Some.held ≡ b.value.stated s.owner s.device s.day)) (λ v. ⊥) = rw c.in-Some.is at c.in_ok-held.ensures.does in
    let other = λ (e : c.in-Some.held ≡ s.count). c.if-held-count.false (e ∙ sym c.count.ensures.value) in
    said a d s (Some c.in-Some.held) (Err stated.Conflict) (λ lawful seen. stated_otherwise a.value s c.in-Some.held other seen) (held_then a b d s (Some c.in-Some.held) first second)

pub returns-then-self-ge-MOST_ROWS-clause-does : goal.returns-then-self-ge-MOST_ROWS-clause-does
returns-then-self-ge-MOST_ROWS-clause-does g c =
    let a = stands g.S.Store c.args.self.now in
    let b = stands g.S.Store c.begin.new.self in
    let d = stands g.S.Store c.held_count.new.self in
    let s = c.args.statement.now in
    let first : Calls a b None ((b.value ≡ a.value) × Unit {0}) (λ v. ⊥) = c.in_ok-begin.ensures.does in
    let second : Calls b d None ((d.value ≡ b.value) × (◌≡◌ {A = Option ℕ} None (b.value.stated s.owner s.device s.day))) (λ v. ⊥) = rw c.in-None.is at c.in_ok-held.ensures.does in
    let kept : c.held_count.new.self.statements ≡ c.args.self.now.statements = c.in_ok-held.ensures.statements ∙ c.in_ok-begin.ensures.statements in
    let many = c.if-self-ge-MOST_ROWS.true in
    said a d s None (Err stated.OutboxFull) (λ lawful seen. stated_full a.value s c.held_count.new.self.statements (kept ∙ lawful.fit.fits.statements_are) many seen) (held_then a b d s None first second)

pub returns-else-self-ge-MOST_ROWS-clause-does : goal.returns-else-self-ge-MOST_ROWS-clause-does
returns-else-self-ge-MOST_ROWS-clause-does g c =
    let a = stands g.S.Store c.args.self.now in
    let b = stands g.S.Store c.begin.new.self in
    let d = stands g.S.Store c.held_count.new.self in
    let s = c.args.statement.now in
    let first : Calls a b None ((b.value ≡ a.value) × Unit {0}) (λ v. ⊥) = c.in_ok-begin.ensures.does in
    let second : Calls b d None ((d.value ≡ b.value) × (◌≡◌ {A = Option ℕ} None (b.value.stated s.owner s.device s.day))) (λ v. ⊥) = rw c.in-None.is at c.in_ok-held.ensures.does in
    let kept : c.held_count.new.self.statements ≡ c.args.self.now.statements = c.in_ok-held.ensures.statements ∙ c.in_ok-begin.ensures.statements in
    let few = c.if-self-ge-MOST_ROWS.false in
    said a d s None (Ok tt) (λ lawful seen. stated_welcome a.value s c.held_count.new.self.statements (kept ∙ lawful.fit.fits.statements_are) (omega (arith, few)) seen) (held_then a b d s None first second)
