use Rattle.std.proofs.Common.{◌≡◌, ℕ, Some, None, subst, ◌∙◌}
use Rattle.std.specs.Prelude.{IsTrue, ◌↔◌}
use Rattle.sqlite.specs.Held.{state}
use Rattle.fare_store.specs.Standing.{Calls}
use Rattle.fare_store.specs.OutboxWords.{OutboxValue}
use Rattle.fare_tables.proofs.Steps.{read_then, read_failed, says}
use Rattle.fare_outbox_rows.specs.Layouts.{ours}
use Rattle.fare_outbox_rows.specs.Held.{held_of}
use Rattle.fare_outbox.specs.Words.{stands}
use Rattle.fare_outbox.proofs.Seen.{empty_is}
use Rattle.fare_outbox.proofs.calls.SqlOutboxOutbox.is_empty.Goals as goal

pub returns : goal.returns
returns g c =
    let a = stands g.S.Store c.args.self.now in
    let b = stands g.S.Store c.begin.new.self in
    let d = stands g.S.Store c.saw_none.new.self in
    let first : Calls a b None ((b.value ≡ a.value) × Unit {0}) (λ v. ⊥) = c.in_ok-begin.ensures.does in
    let Q : Type 0 = IsTrue c.in_ok-none.none ↔ ((device : ℕ) → b.value.upto device ≡ 0) in
    let second : Calls b d None ((d.value ≡ b.value) × Q) (λ v. ⊥) = c.in_ok-none.ensures.does in
    let rows : c.saw_none.new.self.rows ≡ c.args.self.now.rows = c.in_ok-none.ensures.rows ∙ c.in_ok-begin.ensures.rows in
    let statements : c.saw_none.new.self.statements ≡ c.args.self.now.statements = c.in_ok-none.ensures.statements ∙ c.in_ok-begin.ensures.statements in
    says a d None _ _ (λ v. ⊥) (λ v. ⊥) (λ lawful p. (
      p.0,
      empty_is (held_of (ours c.args.self.now.layout (state g.S.Store c.args.self.now.conn).now.trees)) c.in_ok-none.none c.is_nothing.result c.saw_none.new.self.rows c.saw_none.new.self.statements
          (subst (λ (v : OutboxValue). IsTrue c.in_ok-none.none ↔ ((device : ℕ) → v.upto device ≡ 0)) p.1.0 p.1.2) (rows ∙ lawful.fit.fits.rows_are) (statements ∙ lawful.fit.fits.statements_are) c.is_nothing.ensures,
    )) (λ v none. none)
    (read_then a b d (Unit {0}) Q None first second)

pub returns-in_err-none : goal.returns-in_err-none
returns-in_err-none g c =
    let a = stands g.S.Store c.args.self.now in
    let b = stands g.S.Store c.begin.new.self in
    let d = stands g.S.Store c.saw_none.new.self in
    let first : Calls a b None ((b.value ≡ a.value) × Unit {0}) (λ v. ⊥) = c.in_ok-begin.ensures.does in
    read_failed a d _ _ c.from_residual-in_err-none.result _ c.from_residual-in_err-none.ensures.1 (read_then a b d (Unit {0}) (Unit {0}) (Some _) first c.in_err-none.ensures.does)
