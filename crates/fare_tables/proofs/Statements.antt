-- What a statement of a transaction leaves.
use Rattle.std.proofs.Common.{◌≡◌, ◌⊎◌, inl, inr, ℕ, ℤ, List, Bool, true, false, cond, Some, None, Ok, Err, Result, IsTrue, refl, ap, subst}
use Rattle.std.specs.Prelude.{length}
use Rattle.std.proofs.lemmas.Bool.{cases_Bool}
use Rattle.sqlite.specs.declared.types.Value.{Value}
use Rattle.sqlite.specs.declared.types.Value.TheVariants.{Null, Int}
use Rattle.sqlite_value.specs.Order.{Row}
use Rattle.sqlite.specs.Ops.{unary}
use Rattle.sqlite.specs.Tree.{Trees}
use Rattle.sqlite.specs.Kind.TheVariants.{Integer}
use Rattle.sqlite.specs.Cast.{cast}
use Rattle.sqlite.specs.Does.{Tally, OnRows, WritesRows}
use Rattle.sqlite.specs.Rows.{Written, Task}
use Rattle.sqlite.specs.declared.run.Mode.{Mode}
use Rattle.sqlite_schema.specs.declared.command.Command.{Command}
use Rattle.sqlite.specs.declared.error.Error.{Error}
use Rattle.sqlite.specs.Effect.{Database}
use Rattle.sqlite.specs.State.{State, ExecutesInside}
use Rattle.sqlite.specs.Held.{Held, state}
use Rattle.sqlite.specs.Store.{Ghosts}
use Rattle.fare_tables.specs.Asking.{Inside}

whichever : (b : Bool) (x : Value) → cond b x x ≡ x
whichever true x = refl
whichever false x = refl

pub cast_int : (n : ℤ) → cast Integer (Int n) ≡ Int n
unfolding unary
cast_int n = whichever _ (Int n)

pub cast_null : cast Integer Null ≡ Null
unfolding unary
cast_null = whichever _ Null

-- a part that gave a value did not stop on the way
pub went : {B E R : Type 0} {b : B} {Stops : E → Type 0} → ((stop : E) × Stops stop × (Ok b ≡ Err stop)) ⊎ R → R
went (inl stopped) = absurd (let e = stopped.2 in cc)
went (inr on) = on

pub same_value : {B E : Type 0} {a b : B} → ◌≡◌ {A = Result B E} (Ok a) (Ok b) → a ≡ b
same_value e = cc

-- a statement on rows, with no RETURNING, leaves the trees that its part wrote, and tells how many rows these were
pub record Wrote (task : Task) (db : Trees) (command : Command) (tally : Tally) (after : Database) : Type 0 where
  pub written : Written
  pub wrote : WritesRows task db command (Ok written)
  pub after_is : after ≡ record { schema = task.schema; trees = written.trees }
  pub told : tally.rows ≡ Some (length written.rows)

pub made : (task : Task) (mode : Mode) (command : Command) (db : Trees) (tally : Tally) (after : Database) → OnRows task mode None command db (Ok (tally, after)) → Wrote task db command tally after
made task mode command db tally after h =
    let done = went h in
    let both = same_value (went (went done.2).2).2 in
    record { written = done.0; wrote = done.1; after_is = ap (λ (p : Tally × Database). p.1) both; told = ap (λ (p : Tally × Database). p.0.rows) both }

ran_inside : (sql : List ℕ) (params : Row) (old new : State) (r : Result ℕ Error) → ExecutesInside 0 sql params old new r → Inside old new
ran_inside sql params old new (Ok count) h live = (h.1.was_open, h.1.committed_is)
ran_inside sql params old new (Err e) (inl (ran, inl same)) live = (same.0.was_open, same.0.committed_is)
ran_inside sql params old new (Err e) (inl (ran, inr undone)) live = (undone.was_open live, (undone.undone live).1)
ran_inside sql params old new (Err e) (inr h) live = (h.2.0.was_open, h.2.0.committed_is)

-- also where an earlier failure had ended the transaction, and nothing was run
pub stays_inside : {S : Type 0} (g : Ghosts S) (sql : List ℕ) (params : Row) (old new : Held S) (r : Result ℕ Error) (refused : Type 0)
    → (old.in_transaction ≡ false → refused × (new ≡ old)) → (IsTrue old.in_transaction → ExecutesInside 0 sql params (state g old) (state g new) r) → Inside (state g old) (state g new)
stays_inside g sql params old new r refused ended runs live = elim (cases_Bool old.in_transaction) [
  | inl inside ↦ ran_inside sql params (state g old) (state g new) r (runs inside) live
  | inr over ↦ (let same = (ended over).1 in (subst (λ h. IsTrue (state g h).is_open) same live, ap (λ h. (state g h).committed) same))
]
