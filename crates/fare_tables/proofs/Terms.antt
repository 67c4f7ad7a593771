-- How the terms of a WHERE compare numbers, and which rows pass them.
use Rattle.std.proofs.Common.{◌≡◌, ℕ, ◌==◌, ◌&&◌, inl, inr, if◌then◌else◌, nat_lt, nat_le, pos, List, [], ◌∷◌, map, filter, Bool, true, false, Some, refl, ap, ◌∙◌, arith}
use Rattle.std.specs.Ordering.{is_eq, is_ge, is_gt, is_le, int_cmp}
use Rattle.std.specs.List.{AllByRecursion, flat_map}
use Rattle.std.proofs.lemmas.Bool.{cases_Bool}
use Rattle.std.proofs.lemmas.Bool.Decides.{nat_tests}
use Rattle.sqlite.specs.declared.types.Value.TheVariants.{Null}
use Rattle.sqlite_value.specs.Order.{Row}
use Rattle.sqlite_value.proofs.OrderLemmas.{value_cmp-Int}
use Rattle.sqlite.specs.Ops.{binary, is_true, from_truth}
use Rattle.sqlite.specs.Collation.TheVariants.{Binary}
use Rattle.sqlite_sql.specs.declared.ops.BinaryOp.TheVariants as by
use Rattle.sqlite_sql.specs.declared.ops.CompareOp.TheVariants as cmp
use Rattle.sqlite_sql.specs.Term.{Term, Env}
use Rattle.sqlite.specs.Query.{Query, matches_as, end, output, Output}
use Rattle.fare_tables.specs.Cells.{int}

pub pos_eq : (a b : ℕ) → is_eq (int_cmp (pos a) (pos b)) ≡ (a == b)
pos_eq a b = grind (arith, nat_tests)

pos_gt : (a b : ℕ) → is_gt (int_cmp (pos a) (pos b)) ≡ nat_lt b a
pos_gt a b = grind (arith, nat_tests)

pos_ge : (a b : ℕ) → is_ge (int_cmp (pos a) (pos b)) ≡ nat_le b a
pos_ge a b = grind (arith, nat_tests)

pos_le : (a b : ℕ) → is_le (int_cmp (pos a) (pos b)) ≡ nat_le a b
pos_le a b = grind (arith, nat_tests)

truth_of : (b : Bool) → is_true (from_truth (Some b)) ≡ b
truth_of true = refl
truth_of false = refl

pub eq_holds : (a b : ℕ) → is_true (binary (by.Compare cmp.Eq Binary) (int a) (int b)) ≡ (a == b)
unfolding binary
eq_holds a b = rw (value_cmp-Int (pos a) (pos b)) (truth_of (is_eq (int_cmp (pos a) (pos b))) ∙ pos_eq a b)

pub gt_holds : (a b : ℕ) → is_true (binary (by.Compare cmp.Gt Binary) (int a) (int b)) ≡ nat_lt b a
unfolding binary
gt_holds a b = rw (value_cmp-Int (pos a) (pos b)) (truth_of (is_gt (int_cmp (pos a) (pos b))) ∙ pos_gt a b)

pub ge_holds : (a b : ℕ) → is_true (binary (by.Compare cmp.Ge Binary) (int a) (int b)) ≡ nat_le b a
unfolding binary
ge_holds a b = rw (value_cmp-Int (pos a) (pos b)) (truth_of (is_ge (int_cmp (pos a) (pos b))) ∙ pos_ge a b)

pub le_holds : (a b : ℕ) → is_true (binary (by.Compare cmp.Le Binary) (int a) (int b)) ≡ nat_le a b
unfolding binary
le_holds a b = rw (value_cmp-Int (pos a) (pos b)) (truth_of (is_le (int_cmp (pos a) (pos b))) ∙ pos_le a b)

-- an environment, where a test holds
abbrev pub chosen : Bool → Env → List Env
chosen true env = env ∷ []
chosen false env = []

-- the rows of a kind that pass a test, each behind the parameters
pub matched : (Kind : Row → Type 0) (test : Row → Bool) (params : Row) (terms : List Term) → ((r : Row) → Kind r → matches_as Null (λ _. []) terms end (params ∷ r ∷ []) ≡ chosen (test r) (params ∷ r ∷ []))
    → (rows : List Row) → AllByRecursion Kind rows → flat_map (λ r. matches_as Null (λ _. []) terms end (params ∷ r ∷ [])) rows ≡ map (λ r. params ∷ r ∷ []) (filter test rows)
matched Kind test params terms each [] all = refl
matched Kind test params terms each (r ∷ rows) all = rw (each r all.0) (elim (cases_Bool (test r)) [
  | inl kept ↦ rw kept (ap (λ more. (params ∷ r ∷ []) ∷ more) (matched Kind test params terms each rows all.1))
  | inr left ↦ rw left (matched Kind test params terms each rows all.1)
])

-- what is shown of the rows that pass
pub shown_as : {X : Type 0} (of : Row → X) (out : X → Output) (test : X → Bool) (q : Query) (params : Row) (Kind : Row → Type 0) → ((r : Row) → Kind r → output q (params ∷ r ∷ []) ≡ out (of r)) → (rows : List Row) → AllByRecursion Kind rows
    → map (output q) (map (λ r. params ∷ r ∷ []) (filter (λ r. test (of r)) rows)) ≡ map out (filter test (map of rows))
shown_as of out test q params Kind each [] all = refl
shown_as of out test q params Kind each (r ∷ rows) all = elim (cases_Bool (test (of r))) [
  | inl kept ↦ rw (kept, each r all.0) (ap (λ more. out (of r) ∷ more) (shown_as of out test q params Kind each rows all.1))
  | inr left ↦ rw left (shown_as of out test q params Kind each rows all.1)
]

-- one, two and three terms that all hold
pub one_term : (a : Bool) (env : Env) → (if (a && true) then env ∷ [] else []) ≡ chosen a env
one_term true env = refl
one_term false env = refl

pub two_terms : (a b : Bool) (env : Env) → (if (a && (b && true)) then env ∷ [] else []) ≡ chosen (a && b) env
two_terms true true env = refl
two_terms true false env = refl
two_terms false b env = refl

pub three_terms : (a b c : Bool) (env : Env) → (if (a && (b && (c && true))) then env ∷ [] else []) ≡ chosen (a && b && c) env
three_terms true true true env = refl
three_terms true true false env = refl
three_terms true false c env = refl
three_terms false b c env = refl
