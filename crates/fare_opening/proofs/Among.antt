-- Where a table stands among the first of a schema.
use Rattle.std.proofs.Common.{◌≡◌, ◌≢◌, ◌+◌, ◌<◌, ◌≤◌, ◌==◌, inl, inr, ℕ, zero, suc, length, List, [], ◌∷◌, Some, sym, subst, arith}
use Rattle.std.proofs.lemmas.Bool.{cases_Bool}
use Rattle.std.proofs.lemmas.Bool.Decides.{nat_tests}
use Rattle.std.specs.Prelude.{slice_get}
use Rattle.sqlite.specs.Schema.{Schema}
use Rattle.sqlite.specs.Table.{Table}
use Rattle.sqlite_schema.specs.Names.{table_named}
use Rattle.fare_layout.specs.declared.place.Place.{Place}
use Rattle.fare_opening.proofs.Meanings.{IsRead}

-- a table stands there under its name, and its tree is its own
pub record Has (s : Schema) (name : List ℕ) (table : ℕ → Table) (p : Place) : Type 0 where
  pub named : table_named s name ≡ Some p.at
  pub there : slice_get s.tables p.at ≡ Some (table p.tree)
  pub read : IsRead s p.tree (table p.tree)

same_some : {X : Type 0} {x y : X} → Some x ≡ Some y → x ≡ y
same_some e = cc

-- what holds where it is the first, and where it stands among the others, holds
pub step : {n : ℕ} (P : List Table → ℕ → Type 0) (t : Table) → ((ys : List Table) → P (t ∷ ys) 0) → ((y : Table) (ts : List Table) (at : ℕ) → at < n → slice_get ts at ≡ Some t → P (y ∷ ts) (suc at)) → (ts : List Table) (at : ℕ) → at < suc n → slice_get ts at ≡ Some t → P ts at
step P t first later [] at low is = absurd (let e = is in cc)
step P t first later (y ∷ ts) zero low is = subst (λ x. P (x ∷ ts) 0) (sym (same_some is)) (first ts)
step P t first later (y ∷ ts) (suc at) low is = later y ts at (omega (arith, low)) is

pub one_more : {n : ℕ} (Q : List Table → Type 0) → ((y : Table) (ys : List Table) → length ys ≡ n → Q (y ∷ ys)) → (ys : List Table) → length ys ≡ suc n → Q ys
one_more Q more [] is = absurd (omega (arith, is))
one_more Q more (y ∷ ys) is = more y ys (omega (arith, is))

pub none_more : (Q : List Table → Type 0) → Q [] → (ys : List Table) → length ys ≡ 0 → Q ys
none_more Q none [] is = none
none_more Q none (y ∷ ys) is = absurd (omega (arith, is))

-- a tree is one of a few
pub one_tree : (n : ℕ) (Q : ℕ → Type 0) (least : ℕ) → Q least → ((tree : ℕ) → suc least ≤ tree → tree ≤ suc least + n → Q tree) → (tree : ℕ) → least ≤ tree → tree ≤ least + suc n → Q tree
one_tree n Q least this later tree low high = elim (cases_Bool (least == tree)) [
  | inl is ↦ (let same : least ≡ tree = grind (arith, nat_tests) in subst Q same this)
  | inr off ↦ (let other : least ≢ tree = (λ e. grind (arith, nat_tests)) in later tree (omega (arith, low, other)) (omega (arith, high)))
]

pub last_tree : (Q : ℕ → Type 0) (least : ℕ) → Q least → (tree : ℕ) → least ≤ tree → tree ≤ least + 0 → Q tree
last_tree Q least this tree low high = let same : least ≡ tree = omega (arith, low, high) in subst Q same this
