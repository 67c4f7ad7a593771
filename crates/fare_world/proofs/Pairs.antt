-- Two lists, of which the second is written from the front on.
use Rattle.std.proofs.Common.{◌≡◌, ◌≢◌, ℕ, ◌+◌, ◌<◌, ◌≤◌, List, length, set, Some, refl, sym, ap, ◌∙◌, subst, arith, length-set, inl, inr}
use Rattle.std.specs.Prelude.{◌⊎◌, slice_get}
use Rattle.std.proofs.lemmas.Bool.Decides.{nat_tests}
use Rattle.std.proofs.lemmas.Option.{slice_get_within, same_Some}
use Rattle.fare_world.specs.Restarts.{Paired}
use Rattle.fare_world.proofs.TableLemmas.{slice_get-set_same, slice_get-set_other}
use Rattle.fare_side.proofs.Positions.{set_cases}

-- up to a place each entry stands to the one that was there like this, and from there on it is that one
pub record PairedTo {X : Type 0} (P : X → X → Type 0) (old new : List X) (place : ℕ) : Type 0 where
  pub count : length new ≡ length old
  pub forth : (k : ℕ) (x : X) → k < place → slice_get old k ≡ Some x → (y : X) × (slice_get new k ≡ Some y) × P x y
  pub back : (k : ℕ) (y : X) → k < place → slice_get new k ≡ Some y → (x : X) × (slice_get old k ≡ Some x) × P x y
  pub rest : (k : ℕ) → place ≤ k → slice_get new k ≡ slice_get old k

pub none_paired : {X : Type 0} (P : X → X → Type 0) (xs : List X) → PairedTo P xs xs 0
none_paired P xs = record { count = refl; forth = λ k x lt. absurd (omega (arith, lt)); back = λ k x lt. absurd (omega (arith, lt)); rest = λ k le. refl }

less : (j place : ℕ) → j < place + 1 → j ≢ place → j < place
less j place lt apart = grind (arith, nat_tests)

at_or_before : (j place : ℕ) → j < place + 1 → (j ≡ place) ⊎ (j < place)
at_or_before j place lt = grind (arith, nat_tests)

pub one_paired : {X : Type 0} (P : X → X → Type 0) (old new : List X) (place : ℕ) (x y : X) → PairedTo P old new place → slice_get new place ≡ Some x → P x y → PairedTo P old (set new place y) (place + 1)
one_paired P old new place x y so at is = record {
  count = length-set new place y ∙ so.count;
  forth = λ k z lt e. elim (at_or_before k place lt) [
    | inl here ↦ (y, ap (slice_get (set new place y)) here ∙ slice_get-set_same new place y within, subst (λ q. P q y) (same_Some x z (sym was ∙ ap (slice_get old) (sym here) ∙ e)) is)
    | inr before ↦ let found = so.forth k z before e in (found.0, slice_get-set_other new place k y (apart k before) ∙ found.1, found.2)
  ];
  back = λ k z lt e. elim (set_cases new place y k z e) [
    | inl here ↦ (x, ap (slice_get old) here.0 ∙ was, subst (P x) here.1 is)
    | inr other ↦ so.back k z (less k place lt other.0) other.1
  ];
  rest = λ k le. slice_get-set_other new place k y (beyond k le) ∙ so.rest k (omega (arith, le));
}
  where
    within : place < length new
    within = slice_get_within new place x at

    was : slice_get old place ≡ Some x
    was = sym (so.rest place (omega arith)) ∙ at

    apart : (k : ℕ) → k < place → k ≢ place
    apart k lt same = absurd (omega (arith, lt, same))

    beyond : (k : ℕ) → place + 1 ≤ k → k ≢ place
    beyond k le same = absurd (omega (arith, le, same))

pub wider : {X : Type 0} (P Q : X → X → Type 0) (old new : List X) (place : ℕ) → ((x y : X) → P x y → Q x y) → PairedTo P old new place → PairedTo Q old new place
wider P Q old new place more so = record {
  count = so.count;
  forth = λ k x lt e. let found = so.forth k x lt e in (found.0, found.1, more x found.0 found.2);
  back = λ k y lt e. let found = so.back k y lt e in (found.0, found.1, more found.0 y found.2);
  rest = so.rest;
}

pub all_paired : {X : Type 0} (P : X → X → Type 0) (old new : List X) (place : ℕ) → PairedTo P old new place → length old ≤ place → Paired P old new
all_paired P old new place so le = record {
  forth = λ k x e. so.forth k x (let lt = slice_get_within old k x e in omega (arith, lt, le)) e;
  back = λ k y e. so.back k y (let lt = slice_get_within new k y e in omega (arith, lt, le, so.count)) e;
}

-- where each that was not reached stands to itself like this
pub part_paired : {X : Type 0} (P : X → X → Type 0) (old new : List X) (place : ℕ) → PairedTo P old new place → ((x : X) → P x x) → Paired P old new
part_paired P old new place so itself = record {
  forth = λ k x e. elim (before_or k place) [
    | inl lt ↦ so.forth k x lt e
    | inr le ↦ (x, so.rest k le ∙ e, itself x)
  ];
  back = λ k y e. elim (before_or k place) [
    | inl lt ↦ so.back k y lt e
    | inr le ↦ (y, sym (so.rest k le) ∙ e, itself y)
  ];
}
  where
    before_or : (k place : ℕ) → (k < place) ⊎ (place ≤ k)
    before_or k place = grind (arith, nat_tests)
