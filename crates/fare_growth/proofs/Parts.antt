-- The entries of one kind: what is among them, and what is among all entries.
use Rattle.std.proofs.Common.{◌≡◌, ℕ, ◌+◌, ◌-◌, ◌≤◌, zero, suc, Bool, ◌||◌, true, false, List, [], ◌∷◌, map, Some, refl, sym, ◌∙◌, ap, subst, arith}
use Rattle.std.specs.Prelude.{slice_get}
use Rattle.std.specs.List.{AllByRecursion, enumerate_from}
use Rattle.fare_growth.specs.declared.entry.Entry.{Entry}
use Rattle.fare_growth.specs.declared.registered.Registered.{Registered}
use Rattle.fare_growth.specs.Entries.{entries_of, same_entry, same}
use Rattle.fare_growth.specs.Growth.{has_entry, AddsAtEnd}
use Rattle.fare_growth.proofs.Lists.{StandsIn-from_AddsAtEnd, AddsAtEnd-from_StandsIn}
use Rattle.fare_growth.proofs.Same.{same-refl, same-exact}

pub or_true : (b : Bool) → (b || true) ≡ true
or_true true = refl
or_true false = refl

pub or_false : (b : Bool) → (b || false) ≡ b
or_false true = refl
or_false false = refl

-- no entry of another kind is the same
pub never_has : {X : Type 0} (make : ℕ × X → Entry × Registered) (e : Entry × Registered) → ((a : ℕ × X) → same_entry e.0 (make a).0 ≡ false)
    → (n : ℕ) (xs : List X) → has_entry (map make (enumerate_from n xs)) e ≡ false
never_has make e apart n [] = refl
never_has make e apart n (x ∷ xs) = rw (apart (n, x)) (never_has make e apart (n + 1) xs)

-- a place and what stands there can be read from the entry
pub record IsExact {X : Type 0} (make : ℕ × X → Entry × Registered) : Type 0 where
  pub position : (a b : ℕ × X) → make a ≡ make b → a.0 ≡ b.0
  pub part : (a b : ℕ × X) → make a ≡ make b → a.1 ≡ b.1

module _ {X : Type 0} (make : ℕ × X → Entry × Registered) (exact : IsExact make) where
  -- an entry of the kind is among these exactly where its part stands at its position
  pub stands_from_has : (n : ℕ) (ys : List X) (m : ℕ) (x : X) → has_entry (map make (enumerate_from n ys)) (make (m, x)) ≡ true
      → (n ≤ m) × (slice_get ys (m - n) ≡ Some x)
  stands_from_has n [] m x has = absurd (let h = has in cc)
  stands_from_has n (y ∷ ys) m x has = by (same (make (m, x)) (make (n, y))) refl has (stands_from_has (n + 1) ys m x)
    where
      by : (b : Bool) → same (make (m, x)) (make (n, y)) ≡ b → (b || has_entry (map make (enumerate_from (n + 1) ys)) (make (m, x))) ≡ true
          → (has_entry (map make (enumerate_from (n + 1) ys)) (make (m, x)) ≡ true → (n + 1 ≤ m) × (slice_get ys (m - (n + 1)) ≡ Some x))
          → (n ≤ m) × (slice_get (y ∷ ys) (m - n) ≡ Some x)
      by true is _ _ =
          let equal = same-exact (make (m, x)) (make (n, y)) is in
          let position : m ≡ n = exact.position (m, x) (n, y) equal in
          let part : x ≡ y = exact.part (m, x) (n, y) equal in
          let none : m - n ≡ 0 = omega arith in
          (omega arith, ap (slice_get (y ∷ ys)) none ∙ ap Some (sym part))
      by false _ later go =
          let rest = go later in
          let above : n + 1 ≤ m = rest.0 in
          let next : m - n ≡ suc (m - (n + 1)) = omega arith in
          (omega arith, ap (slice_get (y ∷ ys)) next ∙ rest.1)

  pub has_from_stands : (n : ℕ) (ys : List X) (k : ℕ) (x : X) → slice_get ys k ≡ Some x → has_entry (map make (enumerate_from n ys)) (make (n + k, x)) ≡ true
  has_from_stands n [] k x here = absurd (let h = here in cc)
  has_from_stands n (y ∷ ys) zero x here =
      let part : y ≡ x = (let h = here in cc) in
      let place : n + zero ≡ n = omega arith in
      let is : same (make (n + zero, x)) (make (n, y)) ≡ true =
      subst (λ z. same (make (n + zero, x)) (make (n, z)) ≡ true) (sym part) (subst (λ m. same (make (n + zero, x)) (make (m, x)) ≡ true) place (same-refl (make (n + zero, x)))) in
      ap (λ b. b || has_entry (map make (enumerate_from (n + 1) ys)) (make (n + zero, x))) is
  has_from_stands n (y ∷ ys) (suc k) x here =
      let place : (n + 1) + k ≡ n + suc k = omega arith in
      let rest : has_entry (map make (enumerate_from (n + 1) ys)) (make (n + suc k, x)) ≡ true =
      subst (λ m. has_entry (map make (enumerate_from (n + 1) ys)) (make (m, x)) ≡ true) place (has_from_stands (n + 1) ys k x here) in
      ap (λ b. same (make (n + suc k, x)) (make (n, y)) || b) rest ∙ or_true (same (make (n + suc k, x)) (make (n, y)))

  -- what holds of each entry of the kind
  pub all_at : (P : Entry × Registered → Type 0) (n : ℕ) (xs : List X) → AllByRecursion P (map make (enumerate_from n xs))
      → (k : ℕ) (x : X) → slice_get xs k ≡ Some x → P (make (n + k, x))
  all_at P n [] all k x here = absurd (let h = here in cc)
  all_at P n (y ∷ ys) all zero x here =
      let part : y ≡ x = (let h = here in cc) in
      let place : n ≡ n + zero = omega arith in
      subst (λ m. P (make (m, x))) place (subst (λ z. P (make (n, z))) part all.0)
  all_at P n (y ∷ ys) all (suc k) x here =
      let place : (n + 1) + k ≡ n + suc k = omega arith in
      subst (λ m. P (make (m, x))) place (all_at P (n + 1) ys all.1 k x here)

  pub all_from : (P : Entry × Registered → Type 0) (n : ℕ) (xs : List X) → ((k : ℕ) (x : X) → slice_get xs k ≡ Some x → P (make (n + k, x)))
      → AllByRecursion P (map make (enumerate_from n xs))
  all_from P n [] each = tt
  all_from P n (y ∷ ys) each =
      let here : n + 0 ≡ n = omega arith in (
        subst (λ m. P (make (m, y))) here (each 0 y refl),
        all_from P (n + 1) ys (λ k x found. (let place : n + suc k ≡ (n + 1) + k = omega arith in subst (λ m. P (make (m, x))) place (each (suc k) x found))),
      )

  -- the one list adds to the other exactly where all of its entries are among those of the other
  pub adds_from_all : (xs ys : List X) → AllByRecursion (λ e. has_entry (entries_of make ys) e ≡ true) (entries_of make xs) → AddsAtEnd xs ys
  adds_from_all xs ys all =
      AddsAtEnd-from_StandsIn xs ys
      (λ k x here.
      (let has = all_at (λ e. has_entry (entries_of make ys) e ≡ true) 0 xs all k x here in
      let place : (0 + k) - 0 ≡ k = omega arith in
      ap (slice_get ys) (sym place) ∙ (stands_from_has 0 ys (0 + k) x has).1))

  pub all_from_adds : (xs ys : List X) → AddsAtEnd xs ys → AllByRecursion (λ e. has_entry (entries_of make ys) e ≡ true) (entries_of make xs)
  all_from_adds xs ys adds =
      all_from (λ e. has_entry (entries_of make ys) e ≡ true) 0 xs (λ k x here. has_from_stands 0 ys k x (StandsIn-from_AddsAtEnd xs ys adds k x here))

-- of entries of one kind
pub all_made : {X : Type 0} (make : ℕ × X → Entry × Registered) (P Q : Entry × Registered → Type 0) → ((a : ℕ × X) → P (make a) → Q (make a))
    → (n : ℕ) (xs : List X) → AllByRecursion P (map make (enumerate_from n xs)) → AllByRecursion Q (map make (enumerate_from n xs))
all_made make P Q go n [] all = tt
all_made make P Q go n (x ∷ xs) all = (go (n, x) all.0, all_made make P Q go (n + 1) xs all.1)
