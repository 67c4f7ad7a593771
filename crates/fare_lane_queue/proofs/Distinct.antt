-- Devices that are listed once, as far as a list was gone through.
use Rattle.std.proofs.Common.{◌≡◌, ℕ, suc, ◌+◌, ◌<◌, ◌||◌, Bool, true, false, true≢false, List, [], ◌∷◌, ◌++◌, length, take, drop, get_or, nat_eq, sym, ap, ◌∙◌, refl, subst, arith, add-one, drop-cons}
use Rattle.std.proofs.lemmas.Bool.Decides.{nat_tests}
use Rattle.std.proofs.lemmas.List.{map-append, take-append-drop}
use Rattle.std.proofs.Math.Seq.{take-suc}
use Rattle.std.proofs.lemmas.Map.Keys.{IsDistinct-head, IsDistinct-tail, IsDistinct-push}
use Rattle.std.specs.Cmp.{nat_eq_equiv}
use Rattle.std.specs.List.{IsDistinct, AllByRecursion, list_any}
use Rattle.std.specs.Map.{keys_of}

all_at : (holds : ℕ → Type 0) (xs ys : List ℕ) (y : ℕ) → AllByRecursion holds (xs ++ y ∷ ys) → holds y
all_at holds [] ys y all = all.0
all_at holds (x ∷ xs) ys y all = all_at holds xs ys y all.1

no_repeat_at : (xs ys : List ℕ) (x y : ℕ) (same : Bool) → nat_eq y x ≡ same → (list_any (nat_eq y) xs ≡ true → ⊥) → list_any (nat_eq y) (x ∷ xs) ≡ true
    → AllByRecursion (λ z. nat_eq x z ≡ false) (xs ++ y ∷ ys) → ⊥
no_repeat_at xs ys x y true is later any apart =
    let unlike : nat_eq x y ≡ false = all_at (λ z. nat_eq x z ≡ false) xs ys y apart in grind (arith, nat_tests)
no_repeat_at xs ys x y false is later any apart = later (subst (λ (b : Bool). (b || list_any (nat_eq y) xs) ≡ true) is any)

no_repeat : (xs ys : List ℕ) (y : ℕ) → list_any (nat_eq y) xs ≡ true → IsDistinct nat_eq (xs ++ y ∷ ys) → ⊥
no_repeat [] ys y any distinct = true≢false (sym any)
no_repeat (x ∷ xs) ys y any distinct =
    no_repeat_at xs ys x y (nat_eq y x) refl (λ later. no_repeat xs ys y later (IsDistinct-tail nat_eq x (xs ++ y ∷ ys) distinct)) any (IsDistinct-head nat_eq x (xs ++ y ∷ ys) distinct)

any_key : (device : ℕ) (bases : List (ℕ × ℕ)) → list_any (nat_eq device) (keys_of bases) ≡ list_any (λ (base : ℕ × ℕ). nat_eq device base.0) bases
any_key device [] = refl
any_key device (base ∷ bases) = ap (λ (b : Bool). nat_eq device base.0 || b) (any_key device bases)

module _ (bases : List (ℕ × ℕ)) (index : ℕ) (base : ℕ × ℕ) (within : index < length bases) (here : base ≡ get_or bases index base) where
  -- one device more, which does not stand before
  pub distinct_more : list_any (λ (other : ℕ × ℕ). nat_eq base.0 other.0) (take index bases) ≡ false
      → IsDistinct nat_eq (keys_of (take index bases)) → IsDistinct nat_eq (keys_of (take (index + 1) bases))
  distinct_more new distinct =
      let longer : take (index + 1) bases ≡ take index bases ++ base ∷ [] =
      ap (λ (n : ℕ). take n bases) (add-one index) ∙ (take-suc bases index base within ∙ ap (λ (b : ℕ × ℕ). take index bases ++ b ∷ []) (sym here)) in
      let keys : keys_of (take (index + 1) bases) ≡ keys_of (take index bases) ++ base.0 ∷ [] = ap (λ (l : List (ℕ × ℕ)). keys_of l) longer ∙ map-append _ (take index bases) (base ∷ []) in
      subst (λ (l : List ℕ). IsDistinct nat_eq l) (sym keys) (IsDistinct-push nat_eq_equiv (keys_of (take index bases)) base.0 distinct (any_key base.0 (take index bases) ∙ new))

  -- a device that stands before stands twice
  pub repeats : list_any (λ (other : ℕ × ℕ). nat_eq base.0 other.0) (take index bases) ≡ true → IsDistinct nat_eq (keys_of bases) → ⊥
  repeats old distinct =
      let whole : bases ≡ take index bases ++ (base ∷ drop (suc index) bases) =
      sym (take-append-drop index bases) ∙ ap (λ (l : List (ℕ × ℕ)). take index bases ++ l) (drop-cons bases index base within ∙ ap (λ (b : ℕ × ℕ). b ∷ drop (suc index) bases) (sym here)) in
      let keys : keys_of bases ≡ keys_of (take index bases) ++ (base.0 ∷ keys_of (drop (suc index) bases)) = ap (λ (l : List (ℕ × ℕ)). keys_of l) whole ∙ map-append _ (take index bases) (base ∷ drop (suc index) bases) in
      no_repeat (keys_of (take index bases)) (keys_of (drop (suc index) bases)) base.0 (any_key base.0 (take index bases) ∙ old) (subst (λ (l : List ℕ). IsDistinct nat_eq l) keys distinct)
