-- Stations that are named once, as far as a list was gone through.
use Rattle.std.proofs.Common.{◌≡◌, ℕ, suc, ◌+◌, ◌<◌, ◌||◌, Bool, false, List, [], ◌∷◌, ◌++◌, length, take, drop, get_or, nat_eq, sym, ap, ◌∙◌, refl, subst, arith, add-one, drop-cons}
use Rattle.std.proofs.lemmas.List.{take-append-drop}
use Rattle.std.proofs.lemmas.Bool.Decides.{nat_tests}
use Rattle.std.proofs.Math.Seq.{take-suc}
use Rattle.std.proofs.lemmas.Map.Keys.{IsDistinct-head, IsDistinct-tail, IsDistinct-push}
use Rattle.std.specs.Cmp.{nat_eq_equiv}
use Rattle.std.specs.List.{IsDistinct, AllByRecursion, list_any}

all_at : (holds : ℕ → Type 0) (xs ys : List ℕ) (y : ℕ) → AllByRecursion holds (xs ++ y ∷ ys) → holds y
all_at holds [] ys y all = all.0
all_at holds (x ∷ xs) ys y all = all_at holds xs ys y all.1

-- a number that stands behind others, none of which is its equal
new_at : (xs ys : List ℕ) (x y : ℕ) → list_any (nat_eq y) xs ≡ false → AllByRecursion (λ z. nat_eq x z ≡ false) (xs ++ y ∷ ys) → list_any (nat_eq y) (x ∷ xs) ≡ false
new_at xs ys x y later apart =
    let unlike : nat_eq x y ≡ false = all_at (λ z. nat_eq x z ≡ false) xs ys y apart in
    let turned : nat_eq y x ≡ false = grind (arith, nat_tests) in
    subst (λ (b : Bool). (b || list_any (nat_eq y) xs) ≡ false) (sym turned) later

new_behind : (xs ys : List ℕ) (y : ℕ) → IsDistinct nat_eq (xs ++ y ∷ ys) → list_any (nat_eq y) xs ≡ false
new_behind [] ys y distinct = refl
new_behind (x ∷ xs) ys y distinct = new_at xs ys x y (new_behind xs ys y (IsDistinct-tail nat_eq x (xs ++ y ∷ ys) distinct)) (IsDistinct-head nat_eq x (xs ++ y ∷ ys) distinct)

module _ (stations : List ℕ) (index station : ℕ) (within : index < length stations) (here : station ≡ get_or stations index station) where
  pub longer : take (index + 1) stations ≡ take index stations ++ station ∷ []
  longer = ap (λ (n : ℕ). take n stations) (add-one index) ∙ (take-suc stations index station within ∙ ap (λ (s : ℕ). take index stations ++ s ∷ []) (sym here))

  -- one station more, which is not named before
  pub distinct_more : list_any (nat_eq station) (take index stations) ≡ false → IsDistinct nat_eq (take index stations) → IsDistinct nat_eq (take (index + 1) stations)
  distinct_more new distinct = subst (λ (l : List ℕ). IsDistinct nat_eq l) (sym longer) (IsDistinct-push nat_eq_equiv (take index stations) station distinct new)

  -- where none is named twice, this one is not named before
  pub new_here : IsDistinct nat_eq stations → list_any (nat_eq station) (take index stations) ≡ false
  new_here distinct =
      let whole : stations ≡ take index stations ++ (station ∷ drop (suc index) stations) =
      sym (take-append-drop index stations) ∙ ap (λ (l : List ℕ). take index stations ++ l) (drop-cons stations index station within ∙ ap (λ (s : ℕ). s ∷ drop (suc index) stations) (sym here)) in
      new_behind (take index stations) (drop (suc index) stations) station (subst (λ (l : List ℕ). IsDistinct nat_eq l) whole distinct)
