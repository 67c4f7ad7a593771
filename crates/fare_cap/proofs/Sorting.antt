-- A list in order is told by its parts that tie, so a stable sort has one result.
use Rattle.std.proofs.Common.{◌≡◌, ℕ, zero, suc, ◌<◌, ◌≤◌, Bool, true, false, cond, not, List, [], ◌∷◌, length, get_or, filter, refl, sym, ◌∙◌, ap, arith}
use Rattle.std.specs.Cmp.{IsStrictWeakOrder}
use Rattle.std.specs.List.Sorted.{IsSortedBy, ties}
use Rattle.std.proofs.lemmas.Bool.{both_ways, false_from_ne_true, true_from_ne_false, and_left, and_from, not_from_true, not_from_false}
use Rattle.std.proofs.lemmas.List.Sorted.{sorted_far}

-- FILTERS, ONE ELEMENT AT A TIME
pub filter_yes : {X : Type 0} (p : X → Bool) (x : X) (xs : List X) → p x ≡ true → filter p (x ∷ xs) ≡ x ∷ filter p xs
filter_yes p x xs e = ap (λ b. cond b (x ∷ filter p xs) (filter p xs)) e

pub filter_no : {X : Type 0} (p : X → Bool) (x : X) (xs : List X) → p x ≡ false → filter p (x ∷ xs) ≡ filter p xs
filter_no p x xs e = ap (λ b. cond b (x ∷ filter p xs) (filter p xs)) e

-- two filters, in either order
pub filter_both : {X : Type 0} (p q : X → Bool) (xs : List X) → filter p (filter q xs) ≡ filter q (filter p xs)
filter_both p q [] = refl
filter_both {X} p q (x ∷ xs) = by (filter_both p q xs) (p x) (q x) refl refl
  where
    by : filter p (filter q xs) ≡ filter q (filter p xs) → (s t : Bool) → p x ≡ s → q x ≡ t → filter p (filter q (x ∷ xs)) ≡ filter q (filter p (x ∷ xs))
    by rest true true a b =
        ap (filter p) (filter_yes q x xs b) ∙ filter_yes p x (filter q xs) a ∙ ap (λ (l : List X). x ∷ l) rest
        ∙ sym (ap (filter q) (filter_yes p x xs a) ∙ filter_yes q x (filter p xs) b)
    by rest true false a b =
        ap (filter p) (filter_no q x xs b) ∙ rest
        ∙ sym (ap (filter q) (filter_yes p x xs a) ∙ filter_no q x (filter p xs) b)
    by rest false true a b =
        ap (filter p) (filter_yes q x xs b) ∙ filter_no p x (filter q xs) a ∙ rest
        ∙ sym (ap (filter q) (filter_no p x xs a))
    by rest false false a b = ap (filter p) (filter_no q x xs b) ∙ rest ∙ sym (ap (filter q) (filter_no p x xs a))

-- RISING LISTS
abbrev pub IsNoneBelow : {X : Type 0} → (X → X → Bool) → X → List X → Type 0
IsNoneBelow lt x [] = Unit {0}
IsNoneBelow lt x (y ∷ ys) = (lt y x ≡ false) × IsNoneBelow lt x ys

abbrev pub IsRising : {X : Type 0} → (X → X → Bool) → List X → Type 0
IsRising lt [] = Unit {0}
IsRising lt (x ∷ xs) = IsNoneBelow lt x xs × IsRising lt xs

none_below_from : {X : Type 0} (lt : X → X → Bool) (x : X) (ys : List X) → ((j : ℕ) (d : X) → j < length ys → lt (get_or ys j d) x ≡ false) → IsNoneBelow lt x ys
none_below_from lt x [] far = tt
none_below_from lt x (y ∷ ys) far = (far zero y (omega arith), none_below_from lt x ys (λ j d l. far (suc j) d (omega arith)))

rising_from : {X : Type 0} (lt : X → X → Bool) (xs : List X) → ((i j : ℕ) (d : X) → i ≤ j → j < length xs → lt (get_or xs j d) (get_or xs i d) ≡ false) → IsRising lt xs
rising_from lt [] far = tt
rising_from lt (x ∷ xs) far = (
  none_below_from lt x xs (λ j d l. far zero (suc j) d (omega arith) (omega arith)),
  rising_from lt xs (λ i j d a b. far (suc i) (suc j) d (omega arith) (omega arith)),
)

pub rising_from_sorted : {X : Type 0} (lt : X → X → Bool) → IsStrictWeakOrder lt → (xs : List X) → IsSortedBy lt xs → IsRising lt xs
rising_from_sorted lt o xs up = rising_from lt xs (sorted_far lt o xs up)

none_below_filter : {X : Type 0} (lt : X → X → Bool) (p : X → Bool) (x : X) (ys : List X) → IsNoneBelow lt x ys → IsNoneBelow lt x (filter p ys)
none_below_filter lt p x [] none = tt
none_below_filter lt p x (y ∷ ys) none =
    elim (p y) as (λ b. IsNoneBelow lt x (cond b (y ∷ filter p ys) (filter p ys))) [ true ↦ (none.0, none_below_filter lt p x ys none.1) | false ↦ none_below_filter lt p x ys none.1 ]

pub rising_filter : {X : Type 0} (lt : X → X → Bool) (p : X → Bool) (xs : List X) → IsRising lt xs → IsRising lt (filter p xs)
rising_filter lt p [] up = tt
rising_filter lt p (x ∷ xs) up =
    elim (p x) as (λ b. IsRising lt (cond b (x ∷ filter p xs) (filter p xs))) [ true ↦ (none_below_filter lt p x xs up.0, rising_filter lt p xs up.1) | false ↦ rising_filter lt p xs up.1 ]

-- TIES
pub ties_self : {X : Type 0} (lt : X → X → Bool) → IsStrictWeakOrder lt → (x : X) → ties lt x x ≡ true
ties_self lt o x =
    let no : lt x x ≡ false = false_from_ne_true (lt x x) (λ e. both_ways (lt x x) (o.one_way x x e) e) in
    and_from (not (lt x x)) (not (lt x x)) (not_from_false (lt x x) no) (not_from_false (lt x x) no)

-- what is below a list's least ties with none of it
below_ties_none : {X : Type 0} (lt : X → X → Bool) → IsStrictWeakOrder lt → (y x : X) → lt y x ≡ true → (xs : List X) → IsNoneBelow lt x xs → filter (ties lt y) xs ≡ []
below_ties_none lt o y x below [] none = refl
below_ties_none lt o y x below (z ∷ zs) none =
    let over : lt y z ≡ true = true_from_ne_false (lt y z) (λ e. both_ways (lt y x) (o.chain y z x e none.0) below) in
    filter_no (ties lt y) z zs (and_left (not (lt y z)) (not (lt z y)) (not_from_true (lt y z) over)) ∙ below_ties_none lt o y x below zs none.1

-- the first of one list isn't above the first of another, where their parts that tie with it are the same
first_not_above : {X : Type 0} (lt : X → X → Bool) → IsStrictWeakOrder lt → (x : X) (xs : List X) (y : X) (ys : List X) → IsNoneBelow lt x xs
    → filter (ties lt y) (x ∷ xs) ≡ filter (ties lt y) (y ∷ ys) → lt y x ≡ false
first_not_above {X} lt o x xs y ys none same = false_from_ne_true (lt y x) apart
  where
    apart : lt y x ≡ true → ⊥
    apart below =
        let out : filter (ties lt y) (x ∷ xs) ≡ filter (ties lt y) xs = filter_no (ties lt y) x xs (and_left (not (lt y x)) (not (lt x y)) (not_from_true (lt y x) below)) in
        let empty : filter (ties lt y) xs ≡ [] = below_ties_none lt o y x below xs none in
        let here : filter (ties lt y) (y ∷ ys) ≡ y ∷ filter (ties lt y) ys = filter_yes (ties lt y) y ys (ties_self lt o y) in
        let bad : [] ≡ y ∷ filter (ties lt y) ys = sym empty ∙ sym out ∙ same ∙ here in
        cc

-- two rising lists are the same where their parts that tie are
pub same_rising : {X : Type 0} (lt : X → X → Bool) → IsStrictWeakOrder lt → (xs ys : List X) → IsRising lt xs → IsRising lt ys
    → ((z : X) → filter (ties lt z) xs ≡ filter (ties lt z) ys) → xs ≡ ys
same_rising lt o [] [] a b same = refl
same_rising {X} lt o [] (y ∷ ys) a b same =
    let bad : [] ≡ y ∷ filter (ties lt y) ys = same y ∙ filter_yes (ties lt y) y ys (ties_self lt o y) in
    cc
same_rising {X} lt o (x ∷ xs) [] a b same =
    let bad : x ∷ filter (ties lt x) xs ≡ [] = sym (filter_yes (ties lt x) x xs (ties_self lt o x)) ∙ same x in
    cc
same_rising {X} lt o (x ∷ xs) (y ∷ ys) a b same =
    let up : lt y x ≡ false = first_not_above lt o x xs y ys a.0 (same y) in
    let down : lt x y ≡ false = first_not_above lt o y ys x xs b.0 (sym (same x)) in
    let tie : ties lt x y ≡ true = and_from (not (lt x y)) (not (lt y x)) (not_from_false (lt x y) down) (not_from_false (lt y x) up) in
    let heads : x ∷ filter (ties lt x) xs ≡ y ∷ filter (ties lt x) ys = sym (filter_yes (ties lt x) x xs (ties_self lt o x)) ∙ same x ∙ filter_yes (ties lt x) y ys tie in
    let head : x ≡ y = cc in
    let rest : xs ≡ ys = same_rising lt o xs ys a.1 b.1 (tails head) in
    cc
  where
    tails : x ≡ y → (z : X) → filter (ties lt z) xs ≡ filter (ties lt z) ys
    tails head z = by (ties lt z x) refl
      where
        by : (t : Bool) → ties lt z x ≡ t → filter (ties lt z) xs ≡ filter (ties lt z) ys
        by true e =
            let whole : x ∷ filter (ties lt z) xs ≡ y ∷ filter (ties lt z) ys = sym (filter_yes (ties lt z) x xs e) ∙ same z ∙ filter_yes (ties lt z) y ys (ap (ties lt z) (sym head) ∙ e) in
            cc
        by false e = sym (filter_no (ties lt z) x xs e) ∙ same z ∙ filter_no (ties lt z) y ys (ap (ties lt z) (sym head) ∙ e)
