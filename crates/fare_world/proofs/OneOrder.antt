-- Records of which no two tie stand in one order, whatever list they come in.
use Rattle.std.proofs.Common.{◌≡◌, ℕ, zero, suc, ◌<◌, Bool, true, false, List, [], ◌∷◌, ◌++◌, filter, Some, refl, sym, ap, ◌∙◌, subst, arith, inl, inr}
use Rattle.std.specs.Prelude.{◌⊎◌, slice_get}
use Rattle.std.specs.List.{flat_map}
use Rattle.std.specs.List.Sorted.{ties}
use Rattle.fare_record.specs.Values.{RecordValue}
use Rattle.fare_cap.specs.Order.{is_before, in_order}
use Rattle.fare_cap.proofs.Ordered.{in_order_same}
use Rattle.fare_cap.proofs.Permuted.{ties-both}
use Rattle.fare_cap.proofs.Sorting.{filter_yes, filter_no}
use Rattle.fare_store.proofs.Entries.{if_all}

-- MEMBERS
abbrev pub In : {X : Type 0} → X → List X → Type 0
In a [] = ⊥
In a (x ∷ xs) = (x ≡ a) ⊎ In a xs

pub in_from : {X : Type 0} (xs : List X) (k : ℕ) (a : X) → slice_get xs k ≡ Some a → In a xs
in_from [] k a e = absurd (cc)
in_from {X} (x ∷ xs) zero a e = let same : x ≡ a = cc in inl same
in_from (x ∷ xs) (suc k) a e = inr (in_from xs k a e)

pub in_at : {X : Type 0} (xs : List X) (a : X) → In a xs → (k : ℕ) × (slice_get xs k ≡ Some a)
in_at [] a i = absurd i
in_at (x ∷ xs) a (inl e) = (zero, ap Some e)
in_at (x ∷ xs) a (inr i) = let there = in_at xs a i in (suc there.0, there.1)

in_left : {X : Type 0} (xs ys : List X) (a : X) → In a xs → In a (xs ++ ys)
in_left [] ys a i = absurd i
in_left (x ∷ xs) ys a (inl e) = inl e
in_left (x ∷ xs) ys a (inr i) = inr (in_left xs ys a i)

in_right : {X : Type 0} (xs ys : List X) (a : X) → In a ys → In a (xs ++ ys)
in_right [] ys a i = i
in_right (x ∷ xs) ys a i = inr (in_right xs ys a i)

of_append : {X : Type 0} (xs ys : List X) (a : X) → In a (xs ++ ys) → In a xs ⊎ In a ys
of_append [] ys a i = inr i
of_append (x ∷ xs) ys a (inl e) = inl (inl e)
of_append (x ∷ xs) ys a (inr i) = elim (of_append xs ys a i) [ inl l ↦ inl (inr l) | inr r ↦ inr r ]

pub in_filter : {X : Type 0} (p : X → Bool) (xs : List X) (a : X) → In a xs → p a ≡ true → In a (filter p xs)
in_filter p [] a i e = i
in_filter p (x ∷ xs) a (inl same) e = subst (In a) (sym (filter_yes p x xs (ap p same ∙ e))) (inl same)
in_filter p (x ∷ xs) a (inr i) e =
    let there = in_filter p xs a i e in
    if_all (p x) (In a) (x ∷ filter p xs) (filter p xs) (λ _. inr there) (λ _. there)

pub of_filter : {X : Type 0} (p : X → Bool) (xs : List X) (a : X) → In a (filter p xs) → In a xs × (p a ≡ true)
of_filter p [] a i = absurd i
of_filter {X} p (x ∷ xs) a i = by (of_filter p xs a) i
  where
    here : (In a (filter p xs) → In a xs × (p a ≡ true)) → p x ≡ true → In a (x ∷ filter p xs) → In a (x ∷ xs) × (p a ≡ true)
    here rest passes (inl e) = (inl e, ap p (sym e) ∙ passes)
    here rest passes (inr i) = let there = rest i in (inr there.0, there.1)

    by : (In a (filter p xs) → In a xs × (p a ≡ true)) → In a (filter p (x ∷ xs)) → In a (x ∷ xs) × (p a ≡ true)
    by rest =
        if_all (p x) (λ (l : List X). In a l → In a (x ∷ xs) × (p a ≡ true)) (x ∷ filter p xs) (filter p xs)
        (here rest)
        (λ _ i. let there = rest i in (inr there.0, there.1))

pub in_flat : {X Y : Type 0} (f : X → List Y) (xs : List X) (x : X) (a : Y) → In x xs → In a (f x) → In a (flat_map f xs)
in_flat f [] x a i j = absurd i
in_flat f (y ∷ xs) x a (inl e) j = in_left (f y) (flat_map f xs) a (subst (λ z. In a (f z)) (sym e) j)
in_flat f (y ∷ xs) x a (inr i) j = in_right (f y) (flat_map f xs) a (in_flat f xs x a i j)

pub of_flat : {X Y : Type 0} (f : X → List Y) (xs : List X) (a : Y) → In a (flat_map f xs) → (x : X) × In x xs × In a (f x)
of_flat f [] a i = absurd i
of_flat f (y ∷ xs) a i = elim (of_append (f y) (flat_map f xs) a i) [
  | inl l ↦ (y, inl refl, l)
  | inr r ↦ let there = of_flat f xs a r in (there.0, inr there.1, there.2)
]

-- APART
-- no two of these tie
abbrev pub AreApart : List RecordValue → Type 0
AreApart [] = Unit {0}
AreApart (x ∷ xs) = ((a : RecordValue) → In a xs → ties is_before x a ≡ false) × AreApart xs

pub apart_from : (xs : List RecordValue) → ((j k : ℕ) (a b : RecordValue) → j < k → slice_get xs j ≡ Some a → slice_get xs k ≡ Some b → ties is_before a b ≡ false) → AreApart xs
apart_from [] far = tt
apart_from (x ∷ xs) far = (λ a i. let there = in_at xs a i in far zero (suc there.0) x a (omega arith) refl there.1, apart_from xs (λ j k a b lt. far (suc j) (suc k) a b (omega (arith, lt))))

pub apart_append : (xs ys : List RecordValue) → AreApart xs → AreApart ys → ((a b : RecordValue) → In a xs → In b ys → ties is_before a b ≡ false) → AreApart (xs ++ ys)
apart_append [] ys first second across = second
apart_append (x ∷ xs) ys first second across = (
  λ a i. elim (of_append xs ys a i) [ inl l ↦ first.0 a l | inr r ↦ across x a (inl refl) r ],
  apart_append xs ys first.1 second (λ a b i. across a b (inr i)),
)

pub apart_filter : (p : RecordValue → Bool) (xs : List RecordValue) → AreApart xs → AreApart (filter p xs)
apart_filter p [] h = tt
apart_filter p (x ∷ xs) h =
    let rest = apart_filter p xs h.1 in
    if_all (p x) AreApart (x ∷ filter p xs) (filter p xs) (λ _. (λ a i. h.0 a (of_filter p xs a i).0, rest)) (λ _. rest)

-- what ties with one
none_ties : (z : RecordValue) (xs : List RecordValue) → ((a : RecordValue) → In a xs → ties is_before z a ≡ false) → filter (ties is_before z) xs ≡ []
none_ties z [] none = refl
none_ties z (x ∷ xs) none = filter_no (ties is_before z) x xs (none x (inl refl)) ∙ none_ties z xs (λ a i. none a (inr i))

never : {A : Type 0} (b : Bool) → b ≡ true → b ≡ false → A
never b holds fails =
    let both : true ≡ false = sym holds ∙ fails in
    absurd (cc)

one_ties : (z : RecordValue) (xs : List RecordValue) (a : RecordValue) → AreApart xs → In a xs → ties is_before z a ≡ true → filter (ties is_before z) xs ≡ a ∷ []
one_ties z [] a h i e = absurd i
one_ties z (x ∷ xs) a h (inl same) e =
    let here : ties is_before z x ≡ true = ap (ties is_before z) same ∙ e in
    filter_yes (ties is_before z) x xs here
    ∙ ap (λ l. x ∷ l) (none_ties z xs (λ b i. by b (ties is_before z b) refl (h.0 b i) here))
    ∙ ap (λ y. y ∷ []) same
  where
    by : (b : RecordValue) (t : Bool) → ties is_before z b ≡ t → ties is_before x b ≡ false → ties is_before z x ≡ true → ties is_before z b ≡ false
    by b true is apart here = never (ties is_before x b) (ties-both z x b here is) apart
    by b false is apart here = is
one_ties z (x ∷ xs) a h (inr i) e = by (ties is_before z x) refl (one_ties z xs a h.1 i e)
  where
    by : (t : Bool) → ties is_before z x ≡ t → filter (ties is_before z) xs ≡ a ∷ [] → filter (ties is_before z) (x ∷ xs) ≡ a ∷ []
    by true is rest = never (ties is_before x a) (ties-both z x a is e) (h.0 a i)
    by false is rest = filter_no (ties is_before z) x xs is ∙ rest

-- one that ties, or none does
find_tie : (z : RecordValue) (xs : List RecordValue) → ((a : RecordValue) × In a xs × (ties is_before z a ≡ true)) ⊎ ((a : RecordValue) → In a xs → ties is_before z a ≡ false)
find_tie z [] = inr (λ a i. absurd i)
find_tie z (x ∷ xs) = by (ties is_before z x) refl (find_tie z xs)
  where
    none : ties is_before z x ≡ false → ((a : RecordValue) → In a xs → ties is_before z a ≡ false) → (a : RecordValue) → In a (x ∷ xs) → ties is_before z a ≡ false
    none is rest a (inl e) = ap (ties is_before z) (sym e) ∙ is
    none is rest a (inr i) = rest a i

    by : (t : Bool) → ties is_before z x ≡ t → ((a : RecordValue) × In a xs × (ties is_before z a ≡ true)) ⊎ ((a : RecordValue) → In a xs → ties is_before z a ≡ false)
        → ((a : RecordValue) × In a (x ∷ xs) × (ties is_before z a ≡ true)) ⊎ ((a : RecordValue) → In a (x ∷ xs) → ties is_before z a ≡ false)
    by true is rest = inl (x, inl refl, is)
    by false is (inl there) = inl (there.0, inr there.1, there.2)
    by false is (inr rest) = inr (none is rest)

-- lists with the same members stand in one order
pub one_order : (xs ys : List RecordValue) → AreApart xs → AreApart ys → ((a : RecordValue) → In a xs → In a ys) → ((a : RecordValue) → In a ys → In a xs) → in_order xs ≡ in_order ys
one_order xs ys first second forth back = in_order_same xs ys same
  where
    same : (z : RecordValue) → filter (ties is_before z) xs ≡ filter (ties is_before z) ys
    same z = elim (find_tie z xs) [
      | inl found ↦ one_ties z xs found.0 first found.1 found.2 ∙ sym (one_ties z ys found.0 second (forth found.0 found.1) found.2)
      | inr none ↦ none_ties z xs none ∙ sym (none_ties z ys (λ a i. none a (back a i)))
    ]
