-- Members of lists, filters and permutations.
use Rattle.std.proofs.Common.{◌≡◌, inl, inr, List, [], ◌∷◌, ◌++◌, map, filter, Bool, true, refl, sym, ap, subst, ◌∙◌, arith}
use Rattle.std.specs.List.{AllByRecursion}
use Rattle.std.specs.List.Sorted.{IsPermutation}
use Rattle.std.proofs.lemmas.Bool.{cases_Bool}
use Rattle.std.proofs.lemmas.List.Sorted.{length_permutation}
use Rattle.sqlite_rules.specs.Lists.{Has}

pub empty_permutation : {X : Type 0} (ys : List X) → IsPermutation [] ys → ys ≡ []
empty_permutation [] same = refl
empty_permutation (y ∷ ys) same = absurd (let e = length_permutation [] (y ∷ ys) same in omega arith)

pub empty_map : {X Y : Type 0} (f : X → Y) (xs : List X) → map f xs ≡ [] → xs ≡ []
empty_map f [] is = refl
empty_map f (x ∷ xs) is = absurd cc

-- each member has what all have
pub member : {X : Type 0} (P : X → Type 0) (xs : List X) (x : X) → AllByRecursion P xs → Has xs x → P x
member P [] x all has = absurd has
member P (y ∷ xs) x all (inl here) = subst P (sym here) all.0
member P (y ∷ xs) x all (inr there) = member P xs x all.1 there

pub all_members : {X : Type 0} (xs : List X) → AllByRecursion (Has xs) xs
all_members [] = tt
all_members (x ∷ xs) = (inl refl, wider xs xs x (all_members xs))
  where
    wider : {X : Type 0} (all ys : List X) (x : X) → AllByRecursion (Has all) ys → AllByRecursion (Has (x ∷ all)) ys
    wider all [] x h = tt
    wider all (y ∷ ys) x h = (inr h.0, wider all ys x h.1)

pub in_filter : {X : Type 0} (p : X → Bool) (xs : List X) (x : X) → Has xs x → p x ≡ true → Has (filter p xs) x
in_filter p [] x has is = absurd has
in_filter p (y ∷ xs) x (inl here) is = rw (ap p (sym here) ∙ is) (inl here)
in_filter p (y ∷ xs) x (inr there) is = elim (cases_Bool (p y)) [
  | inl kept ↦ rw kept (inr (in_filter p xs x there is))
  | inr left ↦ rw left (in_filter p xs x there is)
]

-- a member of a filtered list is one of the list that passes
pub of_filter : {X : Type 0} (p : X → Bool) (xs : List X) (x : X) → Has (filter p xs) x → Has xs x × (p x ≡ true)
of_filter p [] x has = absurd has
of_filter p (y ∷ xs) x has = elim (cases_Bool (p y)) [
  | inl kept ↦ go kept (of_filter p xs x) (rw kept at has)
  | inr left ↦ (let it = of_filter p xs x (rw left at has) in (inr it.0, it.1))
]
  where
    go : p y ≡ true → (Has (filter p xs) x → Has xs x × (p x ≡ true)) → Has (y ∷ filter p xs) x → Has (y ∷ xs) x × (p x ≡ true)
    go kept more (inl here) = (inl here, ap p here ∙ kept)
    go kept more (inr there) = let it = more there in (inr it.0, it.1)

pub in_map : {X Y : Type 0} (f : X → Y) (xs : List X) (x : X) → Has xs x → Has (map f xs) (f x)
in_map f [] x has = absurd has
in_map f (y ∷ xs) x (inl here) = inl (ap f here)
in_map f (y ∷ xs) x (inr there) = inr (in_map f xs x there)

-- a member of a mapped list comes from one of the list
pub of_map : {X Y : Type 0} (f : X → Y) (xs : List X) (y : Y) → Has (map f xs) y → (x : X) × Has xs x × (y ≡ f x)
of_map f [] y has = absurd has
of_map f (x ∷ xs) y (inl here) = (x, inl refl, here)
of_map f (x ∷ xs) y (inr there) = let it = of_map f xs y there in (it.0, inr it.1, it.2)

pub all_of_map : {X Y : Type 0} (f : X → Y) (P : Y → Type 0) (xs : List X) → AllByRecursion P (map f xs) → AllByRecursion (λ x. P (f x)) xs
all_of_map f P [] all = tt
all_of_map f P (x ∷ xs) all = (all.0, all_of_map f P xs all.1)

pub all_in_map : {X Y : Type 0} (f : X → Y) (P : Y → Type 0) (xs : List X) → AllByRecursion (λ x. P (f x)) xs → AllByRecursion P (map f xs)
all_in_map f P [] all = tt
all_in_map f P (x ∷ xs) all = (all.0, all_in_map f P xs all.1)

pub all_in_filter : {X : Type 0} (P : X → Type 0) (p : X → Bool) (xs : List X) → AllByRecursion P xs → AllByRecursion P (filter p xs)
all_in_filter P p [] all = tt
all_in_filter P p (x ∷ xs) all = elim (cases_Bool (p x)) [
  | inl kept ↦ rw kept (all.0, all_in_filter P p xs all.1)
  | inr left ↦ rw left (all_in_filter P p xs all.1)
]

pub filter_of_map : {X Y : Type 0} (f : X → Y) (p : Y → Bool) (xs : List X) → filter p (map f xs) ≡ map f (filter (λ x. p (f x)) xs)
filter_of_map f p [] = refl
filter_of_map f p (x ∷ xs) = elim (cases_Bool (p (f x))) [
  | inl kept ↦ rw kept (ap (λ more. f x ∷ more) (filter_of_map f p xs))
  | inr left ↦ rw left (filter_of_map f p xs)
]

pub same_filter : {X : Type 0} (p q : X → Bool) (xs : List X) → AllByRecursion (λ x. p x ≡ q x) xs → filter p xs ≡ filter q xs
same_filter p q [] all = refl
same_filter p q (x ∷ xs) all = elim (cases_Bool (q x)) [
  | inl kept ↦ rw (all.0, kept) (ap (λ more. x ∷ more) (same_filter p q xs all.1))
  | inr left ↦ rw (all.0, left) (same_filter p q xs all.1)
]

pub all_pushed : {X : Type 0} (P : X → Type 0) (xs : List X) (x : X) → AllByRecursion P xs → P x → AllByRecursion P (xs ++ x ∷ [])
all_pushed P [] x all is = (is, tt)
all_pushed P (y ∷ xs) x all is = (all.0, all_pushed P xs x all.1 is)

pub all_weaker : {X : Type 0} (P Q : X → Type 0) (xs : List X) → ((x : X) → P x → Q x) → AllByRecursion P xs → AllByRecursion Q xs
all_weaker P Q [] gives all = tt
all_weaker P Q (x ∷ xs) gives all = (gives x all.0, all_weaker P Q xs gives all.1)
