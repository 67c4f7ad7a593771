-- Lists: how a search goes on, and what a list with more at its end keeps.
use Rattle.std.proofs.Common.{◌≡◌, ℕ, ◌+◌, ◌-◌, ◌<◌, ◌≤◌, zero, suc, Bool, true, false, cond, List, [], ◌∷◌, ◌++◌, length, drop, map, Some, None, refl, sym, ◌∙◌, ap, subst, arith}
use Rattle.std.specs.Prelude.{not, slice_get, position, find}
use Rattle.std.specs.Option.{option_or}
use Rattle.std.specs.List.{AllByRecursion, position_from}
use Rattle.std.specs.Map.{lookup}
use Rattle.std.proofs.lemmas.Iterator.Adapters.{position_from-zero}
use Rattle.fare_growth.specs.Growth.{AddsAtEnd}

-- SEARCHING
pub find-drop : {X : Type 0} (p : X → Bool) (xs : List X) (i : ℕ) (x : X) → slice_get xs i ≡ Some x
    → find p (drop i xs) ≡ cond (p x) (Some x) (find p (drop (suc i) xs))
find-drop p [] i x here = absurd (let h = here in cc)
find-drop p (y ∷ ys) zero x here =
    let same : y ≡ x = (let h = here in cc) in
    ap (λ z. cond (p z) (Some z) (find p ys)) same
find-drop p (y ∷ ys) (suc i) x here = find-drop p ys i x here

pub none_fails : {X : Type 0} (q : X → Bool) (xs : List X) → find (λ x. not (q x)) xs ≡ None → AllByRecursion (λ x. q x ≡ true) xs
none_fails q [] none = tt
none_fails {X} q (x ∷ xs) none = by (q x) refl none (none_fails q xs)
  where
    by : (b : Bool) → q x ≡ b → cond (not b) (Some x) (find (λ x. not (q x)) xs) ≡ None
        → (find (λ x. not (q x)) xs ≡ None → AllByRecursion (λ x. q x ≡ true) xs) → AllByRecursion (λ x. q x ≡ true) (x ∷ xs)
    by true passes rest go = (passes, go rest)
    by false fails rest go = absurd (let h = rest in cc)

pub find_none : {X : Type 0} (q : X → Bool) (xs : List X) → AllByRecursion (λ x. q x ≡ true) xs → find (λ x. not (q x)) xs ≡ None
find_none q [] all = refl
find_none q (x ∷ xs) all = rw all.0 (find_none q xs all.1)

pub lookup-append : {K X : Type 0} (t : K → Bool) (xs ys : List (K × X)) → lookup t (xs ++ ys) ≡ option_or (lookup t xs) (lookup t ys)
lookup-append t [] ys = refl
lookup-append {K} {X} t (x ∷ xs) ys = by (t x.0) (lookup-append t xs ys)
  where
    by : (b : Bool) → lookup t (xs ++ ys) ≡ option_or (lookup t xs) (lookup t ys)
        → cond b (Some x.1) (lookup t (xs ++ ys)) ≡ option_or (cond b (Some x.1) (lookup t xs)) (lookup t ys)
    by true rest = refl
    by false rest = rest

-- ALL
pub all-append : {X : Type 0} (P : X → Type 0) (xs ys : List X) → AllByRecursion P xs → AllByRecursion P ys → AllByRecursion P (xs ++ ys)
all-append P [] ys all rest = rest
all-append P (x ∷ xs) ys all rest = (all.0, all-append P xs ys all.1 rest)

pub all-front : {X : Type 0} (P : X → Type 0) (xs ys : List X) → AllByRecursion P (xs ++ ys) → AllByRecursion P xs
all-front P [] ys all = tt
all-front P (x ∷ xs) ys all = (all.0, all-front P xs ys all.1)

pub all-back : {X : Type 0} (P : X → Type 0) (xs ys : List X) → AllByRecursion P (xs ++ ys) → AllByRecursion P ys
all-back P [] ys all = all
all-back P (x ∷ xs) ys all = all-back P xs ys all.1

pub all-weaker : {X : Type 0} (P Q : X → Type 0) → ((x : X) → P x → Q x) → (xs : List X) → AllByRecursion P xs → AllByRecursion Q xs
all-weaker P Q go [] all = tt
all-weaker P Q go (x ∷ xs) all = (go x all.0, all-weaker P Q go xs all.1)

pub all-mapped : {X Y : Type 0} (f : X → Y) (P : Y → Type 0) (xs : List X) → AllByRecursion (λ x. P (f x)) xs → AllByRecursion P (map f xs)
all-mapped f P [] all = tt
all-mapped f P (x ∷ xs) all = (all.0, all-mapped f P xs all.1)

-- PLACES
pub get-within : {X : Type 0} (xs ys : List X) (k : ℕ) → k < length xs → slice_get (xs ++ ys) k ≡ slice_get xs k
get-within [] ys k within = absurd (omega arith)
get-within (x ∷ xs) ys zero within = refl
get-within (x ∷ xs) ys (suc k) within = get-within xs ys k (omega arith)

pub get-behind : {X : Type 0} (xs ys : List X) (k : ℕ) → length xs ≤ k → slice_get (xs ++ ys) k ≡ slice_get ys (k - length xs)
get-behind [] ys k behind = let e : k ≡ k - 0 = omega arith in ap (slice_get ys) e
get-behind (x ∷ xs) ys zero behind = absurd (omega arith)
get-behind (x ∷ xs) ys (suc k) behind =
    let e : k - length xs ≡ suc k - suc (length xs) = omega arith in
    get-behind xs ys k (omega arith) ∙ ap (slice_get ys) e

-- MORE AT THE END
-- each element of the one list stands at its place in the other
abbrev pub StandsIn : {X : Type 0} → List X → List X → Type 0
StandsIn {X} xs ys = (k : ℕ) (x : X) → slice_get xs k ≡ Some x → slice_get ys k ≡ Some x

pub StandsIn-from_AddsAtEnd : {X : Type 0} (xs ys : List X) → AddsAtEnd xs ys → StandsIn xs ys
StandsIn-from_AddsAtEnd {X} xs ys adds k x here = subst (λ (zs : List X). slice_get zs k ≡ Some x) (sym adds.1) (front xs k here)
  where
    front : (zs : List X) (j : ℕ) → slice_get zs j ≡ Some x → slice_get (zs ++ adds.0) j ≡ Some x
    front [] j found = absurd (let h = found in cc)
    front (z ∷ zs) zero found = found
    front (z ∷ zs) (suc j) found = front zs j found

pub AddsAtEnd-from_StandsIn : {X : Type 0} (xs ys : List X) → StandsIn xs ys → AddsAtEnd xs ys
AddsAtEnd-from_StandsIn [] ys stands = (ys, refl)
AddsAtEnd-from_StandsIn (x ∷ xs) [] stands = absurd (let h = stands 0 x refl in cc)
AddsAtEnd-from_StandsIn (x ∷ xs) (y ∷ ys) stands =
    let rest : AddsAtEnd xs ys = AddsAtEnd-from_StandsIn xs ys (λ k z here. stands (suc k) z here) in
    let head : y ≡ x = (let h = stands 0 x refl in cc) in
    (rest.0, ap (λ z. z ∷ ys) head ∙ ap (λ zs. x ∷ zs) rest.1)

pub adds-refl : {X : Type 0} (xs : List X) → AddsAtEnd xs xs
adds-refl xs = AddsAtEnd-from_StandsIn xs xs (λ k x here. here)

pub adds-trans : {X : Type 0} (xs ys zs : List X) → AddsAtEnd xs ys → AddsAtEnd ys zs → AddsAtEnd xs zs
adds-trans xs ys zs a b =
    AddsAtEnd-from_StandsIn xs zs (λ k x here. StandsIn-from_AddsAtEnd ys zs b k x (StandsIn-from_AddsAtEnd xs ys a k x here))

position_from-kept : (p : ℕ → Bool) (n : ℕ) (xs more : List ℕ) (k : ℕ) → position_from p n xs ≡ Some k → position_from p n (xs ++ more) ≡ Some k
position_from-kept p n [] more k here = absurd (let h = here in cc)
position_from-kept p n (x ∷ xs) more k here = by (p x) here (position_from-kept p (n + 1) xs more k)
  where
    by : (b : Bool) → cond b (Some n) (position_from p (n + 1) xs) ≡ Some k
        → (position_from p (n + 1) xs ≡ Some k → position_from p (n + 1) (xs ++ more) ≡ Some k)
        → cond b (Some n) (position_from p (n + 1) (xs ++ more)) ≡ Some k
    by true found go = found
    by false found go = go found

-- a first place, and what is looked up, stay with more at the end
pub position-kept : (p : ℕ → Bool) (xs ys : List ℕ) → AddsAtEnd xs ys → (k : ℕ) → position p xs ≡ Some k → position p ys ≡ Some k
position-kept p xs ys adds k here =
    let found = position_from-kept p 0 xs adds.0 k (sym (position_from-zero p xs) ∙ here) in
    ap (position p) adds.1 ∙ position_from-zero p (xs ++ adds.0) ∙ found

lookup-front : {K X : Type 0} (t : K → Bool) (xs more : List (K × X)) (v : X) → lookup t xs ≡ Some v → lookup t (xs ++ more) ≡ Some v
lookup-front t [] more v here = absurd (let h = here in cc)
lookup-front {K} {X} t (x ∷ xs) more v here = by (t x.0) here (lookup-front t xs more v)
  where
    by : (b : Bool) → cond b (Some x.1) (lookup t xs) ≡ Some v → (lookup t xs ≡ Some v → lookup t (xs ++ more) ≡ Some v)
        → cond b (Some x.1) (lookup t (xs ++ more)) ≡ Some v
    by true found go = found
    by false found go = go found

pub lookup-kept : {K X : Type 0} (t : K → Bool) (xs ys : List (K × X)) → AddsAtEnd xs ys → (v : X) → lookup t xs ≡ Some v → lookup t ys ≡ Some v
lookup-kept {K} {X} t xs ys adds v here = ap (λ (zs : List (K × X)). lookup t zs) adds.1 ∙ lookup-front t xs adds.0 v here
