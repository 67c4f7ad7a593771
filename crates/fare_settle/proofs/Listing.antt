-- The keys of elements stand in order, each once, and none is left out.
use Rattle.std.proofs.Common.{◌≡◌, Bool, true, false, ◌||◌, List, [], ◌∷◌, fold, refl, sym, ◌∙◌, ap}
use Rattle.std.specs.declared.cmp.Ordering.{Ordering}
use Rattle.std.specs.declared.cmp.Ordering.TheVariants.{Less, Equal, Greater}
use Rattle.std.specs.Ordering.{is_eq, ordering_reverse, match_ordering}
use Rattle.std.specs.Cmp.{IsTotalOrder}
use Rattle.std.specs.List.{AllByRecursion, list_any}
use Rattle.std.specs.BTreeSet.{insert_key}
use Rattle.std.proofs.lemmas.Bool.{or_left, or_right}
use Rattle.fare_settle.proofs.Summing.{IsApart}

-- keys in an order, in which those that tie are the same
module _ {K X : Type 0} (compare : K → K → Ordering) (same : K → K → Bool) (total : IsTotalOrder compare) (tied : (a b : K) → same a b ≡ is_eq (compare a b)) (exact : (a b : K) → same a b ≡ true → a ≡ b) (key : X → K) where
  -- the keys of elements
  abbrev pub keys_of : List X → List K
  keys_of xs = fold (λ ks x. insert_key compare ks (key x)) [] xs

  abbrev IsBelowAll : K → List K → Type 0
  IsBelowAll a ks = AllByRecursion (λ b. compare a b ≡ Less) ks

  abbrev IsAscending : List K → Type 0
  IsAscending [] = Unit {0}
  IsAscending (a ∷ ks) = IsBelowAll a ks × IsAscending ks

  below_insert : (a k : K) (ks : List K) → IsBelowAll a ks → compare a k ≡ Less → IsBelowAll a (insert_key compare ks k)
  below_insert a k [] below less = (less, tt)
  below_insert a k (x ∷ ks) below less =
      elim (compare k x) as (λ r. IsBelowAll a (match_ordering r (k ∷ x ∷ ks) (x ∷ ks) (x ∷ insert_key compare ks k)))
      [ Less ↦ (less, below) | Equal ↦ below | Greater ↦ (below.0, below_insert a k ks below.1 less) ]

  below_below : (k x : K) (ks : List K) → compare k x ≡ Less → IsBelowAll x ks → IsBelowAll k ks
  below_below k x [] less below = tt
  below_below k x (y ∷ ks) less below = (total.trans k x y less below.0, below_below k x ks less below.1)

  ascending_insert : (ks : List K) (k : K) → IsAscending ks → IsAscending (insert_key compare ks k)
  ascending_insert [] k up = (tt, tt)
  ascending_insert (x ∷ ks) k up = by (ascending_insert ks k up.1) (compare k x) refl
    where
      by : IsAscending (insert_key compare ks k) → (r : Ordering) → compare k x ≡ r → IsAscending (match_ordering r (k ∷ x ∷ ks) (x ∷ ks) (x ∷ insert_key compare ks k))
      by rest Less e = ((e, below_below k x ks e up.0), up)
      by rest Equal e = up
      by rest Greater e = (below_insert x k ks up.0 (total.antisymm x k ∙ ap ordering_reverse e), rest)

  ascending_fold : (xs : List X) (ks : List K) → IsAscending ks → IsAscending (fold (λ l x. insert_key compare l (key x)) ks xs)
  ascending_fold [] ks up = up
  ascending_fold (x ∷ xs) ks up = ascending_fold xs (insert_key compare ks (key x)) (ascending_insert ks (key x) up)

  apart_from_below : (a : K) (ks : List K) → IsBelowAll a ks → AllByRecursion (λ b. same a b ≡ false) ks
  apart_from_below a [] below = tt
  apart_from_below a (x ∷ ks) below = (tied a x ∙ ap is_eq below.0, apart_from_below a ks below.1)

  apart_from_ascending : (ks : List K) → IsAscending ks → IsApart same ks
  apart_from_ascending [] up = tt
  apart_from_ascending (x ∷ ks) up = (apart_from_below x ks up.0, apart_from_ascending ks up.1)

  pub keys_apart : (xs : List X) → IsApart same (keys_of xs)
  keys_apart xs = apart_from_ascending (keys_of xs) (ascending_fold xs [] tt)

  -- NONE IS LEFT OUT
  kept_insert : (p : K → Bool) (ks : List K) (k : K) → list_any p ks ≡ true → list_any p (insert_key compare ks k) ≡ true
  kept_insert p [] k has = or_right (p k) false has
  kept_insert p (x ∷ ks) k has = by (kept_insert p ks k) (compare k x)
    where
      over : (list_any p ks ≡ true → list_any p (insert_key compare ks k) ≡ true) → (t : Bool) → p x ≡ t → (p x || list_any p (insert_key compare ks k)) ≡ true
      over rest true e = or_left (p x) (list_any p (insert_key compare ks k)) e
      over rest false e = or_right (p x) (list_any p (insert_key compare ks k)) (rest (sym (ap (λ b. b || list_any p ks) e) ∙ has))

      by : (list_any p ks ≡ true → list_any p (insert_key compare ks k) ≡ true) → (r : Ordering)
          → list_any p (match_ordering r (k ∷ x ∷ ks) (x ∷ ks) (x ∷ insert_key compare ks k)) ≡ true
      by rest Less = or_right (p k) (p x || list_any p ks) has
      by rest Equal = has
      by rest Greater = over rest (p x) refl

  tied_same : (k x : K) → compare k x ≡ Equal → k ≡ x
  tied_same k x e = exact k x (tied k x ∙ ap is_eq e)

  new_insert : (p : K → Bool) (ks : List K) (k : K) → p k ≡ true → list_any p (insert_key compare ks k) ≡ true
  new_insert p [] k here = or_left (p k) false here
  new_insert p (x ∷ ks) k here = by (new_insert p ks k here) (compare k x) refl
    where
      by : list_any p (insert_key compare ks k) ≡ true → (r : Ordering) → compare k x ≡ r
          → list_any p (match_ordering r (k ∷ x ∷ ks) (x ∷ ks) (x ∷ insert_key compare ks k)) ≡ true
      by rest Less e = or_left (p k) (p x || list_any p ks) here
      by rest Equal e = or_left (p x) (list_any p ks) (ap p (sym (tied_same k x e)) ∙ here)
      by rest Greater e = or_right (p x) (list_any p (insert_key compare ks k)) rest

  kept_fold : (p : K → Bool) (xs : List X) (ks : List K) → list_any p ks ≡ true → list_any p (fold (λ l x. insert_key compare l (key x)) ks xs) ≡ true
  kept_fold p [] ks has = has
  kept_fold p (x ∷ xs) ks has = kept_fold p xs (insert_key compare ks (key x)) (kept_insert p ks (key x) has)

  pub same_self : (a : K) → same a a ≡ true
  same_self a = tied a a ∙ tie (compare a a) (total.antisymm a a)
    where
      tie : (r : Ordering) → r ≡ ordering_reverse r → is_eq r ≡ true
      tie Less e = cc
      tie Equal e = refl
      tie Greater e = cc

  -- each element's key is among these
  abbrev pub HaveTheirs : List K → List X → Type 0
  HaveTheirs ks xs = AllByRecursion (λ x. list_any (same (key x)) ks ≡ true) xs

  theirs_fold : (xs : List X) (ks : List K) → HaveTheirs (fold (λ l x. insert_key compare l (key x)) ks xs) xs
  theirs_fold [] ks = tt
  theirs_fold (x ∷ xs) ks = (
    kept_fold (same (key x)) xs (insert_key compare ks (key x)) (new_insert (same (key x)) ks (key x) (same_self (key x))),
    theirs_fold xs (insert_key compare ks (key x)),
  )

  pub keys_all : (xs : List X) → HaveTheirs (keys_of xs) xs
  keys_all xs = theirs_fold xs []
