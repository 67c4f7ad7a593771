-- Tables whose entries stand at positions.
use Rattle.std.proofs.Common.{◌≡◌, ◌≢◌, ℕ, zero, suc, ◌<◌, List, [], ◌∷◌, length, set, Some, None, Bool, true, false, refl, sym, ap, ◌∙◌, arith, length-set}
use Rattle.std.specs.Prelude.{◌==◌, slice_get, Option, option_map, if◌then◌else◌, nat_eq}
use Rattle.std.specs.Map.{keys_of}
use Rattle.std.proofs.lemmas.Bool.Decides.{nat_tests}
use Rattle.std.proofs.lemmas.List.{get_or-set_same, length-map}
use Rattle.std.proofs.lemmas.List.Quantifiers.{position-Some}
use Rattle.std.proofs.lemmas.Option.{slice_get-get_or}
use Rattle.fare_scheme.specs.Values.{SchemeValue}
use Rattle.fare_scheme.specs.Words.{position_of_station, position_of_owner}
use Rattle.fare_store.specs.Tables.{put}
use Rattle.fare_world.specs.Shown.{entry}
use Rattle.fare_side.proofs.Positions.{IsApart, ids_stand_apart}
use Rattle.fare_store.proofs.Entries.{put_apart}

-- a map over a table with another value at one place
pub option_map-put : {A B : Type 0} (f : A → B) (t : ℕ → Option A) (k : ℕ) (y : A) (j : ℕ) → option_map f (put t k (Some y) j) ≡ put (λ i. option_map f (t i)) k (Some (f y)) j
option_map-put f t k y j = of_if (j == k)
  where
    of_if : (b : Bool) → option_map f (if b then Some y else t j) ≡ (if b then Some (f y) else option_map f (t j))
    of_if true = refl
    of_if false = refl

-- ENTRIES BY POSITION
pub slice_get-set_same : {A : Type 0} (xs : List A) (k : ℕ) (v : A) → k < length xs → slice_get (set xs k v) k ≡ Some v
slice_get-set_same xs k v lt = slice_get-get_or (set xs k v) k v (omega (arith, length-set xs k v)) ∙ ap Some (get_or-set_same xs k v v lt)

pub slice_get-set_other : {A : Type 0} (xs : List A) (k j : ℕ) (v : A) → j ≢ k → slice_get (set xs k v) j ≡ slice_get xs j
slice_get-set_other [] k j v apart = refl
slice_get-set_other (x ∷ xs) zero zero v apart = absurd (apart refl)
slice_get-set_other (x ∷ xs) zero (suc j) v apart = refl
slice_get-set_other (x ∷ xs) (suc k) zero v apart = refl
slice_get-set_other (x ∷ xs) (suc k) (suc j) v apart = slice_get-set_other xs k j v (λ e. apart (ap suc e))

pub entry-set : {A : Type 0} (at : ℕ → Option ℕ) → IsApart at → (xs : List A) (d k : ℕ) (v : A) → at d ≡ Some k → k < length xs → (e : ℕ) → entry (at e) (set xs k v) ≡ put (λ j. entry (at j) xs) d (Some v) e
entry-set at apart xs d k v is lt = put_apart (λ e a. entry (at e) (set xs k v) ≡ a) (λ j. entry (at j) xs) d (Some v) (λ e other. elsewhere e other (at e) refl) (ap (λ p. entry p (set xs k v)) is ∙ slice_get-set_same xs k v lt)
  where
    elsewhere : (e : ℕ) → (e == d) ≡ false → (p : Option ℕ) → at e ≡ p → entry (at e) (set xs k v) ≡ entry (at e) xs
    elsewhere e other None g = ap (λ p. entry p (set xs k v)) g ∙ sym (ap (λ p. entry p xs) g)
    elsewhere e other (Some j) g =
        let differ : j ≢ k = λ same. absurd (not_same (apart e d k (g ∙ ap Some same) is) other) in
        ap (λ p. entry p (set xs k v)) g ∙ slice_get-set_other xs k j v differ ∙ sym (ap (λ p. entry p xs) g)
      where
        not_same : e ≡ d → (e == d) ≡ false → ⊥
        not_same same differ = absurd (grind (arith, nat_tests))

pub owners_apart : (sc : SchemeValue) → IsApart (position_of_owner sc)
owners_apart sc = ids_stand_apart (keys_of sc.owners)

-- a position is that of an entry
pub owner_within : (sc : SchemeValue) (o k : ℕ) → position_of_owner sc o ≡ Some k → k < length sc.owners
owner_within sc o k at = omega (arith, (position-Some (nat_eq o) (keys_of sc.owners) k 0 at).0, length-map sc.owners (λ (e : ℕ × ℕ). e.0))

pub stations_apart : (sc : SchemeValue) → IsApart (position_of_station sc)
stations_apart sc = ids_stand_apart (keys_of sc.stations)

pub station_within : (sc : SchemeValue) (s k : ℕ) → position_of_station sc s ≡ Some k → k < length sc.stations
station_within sc s k at = omega (arith, (position-Some (nat_eq s) (keys_of sc.stations) k 0 at).0, length-map sc.stations (λ (e : ℕ × ℕ). e.0))
