-- What stands at the positions of a list, and that no two ids stand at one.
use Rattle.std.proofs.Common.{◌≡◌, ◌≢◌, ℕ, zero, suc, ◌<◌, List, [], ◌∷◌, length, set, get_or, Some, refl, sym, ap, ◌∙◌, arith, eqb-true, inl, inr}
use Rattle.std.specs.Prelude.{◌⊎◌, slice_get, Option, nat_eq, position}
use Rattle.std.specs.Map.{keys_of}
use Rattle.std.proofs.lemmas.List.Quantifiers.{position-Some}
use Rattle.fare_scheme.specs.Values.{SchemeValue}
use Rattle.fare_scheme.specs.Words.{position_of_device}

-- there is an element at each place below the length
pub element_at : {X : Type 0} (xs : List X) (k : ℕ) → k < length xs → (x : X) × (slice_get xs k ≡ Some x)
element_at [] k lt = absurd (omega arith)
element_at (x ∷ xs) zero lt = (x, refl)
element_at (x ∷ xs) (suc k) lt = element_at xs k (omega arith)

-- what stands at a place after a write
pub set_cases : {X : Type 0} (xs : List X) (i : ℕ) (v : X) (k : ℕ) (x : X) → slice_get (set xs i v) k ≡ Some x → ((k ≡ i) × (v ≡ x)) ⊎ ((k ≢ i) × (slice_get xs k ≡ Some x))
set_cases [] i v k x e = absurd (cc)
set_cases (y ∷ ys) zero v zero x e = let same : v ≡ x = cc in inl (refl, same)
set_cases (y ∷ ys) zero v (suc k) x e = inr ((λ q. absurd (cc)), e)
set_cases (y ∷ ys) (suc i) v zero x e = inr ((λ q. absurd (cc)), e)
set_cases (y ∷ ys) (suc i) v (suc k) x e = elim (set_cases ys i v k x e) [ inl is ↦ inl (ap suc is.0, is.1) | inr is ↦ inr ((λ q. is.0 (omega (arith, q))), is.1) ]

-- two ids do not stand at one position
abbrev pub IsApart : (ℕ → Option ℕ) → Type 0
IsApart at = (d e k : ℕ) → at d ≡ Some k → at e ≡ Some k → d ≡ e

pub ids_stand_apart : (ids : List ℕ) → IsApart (λ id. position (nat_eq id) ids)
ids_stand_apart ids d e k p q =
    let a = (position-Some (nat_eq d) ids k 0 p).1 in
    let b = (position-Some (nat_eq e) ids k 0 q).1 in
    eqb-true d (get_or ids k 0) a ∙ sym (eqb-true e (get_or ids k 0) b)

pub devices_apart : (sc : SchemeValue) → IsApart (position_of_device sc)
devices_apart sc = ids_stand_apart (keys_of sc.devices)
