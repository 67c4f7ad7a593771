-- What stands at a place of a list after a write, an append or a cut.
use Rattle.std.proofs.Common.{◌≡◌, ℕ, zero, suc, ◌+◌, List, [], ◌∷◌, ◌++◌, length, drop, Some, inl, inr, refl, sym, ap, ◌∙◌, arith}
use Rattle.std.proofs.Math.ListN.{set}
use Rattle.std.specs.Prelude.{slice_get, ◌⊎◌}

pub slice_get-set_cases : {X : Type 0} (xs : List X) (i : ℕ) (v : X) (k : ℕ) (x : X) → slice_get (set xs i v) k ≡ Some x → (v ≡ x) ⊎ (slice_get xs k ≡ Some x)
slice_get-set_cases [] i v k x e = inr e
slice_get-set_cases (y ∷ ys) zero v zero x e = let same : v ≡ x = cc in inl same
slice_get-set_cases (y ∷ ys) zero v (suc k) x e = inr e
slice_get-set_cases (y ∷ ys) (suc i) v zero x e = inr e
slice_get-set_cases (y ∷ ys) (suc i) v (suc k) x e = slice_get-set_cases ys i v k x e

next_place : {X : Type 0} (n k : ℕ) (x y : X) (P : Type 0) → P ⊎ ((k ≡ n) × (y ≡ x)) → P ⊎ ((suc k ≡ suc n) × (y ≡ x))
next_place n k x y P (inl h) = inl h
next_place n k x y P (inr h) = inr (ap suc h.0, h.1)

pub slice_get-push_cases : {X : Type 0} (xs : List X) (y : X) (k : ℕ) (x : X) → slice_get (xs ++ y ∷ []) k ≡ Some x → (slice_get xs k ≡ Some x) ⊎ ((k ≡ length xs) × (y ≡ x))
slice_get-push_cases [] y zero x e = let same : y ≡ x = cc in inr (refl, same)
slice_get-push_cases [] y (suc k) x e = absurd (cc)
slice_get-push_cases (z ∷ zs) y zero x e = inl e
slice_get-push_cases (z ∷ zs) y (suc k) x e = next_place (length zs) k x y (slice_get zs k ≡ Some x) (slice_get-push_cases zs y k x e)

pub slice_get-drop : {X : Type 0} (n : ℕ) (xs : List X) (k : ℕ) → slice_get (drop n xs) k ≡ slice_get xs (n + k)
slice_get-drop zero xs k = ap (slice_get xs) (omega arith)
slice_get-drop (suc n) [] k = refl
slice_get-drop (suc n) (x ∷ xs) k = let e : suc n + k ≡ suc (n + k) = omega arith in slice_get-drop n xs k ∙ sym (ap (slice_get (x ∷ xs)) e)
