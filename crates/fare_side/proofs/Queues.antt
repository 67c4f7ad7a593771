-- A queue of a fixed room that an item was put into, or that refused it.
use Rattle.std.proofs.Common.{◌≡◌, ℕ, ◌<◌, ◌≤◌, [], ◌∷◌, ◌++◌, length, Bool, true, false, refl, ap, arith}
use Rattle.std.specs.Prelude.{◌↔◌, nat_lt, Result, Ok, Err, IsOk, OnOk, IfErr, is_err}
use Rattle.std.proofs.lemmas.Bool.Decides.{nat_tests}
use Rattle.circular_buffer.specs.Buffer.{Buffer, buffer}

-- what is not below is at least that
at_least : (a b : ℕ) → (a < b → ⊥) → b ≤ a
at_least a b not = by (nat_lt a b) refl
  where
    by : (t : Bool) → nat_lt a b ≡ t → b ≤ a
    by true t = let lt : a < b = grind (arith, nat_tests) in absurd (not lt)
    by false t = grind (arith, nat_tests)

module _ {X : Type 0} (r : Result (Unit {0}) X) (old new : Buffer X) (x : X) where
  pub pushed : is_err r ≡ false → (IsOk r ↔ (length old.items < old.capacity)) → OnOk r (new ≡ buffer (old.items ++ x ∷ []) old.capacity) → (length old.items < old.capacity) × (new ≡ buffer (old.items ++ x ∷ []) old.capacity)
  pushed = of r
    where
      of : (r : Result (Unit {0}) X) → is_err r ≡ false → (IsOk r ↔ (length old.items < old.capacity)) → OnOk r (new ≡ buffer (old.items ++ x ∷ []) old.capacity) → (length old.items < old.capacity) × (new ≡ buffer (old.items ++ x ∷ []) old.capacity)
      of (Ok _) e variant ok = (variant.0 refl, ok)
      of (Err y) e variant ok = absurd (cc)

  pub refused : is_err r ≡ true → (IsOk r ↔ (length old.items < old.capacity)) → IfErr r (λ y. (y ≡ x) × (new ≡ old)) → (old.capacity ≤ length old.items) × (new ≡ old)
  refused = of r
    where
      of : (r : Result (Unit {0}) X) → is_err r ≡ true → (IsOk r ↔ (length old.items < old.capacity)) → IfErr r (λ y. (y ≡ x) × (new ≡ old)) → (old.capacity ≤ length old.items) × (new ≡ old)
      of (Ok _) e variant err = absurd (cc)
      of (Err y) e variant err = (at_least (length old.items) old.capacity (λ lt. let is = variant.1 lt in absurd (cc)), err.1)

  -- and its room is what it was
  pub same_room : (IsOk r ↔ (length old.items < old.capacity)) → OnOk r (new ≡ buffer (old.items ++ x ∷ []) old.capacity) → IfErr r (λ y. (y ≡ x) × (new ≡ old)) → new.capacity ≡ old.capacity
  same_room = of r
    where
      of : (r : Result (Unit {0}) X) → (IsOk r ↔ (length old.items < old.capacity)) → OnOk r (new ≡ buffer (old.items ++ x ∷ []) old.capacity) → IfErr r (λ y. (y ≡ x) × (new ≡ old)) → new.capacity ≡ old.capacity
      of (Ok _) variant ok err = ap (λ b. b.capacity) ok
      of (Err y) variant ok err = ap (λ b. b.capacity) err.1
