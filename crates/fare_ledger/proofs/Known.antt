-- The devices of a scheme are put into a set one by one, in order of registration.
use Rattle.std.proofs.Common.{◌≡◌, ℕ, ◌+◌, ◌<◌, ◌≤◌, Bool, true, false, cond, nat_lt, nat_eq, length, Option, Some, None, refl, sym, ap, ◌∙◌, arith}
use Rattle.std.specs.Prelude.{is_some}
use Rattle.std.specs.Map.{keys_of}
use Rattle.std.proofs.lemmas.List.Quantifiers.{position-Some}
use Rattle.std.proofs.lemmas.Map.Entries.{length-keys_of}
use Rattle.std.proofs.lemmas.Bool.Decides.{nat_tests}
use Rattle.fare_scheme.specs.Values.{SchemeValue}
use Rattle.fare_scheme.specs.Words.{position_of_device}
use Rattle.fare_scheme.proofs.Known.{id_at_place}

-- the position comes before this one
abbrev pub is_before : Option ℕ → ℕ → Bool
is_before None k = false
is_before (Some p) k = nat_lt p k

-- those before a position are known
abbrev pub AreKnown : SchemeValue → ℕ → (ℕ → Bool) → Type 0
AreKnown sc k known = (d : ℕ) → known d ≡ is_before (position_of_device sc d) k

pub none_known : (sc : SchemeValue) (known : ℕ → Bool) → ((d : ℕ) → known d ≡ false) → AreKnown sc 0 known
none_known sc known none d = none d ∙ by (position_of_device sc d)
  where
    by : (o : Option ℕ) → false ≡ is_before o 0
    by None = refl
    by (Some p) = grind (arith, nat_tests)

same_device : (sc : SchemeValue) (d e k : ℕ) → position_of_device sc d ≡ Some k → position_of_device sc e ≡ Some k → d ≡ e
same_device sc d e k p q = let both : ◌≡◌ {A = Option ℕ} (Some d) (Some e) = sym (id_at_place sc.devices d k p) ∙ id_at_place sc.devices e k q in cc

pub more_known : (sc : SchemeValue) (k device : ℕ) (old new : ℕ → Bool) → position_of_device sc device ≡ Some k → ((d : ℕ) → new d ≡ cond (nat_eq device d) true (old d)) → AreKnown sc k old → AreKnown sc (k + 1) new
more_known sc k device old new at writes known d = writes d ∙ by (nat_eq device d) refl
  where
    elsewhere : (o : Option ℕ) → position_of_device sc d ≡ o → nat_eq device d ≡ false → is_before o k ≡ is_before o (k + 1)
    elsewhere None _ _ = refl
    elsewhere (Some p) there differ =
        let apart : p ≡ k → ⊥ = λ same. absurd (let e : device ≡ d = same_device sc device d k at (there ∙ ap {B = Option ℕ} Some same) in grind (arith, nat_tests)) in
        grind (arith, nat_tests, apart)

    by : (b : Bool) → nat_eq device d ≡ b → cond b true (old d) ≡ is_before (position_of_device sc d) (k + 1)
    by true same =
        let equal : device ≡ d = grind (arith, nat_tests) in
        let low : nat_lt k (k + 1) ≡ true = grind (arith, nat_tests) in
        sym (ap (λ e. is_before (position_of_device sc e) (k + 1)) (sym equal) ∙ ap (λ o. is_before o (k + 1)) at ∙ low)
    by false differ = known d ∙ elsewhere (position_of_device sc d) refl differ

pub all_known : (sc : SchemeValue) (n : ℕ) (known : ℕ → Bool) → length sc.devices ≤ n → AreKnown sc n known → (d : ℕ) → known d ≡ is_some (position_of_device sc d)
all_known sc n known le are d = are d ∙ by (position_of_device sc d) refl
  where
    by : (o : Option ℕ) → position_of_device sc d ≡ o → is_before o n ≡ is_some o
    by None _ = refl
    by (Some p) there =
        let below : p < length (keys_of sc.devices) = (position-Some (nat_eq d) (keys_of sc.devices) p 0 there).0 in
        let within : p < n = omega (arith, length-keys_of sc.devices) in
        grind (arith, nat_tests)
