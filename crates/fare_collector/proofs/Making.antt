-- A collector is made device by device, in order of registration.
use Rattle.std.proofs.Common.{◌≡◌, ℕ, ◌+◌, ◌<◌, ◌==◌, Bool, true, false, if◌then◌else◌, nat_lt, length, Option, Some, None, is_some, refl, sym, ◌∙◌, ap, arith}
use Rattle.std.specs.Prelude.{◌≤◌, IsSome, nat_eq}
use Rattle.std.specs.Map.{keys_of}
use Rattle.std.proofs.lemmas.List.Quantifiers.{position-Some}
use Rattle.std.proofs.lemmas.Map.Entries.{length-keys_of}
use Rattle.std.proofs.lemmas.Bool.Decides.{nat_tests}
use Rattle.fare_scheme.specs.Values.{SchemeValue}
use Rattle.fare_scheme.specs.Words.{station_of, position_of_device}
use Rattle.fare_scheme.specs.declared.entry.Placement.{Placement}
use Rattle.fare_scheme.proofs.Known.{id_at_place, part_found}
use Rattle.fare_collector.specs.Collecting.{first_link, is_id}

-- the position comes before this one
abbrev pub is_before : Option ℕ → ℕ → Bool
is_before None k = false
is_before (Some p) k = nat_lt p k

-- what is accepted next of the devices before a position
abbrev pub up_to : SchemeValue → ℕ → ℕ → ℕ → Option ℕ
up_to sc station k device = if is_before (position_of_device sc device) k then first_link sc station device else None

-- the device at this position isn't among them
pub not_yet : (sc : SchemeValue) (station k device : ℕ) → position_of_device sc device ≡ Some k → up_to sc station k device ≡ None
not_yet sc station k device at = ap (λ p. if is_before p k then first_link sc station device else None) at ∙ ap (λ b. if b then first_link sc station device else None) {x = nat_lt k k} {y = false} (grind (arith, nat_tests))

-- it is among those before the next position
here : (sc : SchemeValue) (station k device : ℕ) → position_of_device sc device ≡ Some k → up_to sc station (k + 1) device ≡ first_link sc station device
here sc station k device at = ap (λ p. if is_before p (k + 1) then first_link sc station device else None) at ∙ ap (λ b. if b then first_link sc station device else None) {x = nat_lt k (k + 1)} {y = true} (grind (arith, nat_tests))

same_device : (sc : SchemeValue) (d e k : ℕ) → position_of_device sc d ≡ Some k → position_of_device sc e ≡ Some k → d ≡ e
same_device sc d e k p q = let both : ◌≡◌ {A = Option ℕ} (Some d) (Some e) = sym (id_at_place sc.devices d k p) ∙ id_at_place sc.devices e k q in cc

elsewhere : (sc : SchemeValue) (station k device other : ℕ) → position_of_device sc device ≡ Some k → (other == device) ≡ false → up_to sc station (k + 1) other ≡ up_to sc station k other
elsewhere sc station k device other at differ = ap (λ b. if b then first_link sc station other else None) (by (position_of_device sc other) refl)
  where
    by : (o : Option ℕ) → position_of_device sc other ≡ o → is_before o (k + 1) ≡ is_before o k
    by None _ = refl
    by (Some p) there =
        let apart : p ≡ k → ⊥ = λ same. not_same (same_device sc other device k (there ∙ ap Some same) at) in
        grind (arith, nat_tests, apart)
      where
        not_same : other ≡ device → ⊥
        not_same same = absurd (grind (arith, nat_tests))

-- one device more
pub one_more : (sc : SchemeValue) (station k device : ℕ) → position_of_device sc device ≡ Some k → (old new : ℕ → Option ℕ)
    → ((d : ℕ) → old d ≡ up_to sc station k d) → new device ≡ first_link sc station device → ((d : ℕ) → (d == device) ≡ false → new d ≡ old d)
    → (d : ℕ) → new d ≡ up_to sc station (k + 1) d
one_more sc station k device at old new before this others d = by (d == device) refl
  where
    by : (b : Bool) → (d == device) ≡ b → new d ≡ up_to sc station (k + 1) d
    by true same =
        let is : d ≡ device = grind (arith, nat_tests) in
        ap new is ∙ this ∙ sym (here sc station k device at) ∙ sym (ap (up_to sc station (k + 1)) is)
    by false differ = others d differ ∙ before d ∙ sym (elsewhere sc station k device d at differ)

pub nothing_yet : (sc : SchemeValue) (station device : ℕ) → up_to sc station 0 device ≡ None
nothing_yet sc station device = by (position_of_device sc device)
  where
    by : (o : Option ℕ) → (if is_before o 0 then first_link sc station device else None) ≡ None
    by None = refl
    by (Some p) = ap (λ b. if b then first_link sc station device else None) {x = nat_lt p 0} {y = false} (grind (arith, nat_tests))

-- all devices come before the number of them
pub all_devices : (sc : SchemeValue) (station n device : ℕ) → length sc.devices ≤ n → up_to sc station n device ≡ first_link sc station device
all_devices sc station n device le = by (position_of_device sc device) refl
  where
    none : (o : Option ℕ) → (IsSome o → IsSome (position_of_device sc device)) → position_of_device sc device ≡ None → if◌then◌else◌ {A = Option ℕ} (is_id o station) (Some 1) None ≡ None
    none None _ _ = refl
    none (Some s) found absent = absurd (let h : true ≡ false = sym (found refl) ∙ ap is_some absent in cc)

    by : (o : Option ℕ) → position_of_device sc device ≡ o → (if is_before o n then first_link sc station device else None) ≡ first_link sc station device
    by None absent = sym (none (station_of sc device) (part_found (λ (d : Placement). d.station) sc.devices device).0 absent)
    by (Some p) there =
        let below : p < length (keys_of sc.devices) = (position-Some (nat_eq device) (keys_of sc.devices) p 0 there).0 in
        let within : p < n = omega (arith, length-keys_of sc.devices) in
        ap (λ b. if b then first_link sc station device else None) {x = nat_lt p n} {y = true} (grind (arith, nat_tests))
