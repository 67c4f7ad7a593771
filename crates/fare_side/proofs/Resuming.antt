-- Devices are resumed one by one, in order of registration: a number that is kept of each becomes another.
use Rattle.std.proofs.Common.{◌≡◌, ℕ, ◌+◌, ◌<◌, ◌==◌, Bool, true, false, if◌then◌else◌, nat_lt, length, Option, Some, None, refl, sym, ◌∙◌, ap, arith}
use Rattle.std.specs.Prelude.{◌≤◌, IsSome, List, nat_eq, option_map, option_and_then, unwrap_or, slice_get}
use Rattle.fare_store.specs.LedgerWords.{LedgerValue, closed_through}
use Rattle.fare_route.specs.Routing.{first_day}
use Rattle.fare_side.specs.Resuming.{AreUptos, upto_at, AreStandings, place_at}
use Rattle.fare_side.proofs.Positions.{element_at, devices_apart}
use Rattle.std.specs.Map.{keys_of}
use Rattle.std.proofs.lemmas.List.Quantifiers.{position-Some}
use Rattle.std.proofs.lemmas.Map.Entries.{length-keys_of}
use Rattle.std.proofs.lemmas.Bool.Decides.{nat_tests, Decides-eqb}
use Rattle.fare_scheme.specs.Values.{SchemeValue}
use Rattle.fare_scheme.specs.Words.{position_of_device}
use Rattle.fare_collector.proofs.Making.{is_before}

-- resumed where the device is before a position, and else what it was
abbrev pub resumed_to : {A : Type 0} → SchemeValue → (ℕ → A) → (ℕ → Option A) → ℕ → ℕ → Option A
resumed_to sc value old k device = if is_before (position_of_device sc device) k then option_map (λ _. value device) (old device) else old device

by_test : {A : Type 0} (sc : SchemeValue) (value : ℕ → A) (old : ℕ → Option A) (k device : ℕ) (b : Bool) → is_before (position_of_device sc device) k ≡ b → resumed_to sc value old k device ≡ (if b then option_map (λ _. value device) (old device) else old device)
by_test sc value old k device b is = ap (λ t. if t then option_map (λ _. value device) (old device) else old device) is

not_yet : {A : Type 0} (sc : SchemeValue) (value : ℕ → A) (old : ℕ → Option A) (k device : ℕ) → position_of_device sc device ≡ Some k → resumed_to sc value old k device ≡ old device
not_yet sc value old k device at =
    let past : nat_lt k k ≡ false = grind (arith, nat_tests) in
    by_test sc value old k device false (ap (λ p. is_before p k) at ∙ past)

here : {A : Type 0} (sc : SchemeValue) (value : ℕ → A) (old : ℕ → Option A) (k n device : ℕ) → position_of_device sc device ≡ Some k → k < n → resumed_to sc value old n device ≡ option_map (λ _. value device) (old device)
here sc value old k n device at lt =
    let before : nat_lt k n ≡ true = grind (arith, nat_tests) in
    by_test sc value old n device true (ap (λ p. is_before p n) at ∙ before)

elsewhere : (sc : SchemeValue) (k device other : ℕ) → position_of_device sc device ≡ Some k → (other == device) ≡ false → is_before (position_of_device sc other) (k + 1) ≡ is_before (position_of_device sc other) k
elsewhere sc k device other at differ = by (position_of_device sc other) refl
  where
    not_same : other ≡ device → ⊥
    not_same same = absurd (grind (arith, nat_tests))

    by : (o : Option ℕ) → position_of_device sc other ≡ o → is_before o (k + 1) ≡ is_before o k
    by None _ = refl
    by (Some p) there =
        let apart : p ≡ k → ⊥ = λ same. not_same (devices_apart sc other device k (there ∙ ap Some same) at) in
        grind (arith, nat_tests, apart)

-- one device more
pub one_resumed : {A : Type 0} (sc : SchemeValue) (value : ℕ → A) (old now new : ℕ → Option A) (k device : ℕ) → position_of_device sc device ≡ Some k
    → ((d : ℕ) → now d ≡ resumed_to sc value old k d) → ((d : ℕ) → new d ≡ (if d == device then option_map (λ _. value device) (now d) else now d))
    → (d : ℕ) → new d ≡ resumed_to sc value old (k + 1) d
one_resumed sc value old now new k device at before after d = after d ∙ by (d == device) refl
  where
    by : (b : Bool) → (d == device) ≡ b → (if b then option_map (λ _. value device) (now d) else now d) ≡ resumed_to sc value old (k + 1) d
    by true same =
        let is : d ≡ device = (Decides-eqb d device).0 same in
        let there : position_of_device sc d ≡ Some k = ap (position_of_device sc) is ∙ at in
        ap (option_map (λ _. value device)) (before d ∙ not_yet sc value old k d there)
        ∙ ap (λ e. option_map (λ _. value e) (old d)) (sym is)
        ∙ sym (here sc value old k (k + 1) d there (omega arith))
    by false differ = before d ∙ ap (λ t. if t then option_map (λ _. value d) (old d) else old d) (sym (elsewhere sc k device d at differ))

pub none_resumed : {A : Type 0} (sc : SchemeValue) (value : ℕ → A) (old : ℕ → Option A) (device : ℕ) → old device ≡ resumed_to sc value old 0 device
none_resumed sc value old device = by (position_of_device sc device) refl
  where
    by : (o : Option ℕ) → position_of_device sc device ≡ o → old device ≡ resumed_to sc value old 0 device
    by None at = sym (by_test sc value old 0 device false (ap (λ p. is_before p 0) at))
    by (Some p) at =
        let past : nat_lt p 0 ≡ false = grind (arith, nat_tests) in
        sym (by_test sc value old 0 device false (ap (λ p. is_before p 0) at ∙ past))

-- all of them
pub all_resumed : {A : Type 0} (sc : SchemeValue) (value : ℕ → A) (old : ℕ → Option A) (n device : ℕ) → length sc.devices ≤ n → IsSome (position_of_device sc device) → resumed_to sc value old n device ≡ option_map (λ _. value device) (old device)
all_resumed sc value old n device le known = by (position_of_device sc device) refl
  where
    by : (o : Option ℕ) → position_of_device sc device ≡ o → resumed_to sc value old n device ≡ option_map (λ _. value device) (old device)
    by None at = absurd (cc)
    by (Some p) at =
        let below : p < length (keys_of sc.devices) = (position-Some (nat_eq device) (keys_of sc.devices) p 0 at).0 in
        here sc value old p n device at (omega (arith, length-keys_of sc.devices))

pub others_stay : {A : Type 0} (sc : SchemeValue) (value : ℕ → A) (old : ℕ → Option A) (n device : ℕ) → position_of_device sc device ≡ None → resumed_to sc value old n device ≡ old device
others_stay sc value old n device none = by_test sc value old n device false (ap (λ p. is_before p n) none)

-- a list of all uptos has each device's
pub uptos_at : (sc : SchemeValue) (upto : ℕ → ℕ) (uptos : List ℕ) (device : ℕ) → AreUptos sc upto uptos → IsSome (position_of_device sc device) → upto_at sc uptos device ≡ upto device
uptos_at sc upto uptos device are known = by (position_of_device sc device) refl
  where
    by : (o : Option ℕ) → position_of_device sc device ≡ o → upto_at sc uptos device ≡ upto device
    by None at = absurd (cc)
    by (Some p) at =
        let below : p < length (keys_of sc.devices) = (position-Some (nat_eq device) (keys_of sc.devices) p 0 at).0 in
        let found = element_at uptos p (omega (arith, below, length-keys_of sc.devices, are.count)) in
        ap (λ q. unwrap_or (option_and_then (slice_get uptos) q) 0) at ∙ ap (λ q. unwrap_or q 0) found.1 ∙ are.each device p found.0 at found.1

-- where a cursor goes by a standing, if there is one
abbrev place_of : SchemeValue → Option (ℕ × Option ℕ) → ℕ × ℕ
place_of sc o = unwrap_or (option_map (λ (z : ℕ × Option ℕ). (z.0, first_day sc.start z.1)) o) (0, sc.start)

-- and a list of all standings where each device's ledger stands
pub standings_at : (sc : SchemeValue) (v : LedgerValue) (standings : List (ℕ × Option ℕ)) (device : ℕ) → AreStandings sc v standings → IsSome (position_of_device sc device) → place_at sc standings device ≡ (length (v.taken device), first_day sc.start (closed_through v device))
standings_at sc v standings device are known = by (position_of_device sc device) refl
  where
    by : (o : Option ℕ) → position_of_device sc device ≡ o → place_at sc standings device ≡ (length (v.taken device), first_day sc.start (closed_through v device))
    by None at = absurd (cc)
    by (Some p) at =
        let below : p < length (keys_of sc.devices) = (position-Some (nat_eq device) (keys_of sc.devices) p 0 at).0 in
        let found = element_at standings p (omega (arith, below, length-keys_of sc.devices, are.count)) in
        ap (λ q. place_of sc (option_and_then (slice_get standings) q)) at ∙ ap (place_of sc) found.1 ∙ ap (λ (z : ℕ × Option ℕ). place_of sc (Some z)) (are.each device p found.0 at found.1)
