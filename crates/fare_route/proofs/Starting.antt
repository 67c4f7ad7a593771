-- A forwarder is made device by device, in order of registration.
use Rattle.std.proofs.Common.{◌≡◌, ℕ, ◌+◌, ◌<◌, Bool, true, false, cond, nat_lt, nat_eq, List, length, Option, Some, None, refl, sym, ◌∙◌, ap, arith}
use Rattle.std.specs.Prelude.{◌≤◌, if◌then◌else◌, slice_get, option_map, option_and_then}
use Rattle.std.specs.Map.{keys_of}
use Rattle.std.proofs.lemmas.List.Quantifiers.{position-Some}
use Rattle.std.proofs.lemmas.Map.Entries.{length-keys_of}
use Rattle.std.proofs.lemmas.Bool.Decides.{Decides-eqb, nat_tests}
use Rattle.fare_scheme.specs.Values.{SchemeValue}
use Rattle.fare_scheme.specs.Words.{position_of_device}
use Rattle.fare_scheme.proofs.Known.{id_at_place}
use Rattle.fare_route.specs.declared.cursor.Cursor.{Cursor}
use Rattle.fare_route.specs.Routing.{started, standing_at}

-- the position comes before this one
abbrev pub is_before : Option ℕ → ℕ → Bool
is_before None k = false
is_before (Some p) k = nat_lt p k

-- the cursors of the devices before a position stand where they start
abbrev pub AreStarted : SchemeValue → List (ℕ × Option ℕ) → ℕ → (ℕ → Option Cursor) → Type 0
AreStarted sc counts k cursors = (d : ℕ) → cursors d ≡ (if is_before (position_of_device sc d) k then started sc counts d else None)

same_device : (sc : SchemeValue) (d e k : ℕ) → position_of_device sc d ≡ Some k → position_of_device sc e ≡ Some k → d ≡ e
same_device sc d e k p q = let both : ◌≡◌ {A = Option ℕ} (Some d) (Some e) = sym (id_at_place sc.devices d k p) ∙ id_at_place sc.devices e k q in cc

pub none_started : (sc : SchemeValue) (counts : List (ℕ × Option ℕ)) (cursors : ℕ → Option Cursor) → ((d : ℕ) → cursors d ≡ None) → AreStarted sc counts 0 cursors
none_started sc counts cursors none d = none d ∙ by (position_of_device sc d)
  where
    by : (o : Option ℕ) → None ≡ (if is_before o 0 then started sc counts d else None)
    by None = refl
    by (Some p) = sym (ap (λ b. if b then started sc counts d else None) {x = nat_lt p 0} {y = false} (grind (arith, nat_tests)))

pub more_started : (sc : SchemeValue) (counts : List (ℕ × Option ℕ)) (k device : ℕ) (p : ℕ × Option ℕ) (cursor : Cursor) (old new : ℕ → Option Cursor) → position_of_device sc device ≡ Some k → slice_get counts k ≡ Some p → cursor ≡ standing_at sc.start p
    → ((d : ℕ) → new d ≡ cond (nat_eq device d) (Some cursor) (old d)) → AreStarted sc counts k old → AreStarted sc counts (k + 1) new
more_started sc counts k device p cursor old new at held is writes so d = writes d ∙ by (nat_eq device d) refl
  where
    here : (if is_before (position_of_device sc device) (k + 1) then started sc counts device else None) ≡ Some cursor
    here =
        (λ i. if is_before (at i) (k + 1) then option_and_then (λ place. option_map (standing_at sc.start) (slice_get counts place)) (at i) else None)
        ∙ ap (λ b. if b then option_map (standing_at sc.start) (slice_get counts k) else None) {x = nat_lt k (k + 1)} {y = true} (grind (arith, nat_tests))
        ∙ ap (option_map (standing_at sc.start)) held ∙ ap {B = Option Cursor} Some (sym is)

    elsewhere : (o : Option ℕ) → position_of_device sc d ≡ o → nat_eq device d ≡ false → is_before o k ≡ is_before o (k + 1)
    elsewhere None _ _ = refl
    elsewhere (Some q) there differ =
        let distinct : q ≡ k → ⊥ = λ same. absurd (let e : device ≡ d = same_device sc device d k at (there ∙ ap {B = Option ℕ} Some same) in grind (arith, nat_tests)) in
        grind (arith, nat_tests, distinct)

    by : (b : Bool) → nat_eq device d ≡ b → cond b (Some cursor) (old d) ≡ (if is_before (position_of_device sc d) (k + 1) then started sc counts d else None)
    by true same = sym here ∙ ap (λ e. if is_before (position_of_device sc e) (k + 1) then started sc counts e else None) ((Decides-eqb device d).0 same)
    by false differ = so d ∙ ap (λ b. if b then started sc counts d else None) (elsewhere (position_of_device sc d) refl differ)

pub all_started : (sc : SchemeValue) (counts : List (ℕ × Option ℕ)) (n : ℕ) (cursors : ℕ → Option Cursor) → length sc.devices ≤ n → AreStarted sc counts n cursors → (d : ℕ) → cursors d ≡ started sc counts d
all_started sc counts n cursors le so d = so d ∙ by (position_of_device sc d) refl
  where
    by : (o : Option ℕ) → position_of_device sc d ≡ o → (if is_before o n then option_and_then (λ place. option_map (standing_at sc.start) (slice_get counts place)) o else None) ≡ option_and_then (λ place. option_map (standing_at sc.start) (slice_get counts place)) o
    by None _ = refl
    by (Some p) there =
        let below : p < length (keys_of sc.devices) = (position-Some (nat_eq d) (keys_of sc.devices) p 0 there).0 in
        let within : p < n = omega (arith, length-keys_of sc.devices) in
        ap (λ b. if b then option_map (standing_at sc.start) (slice_get counts p) else None) {x = nat_lt p n} {y = true} (grind (arith, nat_tests))
