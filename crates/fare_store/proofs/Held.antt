-- Which places of a device's taps are held.
use Rattle.std.proofs.Common.{◌≡◌, ℕ, ◌-◌, ◌≤◌, Bool, true, false, nat_lt, List, Option, Some, None, refl, arith}
use Rattle.std.specs.Prelude.{if◌then◌else◌, slice_get}
use Rattle.std.proofs.lemmas.Bool.Decides.{nat_tests}
use Rattle.fare_record.specs.Values.{RecordValue}
use Rattle.fare_store.specs.TapPlaces.{Places, at_place}

-- of the first so many taps of a device none is held
abbrev pub AreBehind : (ℕ → ℕ) → Places → Type 0
AreBehind gone tap_at = (device k : ℕ) (r : RecordValue) → tap_at device k ≡ Some r → gone device ≤ k

pub held_behind : (gone : ℕ → ℕ) (held : ℕ → List RecordValue) → AreBehind gone (at_place gone held)
held_behind gone held d k r is = by (nat_lt k (gone d)) refl is
  where
    by : (b : Bool) → nat_lt k (gone d) ≡ b → (if b then None else slice_get (held d) (k - gone d)) ≡ Some r → gone d ≤ k
    by true h e = absurd (let f : ◌≡◌ {A = Option RecordValue} None (Some r) = e in cc)
    by false h e = grind (arith, nat_tests)
