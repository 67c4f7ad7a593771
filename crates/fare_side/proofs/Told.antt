-- What was told of each device.
use Rattle.std.proofs.Common.{◌≡◌, ◌≢◌, ℕ, ◌+◌, ◌<◌, ◌≤◌, List, length, set, arith, Some, sym, ap, ◌∙◌, inl, inr}
use Rattle.std.specs.Prelude.{Option, slice_get}
use Rattle.std.proofs.lemmas.Bool.Decides.{nat_tests}
use Rattle.std.proofs.lemmas.Option.{slice_get_within}
use Rattle.fare_scheme.specs.Values.{SchemeValue}
use Rattle.fare_scheme.specs.Words.{position_of_device}
use Rattle.fare_store.specs.LedgerWords.{LedgerValue, closed_through}
use Rattle.fare_side.specs.Resuming.{AreUptos, AreStandings}
use Rattle.fare_side.proofs.Positions.{set_cases, devices_apart}

-- a list tells of each device before a position what a table has
pub record ToldTo {A : Type 0} (sc : SchemeValue) (table : ℕ → A) (place : ℕ) (told : List A) : Type 0 where
  pub each : (device k : ℕ) (n : A) → k < place → position_of_device sc device ≡ Some k → slice_get told k ≡ Some n → n ≡ table device

-- one device more
pub one_told : {A : Type 0} (sc : SchemeValue) (table : ℕ → A) (told : List A) (place device : ℕ) (n : A) → ToldTo sc table place told → position_of_device sc device ≡ Some place → n ≡ table device → ToldTo sc table (place + 1) (set told place n)
one_told sc table told place device n so at is = record {
  each = λ d k m lt there e. elim (set_cases told place n k m e) [
    | inl new ↦ sym new.1 ∙ is ∙ ap table (devices_apart sc device d k (at ∙ ap Some (sym new.0)) there)
    | inr was ↦ so.each d k m (less k place lt was.0) there was.1
  ];
}
  where
    less : (k place : ℕ) → k < place + 1 → k ≢ place → k < place
    less k place lt apart = grind (arith, nat_tests)

-- all of them
pub told_all : (sc : SchemeValue) (upto : ℕ → ℕ) (uptos : List ℕ) (place : ℕ) → ToldTo sc upto place uptos → length sc.devices ≤ place → length uptos ≡ length sc.devices → AreUptos sc upto uptos
told_all sc upto uptos place so le count = record {
  count = count;
  each = λ d k n at e. let within = slice_get_within uptos k n e in so.each d k n (omega (arith, within, count, le)) at e;
}

-- where a ledger stands with a device
abbrev pub standing_of : LedgerValue → ℕ → ℕ × Option ℕ
standing_of v device = (length (v.taken device), closed_through v device)

pub standings_told : (sc : SchemeValue) (v : LedgerValue) (standings : List (ℕ × Option ℕ)) (place : ℕ) → ToldTo sc (standing_of v) place standings → length sc.devices ≤ place → length standings ≡ length sc.devices → AreStandings sc v standings
standings_told sc v standings place so le count = record {
  count = count;
  each = λ d k p at e. let within = slice_get_within standings k p e in so.each d k p (omega (arith, within, count, le)) at e;
}
