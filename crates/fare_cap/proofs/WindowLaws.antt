-- An account's taps of a day fall into windows.
use Rattle.std.proofs.Common.{◌≡◌, ℕ, ◌+◌, ◌<◌, Bool, true, false, ◌&&◌, if◌then◌else◌, leb-true, nat_le, List, [], ◌∷◌, ◌++◌, map, Option, Some, None, refl, ◌∙◌, ap}
use Rattle.std.specs.Prelude.{nat_lt}
use Rattle.std.specs.List.{AllByRecursion}
use Rattle.std.proofs.lemmas.Bool.{and_parts, leb-false, lt-ltb}
use Rattle.fare_record.specs.Values.{RecordValue}
use Rattle.fare_cap.specs.Windows.{is_free, paid_behind}
use Rattle.fare_cap.specs.WindowLaws.{Window, taps_of, AreCovered, OpenBehind, TapsFallIntoWindows, AllArePaidWithoutWindows}

-- what stands behind a paid tap: the free ones of its window, and then further windows
record Behind (hop : ℕ) (opener : RecordValue) (taps : List RecordValue) : Type 0 where
  free : List RecordValue
  windows : List Window
  parts : taps ≡ free ++ taps_of windows
  paid : paid_behind hop (Some opener.tap.moment) taps ≡ map (λ (window : Window). window.opener) windows
  covered : AreCovered hop opener free
  others : AllByRecursion (λ (window : Window). AreCovered hop window.opener window.free) windows
  apart : OpenBehind hop opener windows

other_no : (a b : Bool) → a ≡ true → (a && b) ≡ false → b ≡ false
other_no true b is both = both
other_no false b is both = absurd (let h : false ≡ true = is in cc)

behind : (hop : ℕ) → 0 < hop → (opener : RecordValue) (taps : List RecordValue) → Behind hop opener taps
behind hop some opener [] = record {
  free = [];
  windows = [];
  parts = refl;
  paid = refl;
  covered = tt;
  others = tt;
  apart = tt;
}
behind hop some opener (x ∷ taps) = by (is_free hop (Some opener.tap.moment) x.tap.moment) refl (behind hop some opener taps) (behind hop some x taps)
  where
    paid_if : Bool → List RecordValue
    paid_if b = if b then paid_behind hop (Some opener.tap.moment) taps else x ∷ paid_behind hop (Some x.tap.moment) taps

    by : (b : Bool) → is_free hop (Some opener.tap.moment) x.tap.moment ≡ b → Behind hop opener taps → Behind hop x taps → Behind hop opener (x ∷ taps)
    by true inside rest _ = record {
      free = x ∷ rest.free;
      windows = rest.windows;
      parts = ap (λ (l : List RecordValue). x ∷ l) rest.parts;
      paid = ap paid_if inside ∙ rest.paid;
      covered = (leb-true x.tap.moment (opener.tap.moment + hop) ((and_parts (nat_lt 0 hop) (nat_le x.tap.moment (opener.tap.moment + hop)) inside).1), rest.covered);
      others = rest.others;
      apart = rest.apart;
    }
    by false outside _ rest = record {
      free = [];
      windows = record { opener = x; free = rest.free } ∷ rest.windows;
      parts = ap (λ (l : List RecordValue). x ∷ l) rest.parts;
      paid = ap paid_if outside ∙ ap (λ (l : List RecordValue). x ∷ l) rest.paid;
      covered = tt;
      others = (rest.covered, rest.others);
      apart = (leb-false x.tap.moment (opener.tap.moment + hop) (other_no (nat_lt 0 hop) (nat_le x.tap.moment (opener.tap.moment + hop)) (lt-ltb 0 hop some) outside), rest.apart);
    }

pub taps_fall_into_windows : TapsFallIntoWindows
taps_fall_into_windows hop [] some = record {
  windows = [];
  parts = refl;
  paid = refl;
  free = tt;
  apart = tt;
}
taps_fall_into_windows hop (tap ∷ taps) some =
    let rest = behind hop some tap taps in
    record {
      windows = record { opener = tap; free = rest.free } ∷ rest.windows;
      parts = ap (λ (l : List RecordValue). tap ∷ l) rest.parts;
      paid = ap (λ (l : List RecordValue). tap ∷ l) rest.paid;
      free = (rest.covered, rest.others);
      apart = rest.apart;
    }

all_paid : (opened : Option ℕ) (taps : List RecordValue) → paid_behind 0 opened taps ≡ taps
all_paid opened [] = refl
all_paid None (tap ∷ taps) = ap (λ (l : List RecordValue). tap ∷ l) (all_paid (Some tap.tap.moment) taps)
all_paid (Some opened) (tap ∷ taps) = ap (λ (l : List RecordValue). tap ∷ l) (all_paid (Some tap.tap.moment) taps)

pub all_are_paid_without_windows : AllArePaidWithoutWindows
all_are_paid_without_windows taps = all_paid None taps
