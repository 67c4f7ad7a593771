-- What windows make of an account's taps of a day, in the words of the rule.
use Rattle.std.specs.Prelude.{◌≡◌, ℕ, ◌+◌, ◌<◌, ◌≤◌, List, [], ◌∷◌, ◌++◌, map}
use Rattle.std.specs.List.{AllByRecursion}
use Rattle.fare_record.specs.Values.{RecordValue}
use Rattle.fare_cap.specs.Windows.{paid_taps}

-- a paid tap, which opens the window, and the free ones in it
pub record Window : Type 0 where
  pub opener : RecordValue
  pub free : List RecordValue

-- the taps of windows, one window after the other
abbrev pub taps_of : List Window → List RecordValue
taps_of [] = []
taps_of (window ∷ windows) = window.opener ∷ (window.free ++ taps_of windows)

-- taps at most `hop` seconds behind the paid one
abbrev pub AreCovered : ℕ → RecordValue → List RecordValue → Type 0
AreCovered hop opener taps = AllByRecursion (λ (tap : RecordValue). tap.tap.moment ≤ opener.tap.moment + hop) taps

-- each next window is opened more than `hop` seconds behind the paid tap that opened the one before
abbrev pub OpenBehind : ℕ → RecordValue → List Window → Type 0
OpenBehind hop opener [] = Unit {0}
OpenBehind hop opener (window ∷ windows) = (opener.tap.moment + hop < window.opener.tap.moment) × OpenBehind hop window.opener windows

abbrev pub AreFarApart : ℕ → List Window → Type 0
AreFarApart hop [] = Unit {0}
AreFarApart hop (window ∷ windows) = OpenBehind hop window.opener windows

-- the taps fall into windows, and those that open them are the paid ones
pub record FallIntoWindows (hop : ℕ) (taps : List RecordValue) : Type 0 where
  pub windows : List Window
  pub parts : taps ≡ taps_of windows
  pub paid : paid_taps hop taps ≡ map (λ (window : Window). window.opener) windows
  pub free : AllByRecursion (λ (window : Window). AreCovered hop window.opener window.free) windows
  pub apart : AreFarApart hop windows

abbrev pub TapsFallIntoWindows : Type 0
TapsFallIntoWindows = (hop : ℕ) (taps : List RecordValue) → 0 < hop → FallIntoWindows hop taps

-- where there is no window each tap is paid
abbrev pub AllArePaidWithoutWindows : Type 0
AllArePaidWithoutWindows = (taps : List RecordValue) → paid_taps 0 taps ≡ taps
