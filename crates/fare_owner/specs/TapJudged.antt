-- What an owner answers to a tap.
use Rattle.std.specs.Prelude.{ℕ, ◌+◌, Bool, not, nat_le, nat_lt, if◌then◌else◌, Result, Ok, Err}
use Rattle.fare_owner.specs.declared.tap.TapFault.{TapFault}
use Rattle.fare_owner.specs.declared.tap.TapFault.TheVariants.{NotMine, Retired, Duplicate, Gap, AfterClose}

-- the first refusal that applies, by whose tap it is, the taps taken, whether its day is closed, its lane number, and whether the lane is retired
abbrev pub tap_judged : Bool → ℕ → Bool → ℕ → Bool → Result Unit TapFault
tap_judged mine count closed lane retired =
    if not mine then Err NotMine
    else (if retired then Err Retired
    else (if nat_le lane count then Err Duplicate
    else (if nat_lt (count + 1) lane then Err Gap
    else (if closed then Err AfterClose
    else Ok tt))))
