-- How a kept scheme is written, by what is known of the output before and after.
use Rattle.std.specs.Prelude.{ℕ, List, Option}
use Rattle.std.specs.Io.KnownBytes.{Appends, Keeps}
use Rattle.fare_day.specs.Clock.{HasRule}
use Rattle.fare_scheme.specs.Values.{SchemeValue}
use Rattle.fare_setup.specs.ReadAgain.{setup_text_of}
use Rattle.fare_run.specs.declared.serve_failure.ServeFailure.{ServeFailure}
use Rattle.fare_run.specs.declared.serve_failure.ServeFailure.TheVariants.{NoScheme, Kept, Memory, Store, Write}

-- the lines of a scheme, whose clock goes by this rule, were written, and nothing else
pub record ShowsScheme (old new : Option (List ℕ)) : Type 0 where
  pub sc : SchemeValue
  pub zone : List ℕ
  pub rule : HasRule sc.zone zone
  pub written : Appends old new (setup_text_of sc zone)

-- why a scheme that is there was not written
abbrev pub IsUnwritten : Option (List ℕ) → Option (List ℕ) → ServeFailure → Type 0
IsUnwritten old new Memory = Keeps old new
IsUnwritten old new Write = Unit {0}
IsUnwritten old new _ = ⊥

-- why none was written
abbrev pub ShowsNone : Option (List ℕ) → Option (List ℕ) → ServeFailure → Type 0
ShowsNone old new NoScheme = Keeps old new
ShowsNone old new (Kept why) = Keeps old new
ShowsNone old new Store = Keeps old new
ShowsNone old new failure = IsUnwritten old new failure
