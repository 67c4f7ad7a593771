-- Lines of stations: what a side of one has left and holds, and what is known of one that has greeted.
use Rattle.std.specs.Prelude.{◌≡◌, ◌⊎◌, ℕ, true, false, List, [], ◌∷◌, Option, Some, None}
use Rattle.fare_record.specs.Values.{HelloValue}
use Rattle.fare_frame.specs.declared.frame.Frame.TheVariants.{Greeted}
use Rattle.fare_scheme.specs.Values.{SchemeValue}
use Rattle.fare_scheme.specs.Words.{position_of_station, station_of}
use Rattle.fare_net.specs.Intakes.{IsOver}
use Rattle.fare_net.specs.NetValue.{NetValue}
use Rattle.fare_net.specs.Sources.{IsFront, fresh_source}
use Rattle.fare_net.specs.Spoken.{IsSpoken}
use Rattle.fare_serve.specs.declared.line.Line.{Line}
use Rattle.fare_serve.specs.declared.line.Line.TheVariants.{Open, Absent}

-- A SIDE OF A LINE
-- what is left to read: what the stream has left, and nothing where there is none
abbrev pub left_on : {T : Type 0} → (T → Option (List ℕ)) → Line T → Option (List ℕ)
left_on left (Open stream) = left stream
left_on left Absent = Some []

-- what was written: what the stream holds; where there is none, that is not kept
abbrev pub held_by : {T : Type 0} → (T → Option (List ℕ)) → Line T → Option (List ℕ)
held_by holds (Open stream) = holds stream
held_by holds Absent = None

-- GREETING
-- no frame was taken off it, and it gave and was answered nothing
pub record IsUnheard (v : NetValue) : Type 0 where
  pub taken : v.intake.taken ≡ []
  pub given : v.given ≡ []
  pub answered : v.answered ≡ []

-- It greeted as a device of the station, by its first frame; no other was taken off it, and it gave and was answered
-- nothing.
pub record HasGreetedAs (sc : SchemeValue) (station : ℕ) (v : NetValue) : Type 0 where
  pub hello : HelloValue
  pub version : IsSpoken hello.version
  pub is : station_of sc hello.device ≡ Some station
  pub taken : v.intake.taken ≡ Greeted hello ∷ []
  pub front : IsFront v
  pub greeted : v.refused ≡ false
  pub given : v.given ≡ []
  pub answered : v.answered ≡ []

-- it did so as a device of the station at a place of the scheme
abbrev pub IsNewLine : SchemeValue → ℕ → NetValue → Type 0
IsNewLine sc place v = (station : ℕ) × (position_of_station sc station ≡ Some place) × HasGreetedAs sc station v

-- it gives no frame any more
abbrev pub IsDone : NetValue → Type 0
IsDone v = (v.refused ≡ true) ⊎ IsOver v.intake

-- the line of a station that has none: nothing is left to read of it, and it gave and was answered nothing
abbrev pub absent_line : NetValue
absent_line = fresh_source (Some []) None 1
