-- What is heard of a whole line.
use Rattle.std.specs.Prelude.{◌≡◌, ◌≢◌, ◌⊎◌, ℕ, Bool, true, false, List, [], ◌∷◌, ◌++◌, Option, Some, None}
use Rattle.std.specs.Io.KnownBytes.{Consumes}
use Rattle.fare_record.specs.Values.{HelloValue}
use Rattle.fare_frame.specs.Grammar.{hello_of, IsRest}
use Rattle.fare_frame.specs.Reading.{Spells, HasNoFrame}
use Rattle.fare_frame.specs.declared.frame.Frame.{Frame}
use Rattle.fare_frame.specs.declared.frame.Frame.TheVariants.{Greeted}
use Rattle.fare_scheme.specs.Values.{SchemeValue}
use Rattle.fare_scheme.specs.Words.{station_of}
use Rattle.fare_net.specs.NetValue.{NetValue}
use Rattle.fare_net.specs.Spoken.{IsSpoken}
use Rattle.fare_net.specs.Sources.{IsFront}
use Rattle.fare_net.specs.declared.fault.HelloFault.{HelloFault}
use Rattle.fare_net.specs.declared.fault.HelloFault.TheVariants.{NoHello, BadVersion, UnknownDevice, Failed}
use Rattle.fare_net.specs.declared.fault.ListenFault.{ListenFault}
use Rattle.fare_net.specs.declared.fault.ListenFault.TheVariants.{Memory, Hello}

-- behind the frames: at the line's end less than one frame, and nothing is unread; where the line failed, no frame
abbrev pub IsLast : Bool → List ℕ → List ℕ → Type 0
IsLast true rest unread = IsRest rest × (unread ≡ [])
IsLast false rest unread = HasNoFrame rest

-- The input is what was read and what wasn't. What was read is a greeting of a device of the station, these frames, and
-- no frame more.
pub record HasHeard (scheme : SchemeValue) (station : ℕ) (frames : List Frame) (ended : Bool) (input : List ℕ) : Type 0 where
  pub hello : HelloValue
  pub version : IsSpoken hello.version
  pub is : station_of scheme hello.device ≡ Some station
  pub read : List ℕ
  pub unread : List ℕ
  pub input_is : input ≡ read ++ unread
  pub rest : List ℕ
  pub spelled : Spells read (Greeted hello ∷ frames) rest
  pub last : IsLast ended rest unread

-- the input begins with the frame
abbrev pub Begins : List ℕ → Frame → Type 0
Begins input f = (rest : List ℕ) × Spells input (f ∷ []) rest

-- a front of the input has no frame
abbrev pub BeginsWithNone : List ℕ → Type 0
BeginsWithNone input = (read : List ℕ) × (unread : List ℕ) × (input ≡ read ++ unread) × HasNoFrame read

-- why nothing was heard
abbrev pub IsRefused : SchemeValue → HelloFault → List ℕ → Type 0
IsRefused scheme NoHello input = ((f : Frame) × Begins input f × (hello_of f ≡ None)) ⊎ IsRest input
IsRefused scheme BadVersion input = (h : HelloValue) × Begins input (Greeted h) × (¬ IsSpoken h.version)
IsRefused scheme UnknownDevice input = (h : HelloValue) × Begins input (Greeted h) × IsSpoken h.version × (station_of scheme h.device ≡ None)
IsRefused scheme Failed input = BeginsWithNone input

abbrev pub HasNotHeard : SchemeValue → ListenFault → List ℕ → Type 0
HasNotHeard scheme Memory input = Unit {0}
HasNotHeard scheme (Hello fault) input = IsRefused scheme fault input

-- so far: what was read of the input, and that all frames that were taken off are a greeting and these frames
pub record IsHearing (scheme : SchemeValue) (station : ℕ) (frames : List Frame) (input : Option (List ℕ)) (source : NetValue) : Type 0 where
  pub hello : HelloValue
  pub version : IsSpoken hello.version
  pub is : station_of scheme hello.device ≡ Some station
  pub taken : source.intake.taken ≡ Greeted hello ∷ frames
  pub read : Consumes input source.unread source.intake.read
  pub front : IsFront source
  pub greeted : source.refused ≡ false
