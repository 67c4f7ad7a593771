-- What the calls of an intake make of it.
use Rattle.std.specs.Prelude.{◌≡◌, ◌≢◌, ◌≤◌, ℕ, Bool, true, false, List, [], ◌∷◌, ◌++◌, take, Option, Some, None, Result, Ok, Err}
use Rattle.fare_frame.specs.Grammar.{IsRest}
use Rattle.fare_frame.specs.Reading.{Spells, HasNoFrame}
use Rattle.fare_frame.specs.declared.frame.Frame.{Frame}
use Rattle.fare_net.specs.IntakeValue.{IntakeValue}
use Rattle.fare_net.specs.declared.fault.NetFault.{NetFault}
use Rattle.fare_net.specs.declared.turn.Turn.{Turn}
use Rattle.fare_net.specs.declared.turn.Turn.TheVariants as turn
use Rattle.fare_net.specs.declared.intake.Stage.{Stage}
use Rattle.fare_net.specs.declared.intake.Stage.TheVariants.{Live, Ended, Failed}

abbrev pub fresh_intake : IntakeValue
fresh_intake = record { read = []; taken = []; pending = []; stage = Live }

-- no frame is there, and the stream is read on
pub record IsWaiting (v : IntakeValue) : Type 0 where
  pub pending : v.pending ≡ []
  pub live : v.stage ≡ Live

-- no frame is there, and the stream is not read on
pub record IsOver (v : IntakeValue) : Type 0 where
  pub pending : v.pending ≡ []
  pub stopped : v.stage ≢ Live

-- what is behind the frames, at each stage
abbrev pub IsBehind : Stage → List ℕ → Type 0
IsBehind Live rest = IsRest rest
IsBehind Ended rest = IsRest rest
IsBehind Failed rest = HasNoFrame rest

-- the frames that were taken off and those that wait are all the frames in the bytes that came
pub record Holds (v : IntakeValue) : Type 0 where
  pub rest : List ℕ
  pub spelled : Spells v.read (v.taken ++ v.pending) rest
  pub behind : IsBehind v.stage rest

-- a piece came
pub record HasTaken (old new : IntakeValue) (piece : List ℕ) : Type 0 where
  pub read : new.read ≡ old.read ++ piece
  pub taken : new.taken ≡ old.taken
  pub stage : new.stage ≢ Ended

abbrev pub stopped_at : Bool → Stage
stopped_at true = Ended
stopped_at false = Failed

-- it is at its end, or has failed
abbrev pub stopped : IntakeValue → Bool → IntakeValue
stopped v ended = record { read = v.read; taken = v.taken; pending = v.pending; stage = stopped_at ended }

-- a read brings at most 4,096 bytes
abbrev pub HasFew : Turn → Type 0
HasFew (turn.Read count) = count ≤ 4096
HasFew turn.Ended = Unit {0}
HasFew turn.Waited = Unit {0}

-- What a read told was taken in: a piece came; the stream is at its end; nothing changed where it is waited for; or it has failed.
abbrev pub HasTakenIn : IntakeValue → IntakeValue → Result Turn NetFault → List ℕ → Type 0
HasTakenIn old new (Ok (turn.Read count)) buffer = HasTaken old new (take count buffer)
HasTakenIn old new (Ok turn.Ended) buffer = new ≡ stopped old true
HasTakenIn old new (Ok turn.Waited) buffer = new ≡ old
HasTakenIn old new (Err fault) buffer = new ≡ stopped old false

-- the first frame that waits was taken off; None where none waits
abbrev pub Takes : IntakeValue → IntakeValue → Option Frame → Type 0
Takes old new (Some f) = (old.pending ≡ f ∷ new.pending) × (new.taken ≡ old.taken ++ f ∷ []) × (new.read ≡ old.read) × (new.stage ≡ old.stage)
Takes old new None = (old.pending ≡ []) × (new ≡ old)
