-- What a source is for a station: the frames that it gives, and the answers that it is handed.
use Rattle.std.specs.Prelude.{◌≡◌, ℕ, ◌<◌, ◌≤◌, ◌⊎◌, List, [], ◌∷◌, ◌++◌, Option, Some, None, Result, Ok, Err}
use Rattle.fare_frame.specs.declared.frame.Frame.{Frame}
use Rattle.fare_source.specs.declared.fault.SourceFault.{SourceFault}
use Rattle.fare_source.specs.declared.fault.SourceFault.TheVariants.{Failed, Memory}

pub record Talk : Type 1 where
  -- the frames that it gave, in order
  pub given : List Frame
  -- the frames that it was handed as answers, in order, but for those at which it had no memory
  pub answered : List Frame
  -- how many of its calls answered Failed; it stays at the greatest count
  pub failures : ℕ
  -- it has come to its end: there is no frame more
  pub ended : Type 0

-- the count rises where the answer is Failed, up to the greatest count, at which it stays, and nowhere else
abbrev pub FailedCounted : ℕ → ℕ → Option SourceFault → Type 0
FailedCounted old new (Some Failed) = (old < new) ⊎ ((18446744073709551615 ≤ old) × (new ≡ old))
FailedCounted old new (Some Memory) = new ≡ old
FailedCounted old new None = new ≡ old

abbrev pub fault_at : {A : Type 0} → Result A SourceFault → Option SourceFault
fault_at (Ok a) = None
fault_at (Err f) = Some f

abbrev pub frame_in : Result (Option Frame) SourceFault → List Frame
frame_in (Ok (Some f)) = f ∷ []
frame_in (Ok None) = []
frame_in (Err f) = []

-- nothing was asked of it
pub record Waits (old new : Talk) : Type 0 where
  pub given : new.given ≡ old.given
  pub answered : new.answered ≡ old.answered
  pub failures : new.failures ≡ old.failures
  pub ended : old.ended → new.ended

-- it answered that there is no frame more
abbrev pub IsEnd : Result (Option Frame) SourceFault → Type 0
IsEnd r = r ≡ Ok None

-- one call for a frame
pub record Gives (old new : Talk) (result : Result (Option Frame) SourceFault) : Type 0 where
  pub given : new.given ≡ old.given ++ frame_in result
  pub answered : new.answered ≡ old.answered
  pub ended : IsEnd result → new.ended
  pub cause : FailedCounted old.failures new.failures (fault_at result)

abbrev pub kept_of : Frame → Result Unit SourceFault → List Frame
kept_of f (Ok _) = f ∷ []
kept_of f (Err Failed) = f ∷ []
kept_of f (Err Memory) = []

-- one call with an answer
pub record Hears (old new : Talk) (frame : Frame) (result : Result Unit SourceFault) : Type 0 where
  pub given : new.given ≡ old.given
  pub answered : new.answered ≡ old.answered ++ kept_of frame result
  pub ended : old.ended → new.ended
  pub cause : FailedCounted old.failures new.failures (fault_at result)
