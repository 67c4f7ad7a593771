-- What contracts see of a reader, and of what it reads.
use Rattle.std.specs.Prelude.{◌≡◌, ◌<◌, ◌+◌, ◌⊎◌, ℕ, Bool, true, false, List, [], ◌∷◌, ◌++◌, length}
use Rattle.std.specs.List.{AllByRecursion, flat_map}
use Rattle.fare_frame.specs.Grammar.{spelling_of, IsFrame, IsRest, IsFault}
use Rattle.fare_frame.specs.declared.fault.ReadFault.{ReadFault}
use Rattle.fare_frame.specs.declared.fault.ReadFault.TheVariants.{BadLength, BadType, BadBody}
use Rattle.fare_frame.specs.declared.frame.Frame.{Frame}

-- a reader: what it holds back of the stream, and whether the stream has failed
pub record ReaderValue : Type 0 where
  pub held : List ℕ
  pub failed : Bool

abbrev pub fresh_reader : ReaderValue
fresh_reader = record { held = []; failed = false }

-- it holds nothing, and reads nothing from then on
abbrev pub failed_reader : ReaderValue
failed_reader = record { held = []; failed = true }

-- the bytes are the spellings of these frames, and then the rest
pub record Spells (bytes : List ℕ) (frames : List Frame) (rest : List ℕ) : Type 0 where
  pub lawful : AllByRecursion IsFrame frames
  pub whole : bytes ≡ spelling_of frames ++ rest

-- the new list is the old one with the frames that the bytes spell before the rest
pub record Reads (bytes : List ℕ) (old new : List Frame) (rest : List ℕ) : Type 0 where
  pub frames : List Frame
  pub gained : new ≡ old ++ frames
  pub spelled : Spells bytes frames rest

-- the same up to a place where the fault stands
pub record Stops (fault : ReadFault) (bytes : List ℕ) (old new : List Frame) : Type 0 where
  pub rest : List ℕ
  pub reads : Reads bytes old new rest
  pub stands : IsFault rest fault

-- the bytes spell more frames than a list of this capacity has room for behind the old ones
pub record Overfills (capacity : ℕ) (old : List Frame) (bytes : List ℕ) : Type 0 where
  pub frames : List Frame
  pub rest : List ℕ
  pub spelled : Spells bytes frames rest
  pub many : capacity < length old + length frames

-- a fault of the stream
abbrev pub IsBad : ReadFault → Type 0
IsBad BadLength = Unit {0}
IsBad BadType = Unit {0}
IsBad BadBody = Unit {0}
IsBad _ = ⊥

-- no whole frame stands at the place: less than one, or a fault
abbrev pub HasNoFrame : List ℕ → Type 0
HasNoFrame bytes = IsRest bytes ⊎ ((fault : ReadFault) × IsFault bytes fault)

-- a reader that held these bytes was fed these pieces and handed out these frames at each; it then holds the rest
abbrev pub IsFed : List ℕ → List (List ℕ × List Frame) → List ℕ → Type 0
IsFed held [] rest = rest ≡ held
IsFed held ((piece, frames) ∷ turns) rest = (middle : List ℕ) × Spells (held ++ piece) frames middle × IsFed middle turns rest

-- all pieces as one, and all frames that were handed out
abbrev pub stream_of : List (List ℕ × List Frame) → List ℕ
stream_of turns = flat_map (λ turn. turn.0) turns

abbrev pub frames_of : List (List ℕ × List Frame) → List Frame
frames_of turns = flat_map (λ turn. turn.1) turns
