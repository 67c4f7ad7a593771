-- What one read of a station takes from its stream, and what its decoder makes of it.
use Rattle.std.specs.Prelude.{◌≡◌, ℕ, zero, suc, ◌<◌, ◌≤◌, Bool, true, false, List, [], ◌++◌, length, take, Option, Result, Ok, Err, if◌then◌else◌}
use Rattle.std.specs.IoError.{error_kind}
use Rattle.std.specs.declared.io.Error.{Error}
use Rattle.std.specs.declared.io.ErrorKind.{ErrorKind}
use Rattle.std.specs.declared.io.ErrorKind.TheVariants as kind
use Rattle.std.specs.Io.KnownBytes.{Consumes, IsAtEnd, Keeps}
use Rattle.fare_frame.specs.Grammar.{IsRest}
use Rattle.fare_frame.specs.Reading.{ReaderValue, failed_reader, Reads, Stops, Overfills}
use Rattle.fare_frame.specs.declared.fault.ReadFault.{ReadFault}
use Rattle.fare_frame.specs.declared.fault.ReadFault.TheVariants as decoding
use Rattle.fare_frame.specs.declared.frame.Frame.{Frame}
use Rattle.fare_net.specs.declared.fault.NetFault.{NetFault}
use Rattle.fare_net.specs.declared.fault.NetFault.TheVariants as net
use Rattle.fare_net.specs.declared.turn.Turn.{Turn}
use Rattle.fare_net.specs.declared.turn.Turn.TheVariants as turn

-- WHAT A READ TELLS
-- a read may be tried again that was interrupted, or whose time ran out before a byte came
abbrev pub is_wait : ErrorKind → Bool
is_wait kind.Interrupted = true
is_wait kind.WouldBlock = true
is_wait kind.TimedOut = true
is_wait _ = false

-- so many bytes, or the end where there were none; of a read that failed a wait, or that the reader failed
abbrev pub told_by : Result ℕ Error → Result Turn NetFault
told_by (Ok zero) = Ok turn.Ended
told_by (Ok (suc n)) = Ok (turn.Read (suc n))
told_by (Err e) = if is_wait (error_kind e) then Ok turn.Waited else Err net.Read

-- what a read took from the reader's known bytes into the buffer
abbrev pub Took : Option (List ℕ) → Option (List ℕ) → List ℕ → Turn → Type 0
Took before after buffer (turn.Read n) = Consumes before after (take n buffer) × (length (take n buffer) ≡ n) × (0 < n) × (n ≤ 4096)
Took before after buffer turn.Ended = Consumes before after [] × IsAtEnd after
Took before after buffer turn.Waited = Keeps before after

-- the decoder was fed a piece: the frames that are whole now were added, and it holds back less than one
pub record Fed (old new : ReaderValue) (frames now : List Frame) (piece : List ℕ) : Type 0 where
  pub reads : Reads (old.held ++ piece) frames now new.held
  pub rest : IsRest new.held
  pub sound : new.failed ≡ false

-- the fault stands behind the frames that were added, or the stream had failed before
abbrev pub Faults : ReaderValue → ReaderValue → List Frame → List Frame → List ℕ → ReadFault → Type 0
Faults old new frames now piece decoding.Memory = ⊥
Faults old new frames now piece decoding.Failed = (old.failed ≡ true) × (new ≡ old) × (now ≡ frames)
Faults old new frames now piece fault = Stops fault (old.held ++ piece) frames now × (new ≡ failed_reader)

-- what the faults of a piece say; without room for its frames the stream has failed, and none was added
abbrev pub FeedFails : ReaderValue → ReaderValue → List Frame → List Frame → ℕ → List ℕ → NetFault → Type 0
FeedFails old new frames now capacity piece net.Read = ⊥
FeedFails old new frames now capacity piece (net.Frame fault) = Faults old new frames now piece fault
FeedFails old new frames now capacity piece net.Memory = Overfills capacity frames (old.held ++ piece) × (new ≡ failed_reader) × (now ≡ frames)

-- the decoder and its frames are as they were
abbrev pub Rests : ReaderValue → ReaderValue → List Frame → List Frame → Type 0
Rests old new frames now = (new ≡ old) × (now ≡ frames)

-- a turn: the decoder was fed the bytes of one read, and n is their number; or there were none
abbrev pub Turned : Option (List ℕ) → Option (List ℕ) → ReaderValue → ReaderValue → List Frame → List Frame → Turn → Type 0
Turned before after old new frames now (turn.Read n) = (piece : List ℕ) × Consumes before after piece × (length piece ≡ n) × (0 < n) × (n ≤ 4096) × Fed old new frames now piece
Turned before after old new frames now turn.Ended = Consumes before after [] × IsAtEnd after × Rests old new frames now
Turned before after old new frames now turn.Waited = Keeps before after × Rests old new frames now

-- what the faults of a turn say
abbrev pub TurnFails : Option (List ℕ) → Option (List ℕ) → ReaderValue → ReaderValue → List Frame → List Frame → ℕ → NetFault → Type 0
TurnFails before after old new frames now capacity net.Read = Keeps before after × Rests old new frames now
TurnFails before after old new frames now capacity fault = (piece : List ℕ) × Consumes before after piece × (0 < length piece) × (length piece ≤ 4096) × FeedFails old new frames now capacity piece fault
