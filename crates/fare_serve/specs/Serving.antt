-- What serving over a listener did, and what was written of it.
use Rattle.std.specs.Prelude.{◌≡◌, ◌<◌, ◌≤◌, ℕ, ◌&&◌, nat_le, max, Bool, true, List, length, map, Option}
use Rattle.std.specs.Io.KnownBytes.{Appends}
use Rattle.std.specs.List.{AllByRecursion, flat_map}
use Rattle.fare_record.specs.Values.{RecordValue}
use Rattle.fare_store.specs.Standing.{Standing}
use Rattle.fare_store.specs.OutboxWords.{OutboxValue}
use Rattle.fare_store.specs.LedgerWords.{LedgerValue}
use Rattle.fare_source.specs.Talking.{Talk}
use Rattle.fare_source.specs.Shifts.{in_shift}
use Rattle.fare_source.specs.declared.shift.Shift.{Shift}
use Rattle.fare_collect.specs.Collected.{source_of}
use Rattle.fare_collect.specs.declared.station.Station.{Station}
use Rattle.fare_net.specs.NetValue.{NetValue}
use Rattle.fare_net.specs.Sources.{talk_of}
use Rattle.fare_agreement.specs.Agreeing.{AreNumberedLists}
use Rattle.fare_history.specs.Stores.{StoresValue}
use Rattle.fare_sessions.specs.declared.hub.Hub.{Hub}
use Rattle.fare_sessions.specs.declared.report.SessionsReport.{SessionsReport}
use Rattle.fare_sessions.specs.Promises.{AreCovered, GaveOf}
use Rattle.fare_sessions.specs.Stores.{AreClean, AreSound, IsAgreed, HasGrown, MayStandAs, StoresFollow}
use Rattle.fare_sessions.specs.Reopening.{AreLasting, AreOwned}
use Rattle.fare_serve.specs.Counting.{counts_text}
use Rattle.fare_scheme.specs.Values.{SchemeValue}
use Rattle.fare_serve.specs.Calls.{Call, HasFailed, stations_in}
use Rattle.fare_serve.specs.Pausing.{KeepOwners, PauseOf}
use Rattle.fare_serve.specs.Spacing.{HaveStopped}
use Rattle.fare_serve.specs.Coming.{AreLinesCovered, ComeOfLines, HasBegun, IsOverLines}
use Rattle.fare_serve.specs.Lending.{AreBack}
use Rattle.fare_serve.specs.Rounds.{Round, IsRound, AreCountsOf, AreServed, HasServedRound, HaveGiven, calls_of}
use Rattle.fare_serve.specs.declared.fault.ServeFault.{ServeFault}
use Rattle.fare_serve.specs.declared.counts.Counts.{Counts}
use Rattle.fare_serve.specs.declared.seats.Seat.{Seat}

-- what a shift of a line tells: it has come to its end where the shift is over, and a whole one only at the line's end
abbrev pub shift_talk : Shift NetValue → Talk
shift_talk s = in_shift s.whole s.over (talk_of s.source)

-- each frame that a line's source gave in one of these calls is of the lists
abbrev pub HaveTold : SchemeValue → (ℕ → List RecordValue) → List (Call (Shift NetValue)) → Type 0
HaveTold sc lists calls = AllByRecursion (λ c. GaveOf shift_talk sc lists c.olds c.news) calls

-- each acknowledgement that one was answered is covered by an outbox that holds this
abbrev pub AreAllCovered : SchemeValue → OutboxValue → List (Call (Shift NetValue)) → Type 0
AreAllCovered sc x calls = AllByRecursion (λ c. AreCovered shift_talk sc x c.olds c.news) calls

-- each of these shifts is a whole one
abbrev pub AreWhole : List (Shift NetValue) → Type 0
AreWhole shifts = AllByRecursion (λ s. s.whole ≡ true) shifts

-- One round over the lines of these seats, and what was counted of it; where lines are read to their ends, the shifts of all are
-- whole ones. Behind it each line is back in its seat, unless it broke or is over.
pub record HasHeldRound {O L : Type 0} (outbox : O → Standing OutboxValue) (ledger : L → Standing LedgerValue) (old new : Hub O L) (whole : Bool) (counts_old counts_new : Counts) (seats_old seats_new : List Seat) : Type 0 where
  pub before : List (Station (Shift NetValue))
  pub report : SessionsReport
  pub after : List (Station (Shift NetValue))
  pub served : HasServedRound shift_talk outbox ledger old new before report after counts_old counts_new
  pub to_ends : whole ≡ true → AreWhole (map source_of before)
  pub over : IsOverLines seats_old served.round.stations
  pub back : AreBack served.round.stations.report.faults.items (stations_in served.round.stations.news) over.lent seats_new

-- What a round over the lines of these seats had come to, up to a fault that ended it.
pub record HasFailedHeld {O L : Type 0} (outbox : O → Standing OutboxValue) (ledger : L → Standing LedgerValue) (old new : Hub O L) (seats : List Seat) (fault : ServeFault) : Type 0 where
  pub failed : HasFailed shift_talk outbox ledger old new fault
  pub begun : HasBegun seats failed.calls

-- lines are read to their ends where there is one round, which no file ends
abbrev pub reads_to_ends : ℕ → Bool → Bool
reads_to_ends most untold = nat_le most 1 && untold

-- the stations of a round, all of the scheme's, over whole shifts of their lines
abbrev pub IsReadToEnds : SchemeValue → Round (Shift NetValue) → Type 0
IsReadToEnds sc r = (before : List (Station (Shift NetValue))) × IsRound sc r before × AreWhole (map source_of before)

-- So many rounds were held, one after the other, with pauses between them; these are the counts of all.
pub record HaveBeenHeld {O L : Type 0} (does : PauseOf O L) (outbox : O → Standing OutboxValue) (ledger : L → Standing LedgerValue) (old new : Hub O L) (whole : Bool) (count : ℕ) (counts : Counts) : Type 0 where
  pub rounds : List (Round (Shift NetValue))
  pub many : length rounds ≡ count
  pub served : AreServed shift_talk does outbox ledger old new rounds
  pub counted : AreCountsOf old.scheme rounds counts
  pub to_ends : whole ≡ true → AllByRecursion (IsReadToEnds old.scheme) rounds
  pub come : ComeOfLines old.scheme (flat_map calls_of rounds)

-- Sessions up to a fault that ended them, with pauses between two rounds, and where their lines came from.
pub record HaveFailed {O L : Type 0} (does : PauseOf O L) (outbox : O → Standing OutboxValue) (ledger : L → Standing LedgerValue) (old new : Hub O L) (fault : ServeFault) : Type 0 where
  pub failed : HaveStopped shift_talk does outbox ledger old new fault
  pub come : ComeOfLines old.scheme failed.calls

-- At least one, at most so many, and exactly so many where no file could end them.
pub record HasHeldRounds {O L : Type 0} (does : PauseOf O L) (outbox : O → Standing OutboxValue) (ledger : L → Standing LedgerValue) (old new : Hub O L) (most : ℕ) (untold : Bool) (counts : Counts) : Type 0 where
  pub count : ℕ
  pub some : 0 < count
  pub few : count ≤ max most 1
  pub all : untold ≡ true → count ≡ max most 1
  pub held : HaveBeenHeld does outbox ledger old new (reads_to_ends most untold) count counts

-- What calls of sessions over lines, one after the other, and the pauses between them keep of the stores: the scheme is the
-- same, the stores go on from those before, and what each holds fits together, where it did; and where they agreed with lists
-- of taps of which the lines' frames are, they do afterwards, nothing fell, and each acknowledgement that a line was answered
-- in a call is covered by the outbox, and so are all that it was answered from its greeting on; and whatever a stop would
-- leave of them fits together, where it did, and where no pause makes a ledger another owner's, each is its owner's.
pub record KeepsStores {O L : Type 0} (does : PauseOf O L) (outbox : O → Standing OutboxValue) (ledger : L → Standing LedgerValue) (old new : Hub O L) (calls : List (Call (Shift NetValue))) (AreGiven : (ℕ → List RecordValue) → Type 0) : Type 0 where
  pub scheme : new.scheme ≡ old.scheme
  pub follow : StoresFollow outbox ledger old new
  pub sound : AreClean outbox ledger new → AreSound outbox ledger old → AreSound outbox ledger new
  pub agrees : AreClean outbox ledger new → AreSound outbox ledger old → (lists : ℕ → List RecordValue) → AreNumberedLists lists → AreGiven lists → IsAgreed outbox ledger lists old → IsAgreed outbox ledger lists new × HasGrown outbox ledger old new
  pub covered : AreClean outbox ledger new → AreSound outbox ledger old → (lists : ℕ → List RecordValue) → AreNumberedLists lists → AreGiven lists → IsAgreed outbox ledger lists old → (k : StoresValue) → MayStandAs outbox ledger new k → AreAllCovered old.scheme k.outbox calls
  pub answered : AreClean outbox ledger new → AreSound outbox ledger old → (lists : ℕ → List RecordValue) → AreNumberedLists lists → AreGiven lists → IsAgreed outbox ledger lists old → (k : StoresValue) → MayStandAs outbox ledger new k → AreLinesCovered old.scheme k.outbox calls
  pub lasts : AreClean outbox ledger new → AreSound outbox ledger old → AreLasting outbox ledger old → AreLasting outbox ledger new
  pub owned : KeepOwners does outbox ledger → AreClean outbox ledger new → AreSound outbox ledger old → AreOwned outbox ledger old → AreOwned outbox ledger new

-- What was written is the counts of the sessions' reports in rounds over lines, and what these keep of the stores.
pub record HasServedLines {O L : Type 0} (does : PauseOf O L) (outbox : O → Standing OutboxValue) (ledger : L → Standing LedgerValue) (old new : Hub O L) (most : ℕ) (untold : Bool) (written_old written_new : Option (List ℕ)) : Type 0 where
  pub counts : Counts
  pub held : HasHeldRounds does outbox ledger old new most untold counts
  pub written : Appends written_old written_new (counts_text counts)
  pub keeps : KeepsStores does outbox ledger old new (flat_map calls_of held.held.rounds) (λ lists. HaveGiven shift_talk outbox ledger old.scheme lists held.held.rounds)

-- Where a fault ended the rounds: the calls up to it, the fault that it was, where their lines came from, and what they keep of
-- the stores.
pub record HasFailedLines {O L : Type 0} (does : PauseOf O L) (outbox : O → Standing OutboxValue) (ledger : L → Standing LedgerValue) (old new : Hub O L) (fault : ServeFault) : Type 0 where
  pub failed : HaveStopped shift_talk does outbox ledger old new fault
  pub come : ComeOfLines old.scheme failed.calls
  pub keeps : KeepsStores does outbox ledger old new failed.calls (λ lists. HaveTold old.scheme lists failed.calls)
