-- Rounds of serving: in each one session of all stations, and then one of each owner; and what is counted of them.
use Rattle.std.specs.Prelude.{◌≡◌, ℕ, ◌+◌, ◌<◌, ◌≤◌, List, [], ◌∷◌, length, map, take, slice_get, slice_index_or, unwrap_or, option_map, Vec}
use Rattle.std.specs.Global.{Global}
use Rattle.std.specs.List.{AllByRecursion, flat_map, sum_by}
use Rattle.std.specs.Map.{keys_of}
use Rattle.fare_record.specs.Values.{RecordValue}
use Rattle.fare_scheme.specs.Values.{SchemeValue}
use Rattle.fare_store.specs.Standing.{Standing}
use Rattle.fare_store.specs.OutboxWords.{OutboxValue}
use Rattle.fare_store.specs.LedgerWords.{LedgerValue}
use Rattle.fare_source.specs.Talking.{Talk}
use Rattle.fare_collect.specs.Resuming.{AreStations}
use Rattle.fare_collect.specs.declared.station.Station.{Station}
use Rattle.fare_sessions.specs.declared.hub.Hub.{Hub}
use Rattle.fare_sessions.specs.declared.session.Session.{Session}
use Rattle.fare_sessions.specs.declared.session.Session.TheVariants.{Collect, Serve}
use Rattle.fare_sessions.specs.Promises.{GaveOf}
use Rattle.fare_sessions.specs.declared.report.SessionsReport.{SessionsReport}
use Rattle.fare_serve.specs.Calls.{Call, AreHeld, AreUnended, HasFailed, IsServing, stations_in}
use Rattle.fare_serve.specs.Pausing.{PauseOf}
use Rattle.fare_serve.specs.Spacing.{AreSpaced}
use Rattle.fare_serve.specs.Counting.{IsCountsOf, kept_count, owner_in}
use Rattle.fare_serve.specs.declared.counts.Counts.{Counts}
use Rattle.fare_serve.specs.declared.counts.Taken.{Taken}
use Rattle.fare_serve.specs.declared.fault.ServeFault.{ServeFault}

-- the call of the stations' session, and those of the owners'
pub record Round (S : Type 0) : Type 0 where
  pub stations : Call S
  pub owners : List (Call S)

abbrev pub calls_of : {S : Type 0} → Round S → List (Call S)
calls_of r = r.stations ∷ r.owners

abbrev pub olds_of : {S : Type 0} → Call S → List (Session S)
olds_of c = c.olds

abbrev pub serving_of : {S : Type 0} → ℕ → List (Session S)
serving_of owner = Serve owner ∷ []

-- the stations of a round are these, all of the scheme's, in its order; each owner is served, in the scheme's order
pub record IsRound {S : Type 0} (sc : SchemeValue) (r : Round S) (before : List (Station S)) : Type 0 where
  pub sessions : Vec (Station S) Global
  pub collects : r.stations.olds ≡ Collect sessions ∷ []
  pub stations_are : sessions.items ≡ before
  pub stations : AreStations sc before
  pub all : length before ≡ length sc.stations
  pub serves : map olds_of r.owners ≡ map serving_of (keys_of sc.owners)

-- the front of a round of these stations: nothing of it, or their session, and sessions of owners behind it
abbrev pub IsBegunRound : {S : Type 0} → List (Station S) → List (Call S) → Type 0
IsBegunRound before [] = Unit {0}
IsBegunRound {S} before (c ∷ cs) = ((sessions : Vec (Station S) Global) × (c.olds ≡ Collect sessions ∷ []) × (sessions.items ≡ before)) × AllByRecursion IsServing cs

-- COUNTS
abbrev pub stored_in : {S : Type 0} → Round S → ℕ
stored_in r = r.stations.report.stored

abbrev pub taken_in : {S : Type 0} → Call S → ℕ
taken_in c = c.report.taken

abbrev pub left_in : {S : Type 0} → Call S → ℕ
left_in c = c.report.left

-- what the owner at a place took in a round
abbrev pub taken_at : {S : Type 0} → ℕ → Round S → ℕ
taken_at place r = unwrap_or (option_map taken_in (slice_get r.owners place)) 0

-- what was left at the ends of a round's sessions
abbrev pub left_over : {S : Type 0} → Round S → ℕ
left_over r = sum_by left_in (calls_of r)

-- one round more was counted
pub record AddsRound {S : Type 0} (old new : Counts) (r : Round S) : Type 0 where
  pub owners : map owner_in new.taken.items ≡ map owner_in old.taken.items
  pub stored : new.stored ≡ kept_count (old.stored + stored_in r)
  pub taken : (place : ℕ) (d : Taken) → place < length old.taken.items → (slice_index_or new.taken.items place d).count ≡ kept_count ((slice_index_or old.taken.items place d).count + taken_at place r)
  pub left : new.left ≡ kept_count (old.left + left_over r)

-- the counts of rounds are the sums of their sessions' reports
pub record AreCountsOf {S : Type 0} (sc : SchemeValue) (rounds : List (Round S)) (c : Counts) : Type 0 where
  pub owners : IsCountsOf sc c
  pub stored : c.stored ≡ kept_count (sum_by stored_in rounds)
  pub taken : (place : ℕ) (d : Taken) → place < length c.taken.items → (slice_index_or c.taken.items place d).count ≡ kept_count (sum_by (taken_at place) rounds)
  pub left : c.left ≡ kept_count (sum_by left_over rounds)

-- ROUNDS
-- rounds one after the other, each over the stores that the one before it, and the rest behind that one, left
pub record AreServed {S O L : Type 0} (talks : S → Talk) (does : PauseOf O L) (outbox : O → Standing OutboxValue) (ledger : L → Standing LedgerValue) (old new : Hub O L) (rounds : List (Round S)) : Type 0 where
  pub each : AllByRecursion (λ r. (before : List (Station S)) × IsRound old.scheme r before) rounds
  pub held : AreSpaced talks does outbox ledger old new (flat_map calls_of rounds)
  pub unended : AreUnended (flat_map calls_of rounds)

module _ {S O L : Type 0} (talks : S → Talk) (outbox : O → Standing OutboxValue) (ledger : L → Standing LedgerValue) where
  -- each frame that a source gave in one of these rounds is of the lists
  abbrev pub HaveGiven : SchemeValue → (ℕ → List RecordValue) → List (Round S) → Type 0
  HaveGiven sc lists rounds = AllByRecursion (λ r. GaveOf talks sc lists r.stations.olds r.stations.news) rounds

  -- one round more of these stations, which its session gave back as those, with this report of it, and what was counted of it
  pub record HasServedRound (old new : Hub O L) (before : List (Station S)) (report : SessionsReport) (after : List (Station S)) (counts_old counts_new : Counts) : Type 0 where
    pub round : Round S
    pub gave : stations_in round.stations.news ≡ after
    pub is : IsRound old.scheme round before
    pub told : round.stations.report ≡ report
    pub held : AreHeld talks outbox ledger old new (calls_of round)
    pub unended : AreUnended (calls_of round)
    pub counted : AddsRound counts_old counts_new round

  -- What a round of these stations had come to, up to a fault that ended it: their session, if it began, and sessions of
  -- owners behind it.
  pub record HasFailedRound (old new : Hub O L) (before : List (Station S)) (fault : ServeFault) : Type 0 where
    pub failed : HasFailed talks outbox ledger old new fault
    pub begun : IsBegunRound before failed.calls

  -- What sessions of owners had come to, up to a fault that ended them.
  pub record HaveFailedOwners (old new : Hub O L) (fault : ServeFault) : Type 0 where
    pub failed : HasFailed talks outbox ledger old new fault
    pub serving : AllByRecursion IsServing failed.calls

  -- one session more of each of the first so many owners, and what was counted of them
  pub record HaveServedOwners (old new : Hub O L) (place : ℕ) (counts_old counts_new : Counts) : Type 0 where
    pub calls : List (Call S)
    pub many : length calls ≡ place
    pub serves : map olds_of calls ≡ map serving_of (take place (keys_of old.scheme.owners))
    pub held : AreHeld talks outbox ledger old new calls
    pub unended : AreUnended calls
    pub owners : map owner_in counts_new.taken.items ≡ map owner_in counts_old.taken.items
    pub stored : counts_new.stored ≡ counts_old.stored
    pub taken : (k : ℕ) (d : Taken) → k < place → (slice_index_or counts_new.taken.items k d).count ≡ kept_count ((slice_index_or counts_old.taken.items k d).count + unwrap_or (option_map taken_in (slice_get calls k)) 0)
    pub rest : (k : ℕ) (d : Taken) → place ≤ k → slice_index_or counts_new.taken.items k d ≡ slice_index_or counts_old.taken.items k d
    pub left : counts_old.left ≤ 18446744073709551615 → counts_new.left ≡ kept_count (counts_old.left + sum_by left_in calls)
