-- What each session of a list made of the hub: the calls that it is, with the stores as they were before and after.
use Rattle.std.specs.Prelude.{◌≡◌, ◌⊎◌, ℕ, suc, zero, ◌+◌, ◌≤◌, option_map, true, false, List, [], ◌∷◌, ◌++◌, length, slice_get, Some}
use Rattle.std.specs.List.{AllByRecursion}
use Rattle.fare_scheme.specs.Values.{SchemeValue}
use Rattle.fare_scheme.specs.Words.{position_of_owner}
use Rattle.fare_source.specs.Talking.{Talk}
use Rattle.fare_store.specs.Standing.{Standing}
use Rattle.fare_store.specs.OutboxWords.{OutboxValue}
use Rattle.fare_store.specs.LedgerWords.{LedgerValue}
use Rattle.fare_session.specs.declared.fault.SessionFault.TheVariants.{Memory}
use Rattle.fare_session.specs.declared.report.OwnerReport.{OwnerReport}
use Rattle.fare_session.specs.Served.{IsServed}
use Rattle.fare_collect.specs.declared.station.Station.{Station}
use Rattle.fare_collect.specs.Collected.{writer_faults, station_faults, HaveDevices, IsCollected}
use Rattle.fare_collect.specs.Resuming.{AreStations}
use Rattle.fare_sessions.specs.declared.hub.Hub.{Hub}
use Rattle.fare_sessions.specs.declared.session.Session.{Session}
use Rattle.fare_sessions.specs.declared.session.Session.TheVariants.{Collect, Serve}
use Rattle.fare_sessions.specs.declared.report.SessionsReport.{SessionsReport}
use Rattle.fare_sessions.specs.Stores.{ReplacesLedger}
use Rattle.fare_sessions.specs.Course.{Counts, Tally, no_tally, with_session, owner_faults, last_place, Reports}

-- A SESSION THAT CAN RUN
-- its stations are the scheme's, in order, at most sixteen; or its owner is registered
abbrev pub IsRunnable : {S : Type 0} → SchemeValue → Session S → Type 0
IsRunnable sc (Collect stations) = (length stations.items ≤ 16) × AreStations sc stations.items × HaveDevices sc stations.items
IsRunnable sc (Serve owner) = (place : ℕ) × (position_of_owner sc owner ≡ Some place)

-- each of them can run
abbrev pub AreRunnable : {S : Type 0} → SchemeValue → List (Session S) → Type 0
AreRunnable sc sessions = AllByRecursion (IsRunnable sc) sessions

-- it is the session that it was: of as many stations, or of the same owner
abbrev pub IsStill : {S : Type 0} → Session S → Session S → Type 0
IsStill (Collect before) (Collect after) = length after.items ≡ length before.items
IsStill (Collect before) (Serve owner) = ⊥
IsStill (Serve owner) (Serve other) = other ≡ owner
IsStill (Serve owner) (Collect after) = ⊥

-- so each of a list, by its place
pub record AreStill {S : Type 0} (olds news : List (Session S)) : Type 0 where
  pub len : length news ≡ length olds
  pub each : (place : ℕ) (before after : Session S) → slice_get olds place ≡ Some before → slice_get news place ≡ Some after → IsStill before after

-- ONE SESSION
module _ {S O L : Type 0} (talks : S → Talk) (outbox : O → Standing OutboxValue) where
  -- the stations collected, or there was no memory for their list of faults and nothing was read
  pub record HasCollected (old new : Hub O L) (before after : List (Station S)) (c : Counts) : Type 0 where
    pub scheme : new.scheme ≡ old.scheme
    pub ledgers : new.ledgers ≡ old.ledgers
    pub taken : c.taken ≡ 0
    pub came : ((ended : _) × IsCollected old.scheme talks (outbox old.outbox) (outbox new.outbox) before after c.stored c.left ended × (c.faults ≡ writer_faults ended ++ station_faults after))
        ⊎ ((new.outbox ≡ old.outbox) × (after ≡ before) × (c.faults ≡ Memory ∷ []) × (c.stored ≡ 0) × (c.left ≡ 0))

module _ {O L : Type 0} (outbox : O → Standing OutboxValue) (ledger : L → Standing LedgerValue) where
  -- the owner was served, over its ledger
  pub record HasServed (old new : Hub O L) (owner : ℕ) (c : Counts) : Type 0 where
    pub one : ReplacesLedger old new owner
    pub report : OwnerReport
    pub served : IsServed old.scheme owner (outbox old.outbox) (outbox new.outbox) (ledger one.own_old) (ledger one.own_new) report
    pub stored : c.stored ≡ 0
    pub taken : c.taken ≡ report.taken
    pub left : c.left ≡ report.left
    pub faults : c.faults ≡ owner_faults report.fault

module _ {S O L : Type 0} (talks : S → Talk) (outbox : O → Standing OutboxValue) (ledger : L → Standing LedgerValue) where
  -- the session of its kind
  abbrev pub HasRun : Hub O L → Hub O L → Session S → Session S → Counts → Type 0
  HasRun old new (Collect before) (Collect after) c = HasCollected talks outbox old new before.items after.items c
  HasRun old new (Collect before) (Serve owner) c = ⊥
  HasRun old new (Serve owner) (Serve other) c = (other ≡ owner) × HasServed outbox ledger old new owner c
  HasRun old new (Serve owner) (Collect after) c = ⊥

  -- A LIST OF SESSIONS
  -- the session at a place ran between these two
  pub record HasRunAt (olds news : List (Session S)) (place : ℕ) (old new : Hub O L) (c : Counts) : Type 0 where
    pub before : Session S
    pub after : Session S
    pub was : slice_get olds place ≡ Some before
    pub is : slice_get news place ≡ Some after
    pub ran : HasRun old new before after c

  -- the first so many sessions ran, one after the other, and counted this
  abbrev pub HaveRun : Hub O L → List (Session S) → List (Session S) → ℕ → Hub O L → Tally → Type 0
  HaveRun start olds news zero now t = (now ≡ start) × (t ≡ no_tally)
  HaveRun start olds news (suc k) now t = (middle : Hub O L) × (u : Tally) × (c : Counts) × HaveRun start olds news k middle u × HasRunAt olds news k middle now c × (t ≡ with_session u k c)

  -- all sessions ran, or those up to the one of the last fault, where the supervisor gave up; the others are as they were
  pub record HaveAllRun (limit : ℕ) (old new : Hub O L) (olds news : List (Session S)) (report : SessionsReport) : Type 0 where
    pub count : ℕ
    pub tally : Tally
    pub few : count ≤ length olds
    pub ran : HaveRun old olds news count new tally
    pub shows : Reports limit tally report
    pub ended : report.gave_up ≡ false → count ≡ length olds
    pub stopped : report.gave_up ≡ true → option_map (λ place. place + 1) (last_place tally.faults) ≡ Some count
    pub len : length news ≡ length olds
    pub rest : (place : ℕ) → count ≤ place → slice_get news place ≡ slice_get olds place
