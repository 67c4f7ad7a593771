-- What the calls of a hub's sessions promise, one after the other, and which of their faults end all.
use Rattle.std.specs.Prelude.{◌≡◌, ◌<◌, ◌↔◌, ◌⊎◌, ℕ, List, [], ◌∷◌, length, Option, Some, None, IsTrue, Vec}
use Rattle.std.specs.Global.{Global}
use Rattle.std.specs.List.{AllByRecursion}
use Rattle.fare_record.specs.Values.{RecordValue}
use Rattle.fare_scheme.specs.Values.{SchemeValue}
use Rattle.fare_scheme.specs.Words.{id_at}
use Rattle.fare_store.specs.Standing.{Standing}
use Rattle.fare_store.specs.OutboxWords.{OutboxValue}
use Rattle.fare_store.specs.LedgerWords.{LedgerValue}
use Rattle.fare_session.specs.declared.fault.SessionFault.{SessionFault}
use Rattle.fare_session.specs.declared.fault.SessionFault.TheVariants as session
use Rattle.fare_source.specs.Talking.{Talk}
use Rattle.fare_collect.specs.Resuming.{AreStations}
use Rattle.fare_collect.specs.declared.station.Station.{Station}
use Rattle.fare_history.specs.Stores.{StoresValue}
use Rattle.fare_agreement.specs.Totals.{had_by}
use Rattle.fare_sessions.specs.declared.hub.Hub.{Hub}
use Rattle.fare_sessions.specs.declared.report.SessionsReport.{SessionsReport}
use Rattle.fare_sessions.specs.declared.session.Session.{Session}
use Rattle.fare_sessions.specs.declared.session.Session.TheVariants.{Collect, Serve}
use Rattle.fare_sessions.specs.Running.{AreStill}
use Rattle.fare_sessions.specs.Stores.{AreClean, AreLive, AreSound, StoresFollow, MayStandAs, IsAgreed, HasGrown, held_by_all}
use Rattle.fare_sessions.specs.Reopening.{AreLasting, AreOwned}
use Rattle.fare_sessions.specs.Promises.{AreCovered, Trusted, ran, AreInOrder, AreUntouched, IsAdded, CameOf}
use Rattle.fare_serve.specs.declared.fault.ServeFault.{ServeFault}
use Rattle.fare_serve.specs.declared.fault.ServeFault.TheVariants as serve

-- FAULTS
-- a session's fault of memory or of a store ends all, another none
abbrev pub ending_of : SessionFault → Option ServeFault
ending_of session.Memory = Some serve.Memory
ending_of session.Store = Some serve.Store
ending_of session.Refused = None
ending_of (session.Source station) = None
ending_of (session.Unexpected station) = None

abbrev pub first_of : Option ServeFault → Option ServeFault → Option ServeFault
first_of (Some fault) next = Some fault
first_of None next = next

-- the first of a report's faults that ends all
abbrev pub first_ending : List (ℕ × SessionFault) → Option ServeFault
first_ending [] = None
first_ending (f ∷ fs) = first_of (ending_of f.1) (first_ending fs)

-- A CALL
-- the sessions of one call, before and after it, and its report
pub record Call (S : Type 0) : Type 0 where
  pub olds : List (Session S)
  pub news : List (Session S)
  pub report : SessionsReport

-- the fault of memory or of a store that ended a call
abbrev pub ended_by : {S : Type 0} → Call S → Option ServeFault
ended_by c = first_ending c.report.faults.items

-- none ended one of these
abbrev pub AreUnended : {S : Type 0} → List (Call S) → Type 0
AreUnended calls = AllByRecursion (λ c. ended_by c ≡ None) calls

-- the stations that the first of these sessions leaves: its own where it collects, and none where it serves
abbrev pub stations_in : {S : Type 0} → List (Session S) → List (Station S)
stations_in [] = []
stations_in (Collect stations ∷ ss) = stations.items
stations_in (Serve owner ∷ ss) = []

-- a fault that may come outside of sessions
abbrev pub IsOutside : ServeFault → Type 0
IsOutside serve.Memory = Unit {0}
IsOutside serve.Write = Unit {0}
IsOutside serve.Store = ⊥

-- A fault ended these calls: it is that of the last one, and the first such of all; or none ended one, and it came outside of
-- sessions.
abbrev pub AreEndedBy : {S : Type 0} → ServeFault → List (Call S) → Type 0
AreEndedBy fault [] = IsOutside fault
AreEndedBy fault (c ∷ cs) = ((ended_by c ≡ Some fault) × (cs ≡ [])) ⊎ ((ended_by c ≡ None) × AreEndedBy fault cs)

-- a session of all of the scheme's stations, in its order, or one of an owner of the scheme
abbrev pub IsOfScheme : {S : Type 0} → SchemeValue → Call S → Type 0
IsOfScheme {S} sc c =
    ((stations : Vec (Station S) Global) × (c.olds ≡ Collect stations ∷ []) × AreStations sc stations.items × (length stations.items ≡ length sc.stations))
    ⊎ ((owner : ℕ) × (place : ℕ) × (c.olds ≡ Serve owner ∷ []) × (id_at sc.owners place ≡ Some owner))

-- a session of stations
abbrev pub IsCollecting : {S : Type 0} → Call S → Type 0
IsCollecting {S} c = (stations : Vec (Station S) Global) × (c.olds ≡ Collect stations ∷ [])

-- a session of an owner
abbrev pub IsServing : {S : Type 0} → Call S → Type 0
IsServing c = (owner : ℕ) × (c.olds ≡ Serve owner ∷ [])

module _ {S O L : Type 0} (talks : S → Talk) (outbox : O → Standing OutboxValue) (ledger : L → Standing LedgerValue) where
  -- What a hub promises of a call, as its sessions do.
  pub record IsHeld (old new : Hub O L) (c : Call S) : Type 0 where
    pub scheme : new.scheme ≡ old.scheme
    -- each session is the one that it was, of as many stations or of the same owner
    pub still : AreStill c.olds c.news
    pub follow : StoresFollow outbox ledger old new
    pub sound : AreClean outbox ledger new → AreSound outbox ledger old → AreSound outbox ledger new
    -- whatever a stop would leave fits together, where it did, and each ledger is its owner's
    pub lasting : AreClean outbox ledger new → AreSound outbox ledger old → AreLasting outbox ledger old → AreLasting outbox ledger new
    pub owned : AreClean outbox ledger new → AreSound outbox ledger old → AreOwned outbox ledger old → AreOwned outbox ledger new
    -- where the stores agreed with lists of taps of which the sources' frames are, they do afterwards, and nothing fell
    pub agrees : (lists : ℕ → List RecordValue) → Trusted talks outbox ledger old new c.olds c.news lists → IsAgreed outbox ledger lists new
    pub grows : (lists : ℕ → List RecordValue) → Trusted talks outbox ledger old new c.olds c.news lists → HasGrown outbox ledger old new
    -- and each acknowledgement that a source was answered is covered by the outbox
    pub covered : (lists : ℕ → List RecordValue) → Trusted talks outbox ledger old new c.olds c.news lists → (k : StoresValue) → MayStandAs outbox ledger new k → AreCovered talks old.scheme k.outbox c.olds c.news
    -- what each session did, and that the report counts it
    pub boundaries : AreClean outbox ledger new → AreSound outbox ledger old → (k : StoresValue) → MayStandAs outbox ledger new k → CameOf talks outbox ledger old c.olds c.news c.report k
    pub stored : AreLive outbox ledger new → AreSound outbox ledger old → IsAdded (had_by old.scheme (outbox old.outbox).value) (had_by old.scheme (outbox new.outbox).value) c.report.stored
    pub taken : AreLive outbox ledger new → AreSound outbox ledger old → IsAdded (held_by_all ledger old.scheme old.ledgers.items) (held_by_all ledger old.scheme new.ledgers.items) c.report.taken
    pub left : AreClean outbox ledger new → AreSound outbox ledger old → c.report.faults.items ≡ [] → c.report.left ≡ 0
    pub gave_up : (limit : ℕ) × (IsTrue c.report.gave_up ↔ (limit < length c.report.faults.items))
    pub in_order : AreInOrder 0 c.report.faults.items (ran c.report (length c.olds))
    pub untouched : AreUntouched (ran c.report (length c.olds)) c.olds c.news

  -- calls one after the other, each over the stores that the one before it left
  abbrev pub AreHeld : Hub O L → Hub O L → List (Call S) → Type 0
  AreHeld old new [] = new ≡ old
  AreHeld old new (c ∷ cs) = (middle : Hub O L) × IsHeld old middle c × AreHeld middle new cs

  -- one call of these sessions was held
  abbrev pub HasHeld : Hub O L → Hub O L → List (Session S) → List (Session S) → SessionsReport → Type 0
  HasHeld old new olds news report = IsHeld old new (record { olds = olds; news = news; report = report })

  -- one call of a session of these stations, which it gave back as those
  pub record HasHeldStations (old new : Hub O L) (stations : Vec (Station S) Global) (report : SessionsReport) (after : List (Station S)) : Type 0 where
    pub call : Call S
    pub olds : call.olds ≡ Collect stations ∷ []
    pub gave : stations_in call.news ≡ after
    pub told : call.report ≡ report
    pub held : IsHeld old new call
    pub unended : ended_by call ≡ None

  -- one call of a session of an owner
  pub record HasHeldOwner (old new : Hub O L) (owner : ℕ) (report : SessionsReport) : Type 0 where
    pub call : Call S
    pub olds : call.olds ≡ Serve owner ∷ []
    pub told : call.report ≡ report
    pub held : IsHeld old new call
    pub unended : ended_by call ≡ None

  -- What came of sessions of which one met a fault of memory or of a store: that was the first such one; or there was no
  -- memory before any began.
  abbrev pub HasEnded : Hub O L → Hub O L → List (Session S) → List (Session S) → ServeFault → Type 0
  HasEnded old new olds news fault =
      ((new ≡ old) × (fault ≡ serve.Memory)) ⊎ ((report : SessionsReport) × HasHeld old new olds news report × (first_ending report.faults.items ≡ Some fault))

  -- All that was done to the stores up to a fault that ended it: calls one after the other, each of the scheme's stations or
  -- of one of its owners.
  pub record HasFailed (old new : Hub O L) (fault : ServeFault) : Type 0 where
    pub calls : List (Call S)
    pub held : AreHeld old new calls
    pub ended : AreEndedBy fault calls
    pub each : AllByRecursion (IsOfScheme old.scheme) calls
