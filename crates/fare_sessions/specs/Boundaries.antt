-- What the sessions of a list did, told of stores at each boundary between them: what the stores of the hub may have held there.
use Rattle.std.specs.Prelude.{◌≡◌, ◌⊎◌, ℕ, suc, zero, ◌<◌, ◌==◌, false, List, [], ◌∷◌, ◌++◌, length, map, slice_get, slice_index_or, Option, None, Some}
use Rattle.fare_frame.specs.declared.frame.Frame.{Frame}
use Rattle.fare_scheme.specs.Values.{SchemeValue}
use Rattle.fare_source.specs.Talking.{Talk}
use Rattle.fare_history.specs.AcceptedLinks.{arrivals}
use Rattle.fare_history.specs.Gathering.{Gathering, accepted_by, all_answers, answers_to, of_station}
use Rattle.fare_history.specs.Plainly.{GathersPlainly, ServesPlainly, IsWholeService}
use Rattle.fare_history.specs.Serving.{Service}
use Rattle.fare_history.specs.Stores as history
use Rattle.fare_history.specs.Stores.{StoresValue}
use Rattle.fare_session.specs.declared.fault.SessionFault.{SessionFault}
use Rattle.fare_session.specs.declared.fault.SessionFault.TheVariants.{Memory}
use Rattle.fare_session.specs.declared.report.OwnerReport.{OwnerReport}
use Rattle.fare_session.specs.Served.{Rose, SaysOfService}
use Rattle.fare_collect.specs.declared.station.Station.{Station}
use Rattle.fare_collect.specs.Collected.{SaysOfGathering, source_of, first_links, writer_faults, station_faults}
use Rattle.fare_collect.specs.Ending.{AreSomeOf}
use Rattle.fare_collect.specs.Session.{id_of}
use Rattle.fare_collect.specs.Stations.{AreExpected, EndUnexpected, frame_for, held_list}
use Rattle.fare_collect.specs.declared.fault.StationFault.TheVariants as station
use Rattle.fare_agreement.specs.Stopping.{IsLeftBy}
use Rattle.fare_sessions.specs.declared.session.Session.{Session}
use Rattle.fare_sessions.specs.declared.session.Session.TheVariants.{Collect, Serve}
use Rattle.fare_sessions.specs.Course.{Counts, Tally, no_tally, with_session, owner_faults}

module _ {S : Type 0} (sc : SchemeValue) (talks : S → Talk) where
  -- A SESSION OF THE STATIONS AND THE WRITER
  -- Of a station: the frames that its source gave, but for one that is held, went to its collector, what that accepted by the links behind the outbox's was put into the inbox; and the source was handed its devices' acknowledgements. In a session without a fault no frame is held, the source has come to its end, and it kept all of these.
  pub record HasTalkedBetween (h : StoresValue) (g : Gathering) (faults : List SessionFault) (old new : Station S) : Type 0 where
    pub frames : List Frame
    pub held : Option Frame
    pub given : (talks (source_of new)).given ≡ (talks (source_of old)).given ++ (frames ++ held_list held)
    pub accepted : of_station sc (id_of old) (accepted_by g) ≡ arrivals sc (first_links sc h.outbox (id_of old)) frames
    pub kept : List Frame
    pub answered : (talks (source_of new)).answered ≡ (talks (source_of old)).answered ++ kept
    pub keeps : AreSomeOf (answers_to sc (id_of old) (all_answers g)) kept
    -- its fault is its source's, or that a frame came which no device sends: that one came last, and is reported
    pub failed : (new.end.fault ≡ Some station.Source → Rose (talks (source_of old)).failures (talks (source_of new)).failures) × (new.end.fault ≡ None → (talks (source_of new)).failures ≡ (talks (source_of old)).failures)
    pub unexpected : new.end.fault ≡ Some station.Unexpected → EndUnexpected frames
    pub expected : AreExpected new.end.fault (frames ++ held_list held)
    pub whole : faults ≡ [] → (held ≡ None) × (talks (source_of new)).ended × (kept ≡ map frame_for (answers_to sc (id_of old) (all_answers g)))

  pub record CollectedBetween (h k : StoresValue) (before after : List (Station S)) (c : Counts) (qs : List history.Session) : Type 0 where
    pub g : Gathering
    pub session : qs ≡ history.Collects g ∷ []
    -- what it says of these stores, by what ended the writer
    pub came : (ended : _) × SaysOfGathering sc before g c.stored ended h.outbox × (c.faults ≡ writer_faults ended ++ station_faults after)
    pub left : IsLeftBy h (history.Collects g) k
    pub taken : c.taken ≡ 0
    pub stations : (place : ℕ) (d : Station S) → place < length before → HasTalkedBetween h g c.faults (slice_index_or before place d) (slice_index_or after place d)
    -- without a fault nothing is left, and the outbox has all that was accepted
    pub whole : c.faults ≡ [] → (g.hand ≡ None) × (g.inbox ≡ []) × (c.left ≡ 0) × GathersPlainly sc h.outbox k.outbox g × (k.ledgers ≡ h.ledgers)

  -- there was no memory for the list of its faults: nothing was read
  pub record NotBegun (h k : StoresValue) (before after : List (Station S)) (c : Counts) (qs : List history.Session) : Type 0 where
    pub none : qs ≡ []
    pub stores : k ≡ h
    pub stations : after ≡ before
    pub counts : c ≡ record { stored = 0; taken = 0; left = 0; faults = Memory ∷ [] }

  -- A SESSION OF AN OWNER
  pub record ServedBetween (h k : StoresValue) (owner : ℕ) (c : Counts) (qs : List history.Session) : Type 0 where
    pub v : Service
    pub session : qs ≡ history.Serves_owner owner v ∷ []
    pub report : OwnerReport
    pub says : SaysOfService sc owner v report h.outbox (h.ledgers owner)
    pub left : IsLeftBy h (history.Serves_owner owner v) k
    pub stored : c.stored ≡ 0
    pub taken : c.taken ≡ report.taken
    pub left_over : c.left ≡ report.left
    pub faults : c.faults ≡ owner_faults report.fault
    -- in plain words; without a fault all is taken, and all that is taken is pruned
    pub plain : ServesPlainly owner h.outbox k.outbox (h.ledgers owner) (k.ledgers owner)
    pub beside : (other : ℕ) → (other == owner) ≡ false → k.ledgers other ≡ h.ledgers other
    pub whole : c.faults ≡ [] → IsWholeService sc owner h.outbox k.outbox (h.ledgers owner) (k.ledgers owner)

  -- ONE SESSION, AND A LIST
  abbrev pub LedBetween : Session S → Session S → StoresValue → StoresValue → Counts → List history.Session → Type 0
  LedBetween (Collect before) (Collect after) h k c qs = CollectedBetween h k before.items after.items c qs ⊎ NotBegun h k before.items after.items c qs
  LedBetween (Collect before) (Serve owner) h k c qs = ⊥
  LedBetween (Serve owner) (Serve other) h k c qs = (other ≡ owner) × ServedBetween h k owner c qs
  LedBetween (Serve owner) (Collect after) h k c qs = ⊥

  -- the session at a place led from stores h to stores k
  pub record HasLedAt (olds news : List (Session S)) (place : ℕ) (h k : StoresValue) (c : Counts) (qs : List history.Session) : Type 0 where
    pub before : Session S
    pub after : Session S
    pub was : slice_get olds place ≡ Some before
    pub is : slice_get news place ≡ Some after
    pub led : LedBetween before after h k c qs

  -- the first so many sessions led from stores h to stores k, each from the stores that the one before it left; they counted this
  abbrev pub HaveLed : List (Session S) → List (Session S) → ℕ → StoresValue → StoresValue → Tally → List history.Session → Type 0
  HaveLed olds news zero h k t qs = (k ≡ h) × (t ≡ no_tally) × (qs ≡ [])
  HaveLed olds news (suc n) h k t qs = (m : StoresValue) × (u : Tally) × (ps : List history.Session) × (c : Counts) × (rs : List history.Session)
      × HaveLed olds news n h m u ps × HasLedAt olds news n m k c rs × (t ≡ with_session u n c) × (qs ≡ ps ++ rs)
