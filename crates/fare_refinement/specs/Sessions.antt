-- Sessions of a hub, one after the other: what they make of its stores, and their events.
use Rattle.std.specs.Prelude.{◌≡◌, ℕ, ◌≤◌, true, List, [], ◌∷◌, ◌++◌}
use Rattle.std.specs.List.{AllByRecursion}
use Rattle.fare_record.specs.Limits.{IsDay}
use Rattle.fare_scheme.specs.Values.{SchemeValue}
use Rattle.fare_store.specs.Tables.{put}
use Rattle.fare_store.specs.LedgerWords.{with_close, with_retired}
use Rattle.fare_event.specs.declared.event.Event.{Event}
use Rattle.fare_event.specs.declared.event.Event.TheVariants as event
use Rattle.fare_world.specs.System.{System}
use Rattle.fare_world.specs.Knowing.{knows_device, knows_owner}
use Rattle.fare_world.specs.Owning.{lane_room}
use Rattle.fare_history.specs.Serving.{given_all, pruned_to_all, Service, IsService}
use Rattle.fare_history.specs.Gathering.{storing_all, IsGathering}
use Rattle.fare_history.specs.Stores.{StoresValue, MayClose, MayRetire}
use Rattle.fare_refinement.specs.ShownStores.{ShowsOutbox, ShowsLedger}
use Rattle.fare_refinement.specs.Served.{service_events}
use Rattle.fare_refinement.specs.Gathered.{IsGiven, SentGathering, sent_by, told_entries, told_by, gathering_events}

-- the system shows the outbox, and the ledger of each registered owner
pub record ShowsStores (sc : SchemeValue) (s : System) (h : StoresValue) : Type 0 where
  pub outbox : ShowsOutbox s h.outbox
  pub ledgers : (owner : ℕ) → knows_owner sc owner ≡ true → ShowsLedger sc s owner (h.ledgers owner)

-- what a hub does at a time: a session of the stations and the writer, a session of an owner, the close of a device's day in an owner's ledger, or the end of a device's lane there
pub data Session : Type 0 where
  Collects : SentGathering → Session
  Serves_owner : ℕ → Service → Session
  Closes_day : ℕ → ℕ → ℕ → Session
  Retires_lane : ℕ → ℕ → Session

-- the stores after one of these
abbrev pub stores_after : StoresValue → Session → StoresValue
stores_after h (Collects g) = record h { outbox = storing_all h.outbox (told_entries g.entries) }
stores_after h (Serves_owner owner v) = record {
  outbox = pruned_to_all h.outbox owner (given_all (h.ledgers owner) v.taken) v.pruned;
  ledgers = put h.ledgers owner (given_all (h.ledgers owner) v.taken);
}
stores_after h (Closes_day owner device day) = record h { ledgers = put h.ledgers owner (with_close device (h.ledgers owner)) }
stores_after h (Retires_lane owner device) = record h { ledgers = put h.ledgers owner (with_retired device (h.ledgers owner)) }

-- the stores after all of them, one after the other
abbrev pub stores_after_all : StoresValue → List Session → StoresValue
stores_after_all h [] = h
stores_after_all h (q ∷ qs) = stores_after_all (stores_after h q) qs

-- It is a session that began with these stores, whose frames are packets that the system sent before all sessions; or a close or a retire that the ledger does not refuse.
abbrev pub IsSession : SchemeValue → System → StoresValue → Session → Type 0
IsSession sc s h (Collects g) = AllByRecursion (IsGiven s) (sent_by g) × IsGathering sc h.outbox (told_by g)
IsSession sc s h (Serves_owner owner v) = (knows_owner sc owner ≡ true) × IsService sc owner h.outbox (h.ledgers owner) v
IsSession sc s h (Closes_day owner device day) = (knows_owner sc owner ≡ true) × (knows_device sc device ≡ true) × MayClose (h.ledgers owner) device day × IsDay day
IsSession sc s h (Retires_lane owner device) = (knows_owner sc owner ≡ true) × (knows_device sc device ≡ true) × MayRetire (h.ledgers owner) device

-- each is one that began with the stores as those before it left them
abbrev pub AreSessions : SchemeValue → System → StoresValue → List Session → Type 0
AreSessions sc s h [] = Unit {0}
AreSessions sc s h (q ∷ qs) = IsSession sc s h q × AreSessions sc s (stores_after h q) qs

-- the events of one of them
abbrev pub session_events : SchemeValue → Session → List Event
session_events sc (Collects g) = gathering_events sc g
session_events sc (Serves_owner owner v) = service_events owner v
session_events sc (Closes_day owner device day) = event.Close owner device day ∷ []
session_events sc (Retires_lane owner device) = event.Retire owner device ∷ []

-- the events of all of them, one after the other
abbrev pub sessions_events : SchemeValue → List Session → List Event
sessions_events sc [] = []
sessions_events sc (q ∷ qs) = session_events sc q ++ sessions_events sc qs

-- the lane queue of each registered owner may hold an item
abbrev pub HasLaneRoom : SchemeValue → Type 0
HasLaneRoom sc = (owner : ℕ) → knows_owner sc owner ≡ true → 1 ≤ lane_room sc owner
