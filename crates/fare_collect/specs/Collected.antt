-- What a session of the stations and the writer did, whatever its outbox might have held when it began.
use Rattle.std.specs.Prelude.{◌≡◌, ℕ, ◌+◌, ◌<◌, min, true, is_some, List, [], ◌∷◌, ◌++◌, length, map, slice_index_or, Option, Some, None, if◌then◌else◌}
use Rattle.std.specs.List.{AllByRecursion}
use Rattle.fare_record.specs.declared.item.Item.{Item}
use Rattle.fare_frame.specs.declared.frame.Frame.{Frame}
use Rattle.fare_scheme.specs.Values.{SchemeValue}
use Rattle.fare_scheme.specs.Words.{station_of}
use Rattle.fare_collector.specs.Collecting.{is_id, next_in}
use Rattle.fare_store.specs.Standing.{Standing}
use Rattle.fare_store.specs.OutboxWords.{OutboxValue}
use Rattle.fare_history.specs.Serving.{in_hand, device_of}
use Rattle.fare_history.specs.Gathering.{is_new, storing, storing_all, tried_by, HasFirst, items_of, Entry, Gathering, accepted_by, all_answers, answers_to, of_station, IsGathering}
use Rattle.fare_history.specs.AcceptedLinks.{arrivals}
use Rattle.fare_history.specs.Plainly.{IsRefusedByOutbox}
use Rattle.fare_history.specs.Holding.{MayHold, Leads}
use Rattle.fare_session.specs.declared.fault.SessionFault.{SessionFault}
use Rattle.fare_session.specs.declared.fault.SessionFault.TheVariants as session
use Rattle.fare_session.specs.Stores.{Follows}
use Rattle.fare_session.specs.Served.{Rose}
use Rattle.fare_source.specs.Talking.{Talk}
use Rattle.fare_writer.specs.declared.fault.WriterFault.{WriterFault}
use Rattle.fare_writer.specs.declared.fault.WriterFault.TheVariants as writer
use Rattle.fare_collect.specs.declared.fault.StationFault.{StationFault}
use Rattle.fare_collect.specs.declared.fault.StationFault.TheVariants as station
use Rattle.fare_collect.specs.declared.station.Station.{Station}
use Rattle.fare_writer.specs.declared.halt.Halt.{Halt}
use Rattle.fare_collect.specs.Stations.{frame_for, held_list, AreExpected, EndUnexpected}
use Rattle.fare_collect.specs.Resting.{IsNoneOf}
use Rattle.fare_collect.specs.Ending.{AreSomeOf, last_answers}
use Rattle.fare_collect.specs.Noting.{days_named}

-- THE STATIONS
-- each station's collector knows the devices of its station, and no other
pub record HaveDevices {S : Type 0} (sc : SchemeValue) (stations : List (Station S)) : Type 0 where
  pub each : (k : ℕ) (d : Station S) (device : ℕ) → k < length stations → is_some (next_in (slice_index_or stations k d).collector device) ≡ is_id (station_of sc device) (slice_index_or stations k d).collector.station

-- where its frames come from
abbrev pub source_of : {S : Type 0} → Station S → S
source_of t = t.source

-- what a station accepts first of a device: of one of its own the link behind the greatest that the outbox has had of it
abbrev pub first_links : SchemeValue → OutboxValue → ℕ → ℕ → Option ℕ
first_links sc x station device = if is_id (station_of sc device) station then Some (x.upto device + 1) else None

-- FAULTS
-- what ended the writer
abbrev pub fault_of_halt : Option Halt → Option WriterFault
fault_of_halt None = None
fault_of_halt (Some h) = Some h.fault

abbrev pub as_session : WriterFault → SessionFault
as_session writer.Refused = session.Refused
as_session writer.Memory = session.Memory
as_session writer.Store = session.Store

abbrev pub fault_at : ℕ → StationFault → SessionFault
fault_at id station.Source = session.Source id
fault_at id station.Unexpected = session.Unexpected id
fault_at id station.Memory = session.Memory

abbrev pub writer_faults : Option WriterFault → List SessionFault
writer_faults None = []
writer_faults (Some f) = as_session f ∷ []

abbrev pub faults_at : ℕ → Option StationFault → List SessionFault
faults_at id None = []
faults_at id (Some f) = fault_at id f ∷ []

-- what ended stations, in their order
abbrev pub station_faults : {S : Type 0} → List (Station S) → List SessionFault
station_faults [] = []
station_faults (t ∷ ts) = faults_at t.collector.station t.end.fault ++ station_faults ts

-- THE OUTBOX
-- The outbox has kept what was committed; if it was live when the session began, what it held fit together.
pub record IsFitting (old new : Standing OutboxValue) : Type 0 where
  pub clean : new.clean
  pub lawful : old.live → old.lawful

-- the outbox has what was handled, and the first of the item in the hand and those behind it, whose store failed and which it doesn't refuse
abbrev pub IsStoredBy : Gathering → OutboxValue → OutboxValue → Type 0
IsStoredBy g x y = HasFirst (storing_all x g.entries) (tried_by g) y

-- how many items of these entries the outbox stores, one after the other
abbrev pub new_items : OutboxValue → List Entry → ℕ
new_items x [] = 0
new_items x (e ∷ es) = (if is_new x e.item then 1 else 0) + new_items (storing x e.item) es

-- what the session's value says of an outbox as it was when the session began
pub record SaysOfGathering {S : Type 0} (sc : SchemeValue) (stations : List (Station S)) (g : Gathering) (count : ℕ) (ended : Option WriterFault) (x : OutboxValue) : Type 0 where
  pub gathering : IsGathering sc x g
  pub stored : min count 18446744073709551615 ≡ min (new_items x g.entries) 18446744073709551615
  -- nothing is of a station that isn't here
  pub others : (station : ℕ) → IsNoneOf station stations → of_station sc station (accepted_by g) ≡ []
  -- each item is of a registered device
  pub known : AllByRecursion (λ i. is_some (station_of sc (device_of i)) ≡ true) (accepted_by g)
  -- an item was refused: it is the one in the hand
  pub refused : ended ≡ Some writer.Refused → (i : Item) × (g.hand ≡ Some i) × IsRefusedByOutbox (storing_all x g.entries) i
  -- at the end each day was acknowledged that a statement named and of which those of all owners are held, and each device's greatest link
  pub last : ended ≡ None → g.last ≡ last_answers sc (days_named sc (items_of g.entries)) (storing_all x g.entries)

-- What became of a station: of the frames that its source gave all but one that is held went to its collector, what that accepted was put into the inbox, and the source was handed its devices' acknowledgements.
pub record HasTalked {S : Type 0} (sc : SchemeValue) (talks : S → Talk) (xo xn : Standing OutboxValue) (g : Gathering) (old new : Station S) : Type 0 where
  pub frames : List Frame
  pub held : Option Frame
  pub given : (talks new.source).given ≡ (talks old.source).given ++ (frames ++ held_list held)
  pub accepted : IsFitting xo xn → (x : OutboxValue) → MayHold xo x → of_station sc old.collector.station (accepted_by g) ≡ arrivals sc (first_links sc x old.collector.station) frames
  -- it kept them, but for those at which it had no memory
  pub kept : List Frame
  pub answered : (talks new.source).answered ≡ (talks old.source).answered ++ kept
  pub keeps : IsFitting xo xn → AreSomeOf (answers_to sc old.collector.station (all_answers g)) kept
  pub whole : IsFitting xo xn → new.end.fault ≡ None → kept ≡ map frame_for (answers_to sc old.collector.station (all_answers g))
  pub named : new.collector.station ≡ old.collector.station
  -- its collector knows the same devices
  pub devices : (device : ℕ) → is_some (next_in new.collector device) ≡ is_some (next_in old.collector device)
  -- its fault has its cause: its source failed, or a frame came that no device sends
  pub cause : new.end.fault ≡ Some station.Source → Rose (talks old.source).failures (talks new.source).failures
  pub unexpected : new.end.fault ≡ Some station.Unexpected → EndUnexpected frames
  -- and each cause has its fault: of all that its source gave no frame but the last is one that no device sends, and
  -- that one only where the station reported it; and a source that failed is no station's without a fault
  pub expected : AreExpected new.end.fault (frames ++ held_list held)
  pub failed : new.end.fault ≡ None → (talks new.source).failures ≡ (talks old.source).failures
  -- where it came to its end no frame is held
  pub none_held : new.end.ended ≡ true → held ≡ None

-- A SESSION
pub record IsCollected {S : Type 0} (sc : SchemeValue) (talks : S → Talk) (xo xn : Standing OutboxValue) (before after : List (Station S)) (stored left : ℕ) (ended : Option WriterFault) : Type 0 where
  pub g : Gathering
  -- whatever the outbox might have held when it began, also where a failure had shut it
  pub says : IsFitting xo xn → (x : OutboxValue) → MayHold xo x → SaysOfGathering sc before g stored ended x
  -- whatever it may hold now is led to, by what was handled, from something that it might have held
  pub outbox : IsFitting xo xn → Leads (IsStoredBy g) xo xn
  -- while it is live it holds exactly that
  pub holds : IsFitting xo xn → xn.live → xn.value ≡ storing_all xo.value g.entries
  pub len : length after ≡ length before
  pub each : (k : ℕ) (d : Station S) → k < length before → HasTalked sc talks xo xn g (slice_index_or before k d) (slice_index_or after k d)
  pub left_is : left ≡ length (in_hand g.hand ++ g.inbox)
  -- a writer without a fault has handled all, and each station's source without one has come to its end
  pub finished : ended ≡ None → (g.hand ≡ None) × (g.inbox ≡ [])
  pub read : ended ≡ None → (k : ℕ) (d : Station S) → k < length before → (slice_index_or after k d).end.fault ≡ None → (talks (slice_index_or after k d).source).ended
  pub at_end : ended ≡ None → (k : ℕ) (d : Station S) → k < length before → (slice_index_or after k d).end.fault ≡ None → (slice_index_or after k d).end.ended ≡ true
  pub cause : ended ≡ Some writer.Store → Rose xo.failures xn.failures
  pub stays : ended ≡ None → xn.clean → xn.live
  pub follows : Follows xo xn
