-- What the call itself did after the joins.
use Rattle.std.specs.Prelude.{◌≡◌, ◌≢◌, ◌⊎◌, ℕ, ◌+◌, ◌<◌, true, false, List, [], ◌∷◌, ◌++◌, length, slice_index_or, Option, Some, None}
use Rattle.fare_frame.specs.declared.frame.Frame.{Frame}
use Rattle.fare_scheme.specs.Values.{SchemeValue}
use Rattle.fare_collector.specs.Collecting.{next_in}
use Rattle.fare_store.specs.Standing.{Standing}
use Rattle.fare_store.specs.OutboxWords.{OutboxValue}
use Rattle.fare_inbox_queue.specs.declared.arrived.Arrived.{Arrived}
use Rattle.fare_inbox_queue.specs.declared.inbox_ended.InboxEnded.{InboxEnded}
use Rattle.fare_inbox_queue.specs.Inbox.{of_station}
use Rattle.fare_inbox_queue.specs.InboxPasses.{left_of}
use Rattle.fare_collect.specs.declared.fault.StationFault.{StationFault}
use Rattle.fare_collect.specs.declared.fault.StationFault.TheVariants.{Unexpected}
use Rattle.fare_collect.specs.declared.station.Station.{Station}
use Rattle.fare_collect.specs.declared.station.End.{End}
use Rattle.fare_writer.specs.declared.halt.Halt.{Halt}
use Rattle.fare_writer.specs.declared.tally.Tally.{Tally}
use Rattle.fare_writer.specs.Keeping.{HasKept}
use Rattle.fare_source.specs.Talking.{Talk}
use Rattle.fare_history.specs.AcceptedLinks.{next_links_all}
use Rattle.fare_collect.specs.Arriving.{arrivals}
use Rattle.fare_collect.specs.Stations.{held_list, AreExpected, EndUnexpected, SourceCounted}

-- some of what was left in the inbox, from the front of each station's part
pub record HasKeepingLeft (sc : SchemeValue) (old new : Standing OutboxValue) (before after : InboxEnded) (tally_old tally_new : Tally) (halt : Option Halt) : Type 0 where
  pub items : List Arrived
  pub parts : (station : ℕ) → left_of before station ≡ of_station station items ++ left_of after station
  pub kept : HasKept sc old new items tally_old tally_new halt
  pub count : before.left ≡ length items + after.left

-- what was left in the inbox, from the front of each station's part
pub record HasKeptLeft (sc : SchemeValue) (old new : Standing OutboxValue) (before after : InboxEnded) (tally_old tally_new : Tally) (halt : Option Halt) : Type 0 where
  pub some : HasKeepingLeft sc old new before after tally_old tally_new halt
  pub whole : halt ≡ None → (station : ℕ) → left_of after station ≡ []
  pub none : halt ≡ None → after.left ≡ 0

-- the frame that was held, or else one more of the source
pub record HasNext (old new : Talk) (before after : End) (result : Option Frame) : Type 0 where
  pub more : List Frame
  pub given : new.given ≡ old.given ++ more
  pub frame : held_list result ≡ held_list before.held ++ more
  pub held : after.held ≡ None
  pub answered : new.answered ≡ old.answered
  pub going : before.fault ≡ None → (f : Frame) → result ≡ Some f → (after.fault ≡ None) × (after.ended ≡ before.ended)
  pub at_end : before.fault ≡ None → result ≡ None → ((after.ended ≡ true) × new.ended × (after.fault ≡ None)) ⊎ ((f : StationFault) × (after.fault ≡ Some f) × (after.ended ≡ before.ended))
  pub cause : before.fault ≡ None → SourceCounted old.failures new.failures after.fault
  pub other : before.fault ≡ None → after.fault ≡ Some Unexpected → ⊥

-- the rest of a station's source, first the frame that was held, was accepted and stored
pub record HasRested {S : Type 0} (sc : SchemeValue) (talks : S → Talk) (id : ℕ) (old new : Standing OutboxValue) (tally_old tally_new : Tally) (before after : Station S) (halt : Option Halt) : Type 0 where
  pub more : List Frame
  pub given : (talks after.source).given ≡ (talks before.source).given ++ more
  pub held : after.end.held ≡ None
  pub start : before.end.fault ≡ None
  pub unended : before.end.ended ≡ false
  pub answered : (talks after.source).answered ≡ (talks before.source).answered
  pub items : List Arrived
  pub arrived : items ≡ arrivals sc id (next_in before.collector) (held_list before.end.held ++ more)
  pub next : next_in after.collector ≡ next_links_all sc (next_in before.collector) (held_list before.end.held ++ more)
  pub named : after.collector.station ≡ before.collector.station
  pub kept : HasKept sc old new items tally_old tally_new halt
  pub whole : halt ≡ None → after.end.fault ≡ None → (after.end.ended ≡ true) × (talks after.source).ended
  pub at_end : after.end.ended ≡ true → (talks after.source).ended × (after.end.fault ≡ None)
  pub unexpected : after.end.fault ≡ Some Unexpected → EndUnexpected (held_list before.end.held ++ more)
  pub expected : AreExpected after.end.fault (held_list before.end.held ++ more)
  pub cause : SourceCounted (talks before.source).failures (talks after.source).failures after.end.fault

-- nothing has ended the station's source
abbrev pub IsGoing : End → Type 0
IsGoing e = (e.fault ≡ None) × (e.ended ≡ false)

-- frames of a station's source, first the one that was held, went to its collector, which accepted these items
pub record HasPassed {S : Type 0} (sc : SchemeValue) (talks : S → Talk) (id : ℕ) (before after : Station S) (items : List Arrived) : Type 0 where
  pub more : List Frame
  pub given : (talks after.source).given ≡ (talks before.source).given ++ more
  pub passed : List Frame
  pub frames : passed ++ held_list after.end.held ≡ held_list before.end.held ++ more
  pub start : IsGoing before.end
  pub answered : (talks after.source).answered ≡ (talks before.source).answered
  pub arrived : items ≡ arrivals sc id (next_in before.collector) passed
  pub next : next_in after.collector ≡ next_links_all sc (next_in before.collector) passed
  pub named : after.collector.station ≡ before.collector.station
  pub at_end : after.end.ended ≡ true → (talks after.source).ended × (after.end.fault ≡ None)
  pub unexpected : after.end.fault ≡ Some Unexpected → EndUnexpected passed
  pub expected : AreExpected after.end.fault passed
  pub cause : SourceCounted (talks before.source).failures (talks after.source).failures after.end.fault

-- the items stand behind the first ones, as the collector accepted them
pub record HasReadOn {S : Type 0} (sc : SchemeValue) (talks : S → Talk) (id : ℕ) (before after : Station S) (first items : List Arrived) : Type 0 where
  pub more : List Arrived
  pub items_are : items ≡ first ++ more
  pub passed : HasPassed sc talks id before after more

-- what came of an item and of those that the collector accepted behind it
pub record HasRestedBatch {S : Type 0} (sc : SchemeValue) (talks : S → Talk) (id : ℕ) (old new : Standing OutboxValue) (first : Arrived) (tally_old tally_new : Tally) (before after : Station S) (halt : Option Halt) : Type 0 where
  pub more : List Arrived
  pub passed : HasPassed sc talks id before after more
  pub kept : HasKept sc old new (first ∷ more) tally_old tally_new halt

-- ALL STATIONS
-- what of these items came from the station: what its collector accepts of the frames that were passed on
pub record IsRestOf {S : Type 0} (sc : SchemeValue) (talks : S → Talk) (items : List Arrived) (before after : Station S) : Type 0 where
  pub passed : List Frame
  pub more : List Frame
  pub given : (talks after.source).given ≡ (talks before.source).given ++ more
  pub frames : passed ++ held_list after.end.held ≡ held_list before.end.held ++ more
  pub part : of_station before.collector.station items ≡ arrivals sc before.collector.station (next_in before.collector) passed
  pub next : next_in after.collector ≡ next_links_all sc (next_in before.collector) passed
  pub named : after.collector.station ≡ before.collector.station
  pub answered : (talks after.source).answered ≡ (talks before.source).answered
  pub faulted : before.end.fault ≢ None → after.end.fault ≡ before.end.fault
  pub idle : before.end.fault ≢ None → passed ≡ []
  pub ended : (before.end.ended ≡ true → (talks before.source).ended × (before.end.held ≡ None) × (before.end.fault ≡ None)) → after.end.ended ≡ true → (talks after.source).ended × (after.end.held ≡ None) × (after.end.fault ≡ None)
  pub cause : (n : ℕ) → SourceCounted n (talks before.source).failures before.end.fault → SourceCounted n (talks after.source).failures after.end.fault
  pub unexpected : after.end.fault ≡ Some Unexpected → (before.end.fault ≡ Some Unexpected) ⊎ EndUnexpected passed
  pub expected : (front : List Frame) → AreExpected before.end.fault (front ++ held_list before.end.held) → AreExpected after.end.fault ((front ++ passed) ++ held_list after.end.held)

-- the sources of the stations up to a place have come to their ends, or met a fault
pub record AreRead {S : Type 0} (stations : List (Station S)) (place : ℕ) : Type 0 where
  pub each : (k : ℕ) (d : Station S) → k < place → k < length stations → (slice_index_or stations k d).end.fault ≡ None → (slice_index_or stations k d).end.ended ≡ true

-- none of these is this station
abbrev pub IsNoneOf : {S : Type 0} → ℕ → List (Station S) → Type 0
IsNoneOf {S} station stations = (k : ℕ) (d : Station S) → k < length stations → station ≢ (slice_index_or stations k d).collector.station

-- the rest of the sources of the stations up to a place was stored
pub record HaveRested {S : Type 0} (sc : SchemeValue) (talks : S → Talk) (old new : Standing OutboxValue) (tally_old tally_new : Tally) (before after : List (Station S)) (place : ℕ) (halt : Option Halt) : Type 0 where
  pub read : halt ≡ None → AreRead after place
  pub items : List Arrived
  pub kept : HasKept sc old new items tally_old tally_new halt
  pub len : length after ≡ length before
  pub each : (k : ℕ) (d : Station S) → k < length before → IsRestOf sc talks items (slice_index_or before k d) (slice_index_or after k d)
  pub others : (station : ℕ) → IsNoneOf station before → of_station station items ≡ []

-- no two are of one station
pub record AreApart {S : Type 0} (stations : List (Station S)) : Type 0 where
  pub each : (j k : ℕ) (d : Station S) → j < length stations → k < length stations → j ≢ k → (slice_index_or stations j d).collector.station ≢ (slice_index_or stations k d).collector.station
