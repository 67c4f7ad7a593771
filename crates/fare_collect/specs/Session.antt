-- What a whole session did to each station and to the outbox.
use Rattle.std.specs.Prelude.{◌≡◌, ◌≢◌, ℕ, ◌-◌, ◌<◌, ◌≤◌, true, List, [], ◌∷◌, ◌++◌, length, map, slice_index_or, Option, Some, None}
use Rattle.fare_frame.specs.declared.frame.Frame.{Frame}
use Rattle.std.specs.List.{AllByRecursion}
use Rattle.fare_scheme.specs.Values.{SchemeValue}
use Rattle.fare_history.specs.Gathering.{answers_to, IsAnswerFrom}
use Rattle.fare_collector.specs.Collecting.{next_in}
use Rattle.fare_inbox_queue.specs.declared.arrived.Arrived.{Arrived}
use Rattle.fare_inbox_queue.specs.declared.ack_line.AckLine.{AckLine}
use Rattle.fare_inbox_queue.specs.declared.ack_passes.HearPass.{HearPass}
use Rattle.fare_inbox_queue.specs.declared.inbox_passes.StationPass.{StationPass}
use Rattle.fare_inbox_queue.specs.declared.inbox_passes.WriterPass.{WriterPass}
use Rattle.fare_inbox_queue.specs.declared.inbox.Inbox.{Inbox}
use Rattle.fare_inbox_queue.specs.Inbox.{of_station}
use Rattle.fare_inbox_queue.specs.InboxPasses.{station_of, stations_of, sent_list, taken_list, capacity_of, IsStationOf, IsWriterOf}
use Rattle.fare_inbox_queue.specs.LinePasses.{put_list, heard_list, IsHearOf}
use Rattle.fare_store.specs.Standing.{Standing}
use Rattle.fare_store.specs.OutboxWords.{OutboxValue}
use Rattle.fare_collect.specs.declared.station.Station.{Station}
use Rattle.fare_writer.specs.declared.teller.Teller.{Teller}
use Rattle.fare_writer.specs.declared.halt.Halt.{Halt}
use Rattle.fare_writer.specs.declared.tally.Tally.{Tally}
use Rattle.fare_source.specs.Talking.{Talk}
use Rattle.fare_collect.specs.Opening.{AreNew}
use Rattle.fare_writer.specs.Entries.{in_hand, storing_all}
use Rattle.fare_collect.specs.Ending.{IsHanded, IsHandedLeft, last_answers}
use Rattle.fare_collect.specs.Resting.{AreApart, AreRead, IsNoneOf}
use Rattle.fare_history.specs.AcceptedLinks.{next_links_all}
use Rattle.fare_collect.specs.Arriving.{arrivals}
use Rattle.fare_writer.specs.Arriving.{IsUnexpected}
use Rattle.fare_record.specs.declared.ack_item.AckItem.{AckItem}
use Rattle.fare_collect.specs.declared.fault.StationFault.TheVariants.{Unexpected, Memory}
use Rattle.fare_collect.specs.Stations.{held_list, frame_for, AreExpected, SourceCounted, HasRead}
use Rattle.fare_writer.specs.Handling.{hand_of, batch_of, HasWritten}

-- a station had its passes, ran, and gave them back
pub record HasGivenBack {S : Type 0} (sc : SchemeValue) (talks : S → Talk) (inbox : Inbox) (lines : List AckLine) (k : ℕ) (old new : Station S) (p0 p1 : StationPass) (h0 h1 : HearPass) : Type 0 where
  pub pass : IsStationOf inbox p1
  pub hear : (l : AckLine) → IsHearOf (slice_index_or lines k l) h1
  pub named : station_of p1 ≡ station_of p0
  pub station : new.collector.station ≡ old.collector.station
  pub read : HasRead sc (station_of p0) (talks old.source) (talks new.source) (next_in old.collector) (next_in new.collector) (sent_list p0) (sent_list p1) (heard_list h0) (heard_list h1) new.end.held new.end.ended new.end.fault

pub record HaveGivenBack {S : Type 0} (sc : SchemeValue) (talks : S → Talk) (inbox : Inbox) (lines : List AckLine) (old new : List (Station S)) (ps0 ps1 : List StationPass) (hs0 hs1 : List HearPass) : Type 0 where
  pub len : length new ≡ length old
  pub passes_len : length ps1 ≡ length old
  pub hears_len : length hs1 ≡ length old
  pub each : (k : ℕ) (d : Station S) (p : StationPass) (h : HearPass) → k < length old
      → HasGivenBack sc talks inbox lines k (slice_index_or old k d) (slice_index_or new k d) (slice_index_or ps0 k p) (slice_index_or ps1 k p) (slice_index_or hs0 k h) (slice_index_or hs1 k h)

-- the passes that a session begins with: one for each station in its order, of which nothing was put
pub record AreReady {S : Type 0} (inbox : Inbox) (stations : List (Station S)) (ps : List StationPass) : Type 0 where
  pub len : length ps ≡ length stations
  pub each : (k : ℕ) (d : Station S) (p : StationPass) → k < length stations → IsStationOf inbox (slice_index_or ps k p) × (sent_list (slice_index_or ps k p) ≡ []) × (station_of (slice_index_or ps k p) ≡ (slice_index_or stations k d).collector.station)

-- of a station: what the writer had of it and what is left of it is what its collector accepts of the frames that
-- its source gave, but for the one that is held
pub record HasGathered {S : Type 0} (sc : SchemeValue) (talks : S → Talk) (all : List Arrived) (left : ℕ → List Arrived) (h : HearPass) (old new : Station S) : Type 0 where
  pub frames : List Frame
  pub given : (talks new.source).given ≡ (talks old.source).given ++ (frames ++ held_list new.end.held)
  pub part : of_station old.collector.station all ++ left old.collector.station ≡ arrivals sc old.collector.station (next_in old.collector) frames
  pub next : next_in new.collector ≡ next_links_all sc (next_in old.collector) frames
  pub named : new.collector.station ≡ old.collector.station
  -- what was taken of its line, and handed to the source, which kept it but for the last where it had no memory
  pub handed : List AckItem
  pub lost : List AckItem
  pub took : heard_list h ≡ handed ++ lost
  pub answered : (talks new.source).answered ≡ (talks old.source).answered ++ map frame_for handed
  pub kept : new.end.fault ≢ Some Memory → lost ≡ []
  -- at its end its source has no frame more; its faults have their causes
  pub ended : new.end.ended ≡ true → (talks new.source).ended × (new.end.held ≡ None) × (new.end.fault ≡ None)
  pub cause : SourceCounted (talks old.source).failures (talks new.source).failures new.end.fault
  pub unexpected : new.end.fault ≡ Some Unexpected → (front : List Frame) × (f : Frame) × (frames ≡ front ++ f ∷ []) × IsUnexpected f
  pub expected : AreExpected new.end.fault (frames ++ held_list new.end.held)

-- the whole: what the writer had, in its order, and what is left in the inbox, the stations in some order
pub record HaveGathered {S : Type 0} (sc : SchemeValue) (talks : S → Talk) (old new : Standing OutboxValue) (tellers_old tellers_new : List Teller) (tally_old tally_new : Tally) (before after : List (Station S)) (hears : List HearPass) (room left : ℕ) (halt : Option Halt) : Type 0 where
  pub all : List Arrived
  pub inbox : List Arrived
  pub few : length inbox ≤ room
  pub count : left ≡ length inbox
  pub others : (station : ℕ) → IsNoneOf station before → (of_station station all ≡ []) × (of_station station inbox ≡ [])
  pub len : length after ≡ length before
  pub written : HasWritten sc old new all tellers_old tellers_new tally_old tally_new halt
  pub each : (k : ℕ) (d : Station S) (h : HearPass) → k < length before → HasGathered sc talks all (λ station. of_station station inbox) (slice_index_or hears k h) (slice_index_or before k d) (slice_index_or after k d)

abbrev pub id_of : {S : Type 0} → Station S → ℕ
id_of t = t.collector.station

-- the queues of a session, before anything is put
pub record IsOpen {S : Type 0} (sc : SchemeValue) (stations : List (Station S)) (inbox : Inbox) (passes : List StationPass) (writer : WriterPass) (ls : List AckLine) (tellers : List Teller) (hears : List HearPass) : Type 0 where
  pub some : 0 < length stations
  pub apart : AreApart stations
  pub ready : AreReady inbox stations passes
  pub all : map station_of passes ≡ stations_of writer
  pub queue : IsWriterOf inbox writer × (taken_list writer ≡ [])
  pub lines : AreNew (length stations) ls tellers hears
  pub room : capacity_of inbox ≡ sc.inbox_capacity - (batch_of sc - 1)
  pub small : sc.inbox_capacity ≤ 4294967295

-- A station's whole session: what its thread and the rest of its source came to, then what its line still had was
-- handed to the source, then the last acknowledgements.
pub record HasEnded {S : Type 0} (sc : SchemeValue) (talks : S → Talk) (all : List Arrived) (left : ℕ → List Arrived) (teller : Teller) (hear : HearPass) (last : List AckItem) (old new : Station S) : Type 0 where
  pub middle : Station S
  pub closed : Station S
  pub gathered : HasGathered sc talks all left hear old middle
  pub line : IsHandedLeft talks teller hear middle closed
  pub answered : IsHanded talks last closed new

-- the whole session, of the opening outbox and of the stations
pub record HasSession {S : Type 0} (sc : SchemeValue) (talks : S → Talk) (old new : Standing OutboxValue) (tally_old tally_new : Tally) (before after : List (Station S)) (left : ℕ) (halt : Option Halt) : Type 0 where
  pub all : List Arrived
  -- what is left in the inbox, the stations in some order
  pub inbox : List Arrived
  -- the acknowledgements that were sent last
  pub last : List AckItem
  pub tellers_old : List Teller
  pub tellers_new : List Teller
  pub hears : List HearPass
  pub even : (length tellers_old ≡ length before) × (length tellers_new ≡ length before) × (length hears ≡ length before)
  pub len : length after ≡ length before
  pub written : HasWritten sc old new all tellers_old tellers_new tally_old tally_new halt
  -- without a halt of the writer each station's source has come to its end, but for those that met a fault
  pub read : halt ≡ None → AreRead after (length before)
  pub untold : (k : ℕ) (d : Teller) → k < length before → put_list (slice_index_or tellers_old k d).pass ≡ []
  pub each : (k : ℕ) (d : Station S) (t : Teller) (h : HearPass) → k < length before
      → HasEnded sc talks all (λ station. of_station station inbox) (slice_index_or tellers_new k t) (slice_index_or hears k h) (answers_to sc (slice_index_or before k d).collector.station last) (slice_index_or before k d) (slice_index_or after k d)
  pub others : (station : ℕ) → IsNoneOf station before → (of_station station all ≡ []) × (of_station station inbox ≡ [])
  pub few : length (written.behind ++ inbox) ≤ sc.inbox_capacity
  pub empty : halt ≡ None → inbox ≡ []
  pub count : left ≡ length (in_hand (hand_of halt) ++ (written.behind ++ inbox))
  -- each of the last acknowledgements is true of the outbox; without a halt of the writer none is missing
  pub from : new.clean → (old.live → old.lawful) → AllByRecursion (IsAnswerFrom sc (storing_all old.value written.entries)) last
  pub whole : halt ≡ None → new.clean → (old.live → old.lawful) → last ≡ last_answers sc tally_new.days.keys (storing_all old.value written.entries)
