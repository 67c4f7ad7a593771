-- The answers after the joins.
use Rattle.std.specs.Prelude.{◌≡◌, ◌≢◌, ◌⊎◌, ℕ, ◌<◌, ◌≤◌, List, [], ◌∷◌, ◌++◌, length, map, slice_index_or, Option, Some, None, Result, Ok}
use Rattle.std.specs.List.{AllByRecursion}
use Rattle.fare_scheme.specs.Values.{SchemeValue}
use Rattle.fare_store.specs.declared.fault.Fault.{Fault}
use Rattle.fare_store.specs.Standing.{Standing, fault_of}
use Rattle.fare_store.specs.OutboxWords.{OutboxValue}
use Rattle.fare_history.specs.Gathering.{answers_to, IsAnswerFrom}
use Rattle.fare_writer.specs.Writing.{Wrote}
use Rattle.fare_frame.specs.declared.frame.Frame.{Frame}
use Rattle.fare_record.specs.declared.ack_item.AckItem.{AckItem}
use Rattle.fare_record.specs.declared.ack_item.AckItem.TheVariants.{Upto}
use Rattle.fare_inbox_queue.specs.declared.ack_passes.HearPass.{HearPass}
use Rattle.fare_inbox_queue.specs.LinePasses.{put_list, heard_list}
use Rattle.fare_collect.specs.declared.fault.StationFault.{StationFault}
use Rattle.fare_collect.specs.declared.fault.StationFault.TheVariants.{Source, Unexpected}
use Rattle.fare_collect.specs.declared.station.Station.{Station}
use Rattle.fare_writer.specs.declared.teller.Teller.{Teller}
use Rattle.fare_source.specs.Talking.{Talk}
use Rattle.fare_store.specs.Keys.{Key}
use Rattle.fare_collect.specs.Noting.{day_acks}
use Rattle.fare_collect.specs.Stations.{frame_for}
use Rattle.fare_session.specs.Served.{Rose}

-- some of the answers, in their order
abbrev pub AreSomeOf : List AckItem → List Frame → Type 0
AreSomeOf [] fs = fs ≡ []
AreSomeOf (a ∷ more) fs = ((rest : List Frame) × (fs ≡ frame_for a ∷ rest) × AreSomeOf more rest) ⊎ AreSomeOf more fs

-- a source was handed answers: it kept them but for those at which it had no memory, and its station keeps its first fault
pub record HasHanded (old new : Talk) (items : List AckItem) (f g : Option StationFault) : Type 0 where
  pub kept : List Frame
  pub keeps : AreSomeOf items kept
  pub answered : new.answered ≡ old.answered ++ kept
  pub given : new.given ≡ old.given
  pub ended : old.ended → new.ended
  pub first : f ≢ None → g ≡ f
  pub whole : g ≡ None → (f ≡ None) × (kept ≡ map frame_for items)
  pub rises : old.failures ≤ new.failures
  pub cause : f ≡ None → g ≡ Some Source → Rose old.failures new.failures
  -- a station without a fault has a source that didn't fail
  pub failed : g ≡ None → new.failures ≡ old.failures
  pub other : f ≡ None → g ≢ Some Unexpected

pub record IsHanded {S : Type 0} (talks : S → Talk) (items : List AckItem) (old new : Station S) : Type 0 where
  pub handed : HasHanded (talks old.source) (talks new.source) items old.end.fault new.end.fault
  pub collector : new.collector ≡ old.collector
  pub held : new.end.held ≡ old.end.held
  pub at_end : new.end.ended ≡ old.end.ended

-- a station's source was handed what its line still had
pub record IsHandedLeft {S : Type 0} (talks : S → Talk) (teller : Teller) (hear : HearPass) (old new : Station S) : Type 0 where
  pub items : List AckItem
  pub all : heard_list hear ++ items ≡ put_list teller.pass
  pub handed : IsHanded talks items old new

-- each source was handed what its line still had
pub record AreHandedLeft {S : Type 0} (talks : S → Talk) (tellers : List Teller) (hears : List HearPass) (old new : List (Station S)) : Type 0 where
  pub len : length new ≡ length old
  pub each : (k : ℕ) (d : Station S) (t : Teller) (h : HearPass) → k < length tellers → IsHandedLeft talks (slice_index_or tellers k t) (slice_index_or hears k h) (slice_index_or old k d) (slice_index_or new k d)

-- on the way there: from some place on
pub record AreBeingHanded {S : Type 0} (talks : S → Talk) (tellers tellers_left : List Teller) (hears hears_left : List HearPass) (old new : List (Station S)) : Type 0 where
  pub few : length tellers_left ≤ length tellers
  pub even : length hears_left ≡ length tellers_left
  pub room : length tellers ≤ length old
  pub same : (k : ℕ) (t : Teller) → k < length tellers_left → slice_index_or tellers_left k t ≡ slice_index_or tellers k t
  pub hears_same : (k : ℕ) (h : HearPass) → k < length tellers_left → slice_index_or hears_left k h ≡ slice_index_or hears k h
  pub len : length new ≡ length old
  pub todo : (k : ℕ) (d : Station S) → k < length tellers_left → slice_index_or new k d ≡ slice_index_or old k d
  pub done : (k : ℕ) (d : Station S) (t : Teller) (h : HearPass) → length tellers_left ≤ k → k < length tellers → IsHandedLeft talks (slice_index_or tellers k t) (slice_index_or hears k h) (slice_index_or old k d) (slice_index_or new k d)

-- THE LAST ACKNOWLEDGEMENTS
-- what the outbox has had of the device
abbrev pub last_ack : OutboxValue → ℕ → AckItem
last_ack x device = Upto (record { device = device; upto = x.upto device })

-- of each of these devices
abbrev pub acks_of : {P : Type 0} → OutboxValue → List (ℕ × P) → List AckItem
acks_of x devices = map (λ d. last_ack x d.0) devices

-- of each device, in order of registration
abbrev pub last_acks : SchemeValue → OutboxValue → List AckItem
last_acks sc x = acks_of x sc.devices

-- before them one for each of these days that is held of all owners
abbrev pub last_answers : SchemeValue → List Key → OutboxValue → List AckItem
last_answers sc days x = day_acks sc x days ++ last_acks sc x

-- each station's source was handed those of its devices, in their order
pub record AreSent {S : Type 0} (sc : SchemeValue) (talks : S → Talk) (answers : List AckItem) (before after : List (Station S)) : Type 0 where
  pub len : length after ≡ length before
  pub each : (k : ℕ) (d : Station S) → k < length before → IsHanded talks (answers_to sc (slice_index_or before k d).collector.station answers) (slice_index_or before k d) (slice_index_or after k d)

-- What is due was sent: each acknowledgement is true of the outbox, and where no read failed none is missing.
pub record HaveSent {S : Type 0} (sc : SchemeValue) (talks : S → Talk) (old new : Standing OutboxValue) (before after : List (Station S)) (due : OutboxValue → List AckItem) (result : Result Unit Fault) : Type 0 where
  pub wrote : Wrote sc old new [] [] (fault_of result)
  pub answers : List AckItem
  pub sent : AreSent sc talks answers before after
  -- where the outbox answered and has kept what was committed, it was live
  pub began : (answers ≡ []) ⊎ (new.clean → old.live)
  pub from : new.clean → (old.live → old.lawful) → AllByRecursion (IsAnswerFrom sc old.value) answers
  pub whole : result ≡ Ok tt → new.clean → (old.live → old.lawful) → answers ≡ due old.value

-- the same, of at least one read
pub record HaveLast {S : Type 0} (sc : SchemeValue) (talks : S → Talk) (old new : Standing OutboxValue) (before after : List (Station S)) (due : OutboxValue → List AckItem) (result : Result Unit Fault) : Type 0 where
  pub have : HaveSent sc talks old new before after due result
  pub read : result ≡ Ok tt → new.clean → old.live
