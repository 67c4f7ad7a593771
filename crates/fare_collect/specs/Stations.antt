-- What the stations' threads of a session did.
use Rattle.std.specs.Prelude.{◌≡◌, ◌≢◌, ◌⊎◌, ℕ, ◌<◌, ◌≤◌, true, false, Bool, List, [], ◌∷◌, ◌++◌, length, map, slice_index_or, Option, Some, None}
use Rattle.fare_frame.specs.declared.frame.Frame.{Frame}
use Rattle.fare_frame.specs.declared.frame.Frame.TheVariants.{Acked, DayAcked}
use Rattle.fare_scheme.specs.Values.{SchemeValue}
use Rattle.fare_collector.specs.Collecting.{next_in}
use Rattle.fare_inbox_queue.specs.declared.arrived.Arrived.{Arrived}
use Rattle.fare_record.specs.declared.ack_item.AckItem.{AckItem}
use Rattle.fare_record.specs.declared.ack_item.AckItem.TheVariants.{Upto, Day}
use Rattle.fare_inbox_queue.specs.declared.ack_line.AckLine.{AckLine}
use Rattle.fare_inbox_queue.specs.declared.inbox.Inbox.{Inbox}
use Rattle.fare_inbox_queue.specs.InboxPasses.{station_of, sent_list, IsStationOf}
use Rattle.fare_inbox_queue.specs.LinePasses.{heard_list, IsHearOf}
use Rattle.fare_source.specs.declared.fault.SourceFault.{SourceFault}
use Rattle.fare_source.specs.declared.fault.SourceFault.TheVariants as source
use Rattle.fare_collect.specs.declared.fault.StationFault.{StationFault}
use Rattle.fare_collect.specs.declared.fault.StationFault.TheVariants.{Source, Unexpected, Memory}
use Rattle.fare_collect.specs.declared.station.Station.{Station}
use Rattle.fare_collect.specs.declared.station.Post.{Post}
use Rattle.fare_source.specs.Talking.{Talk}
use Rattle.fare_history.specs.AcceptedLinks.{next_links, next_links_all}
use Rattle.fare_collect.specs.Arriving.{arrivals}
use Rattle.fare_writer.specs.Arriving.{arrived_of, IsUnexpected}

abbrev pub frame_for : AckItem → Frame
frame_for (Upto a) = Acked a
frame_for (Day a) = DayAcked a

abbrev pub as_station : SourceFault → StationFault
as_station source.Failed = Source
as_station source.Memory = Memory

-- a source's count of failures rises where its station ended by it, and nowhere else
abbrev pub SourceCounted : ℕ → ℕ → Option StationFault → Type 0
SourceCounted old new (Some Source) = (old < new) ⊎ (18446744073709551615 ≤ old)
SourceCounted old new (Some Unexpected) = new ≡ old
SourceCounted old new (Some Memory) = new ≡ old
SourceCounted old new None = new ≡ old

abbrev pub held_list : Option Frame → List Frame
held_list None = []
held_list (Some f) = f ∷ []

-- a frame among these that no device sends is the last of them, and is what its station reported
abbrev pub AreExpected : Option StationFault → List Frame → Type 0
AreExpected fault [] = Unit {0}
AreExpected fault (f ∷ fs) = (IsUnexpected f → (fs ≡ []) × (fault ≡ Some Unexpected)) × AreExpected fault fs

-- the last of these frames is one that no device sends
abbrev pub EndUnexpected : List Frame → Type 0
EndUnexpected frames = (front : List Frame) × (f : Frame) × (frames ≡ front ++ f ∷ []) × IsUnexpected f

-- a frame went to the collector and, where that accepts it, to the inbox; or the inbox took nothing, and the
-- collector is as it was
pub record HasPassedOn (sc : SchemeValue) (station : ℕ) (next_old next_new : ℕ → Option ℕ) (sent_old sent_new : List Arrived) (frame : Frame) (passed : Bool) : Type 0 where
  pub sent : passed ≡ true → sent_new ≡ sent_old ++ arrived_of sc station next_old frame
  pub next : passed ≡ true → next_new ≡ next_links sc next_old frame
  pub sent_held : passed ≡ false → sent_new ≡ sent_old
  pub next_held : passed ≡ false → next_new ≡ next_old

-- what was taken of the line was handed to the source, which kept it, but for the last where it had no memory
pub record HasAnswered (old new : Talk) (heard_old heard_new : List AckItem) (fault : Option StationFault) : Type 0 where
  pub handed : List AckItem
  pub lost : List AckItem
  pub took : heard_new ≡ heard_old ++ (handed ++ lost)
  pub answered : new.answered ≡ old.answered ++ map frame_for handed
  pub few : length lost ≤ 1
  pub kept : fault ≢ Some Memory → lost ≡ []
  pub given : new.given ≡ old.given
  pub ended : old.ended → new.ended
  pub other : fault ≢ Some Unexpected
  pub cause : SourceCounted old.failures new.failures fault

-- what came of the frames that the source gave, but for the one that is held
pub record HasRead (sc : SchemeValue) (station : ℕ) (old new : Talk) (next_old next_new : ℕ → Option ℕ) (sent_old sent_new : List Arrived) (heard_old heard_new : List AckItem) (held : Option Frame) (at_end : Bool) (fault : Option StationFault) : Type 0 where
  pub frames : List Frame
  pub given : new.given ≡ old.given ++ (frames ++ held_list held)
  pub sent : sent_new ≡ sent_old ++ arrivals sc station next_old frames
  pub next : next_new ≡ next_links_all sc next_old frames
  pub handed : List AckItem
  pub lost : List AckItem
  pub took : heard_new ≡ heard_old ++ (handed ++ lost)
  pub answered : new.answered ≡ old.answered ++ map frame_for handed
  pub few : length lost ≤ 1
  pub kept : fault ≢ Some Memory → lost ≡ []
  pub ended : at_end ≡ true → new.ended × (held ≡ None) × (fault ≡ None)
  pub unexpected : fault ≡ Some Unexpected → (front : List Frame) × (f : Frame) × (frames ≡ front ++ f ∷ []) × IsUnexpected f
  pub expected : AreExpected fault (frames ++ held_list held)
  pub cause : SourceCounted old.failures new.failures fault

-- nothing has ended the station at this post
abbrev pub IsFresh : Post → Type 0
IsFresh p = (p.held ≡ None) × (p.ended ≡ false) × (p.fault ≡ None)

-- the station at a place has a post that was made for it
pub record IsPostedAt {S : Type 0} (inbox : Inbox) (lines : List AckLine) (k : ℕ) (t : Station S) : Type 0 where
  pub place : k < length lines
  pub post : Post
  pub is : t.post ≡ Some post
  pub pass : IsStationOf inbox post.pass
  pub hear : (l : AckLine) → IsHearOf (slice_index_or lines k l) post.hear
  pub held : post.held ≡ None
  pub ended : post.ended ≡ false
  pub fault : post.fault ≡ None

pub record ArePosted {S : Type 0} (inbox : Inbox) (lines : List AckLine) (stations : List (Station S)) : Type 0 where
  pub each : (k : ℕ) (d : Station S) → k < length stations → IsPostedAt inbox lines k (slice_index_or stations k d)

-- the station's thread has run
pub record HasRunStation {S : Type 0} (sc : SchemeValue) (talks : S → Talk) (inbox : Inbox) (lines : List AckLine) (k : ℕ) (old new : Station S) : Type 0 where
  pub post_old : Post
  pub post_new : Post
  pub is_old : old.post ≡ Some post_old
  pub is_new : new.post ≡ Some post_new
  pub pass : IsStationOf inbox post_new.pass
  pub hear : (l : AckLine) → IsHearOf (slice_index_or lines k l) post_new.hear
  pub named : station_of post_new.pass ≡ station_of post_old.pass
  pub station : new.collector.station ≡ old.collector.station
  pub read : HasRead sc (station_of post_old.pass) (talks old.source) (talks new.source) (next_in old.collector) (next_in new.collector) (sent_list post_old.pass) (sent_list post_new.pass) (heard_list post_old.hear) (heard_list post_new.hear) post_new.held post_new.ended post_new.fault

pub record HaveRun {S : Type 0} (sc : SchemeValue) (talks : S → Talk) (inbox : Inbox) (lines : List AckLine) (old new : List (Station S)) : Type 0 where
  pub each : (k : ℕ) (d : Station S) → k < length old → HasRunStation sc talks inbox lines k (slice_index_or old k d) (slice_index_or new k d)
