-- How the passes of a session are made, and the stations posted with them and relieved of them.
use Rattle.std.specs.Prelude.{◌≡◌, ℕ, ◌<◌, ◌≤◌, false, List, [], length, slice_index_or, Some, None}
use Rattle.fare_inbox_queue.specs.declared.ack_line.AckLine.{AckLine}
use Rattle.fare_inbox_queue.specs.declared.ack_passes.HearPass.{HearPass}
use Rattle.fare_inbox_queue.specs.declared.inbox_passes.StationPass.{StationPass}
use Rattle.fare_inbox_queue.specs.LinePasses.{put_list, heard_list, IsAckOf, IsHearOf}
use Rattle.fare_collect.specs.declared.station.Station.{Station}
use Rattle.fare_collect.specs.declared.station.Post.{Post}
use Rattle.fare_writer.specs.declared.teller.Teller.{Teller}

-- each has the station's pass of the line at its place
pub record AreHears (lines : List AckLine) (hears : List HearPass) : Type 0 where
  pub len : length hears ≡ length lines
  pub each : (k : ℕ) (l : AckLine) (d : HearPass) → k < length hears → IsHearOf (slice_index_or lines k l) (slice_index_or hears k d)

-- so many new lines, of which nothing was put or taken
pub record AreNew (n : ℕ) (lines : List AckLine) (tellers : List Teller) (hears : List HearPass) : Type 0 where
  pub lines_len : length lines ≡ n
  pub tellers_len : length tellers ≡ n
  pub hears_len : length hears ≡ n
  pub acks : (k : ℕ) (l : AckLine) (d : Teller) → k < n → IsAckOf (slice_index_or lines k l) (slice_index_or tellers k d).pass
  pub hear : (k : ℕ) (l : AckLine) (d : HearPass) → k < n → IsHearOf (slice_index_or lines k l) (slice_index_or hears k d)
  pub put : (k : ℕ) (d : Teller) → k < n → put_list (slice_index_or tellers k d).pass ≡ []
  pub heard : (k : ℕ) (d : HearPass) → k < n → heard_list (slice_index_or hears k d) ≡ []

-- a station with a new post
abbrev pub posted : {S : Type 0} → Station S → StationPass → HearPass → Station S
posted t p h = record t { post = Some (record { pass = p; hear = h; held = None; ended = false; fault = None }) }

-- each station has the post of its place, and its own things
pub record WerePosted {S : Type 0} (passes : List StationPass) (hears : List HearPass) (old new : List (Station S)) : Type 0 where
  pub len : length new ≡ length old
  pub each : (k : ℕ) (d : Station S) (p : StationPass) (h : HearPass) → k < length old → slice_index_or new k d ≡ posted (slice_index_or old k d) (slice_index_or passes k p) (slice_index_or hears k h)

-- on the way there: the stations from some place on have theirs
pub record ArePosting {S : Type 0} (passes passes_left : List StationPass) (hears hears_left : List HearPass) (old new : List (Station S)) : Type 0 where
  pub whole : length passes ≡ length old
  pub hears_whole : length hears ≡ length old
  pub few : length passes_left ≤ length passes
  pub even : length hears_left ≡ length passes_left
  pub same : (k : ℕ) (p : StationPass) → k < length passes_left → slice_index_or passes_left k p ≡ slice_index_or passes k p
  pub hears_same : (k : ℕ) (h : HearPass) → k < length passes_left → slice_index_or hears_left k h ≡ slice_index_or hears k h
  pub len : length new ≡ length old
  pub todo : (k : ℕ) (d : Station S) → k < length passes_left → slice_index_or new k d ≡ slice_index_or old k d
  pub done : (k : ℕ) (d : Station S) (p : StationPass) (h : HearPass) → length passes_left ≤ k → k < length old → slice_index_or new k d ≡ posted (slice_index_or old k d) (slice_index_or passes k p) (slice_index_or hears k h)

-- the station was relieved of its post, which came back as this
pub record IsRelieved {S : Type 0} (old : Station S) (p : StationPass) (h : HearPass) (new : Station S) : Type 0 where
  pub post : Post
  pub is : old.post ≡ Some post
  pub pass : p ≡ post.pass
  pub hear : h ≡ post.hear
  pub station : new ≡ record old { post = None; end = record { held = post.held; ended = post.ended; fault = post.fault } }

pub record AreRelieved {S : Type 0} (old : List (Station S)) (passes : List StationPass) (hears : List HearPass) (new : List (Station S)) : Type 0 where
  pub len : length new ≡ length old
  pub passes_len : length passes ≡ length old
  pub hears_len : length hears ≡ length old
  pub each : (k : ℕ) (d : Station S) (p : StationPass) (h : HearPass) → k < length old → IsRelieved (slice_index_or old k d) (slice_index_or passes k p) (slice_index_or hears k h) (slice_index_or new k d)

-- on the way there: those up to some place are relieved
pub record AreRelieving {S : Type 0} (n : ℕ) (old : List (Station S)) (passes : List StationPass) (hears : List HearPass) (new : List (Station S)) : Type 0 where
  pub len : length new ≡ length old
  pub passes_len : length passes ≡ n
  pub hears_len : length hears ≡ n
  pub todo : (k : ℕ) (d : Station S) → n ≤ k → slice_index_or new k d ≡ slice_index_or old k d
  pub done : (k : ℕ) (d : Station S) (p : StationPass) (h : HearPass) → k < n → IsRelieved (slice_index_or old k d) (slice_index_or passes k p) (slice_index_or hears k h) (slice_index_or new k d)

pub record HavePosts {S : Type 0} (stations : List (Station S)) : Type 0 where
  pub each : (k : ℕ) (d : Station S) → k < length stations → (s : Post) × ((slice_index_or stations k d).post ≡ Some s)
