-- What contracts see of the inbox, of its passes and of its end.
use Rattle.std.specs.Prelude.{◌≡◌, ℕ, ◌^◌, ◌-◌, min, true, List, [], length, drop}
use Rattle.std.specs.Map.{keys_of}
use Rattle.crossbeam_queue.specs.Passes.{view, IsPassOf, ruled_capacity}
use Rattle.crossbeam_queue.specs.Fifo.{Held}
use Rattle.fare_inbox_queue.specs.Inbox.{of_station, sent_by, Stands, IsLeft}
use Rattle.fare_inbox_queue.specs.declared.arrived.Arrived.{Arrived}
use Rattle.fare_inbox_queue.specs.declared.inbox_rule.View.{View}
use Rattle.fare_inbox_queue.specs.declared.inbox.Inbox.{Inbox}
use Rattle.fare_inbox_queue.specs.declared.inbox_passes.StationPass.{StationPass}
use Rattle.fare_inbox_queue.specs.declared.inbox_passes.WriterPass.{WriterPass}
use Rattle.fare_inbox_queue.specs.declared.inbox_ended.InboxEnded.{InboxEnded}

-- how many items the inbox holds at most
abbrev pub capacity_of : Inbox → ℕ
capacity_of q = ruled_capacity q.queue

-- the station that the pass is for
abbrev pub station_of : StationPass → ℕ
station_of p = p.station

-- what was put with the pass, in order
abbrev pub sent_list : StationPass → List Arrived
sent_list p = (view p.pass).sent

-- what was taken with the pass, in order
abbrev pub taken_list : WriterPass → List Arrived
taken_list p = (view p.pass).taken

-- the stations that got passes, in their order
abbrev pub stations_of : WriterPass → List ℕ
stations_of p = (view p.pass).seated

-- the greatest number that a counter reaches
abbrev pub counted : List Arrived → ℕ
counted items = min (length items) (2 ^ 64 - 1)

-- it is a pass that `new` gave with the inbox for a station
pub record IsStationOf (q : Inbox) (p : StationPass) : Type 0 where
  pub pass : IsPassOf q.queue p.pass
  pub puts : (view p.pass).puts ≡ true
  pub named : (view p.pass).station ≡ p.station

-- it is the pass that `new` gave with the inbox for the writer
pub record IsWriterOf (q : Inbox) (p : WriterPass) : Type 0 where
  pub pass : IsPassOf q.queue p.pass
  pub takes : (view p.pass).takes ≡ true
  pub going : (view p.pass).ended ≡ []
  pub count : p.count ≡ counted (taken_list p)

-- at one moment of the call the inbox was full, while this pass stood as it does now
abbrev pub WasFull : Inbox → StationPass → Type 0
WasFull q p = Held (capacity_of q) (Stands (view p.pass))

-- at one moment of the call the inbox was empty, while this pass stood as it does now
abbrev pub WasEmpty : WriterPass → Type 0
WasEmpty p = Held 0 (Stands (view p.pass))

-- each pass's station, with what was put with it
abbrev pub sent_with : StationPass → ℕ × List Arrived
sent_with p = (p.station, (view p.pass).sent)

-- what a station put and was not taken, from the front
abbrev pub left_in : View → ℕ → List Arrived
left_in v station = drop (length (of_station station v.taken)) (sent_by v.ended station)

abbrev pub left_of : InboxEnded → ℕ → List Arrived
left_of e station = left_in (view e.pass) station

-- so many items are left: some list of so many has just the parts that are left of the stations
abbrev pub HaveLeft : InboxEnded → ℕ → Type 0
HaveLeft e count = (items : List Arrived) × (length items ≡ count) × ((station : ℕ) → of_station station items ≡ left_of e station)

-- all passes are in the ended inbox, and what it holds is what is left
pub record IsInboxEnded (e : InboxEnded) : Type 0 where
  pub pass : IsPassOf e.queue.queue e.pass
  pub takes : (view e.pass).takes ≡ true
  pub all : keys_of (view e.pass).ended ≡ (view e.pass).seated
  pub holds : (items : List Arrived) × (length items ≡ e.left) × IsLeft (view e.pass) items
