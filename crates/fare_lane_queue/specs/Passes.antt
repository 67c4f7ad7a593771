-- What contracts see of the queue, of its passes and of its end.
use Rattle.std.specs.Prelude.{◌≡◌, ℕ, ◌^◌, ◌-◌, min, true, List, ◌++◌, length, drop}
use Rattle.crossbeam_queue.specs.Passes.{view, IsPassOf, ruled_capacity}
use Rattle.crossbeam_queue.specs.Fifo.{Held}
use Rattle.fare_record.specs.declared.item.Item.{Item}
use Rattle.fare_lane_queue.specs.Lane.{Stands}
use Rattle.fare_lane_queue.specs.declared.queue.LaneQueue.{LaneQueue}
use Rattle.fare_lane_queue.specs.declared.passes.ForwardPass.{ForwardPass}
use Rattle.fare_lane_queue.specs.declared.passes.OwnerPass.{OwnerPass}
use Rattle.fare_lane_queue.specs.declared.ended.Ended.{Ended}

-- how many items the queue holds at most
abbrev pub capacity_of : LaneQueue → ℕ
capacity_of q = ruled_capacity q.queue

-- what was put with the pass, in order
abbrev pub sent_list : ForwardPass → List Item
sent_list p = (view p.pass).sent

-- what was taken with the pass, in order
abbrev pub taken_list : OwnerPass → List Item
taken_list p = (view p.pass).taken

-- the bases of the queue's lanes, by device
abbrev pub forward_bases : ForwardPass → List (ℕ × ℕ)
forward_bases p = (view p.pass).bases

abbrev pub owner_bases : OwnerPass → List (ℕ × ℕ)
owner_bases p = (view p.pass).bases

-- the greatest number that a counter reaches
abbrev pub counted : List Item → ℕ
counted items = min (length items) (2 ^ 64 - 1)

-- it is the pass that `new` gave with the queue for the forwarder
pub record IsForwardOf (q : LaneQueue) (p : ForwardPass) : Type 0 where
  pub pass : IsPassOf q.queue p.pass
  pub puts : (view p.pass).puts ≡ true

-- it is the pass that `new` gave with the queue for the owner
pub record IsOwnerOf (q : LaneQueue) (p : OwnerPass) : Type 0 where
  pub pass : IsPassOf q.queue p.pass
  pub takes : (view p.pass).takes ≡ true
  pub count : p.count ≡ counted (taken_list p)

-- at one moment of the call the queue was full, while this pass stood as it does now
abbrev pub WasFull : LaneQueue → ForwardPass → Type 0
WasFull q p = Held (capacity_of q) (Stands (view p.pass))

-- at one moment of the call the queue was empty, while this pass stood as it does now
abbrev pub WasEmpty : OwnerPass → Type 0
WasEmpty p = Held 0 (Stands (view p.pass))

-- what was put and not taken, from the front
abbrev pub left_list : Ended → List Item
left_list e = drop (length (view e.pass).taken) (view e.pass).sent

-- both passes are in the ended queue, and what it holds is what is left
pub record IsEnded (e : Ended) : Type 0 where
  pub pass : IsPassOf e.queue.queue e.pass
  pub puts : (view e.pass).puts ≡ true
  pub takes : (view e.pass).takes ≡ true
  pub kept : (view e.pass).sent ≡ (view e.pass).taken ++ left_list e
  pub left : e.left ≡ length (left_list e)
