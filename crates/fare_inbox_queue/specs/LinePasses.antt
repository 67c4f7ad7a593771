-- What contracts see of an acknowledgement line, of its passes and of its end.
use Rattle.std.specs.Prelude.{◌≡◌, ℕ, ◌^◌, ◌-◌, min, true, List, ◌++◌, length, drop, map}
use Rattle.crossbeam_queue.specs.Passes.{view, IsPassOf, ruled_capacity}
use Rattle.crossbeam_queue.specs.Fifo.{Held}
use Rattle.fare_inbox_queue.specs.Line.{stored_in, Stands}
use Rattle.fare_record.specs.declared.ack_item.AckItem.{AckItem}
use Rattle.fare_inbox_queue.specs.declared.ack_rule.Told.{Told}
use Rattle.fare_inbox_queue.specs.declared.ack_rule.View.{View}
use Rattle.fare_inbox_queue.specs.declared.ack_line.AckLine.{AckLine}
use Rattle.fare_inbox_queue.specs.declared.ack_passes.AckPass.{AckPass}
use Rattle.fare_inbox_queue.specs.declared.ack_passes.HearPass.{HearPass}
use Rattle.fare_inbox_queue.specs.declared.ack_ended.AckLineEnded.{AckLineEnded}

-- how many items the line holds at most
abbrev pub line_capacity : AckLine → ℕ
line_capacity q = ruled_capacity q.queue

-- the items, without what was stored when they were put
abbrev pub items_of : List Told → List AckItem
items_of told = map (λ (t : Told). t.item) told

-- what was put with the pass, in order
abbrev pub put_list : AckPass → List AckItem
put_list p = items_of (view p.pass).sent

-- what the pass shows as stored for a device: the greatest number that was handed in with an item that was put
abbrev pub stored_of : AckPass → ℕ → ℕ
stored_of p device = stored_in (view p.pass).sent device

-- what was taken with the pass, in order
abbrev pub heard_list : HearPass → List AckItem
heard_list p = items_of (view p.pass).taken

-- the greatest number that a counter reaches
abbrev pub heard_count : HearPass → ℕ
heard_count p = min (length (view p.pass).taken) (2 ^ 64 - 1)

-- it is the pass that `new` gave with the line for the writer
pub record IsAckOf (q : AckLine) (p : AckPass) : Type 0 where
  pub pass : IsPassOf q.queue p.pass
  pub puts : (view p.pass).puts ≡ true

-- it is the pass that `new` gave with the line for the station
pub record IsHearOf (q : AckLine) (p : HearPass) : Type 0 where
  pub pass : IsPassOf q.queue p.pass
  pub takes : (view p.pass).takes ≡ true
  pub count : p.count ≡ heard_count p

-- at one moment of the call the line was full, while this pass stood as it does now
abbrev pub LineWasFull : AckLine → AckPass → Type 0
LineWasFull q p = Held (line_capacity q) (Stands (view p.pass))

-- at one moment of the call the line was empty, while this pass stood as it does now
abbrev pub LineWasEmpty : HearPass → Type 0
LineWasEmpty p = Held 0 (Stands (view p.pass))

-- what was put and not taken, from the front
abbrev pub told_left : View → List Told
told_left v = drop (length v.taken) v.sent

abbrev pub unheard_list : AckLineEnded → List AckItem
unheard_list e = items_of (told_left (view e.pass))

-- both passes are in the ended line, and what it holds is what is left
pub record IsLineEnded (e : AckLineEnded) : Type 0 where
  pub pass : IsPassOf e.queue.queue e.pass
  pub puts : (view e.pass).puts ≡ true
  pub takes : (view e.pass).takes ≡ true
  pub kept : (view e.pass).sent ≡ (view e.pass).taken ++ told_left (view e.pass)
  pub left : e.left ≡ length (unheard_list e)
