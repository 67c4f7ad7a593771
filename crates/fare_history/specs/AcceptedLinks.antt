-- Accepted links: which taps of a device, among the frames that its station is given, come next, link after link.
use Rattle.std.specs.Prelude.{◌≡◌, ℕ, ◌+◌, List, [], ◌∷◌, ◌++◌, Option, Some, Result, Ok, Err}
use Rattle.std.specs.List.{AllByRecursion}
use Rattle.fare_record.specs.Values.{RecordValue, StatementValue}
use Rattle.fare_record.specs.declared.item.Item.{Item}
use Rattle.fare_record.specs.declared.item.Item.TheVariants as item
use Rattle.fare_frame.specs.declared.frame.Frame.{Frame}
use Rattle.fare_frame.specs.declared.frame.Frame.TheVariants.{Tapped, Stated}
use Rattle.fare_scheme.specs.Values.{SchemeValue}
use Rattle.fare_scheme.specs.Words.{owner_of, position_of_owner}
use Rattle.fare_collector.specs.Collecting.{is_owned, collect_judged, statement_judged, changed}
use Rattle.fare_collector.specs.declared.fault.CollectRefusal.{CollectRefusal}
use Rattle.fare_collector.specs.declared.fault.StatementRefusal.{StatementRefusal}

-- FIRST AFTER FIRST
-- a tap of the device with this link, whose owner is the owner of its product
pub record IsLink (sc : SchemeValue) (device link : ℕ) (r : RecordValue) : Type 0 where
  pub of_device : r.device ≡ device
  pub is : r.link ≡ link
  pub owned : owner_of sc r.tap.product ≡ Some r.owner

-- the frame is no such tap
abbrev pub IsNotLink : SchemeValue → ℕ → ℕ → Frame → Type 0
IsNotLink sc device link (Tapped r) = IsLink sc device link r → ⊥
IsNotLink sc device link _ = Unit {0}

-- the record is the first such tap of the frames, and behind it stand the others
pub record IsFirstLink (sc : SchemeValue) (device link : ℕ) (frames : List Frame) (r : RecordValue) (behind : List Frame) : Type 0 where
  pub before : List Frame
  pub stands : frames ≡ before ++ Tapped r ∷ behind
  pub is : IsLink sc device link r
  pub first : AllByRecursion (IsNotLink sc device link) before

-- the accepted links of a device behind a number: the first tap with the next link, then behind it the first with the link after that, and so on until none follows
abbrev pub AreAcceptedLinks : SchemeValue → ℕ → ℕ → List Frame → List RecordValue → Type 0
AreAcceptedLinks sc device upto frames [] = AllByRecursion (IsNotLink sc device (upto + 1)) frames
AreAcceptedLinks sc device upto frames (r ∷ rs) = (behind : List Frame) × IsFirstLink sc device (upto + 1) frames r behind × AreAcceptedLinks sc device (upto + 1) behind rs

-- A COLLECTOR, FRAME BY FRAME
-- how a collector judges a tap, by the links that it accepts next
abbrev pub tap_judged : SchemeValue → (ℕ → Option ℕ) → RecordValue → Result Unit CollectRefusal
tap_judged sc next r = collect_judged (next r.device) (is_owned sc r) r.link

-- and how it judges a statement
abbrev pub stating_judged : SchemeValue → (ℕ → Option ℕ) → StatementValue → Result Unit StatementRefusal
stating_judged sc next v = statement_judged (next v.device) (position_of_owner sc v.owner)

abbrev pub arrived_if : {E : Type 0} → Result Unit E → Item → List Item
arrived_if (Ok _) i = i ∷ []
arrived_if (Err _) i = []

-- the item that it accepts of a frame, if it accepts it
abbrev pub arrived_of : SchemeValue → (ℕ → Option ℕ) → Frame → List Item
arrived_of sc next (Tapped r) = arrived_if (tap_judged sc next r) (item.Tap r)
arrived_of sc next (Stated v) = arrived_if (stating_judged sc next v) (item.Stated v)
arrived_of sc next _ = []

abbrev pub moved_if : {E : Type 0} → Result Unit E → (ℕ → Option ℕ) → ℕ → ℕ → Option ℕ
moved_if (Ok _) next device = changed (λ n. n + 1) next device
moved_if (Err _) next device = next

-- the links that it accepts next after a frame
abbrev pub next_links : SchemeValue → (ℕ → Option ℕ) → Frame → ℕ → Option ℕ
next_links sc next (Tapped r) = moved_if (tap_judged sc next r) next r.device
next_links sc next _ = next

-- what it accepts of frames one after the other, in their order
abbrev pub arrivals : SchemeValue → (ℕ → Option ℕ) → List Frame → List Item
arrivals sc next [] = []
arrivals sc next (f ∷ fs) = arrived_of sc next f ++ arrivals sc (next_links sc next f) fs

-- the links that it accepts next after all of them
abbrev pub next_links_all : SchemeValue → (ℕ → Option ℕ) → List Frame → ℕ → Option ℕ
next_links_all sc next [] = next
next_links_all sc next (f ∷ fs) = next_links_all sc (next_links sc next f) fs
