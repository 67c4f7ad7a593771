-- Items that the writer stored, with what it told the lines of their stations, in the words of the outbox, of the inbox and of the acknowledgement lines.
use Rattle.std.specs.Prelude.{◌≡◌, ◌⊎◌, ℕ, ◌+◌, Bool, true, List, [], ◌∷◌, ◌++◌, Option, None, Some, Err, if◌then◌else◌}
use Rattle.std.specs.List.{AllByRecursion}
use Rattle.fare_record.specs.declared.item.Item.{Item}
use Rattle.fare_record.specs.declared.item.Item.TheVariants as item
use Rattle.fare_scheme.specs.Values.{SchemeValue}
use Rattle.fare_scheme.specs.Words.{position_of_station}
use Rattle.fare_collector.specs.Collecting.{is_id}
use Rattle.fare_store.specs.OutboxWords.{OutboxValue, store_judged, stated_judged}
use Rattle.fare_store.specs.declared.fault.StoreFault.TheVariants as store
use Rattle.fare_store.specs.declared.fault.StatedFault.TheVariants as stated
use Rattle.fare_route.specs.Stating.{are_all_stated}
use Rattle.fare_history.specs.Gathering as history
use Rattle.fare_history.specs.Serving as serving
use Rattle.fare_inbox_queue.specs.Inbox.{station_in}
use Rattle.fare_inbox_queue.specs.Line.{device_in}
use Rattle.fare_inbox_queue.specs.declared.arrived.Arrived.{Arrived}
use Rattle.fare_inbox_queue.specs.declared.arrived.Arrived.TheVariants.{Tap, Stated}
use Rattle.fare_record.specs.declared.ack_item.AckItem.{AckItem}
use Rattle.fare_record.specs.declared.ack_item.AckItem.TheVariants.{Upto, Day}

-- ITEMS
-- what arrived, without the name of its station
abbrev pub item_of : Arrived → Item
item_of (Tap station r) = item.Tap r
item_of (Stated station s) = item.Stated s

abbrev pub device_of : Arrived → ℕ
device_of a = serving.device_of (item_of a)

-- THE OUTBOX
-- the outbox stores it
abbrev pub is_new : OutboxValue → Arrived → Bool
is_new x a = history.is_new x (item_of a)

abbrev pub done_by : Arrived → OutboxValue → OutboxValue
done_by a x = history.done_by (item_of a) x

-- it was stored before
abbrev pub IsRepeated : OutboxValue → Arrived → Type 0
IsRepeated x a = history.IsRepeated x (item_of a)

-- the outbox refuses it: an earlier link comes first, another row or count is held, or the outbox is full
abbrev pub IsRefused : OutboxValue → Arrived → Type 0
IsRefused x (Tap station r) = (store_judged x r ≡ Err store.Gap) ⊎ ((store_judged x r ≡ Err store.Conflict) ⊎ (store_judged x r ≡ Err store.OutboxFull))
IsRefused x (Stated station s) = (stated_judged x s ≡ Err stated.Conflict) ⊎ (stated_judged x s ≡ Err stated.OutboxFull)

-- an outbox with one item more; one that was stored before changes nothing
abbrev pub storing : OutboxValue → Arrived → OutboxValue
storing x a = history.storing x (item_of a)

-- ANSWERS
-- an acknowledged number is the outbox's greatest link, and an acknowledged day has the statements of all owners
abbrev pub IsAnswerFrom : SchemeValue → OutboxValue → AckItem → Type 0
IsAnswerFrom sc x (Upto a) = a.upto ≡ x.upto a.device
IsAnswerFrom sc x (Day a) = are_all_stated sc x a.device a.day ≡ true

-- it is such an answer, to this device
pub record IsAnswerTo (sc : SchemeValue) (x : OutboxValue) (device : ℕ) (answer : AckItem) : Type 0 where
  pub to : device_in answer ≡ device
  pub from : IsAnswerFrom sc x answer

-- ITEMS ONE AFTER THE OTHER
-- an item that the writer took and stored, or found stored, with the acknowledgements that the line of its station took then
pub record Entry : Type 0 where
  pub item : Arrived
  pub answers : List AckItem

abbrev pub items_of : List Entry → List Arrived
items_of [] = []
items_of (e ∷ es) = e.item ∷ items_of es

abbrev pub storing_all : OutboxValue → List Entry → OutboxValue
storing_all x [] = x
storing_all x (e ∷ es) = storing_all (storing x e.item) es

-- each item was stored, or had been before, and what was acknowledged with it is what the outbox had then
pub record IsEntry (sc : SchemeValue) (x : OutboxValue) (e : Entry) : Type 0 where
  pub handled : (is_new x e.item ≡ true) ⊎ IsRepeated x e.item
  pub answers : AllByRecursion (IsAnswerTo sc (storing x e.item) (device_of e.item)) e.answers

abbrev pub AreEntries : SchemeValue → OutboxValue → List Entry → Type 0
AreEntries sc x [] = Unit {0}
AreEntries sc x (e ∷ es) = IsEntry sc x e × AreEntries sc (storing x e.item) es

-- how many of them were new
abbrev pub new_count : OutboxValue → List Entry → ℕ
new_count x [] = 0
new_count x (e ∷ es) = (if is_new x e.item then 1 else 0) + new_count (storing x e.item) es

abbrev pub in_hand : Option Arrived → List Arrived
in_hand None = []
in_hand (Some a) = a ∷ []

-- what the line at a place was told: the answers of the items of its station, in their order
abbrev pub told_of : SchemeValue → ℕ → Entry → List AckItem
told_of sc place e = if is_id (position_of_station sc (station_in e.item)) place then e.answers else []

abbrev pub told_to : SchemeValue → ℕ → List Entry → List AckItem
told_to sc place [] = []
told_to sc place (e ∷ es) = told_of sc place e ++ told_to sc place es
