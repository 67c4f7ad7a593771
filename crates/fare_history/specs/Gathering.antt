-- What a session of the stations and the writer does: each station puts the frames that it accepts into the inbox, and the writer takes them from there, stores them in the outbox and acknowledges what the outbox has had.
use Rattle.std.specs.Prelude.{◌≡◌, ◌⊎◌, ℕ, ◌+◌, ◌≤◌, ◌==◌, true, List, [], ◌∷◌, ◌++◌, length, filter, take, drop, zero, suc, Option, None, Some, is_some, is_ok, Bool, if◌then◌else◌, Err}
use Rattle.std.specs.List.{AllByRecursion, list_all}
use Rattle.fare_record.specs.declared.ack_item.AckItem.{AckItem}
use Rattle.fare_record.specs.declared.ack_item.AckItem.TheVariants as ack_item
use Rattle.fare_record.specs.declared.item.Item.{Item}
use Rattle.fare_record.specs.declared.item.Item.TheVariants as item
use Rattle.fare_scheme.specs.Values.{SchemeValue}
use Rattle.fare_scheme.specs.Words.{station_of}
use Rattle.fare_collector.specs.Collecting.{is_id}
use Rattle.fare_store.specs.declared.fault.StoreFault.TheVariants as store
use Rattle.fare_store.specs.declared.fault.StatedFault.TheVariants as stated
use Rattle.fare_store.specs.OutboxWords.{OutboxValue, stored, stored_statement, store_judged, stated_judged}
use Rattle.fare_history.specs.Serving.{device_of, in_hand, tried_in}

-- LINKS
-- the links with that of the item before them, where it is a tap of the device
abbrev pub with_link : ℕ → Item → List ℕ → List ℕ
with_link device (item.Tap r) links = if r.device == device then r.link ∷ links else links
with_link device (item.Stated v) links = links

-- the links of the device's taps among these items, in their order
abbrev pub links_of : ℕ → List Item → List ℕ
links_of device [] = []
links_of device (i ∷ is) = with_link device i (links_of device is)

-- the numbers are the first one, the one after it, and so on
abbrev pub CountsFrom : ℕ → List ℕ → Type 0
CountsFrom first [] = Unit {0}
CountsFrom first (n ∷ ns) = (n ≡ first) × CountsFrom (first + 1) ns

-- the items of the devices of a station, in their order
abbrev pub of_station : SchemeValue → ℕ → List Item → List Item
of_station sc station is = filter (λ i. is_id (station_of sc (device_of i)) station) is

-- THE OUTBOX
-- the outbox stores the item: it refuses it by no name
abbrev pub is_new : OutboxValue → Item → Bool
is_new x (item.Tap r) = is_ok (store_judged x r)
is_new x (item.Stated v) = is_ok (stated_judged x v)

-- the outbox with the item stored
abbrev pub done_by : Item → OutboxValue → OutboxValue
done_by (item.Tap r) x = stored r x
done_by (item.Stated v) x = stored_statement v x

-- the outbox had stored the item before: it refuses it as a duplicate
abbrev pub IsRepeated : OutboxValue → Item → Type 0
IsRepeated x (item.Tap r) = store_judged x r ≡ Err store.Duplicate
IsRepeated x (item.Stated v) = stated_judged x v ≡ Err stated.Duplicate

-- the outbox after it was asked to store the item, which changes nothing where it is refused
abbrev pub storing : OutboxValue → Item → OutboxValue
storing x i = if is_new x i then done_by i x else x

-- the outbox stores the item, or had stored it before
abbrev pub IsHandled : OutboxValue → Item → Type 0
IsHandled x i = (is_new x i ≡ true) ⊎ IsRepeated x i

-- ANSWERS
-- the device that is told
abbrev pub device_answered : AckItem → ℕ
device_answered (ack_item.Upto a) = a.device
device_answered (ack_item.Day a) = a.device

-- The acknowledgement is true of this outbox: it goes to a registered device, and its number is the greatest link that the outbox has had of the device, or the outbox holds the device's statements of its day for all owners.
abbrev pub IsAnswerFrom : SchemeValue → OutboxValue → AckItem → Type 0
IsAnswerFrom sc x (ack_item.Upto a) = (is_some (station_of sc a.device) ≡ true) × (a.upto ≡ x.upto a.device)
IsAnswerFrom sc x (ack_item.Day a) = (is_some (station_of sc a.device) ≡ true) × (list_all (λ o. is_some (x.stated o.0 a.device a.day)) sc.owners ≡ true)

-- the acknowledgements to the devices of a station, in their order
abbrev pub answers_to : SchemeValue → ℕ → List AckItem → List AckItem
answers_to sc station answers = filter (λ a. is_id (station_of sc (device_answered a)) station) answers

-- A SESSION
-- What the writer took and handled, and the acknowledgements that it then put into the line of the item's station.
pub record Entry : Type 0 where
  pub item : Item
  pub answers : List AckItem

-- What a session did: what the writer took and handled, in order; at the end the item in its hand, which it drew and did not handle, and those still in the inbox, the stations in any order; and the acknowledgements that were sent last.
pub record Gathering : Type 0 where
  pub entries : List Entry
  pub hand : Option Item
  pub inbox : List Item
  pub last : List AckItem

-- the items that these entries handled, in order
abbrev pub items_of : List Entry → List Item
items_of [] = []
items_of (e ∷ es) = e.item ∷ items_of es

-- the acknowledgements that they put, in order
abbrev pub answers_of : List Entry → List AckItem
answers_of [] = []
answers_of (e ∷ es) = e.answers ++ answers_of es

-- all acknowledgements of a session, in order
abbrev pub all_answers : Gathering → List AckItem
all_answers g = answers_of g.entries ++ g.last

-- what the stations accepted and put into the inbox: what was handled, and then what is left
abbrev pub accepted_by : Gathering → List Item
accepted_by g = items_of g.entries ++ (in_hand g.hand ++ g.inbox)

-- the outbox after it was asked to store the items of these entries, one after the other
abbrev pub storing_all : OutboxValue → List Entry → OutboxValue
storing_all x [] = x
storing_all x (e ∷ es) = storing_all (storing x e.item) es

-- each entry's item is stored, or was before, and each of its acknowledgements is true of the outbox right behind it
abbrev pub AreStored : SchemeValue → OutboxValue → List Entry → Type 0
AreStored sc x [] = Unit {0}
AreStored sc x (e ∷ es) = IsHandled x e.item × AllByRecursion (IsAnswerFrom sc (storing x e.item)) e.answers × AreStored sc (storing x e.item) es

-- A value tells of a session that began with this outbox: the links that were accepted of each device follow the outbox's one by one, each item that was handled is stored or was before, each acknowledgement is true of the outbox at its moment, and no more are left in the inbox than it may hold.
pub record IsGathering (sc : SchemeValue) (x : OutboxValue) (g : Gathering) : Type 0 where
  pub counted : (device : ℕ) → CountsFrom (x.upto device + 1) (links_of device (accepted_by g))
  pub stored : AreStored sc x g.entries
  pub room : length g.inbox ≤ sc.inbox_capacity
  pub last : AllByRecursion (IsAnswerFrom sc (storing_all x g.entries)) g.last

-- the entry of an item that was stored and not acknowledged, if there is one
abbrev pub stored_hand : Option Item → List Entry
stored_hand None = []
stored_hand (Some i) = record { item = i; answers = [] } ∷ []

-- the session that stored the item in this one's hand, too
abbrev pub hand_stored : Gathering → Gathering
hand_stored g = record g { entries = g.entries ++ stored_hand g.hand; hand = None }

-- A FIRST PART OF WHAT IS LEFT
-- what a call of the outbox that failed may have had before it
abbrev pub tried_by : Gathering → List Item
tried_by g = tried_in g.hand g.inbox

-- the outbox stores each of these, behind the ones before it
abbrev pub AreNew : OutboxValue → List Item → Type 0
AreNew x [] = Unit {0}
AreNew x (i ∷ is) = (is_new x i ≡ true) × AreNew (storing x i) is

-- the entries of items that were stored and not acknowledged
abbrev pub unanswered : List Item → List Entry
unanswered [] = []
unanswered (i ∷ is) = record { item = i; answers = [] } ∷ unanswered is

-- the outbox y is x with the first of these items, each of which it stores, behind the ones before it
pub record HasFirst (x : OutboxValue) (is : List Item) (y : OutboxValue) : Type 0 where
  pub count : ℕ
  pub new : AreNew x (take count is)
  pub value : y ≡ storing_all x (unanswered (take count is))

-- the session that stored also the first n of what this one tried
abbrev pub stored_behind : ℕ → Option Item → Gathering → Gathering
stored_behind n None g = g
stored_behind zero (Some i) g = g
stored_behind (suc n) (Some i) g = record { entries = g.entries ++ unanswered (i ∷ take n g.inbox); hand = None; inbox = drop n g.inbox; last = g.last }

abbrev pub first_stored : ℕ → Gathering → Gathering
first_stored n g = stored_behind n g.hand g

-- NO REFUSAL
-- The outbox has a place for the item: the tap has its device's next link, and no row of its lane stands at its lane number or behind it; or no other count is held for the statement.
abbrev pub IsFree : OutboxValue → Item → Type 0
IsFree x (item.Tap r) = (r.link ≡ x.upto r.device + 1) × ((lane : ℕ) → r.lane ≤ lane → x.rows r.owner r.device lane ≡ None)
IsFree x (item.Stated v) = (x.stated v.owner v.device v.day ≡ None) ⊎ (x.stated v.owner v.device v.day ≡ Some v.count)

-- it has one for each of these, which it stores one after the other
abbrev pub AreFree : OutboxValue → List Entry → Type 0
AreFree x [] = Unit {0}
AreFree x (e ∷ es) = IsFree x e.item × AreFree (storing x e.item) es
