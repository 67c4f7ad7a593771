-- What a session did to the stores, in sentences that speak of what they held before and of what they hold after, and of no order of steps.
use Rattle.std.specs.Prelude.{◌≡◌, ◌≢◌, ◌⊎◌, ℕ, ◌+◌, ◌-◌, ◌<◌, ◌≤◌, ◌==◌, true, List, [], ◌∷◌, ◌++◌, length, slice_get, Option, None, Some, is_some, Err}
use Rattle.std.specs.List.{AllByRecursion, list_all, list_any}
use Rattle.fare_record.specs.declared.ack_item.AckItem.{AckItem}
use Rattle.fare_record.specs.declared.ack_item.AckItem.TheVariants as ack_item
use Rattle.fare_record.specs.Limits.{IsDay}
use Rattle.fare_record.specs.Values.{RecordValue}
use Rattle.fare_record.specs.Lanes.{of_device}
use Rattle.fare_record.specs.declared.item.Item.{Item}
use Rattle.fare_record.specs.declared.item.Item.TheVariants as item
use Rattle.fare_scheme.specs.Values.{SchemeValue}
use Rattle.fare_scheme.specs.Words.{position_of_device}
use Rattle.fare_store.specs.declared.fault.StoreFault.{StoreFault}
use Rattle.fare_store.specs.declared.fault.StatedFault.TheVariants as stated
use Rattle.fare_store.specs.OutboxWords.{OutboxValue, store_judged, stated_judged}
use Rattle.fare_owner.specs.declared.tap.TapFault.{TapFault}
use Rattle.fare_owner.specs.declared.statement.StatementFault.{StatementFault}
use Rattle.fare_owner.specs.declared.statement.StatementFault.TheVariants.{Repeated}
use Rattle.fare_store.specs.LedgerWords.{LedgerValue, is_closed, take_judged, state_judged, IsAmong}
use Rattle.fare_history.specs.Serving.{behind_ledger, moved_by_all, Service, IsWorking}
use Rattle.fare_history.specs.Gathering.{Gathering, items_of, accepted_by, all_answers}

-- AN OWNER'S SESSION
-- The new list is the old one and then rows of the lane: those of the lane numbers behind the old list, one by one.
pub record ExtendsBy (rows : ℕ → Option RecordValue) (old new : List RecordValue) : Type 0 where
  pub more : List RecordValue
  pub is : new ≡ old ++ more
  pub beyond : (k : ℕ) (r : RecordValue) → slice_get more k ≡ Some r → rows (length old + 1 + k) ≡ Some r

-- A row of the outbox is as it was; or it is of this owner and of a lane number up to which the ledger has taken, and it is gone.
abbrev pub IsKeptOrPruned : ℕ → OutboxValue → OutboxValue → LedgerValue → ℕ → ℕ → ℕ → Type 0
IsKeptOrPruned owner x y l o d lane = (y.rows o d lane ≡ x.rows o d lane) ⊎ ((o ≡ owner) × (lane ≤ length (l.taken d)) × (y.rows o d lane ≡ None))

-- What a session of an owner did, of the outbox x and the ledger l before it and of y and m after it: each device's taps are the old ones and then rows that the outbox held, each stated count was the ledger's or the outbox's, closed days stay, a retired lane keeps its list and its statements and no lane is retired, rows go only where the ledger has them, and nothing else of the outbox changes.
pub record ServesPlainly (owner : ℕ) (x y : OutboxValue) (l m : LedgerValue) : Type 0 where
  pub taken : (device : ℕ) → ExtendsBy (x.rows owner device) (l.taken device) (m.taken device)
  pub statements : (device day count : ℕ) → m.stated device day ≡ Some count → (l.stated device day ≡ Some count) ⊎ (x.stated owner device day ≡ Some count)
  pub closed : m.closed ≡ l.closed
  pub retired : m.retired ≡ l.retired
  pub ended : (device : ℕ) → l.retired device ≡ true → (m.taken device ≡ l.taken device) × (m.stated device ≡ l.stated device)
  pub made : (m.owner ≡ l.owner) × (m.start ≡ l.start) × (m.knows ≡ l.knows)
  pub rows : (o d lane : ℕ) → IsKeptOrPruned owner x y m o d lane
  pub upto : y.upto ≡ x.upto
  pub stated : y.stated ≡ x.stated
  pub stated_count : y.stated_count ≡ x.stated_count

-- A session came to its end: hand and queue are empty, behind what was taken the outbox holds no row and no statement of a registered device whose lane isn't retired, and the lane of each registered device was pruned.
pub record IsFinished (sc : SchemeValue) (owner : ℕ) (x : OutboxValue) (l : LedgerValue) (v : Service) : Type 0 where
  pub hand : v.hand ≡ None
  pub queue : v.queue ≡ []
  pub rows : (device : ℕ) → is_some (position_of_device sc device) ≡ true → IsWorking l device → (lane : ℕ) → (moved_by_all (behind_ledger sc l) v.taken).lane device < lane → x.rows owner device lane ≡ None
  pub days : (device : ℕ) → is_some (position_of_device sc device) ≡ true → IsWorking l device → (day : ℕ) → (moved_by_all (behind_ledger sc l) v.taken).day device ≤ day → IsDay day → x.stated owner device day ≡ None
  pub pruned : (device : ℕ) → is_some (position_of_device sc device) ≡ true → list_any (λ d. d == device) v.pruned ≡ true

-- All that the outbox x held is in the ledger m: of each registered device whose lane isn't retired the rows behind those that the ledger l had, and the statements of the days that it had not closed; and of each registered device the outbox y has none of the rows up to the ledger's count.
pub record IsWholeService (sc : SchemeValue) (owner : ℕ) (x y : OutboxValue) (l m : LedgerValue) : Type 0 where
  pub rows : (device : ℕ) → is_some (position_of_device sc device) ≡ true → IsWorking l device → (lane : ℕ) (r : RecordValue) → length (l.taken device) < lane → x.rows owner device lane ≡ Some r → slice_get (m.taken device) (lane - 1) ≡ Some r
  pub statements : (device : ℕ) → is_some (position_of_device sc device) ≡ true → IsWorking l device → (day count : ℕ) → sc.start + l.closed device ≤ day → IsDay day → x.stated owner device day ≡ Some count → m.stated device day ≡ Some count
  pub pruned : (device : ℕ) → is_some (position_of_device sc device) ≡ true → (lane : ℕ) → lane ≤ length (m.taken device) → y.rows owner device lane ≡ None

-- the ledger refuses the item, and not because it is a statement that it holds
abbrev pub IsRefused : LedgerValue → Item → Type 0
IsRefused m (item.Tap r) = (why : TapFault) × (take_judged m r ≡ Err why)
IsRefused m (item.Stated v) = (why : StatementFault) × (why ≢ Repeated) × (state_judged m v ≡ Err why)

-- Why a ledger refuses an item of its session: it is the row that comes next in its lane, and of a day that is closed; or it is a statement of the outbox, and the ledger holds another count.
abbrev pub ShowsWhy : ℕ → OutboxValue → LedgerValue → Item → Type 0
ShowsWhy owner x m (item.Tap r) =
    (x.rows owner r.device (length (m.taken r.device) + 1) ≡ Some r) × (is_closed m r.device r.tap.day ≡ true)
ShowsWhy owner x m (item.Stated v) =
    (x.stated owner v.device v.day ≡ Some v.count) × ((other : ℕ) × (m.stated v.device v.day ≡ Some other) × (other ≢ v.count))

-- A SESSION OF THE STATIONS AND THE WRITER
-- the taps with that of the item before them, where it is one
abbrev pub with_tap : Item → List RecordValue → List RecordValue
with_tap (item.Tap r) rs = r ∷ rs
with_tap (item.Stated v) rs = rs

-- the taps among these items, in their order
abbrev pub taps_in : List Item → List RecordValue
taps_in [] = []
taps_in (i ∷ is) = with_tap i (taps_in is)

-- one of these items is this statement
abbrev pub IsStatedIn : List Item → ℕ → ℕ → ℕ → ℕ → Type 0
IsStatedIn is owner device day count = (k : ℕ) × (slice_get is k ≡ Some (item.Stated (record { device = device; day = day; owner = owner; count = count })))

-- The outbox has had what is acknowledged: a number is at most the greatest link that it has had of the device, and for a day it holds the device's statements for all owners.
abbrev pub IsCovered : SchemeValue → OutboxValue → AckItem → Type 0
IsCovered sc y (ack_item.Upto a) = a.upto ≤ y.upto a.device
IsCovered sc y (ack_item.Day a) = list_all (λ o. is_some (y.stated o.0 a.device a.day)) sc.owners ≡ true

-- What a session of the stations and the writer did, of the outbox x before it and of y after it.
pub record GathersPlainly (sc : SchemeValue) (x y : OutboxValue) (g : Gathering) : Type 0 where
  -- the stored taps of a device are the first of those accepted of it, in their order
  pub front : (device : ℕ) → (rest : List RecordValue) × (of_device device (taps_in (accepted_by g)) ≡ of_device device (taps_in (items_of g.entries)) ++ rest)
  -- the accepted taps have the links behind the outbox's, one by one
  pub links : (device k : ℕ) (r : RecordValue) → slice_get (of_device device (taps_in (accepted_by g))) k ≡ Some r → r.link ≡ x.upto device + 1 + k
  -- the greatest link grows by the number of stored taps
  pub upto : (device : ℕ) → y.upto device ≡ x.upto device + length (of_device device (taps_in (items_of g.entries)))
  -- no row goes; one that comes is of a stored tap, and each of these has one
  pub rows_stay : (o d lane : ℕ) (r : RecordValue) → x.rows o d lane ≡ Some r → y.rows o d lane ≡ Some r
  pub rows_come : (o d lane : ℕ) (r : RecordValue) → y.rows o d lane ≡ Some r → (x.rows o d lane ≡ Some r) ⊎ (IsAmong (taps_in (items_of g.entries)) r × (r.owner ≡ o) × (r.device ≡ d) × (r.lane ≡ lane))
  pub rows_held : (r : RecordValue) → IsAmong (taps_in (items_of g.entries)) r → y.rows r.owner r.device r.lane ≡ Some r
  -- so it is with the statements
  pub statements_stay : (o d day count : ℕ) → x.stated o d day ≡ Some count → y.stated o d day ≡ Some count
  pub statements_come : (o d day count : ℕ) → y.stated o d day ≡ Some count → (x.stated o d day ≡ Some count) ⊎ IsStatedIn (items_of g.entries) o d day count
  pub statements_held : (o d day count : ℕ) → IsStatedIn (items_of g.entries) o d day count → y.stated o d day ≡ Some count
  -- all that was acknowledged the outbox has had at the end
  pub answers : AllByRecursion (IsCovered sc y) (all_answers g)

-- the outbox refuses the item, and not because it had stored it before
abbrev pub IsRefusedByOutbox : OutboxValue → Item → Type 0
IsRefusedByOutbox y (item.Tap r) = (why : StoreFault) × (store_judged y r ≡ Err why)
IsRefusedByOutbox y (item.Stated v) = (stated_judged y v ≡ Err stated.Conflict) ⊎ (stated_judged y v ≡ Err stated.OutboxFull)

-- Why an outbox refuses an item of its session: it is the tap with its device's next link, and a row stands in its place or the outbox has no room for one more; or it is a statement, and the outbox holds another count or has no room.
abbrev pub ShowsWhyNot : OutboxValue → Item → Type 0
ShowsWhyNot y (item.Tap r) = (r.link ≡ y.upto r.device + 1) × ((is_some (y.rows r.owner r.device r.lane) ≡ true) ⊎ (1000000 ≤ y.row_count))
ShowsWhyNot y (item.Stated v) = ((other : ℕ) × (y.stated v.owner v.device v.day ≡ Some other) × (other ≢ v.count)) ⊎ (1000000 ≤ y.stated_count)
