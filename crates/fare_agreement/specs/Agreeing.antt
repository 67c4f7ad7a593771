-- When the rows of a hub's stores agree with the lists of taps that the devices numbered.
use Rattle.std.specs.Prelude.{◌≡◌, ◌≢◌, ℕ, ◌+◌, ◌<◌, ◌≤◌, Bool, true, false, List, [], length, take, Option, None, Some, slice_get}
use Rattle.fare_record.specs.Values.{RecordValue}
use Rattle.fare_record.specs.Lanes.{part, day_count}
use Rattle.fare_record.specs.declared.item.Item.{Item}
use Rattle.fare_record.specs.declared.item.Item.TheVariants as item
use Rattle.fare_scheme.specs.Values.{SchemeValue}
use Rattle.fare_scheme.specs.Words.{owner_of, station_of}
use Rattle.fare_store.specs.OutboxWords.{OutboxValue}
use Rattle.fare_store.specs.LedgerWords.{LedgerValue, let_go, is_closed}
use Rattle.fare_world.specs.Headline.{IsPrefixOf}
use Rattle.fare_world.specs.Knowing.{knows_owner}
use Rattle.fare_world.specs.Shown.{row_at, IsAt}
use Rattle.fare_world.specs.System.{System}
use Rattle.fare_history.specs.Stores.{StoresValue}

-- THE LISTS
-- the record at a place of a device's list, from 0: the device's own, with the next link, and with the next number of its owner's lane
pub record IsNumberedAt (device : ℕ) (taps : List RecordValue) (place : ℕ) (r : RecordValue) : Type 0 where
  pub of_device : r.device ≡ device
  pub link : r.link ≡ place + 1
  pub lane : r.lane ≡ length (part r.owner (take place taps)) + 1

-- one list for each device, numbered as a device numbers its taps: links 1, 2, 3 and so on, and likewise the lane of each owner
pub record AreNumberedLists (lists : ℕ → List RecordValue) : Type 0 where
  pub numbered : (device place : ℕ) (r : RecordValue) → slice_get (lists device) place ≡ Some r → IsNumberedAt device (lists device) place r

-- an item says what the lists say: a tap is the one of its link, and a statement has its day's count
abbrev pub IsOf : (ℕ → List RecordValue) → Item → Type 0
IsOf lists (item.Tap r) = IsAt (lists r.device) r.link r
IsOf lists (item.Stated v) = v.count ≡ day_count (part v.owner (lists v.device)) v.day

-- THE ROWS
-- an owner's part of the taps of a device that the outbox has had
abbrev pub had : (ℕ → List RecordValue) → OutboxValue → ℕ → ℕ → List RecordValue
had lists x owner device = part owner (take (x.upto device) (lists device))

-- the rows of a lane are these records from some number on, and only of the first so many may be missing
pub record AreRowsOf (records : List RecordValue) (taken : ℕ) (rows : ℕ → Option RecordValue) : Type 0 where
  pub gone : ℕ
  pub few : gone ≤ taken
  pub are : (lane : ℕ) → rows lane ≡ row_at gone records lane

-- each stated count is how many of these records are of its day
pub record AreCountsOf (records : List RecordValue) (stated : ℕ → Option ℕ) : Type 0 where
  pub counted : (day count : ℕ) → stated day ≡ Some count → count ≡ day_count records day

-- what a ledger shows of these records, which it took: the first so many were let go, each of a day before the one from which on all is held, and, where the lane is not retired, before the one that is open
pub record AreHeldOf (records : List RecordValue) (from open_day : ℕ) (retired : Bool) (taken : List RecordValue) : Type 0 where
  pub gone : ℕ
  pub few : gone ≤ length records
  pub are : taken ≡ let_go gone records
  pub past : (k : ℕ) (r : RecordValue) → k < gone → slice_get records k ≡ Some r → (r.tap.day < from) × (retired ≡ false → r.tap.day < open_day)

-- of each closed day all is taken that was numbered; and each closed day from the one on from which all is held has its statement, and that many of these records
pub record AreClosedOf (numbered taken : List RecordValue) (stated : ℕ → Option ℕ) (closed : ℕ → Bool) (from : ℕ) : Type 0 where
  pub whole : (day : ℕ) → closed day ≡ true → day_count taken day ≡ day_count numbered day
  pub met : (day : ℕ) → closed day ≡ true → from ≤ day → stated day ≡ Some (day_count taken day)

-- a lane agrees, by what was numbered of it, what the outbox has had of it and holds, and what the ledger holds
pub record LaneAgrees (numbered arrived : List RecordValue) (rows : ℕ → Option RecordValue) (taken : List RecordValue) (stated : ℕ → Option ℕ) (closed : ℕ → Bool) (from open_day : ℕ) (retired : Bool) : Type 0 where
  -- all that was taken, also what was let go since
  pub all : List RecordValue
  pub all_are : IsPrefixOf all arrived
  pub taken_are : AreHeldOf all from open_day retired taken
  pub rows_are : AreRowsOf arrived (length taken) rows
  pub stated_are : AreCountsOf numbered stated
  pub closed_are : AreClosedOf numbered all stated closed from

-- the lane of an owner and a device, in an outbox and the owner's ledger
abbrev pub lane_agrees : (ℕ → List RecordValue) → OutboxValue → LedgerValue → ℕ → ℕ → Type 0
lane_agrees lists x l owner device = LaneAgrees (part owner (lists device)) (had lists x owner device) (x.rows owner device) (l.taken device) (l.stated device) (is_closed l device) (l.from device) (l.start + l.closed device) (l.retired device)

-- an owner that isn't registered, and that no registered product is of
pub record IsStranger (sc : SchemeValue) (owner : ℕ) : Type 0 where
  pub unknown : knows_owner sc owner ≡ false
  pub sells_none : (product : ℕ) → owner_of sc product ≢ Some owner

-- The rows agree with the lists: each lane of each registered owner does, and so do the outbox's statements. A registered owner
-- has taken nothing of a device that isn't registered, and of an owner that isn't, what the outbox has had waits in it, all of it.
pub record Agrees (sc : SchemeValue) (lists : ℕ → List RecordValue) (h : StoresValue) : Type 0 where
  pub lanes : (owner device : ℕ) → knows_owner sc owner ≡ true → lane_agrees lists h.outbox (h.ledgers owner) owner device
  pub stated : (owner device : ℕ) → AreCountsOf (part owner (lists device)) (h.outbox.stated owner device)
  pub untaken : (owner device : ℕ) → knows_owner sc owner ≡ true → station_of sc device ≡ None → (h.ledgers owner).taken device ≡ []
  pub waiting : (owner device : ℕ) → IsStranger sc owner → AreRowsOf (had lists h.outbox owner device) 0 (h.outbox.rows owner device)

-- A SYSTEM
-- what the devices of a system numbered
abbrev pub numbered_by_devices : System → ℕ → List RecordValue
numbered_by_devices s device = (s.devices device).taps
