-- How a ledger in tables stands between two calls.
use Rattle.std.specs.Prelude.{◌≡◌, ℕ, ◌+◌, ◌-◌, ◌<◌, ◌≤◌, max, Bool, false, List, [], ◌∷◌, map, filter, length, ◌==◌, if◌then◌else◌, Option, Some, None, Result, Ok, Err}
use Rattle.std.specs.List.{AllByRecursion}
use Rattle.sqlite_trees.specs.Tree.{Trees}
use Rattle.sqlite_trees.specs.declared.store.Store.{Ghosts}
use Rattle.sqlite.specs.Held.{state}
use Rattle.sqlite.specs.State.{State}
use Rattle.fare_record.specs.Values.{RecordValue}
use Rattle.fare_record.specs.Lanes.{day_count}
use Rattle.fare_owner.specs.declared.tap.TapFault.{TapFault}
use Rattle.fare_owner.specs.declared.closing.CloseFault.{CloseFault}
use Rattle.fare_store.specs.Standing.{Standing}
use Rattle.fare_store.specs.LedgerWords.{LedgerValue, is_closed, take_judged, close_of, front, forget_judged}
use Rattle.fare_store.specs.PlainLedgerWords.{filled}
use Rattle.fare_store.specs.declared.fault.ForgetFault.{ForgetFault}
use Rattle.fare_tables.specs.Tabled.{tabled}
use Rattle.fare_opening.specs.MetaRow.{IsMeta}
use Rattle.fare_ledger.specs.declared.tables.SqlLedger.{SqlLedger}
use Rattle.fare_ledger.specs.declared.lane.Lane.{Lane}
use Rattle.fare_ledger.specs.declared.lane.Cut.{Cut}
use Rattle.fare_ledger.specs.Held.{Held, TapRow, StatedRow, AreReadable, held_of, is_of, stated_in, record_of}
use Rattle.fare_ledger.specs.Known.{knows}
use Rattle.fare_ledger.specs.declared.layout.Layout.{Layout}
use Rattle.fare_ledger.specs.Layouts.{schema_in, ours}

-- THE VALUE
-- an owner's taps of a device, in the order of storing
abbrev pub taken_in : ℕ → List TapRow → ℕ → List RecordValue
taken_in owner taps device = map (record_of owner) (filter (λ t. t.device == device) taps)

-- how many taps of a device were let go: as many as were taken and have no row
abbrev pub gone_in : ℕ → Held → ℕ → ℕ
gone_in owner h device = (h.lanes device).taken - length (taken_in owner h.taps device)

-- an owner's taps of a device, behind a blank for each that was let go
abbrev pub shown_in : ℕ → Held → ℕ → List RecordValue
shown_in owner h device = filled (gone_in owner h device) (taken_in owner h.taps device)

-- as an owner's, from a first day on, where these devices are known
abbrev pub value_in : ℕ → ℕ → (ℕ → Bool) → Held → LedgerValue
value_in owner start known h = record {
  owner = owner;
  start = start;
  knows = known;
  taken = shown_in owner h;
  stated = stated_in h.statements;
  closed = λ device. (h.lanes device).closed;
  retired = h.retired;
  from = h.since;
}

abbrev pub value_at : Layout → ℕ → ℕ → (ℕ → Bool) → Trees → LedgerValue
value_at o owner start known trees = value_in owner start known (held_of (ours o trees))

-- THE ROWS FIT TOGETHER
-- no two statements are of the same device and day
abbrev pub AreApart : List StatedRow → Type 0
AreApart [] = Unit {0}
AreApart (s ∷ more) = AllByRecursion (λ x. is_of s.device s.day x ≡ false) more × AreApart more

-- each tap has its device's next lane number, where the device had so many before
abbrev pub AreNext : (ℕ → ℕ) → List TapRow → Type 0
AreNext before [] = Unit {0}
AreNext before (t ∷ more) = (t.lane ≡ before t.device + 1) × AreNext (λ device. if t.device == device then before device + 1 else before device) more

-- a closed day, of the days that there are and of which all is held, is stated, with the count of its taps
abbrev pub AreCounted : ℕ → ℕ → Held → Type 0
AreCounted owner start h = (device day : ℕ) → start ≤ day → day < start + (h.lanes device).closed → day ≤ 100000 → h.since device ≤ day → stated_in h.statements device day ≡ Some (day_count (taken_in owner h.taps device) day)

-- those of a ledger of a format
pub record FitInFormat (format owner start : ℕ) (h : Held) : Type 0 where
  -- a device has no more rows than taps that are taken
  pub counted : (device : ℕ) → length (taken_in owner h.taps device) ≤ (h.lanes device).taken
  -- each tap has the lane number after that of its device's tap before it, the first one that after those let go
  pub numbered : AreNext (gone_in owner h) h.taps
  pub single : AreApart h.statements
  pub days : AreCounted owner start h
  -- they are this owner's, of that format
  pub meta : IsMeta format owner h.meta
  -- there is no row where older formats have the taps
  pub unused : h.unused ≡ []

-- and of the newest one
abbrev pub FitTogether : ℕ → ℕ → Held → Type 0
FitTogether = FitInFormat 4

pub record IsLawful (o : Layout) (owner start : ℕ) (trees : Trees) : Type 0 where
  pub readable : AreReadable (ours o trees)
  pub together : FitTogether owner start (held_of (ours o trees))

-- its connection
abbrev pub connected : {S : Type 0} → (g : Ghosts S) → SqlLedger S g → State
connected g l = state g l.conn

abbrev pub stands : {S : Type 0} → (g : Ghosts S) → SqlLedger S g → Standing LedgerValue
stands g l = tabled (schema_in l.layout) (value_at l.layout l.owner l.start (knows l.devices)) (IsLawful l.layout l.owner l.start) (IsLawful l.layout l.owner l.start) (state g l.conn) l.failures

-- WHAT A READ FINDS
-- a device's numbers
pub record HasNumbers (v : LedgerValue) (device : ℕ) (lane : Lane) : Type 0 where
  pub taken : lane.taken ≡ length (v.taken device)
  pub closed : lane.closed ≡ v.closed device

-- no tap is taken and no day closed
pub record AreUnbegun (v : LedgerValue) : Type 0 where
  pub taken : (device : ℕ) → v.taken device ≡ []
  pub closed : (device : ℕ) → v.closed device ≡ 0

abbrev pub AreUnstated : LedgerValue → Type 0
AreUnstated v = (device day : ℕ) → v.stated device day ≡ None

abbrev pub AreUnretired : LedgerValue → Type 0
AreUnretired v = (device : ℕ) → v.retired device ≡ false

-- nothing was let go
abbrev pub AreUncut : LedgerValue → Type 0
AreUncut v = (device : ℕ) → v.from device ≡ 0

-- what is answered to a tap, and how many days of its device are closed
abbrev pub JudgesTap : LedgerValue → RecordValue → Result ℕ TapFault → Type 0
JudgesTap v r (Ok closed) = (take_judged v r ≡ Ok tt) × (closed ≡ v.closed r.device)
JudgesTap v r (Err why) = take_judged v r ≡ Err why

-- what is answered to a day, and its device's numbers
abbrev pub JudgesDay : LedgerValue → ℕ → ℕ → Result Lane CloseFault → Type 0
JudgesDay v device day (Ok lane) = (close_of v device day ≡ Ok tt) × HasNumbers v device lane
JudgesDay v device day (Err why) = close_of v device day ≡ Err why

-- the lane number of the first tap of a device of a day or a later one, if there is one
abbrev pub IsFront : LedgerValue → ℕ → ℕ → Option ℕ → Type 0
IsFront v device day None = front day (v.taken device) ≡ length (v.taken device)
IsFront v device day (Some lane) = lane ≡ front day (v.taken device) + 1

-- so many of a device's first taps go, up to the first of a day or a later one, and all is held from the later of two days on
pub record MayForget (v : LedgerValue) (device day : ℕ) (cut : Cut) : Type 0 where
  pub upto : cut.upto ≡ front day (v.taken device)
  pub since : cut.since ≡ max (v.from device) day

-- what is answered to a day before which all is to go, and what goes
abbrev pub JudgesForget : LedgerValue → ℕ → ℕ → Result Cut ForgetFault → Type 0
JudgesForget v device day (Ok cut) = (forget_judged v device day ≡ Ok tt) × MayForget v device day cut
JudgesForget v device day (Err why) = forget_judged v device day ≡ Err why

-- WHAT A WRITE STANDS ON
-- a tap may be taken: it is the owner's next of its device, and its day isn't closed
pub record MayTake (v : LedgerValue) (r : RecordValue) (closed : ℕ) : Type 0 where
  pub mine : r.owner ≡ v.owner
  pub next : r.lane ≡ length (v.taken r.device) + 1
  pub open_day : is_closed v r.device r.tap.day ≡ false
  pub closed_is : closed ≡ v.closed r.device

-- a device's first day that isn't closed may be: its count is stated; and these are the device's numbers
pub record MayClose (v : LedgerValue) (device : ℕ) (lane : Lane) : Type 0 where
  pub stated : v.stated device (v.start + v.closed device) ≡ Some (day_count (v.taken device) (v.start + v.closed device))
  pub numbers : HasNumbers v device lane
