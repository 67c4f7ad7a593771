-- What an owner's ledger holds, and what its calls make of it.
use Rattle.std.specs.Prelude.{◌≡◌, ℕ, ◌+◌, ◌-◌, ◌<◌, ◌≤◌, true, false, nat_le, nat_lt, ◌==◌, ◌&&◌, ◌||◌, not, max, Bool, List, [], ◌∷◌, ◌++◌, length, drop, replicate, slice_get, Option, None, Some, Result, Ok, Err, if◌then◌else◌, is_some}
use Rattle.std.specs.List.{prefix_len}
use Rattle.fare_record.specs.Values.{RecordValue, StatementValue}
use Rattle.fare_record.specs.Lanes.{day_count}
use Rattle.fare_scheme.specs.Values.{SchemeValue}
use Rattle.fare_scheme.specs.Words.{position_of_device}
use Rattle.fare_owner.specs.TapJudged.{tap_judged}
use Rattle.fare_owner.specs.StatementJudged.{statement_judged}
use Rattle.fare_owner.specs.CloseJudged.{close_judged}
use Rattle.fare_owner.specs.RetireJudged.{retire_judged}
use Rattle.fare_owner.specs.declared.tap.TapFault.{TapFault}
use Rattle.fare_owner.specs.declared.statement.StatementFault.{StatementFault}
use Rattle.fare_owner.specs.declared.closing.CloseFault.{CloseFault}
use Rattle.fare_owner.specs.declared.retiring.RetireFault.{RetireFault}
use Rattle.fare_store.specs.declared.fault.ForgetFault.{ForgetFault}
use Rattle.fare_store.specs.declared.fault.ForgetFault.TheVariants.{UnknownDevice, NotClosed}
use Rattle.fare_store.specs.Tables.{put, put2}

pub record LedgerValue : Type 0 where
  pub owner : ℕ
  -- the scheme's first day
  pub start : ℕ
  -- whether a device is the scheme's
  pub knows : ℕ → Bool
  -- the taps that it has taken from a device, in order; in the place of each that was let go stands a blank
  pub taken : ℕ → List RecordValue
  -- the counts that were stated, by device and day
  pub stated : ℕ → ℕ → Option ℕ
  -- how many days of a device are closed, from the scheme's first on
  pub closed : ℕ → ℕ
  -- whether its lane of a device is retired: nothing more of it is taken, stated or closed
  pub retired : ℕ → Bool
  -- the first day of which a device's taps and statements are all held: only what is of earlier days was let go
  pub from : ℕ → ℕ

-- it was made with this scheme
pub record IsOfScheme (sc : SchemeValue) (v : LedgerValue) : Type 0 where
  pub start : v.start ≡ sc.start
  pub knows : (device : ℕ) → v.knows device ≡ is_some (position_of_device sc device)

pub record IsEmptyLedger (v : LedgerValue) : Type 0 where
  pub taken : (device : ℕ) → v.taken device ≡ []
  pub stated : (device day : ℕ) → v.stated device day ≡ None
  pub closed : (device : ℕ) → v.closed device ≡ 0
  pub retired : (device : ℕ) → v.retired device ≡ false
  pub from : (device : ℕ) → v.from device ≡ 0

abbrev pub is_mine : LedgerValue → ℕ → ℕ → Bool
is_mine v owner device = (owner == v.owner) && v.knows device

abbrev pub is_closed : LedgerValue → ℕ → ℕ → Bool
is_closed v device day = nat_le v.start day && nat_lt day (v.start + v.closed device)

-- the last closed day, if there is one
abbrev pub closed_through : LedgerValue → ℕ → Option ℕ
closed_through v device = if v.closed device == 0 then None else Some (v.start + v.closed device - 1)

-- TAKE
abbrev pub take_judged : LedgerValue → RecordValue → Result Unit TapFault
take_judged v r = tap_judged (is_mine v r.owner r.device) (length (v.taken r.device)) (is_closed v r.device r.tap.day) r.lane (v.retired r.device)

abbrev pub took : RecordValue → LedgerValue → LedgerValue
took r v = record v { taken = put v.taken r.device (v.taken r.device ++ r ∷ []) }

-- STATE
abbrev pub state_judged : LedgerValue → StatementValue → Result Unit StatementFault
state_judged v s = statement_judged (is_mine v s.owner s.device) (v.stated s.device s.day) s.count (v.retired s.device)

abbrev pub with_statement : StatementValue → LedgerValue → LedgerValue
with_statement s v = record v { stated = put2 v.stated s.device s.day (Some s.count) }

-- CLOSE
abbrev pub close_of : LedgerValue → ℕ → ℕ → Result Unit CloseFault
close_of v device day = close_judged (v.stated device day) (is_closed v device day) (day == v.start + v.closed device) (day_count (v.taken device) day) (v.retired device)

abbrev pub with_close : ℕ → LedgerValue → LedgerValue
with_close device v = record v { closed = put v.closed device (v.closed device + 1) }

-- RETIRE
abbrev pub retire_of : LedgerValue → ℕ → Result Unit RetireFault
retire_of v device = retire_judged (v.knows device) (v.retired device)

abbrev pub with_retired : ℕ → LedgerValue → LedgerValue
with_retired device v = record v { retired = put v.retired device true }

-- FORGET
-- what stands in the place of a tap that was let go: no tap, since each of those has a device, a link, an owner, a lane number and a day of the days that there are
abbrev pub blank : RecordValue
blank = record { device = 0; link = 0; owner = 0; lane = 0; tap = record { product = 0; token = 0; moment = 0; day = 100001; route = 0 } }

-- these taps, of which the first so many went
abbrev pub let_go : ℕ → List RecordValue → List RecordValue
let_go n taps = replicate n blank ++ drop n taps

-- a tap of a day before this one, or one that went
abbrev pub is_past : ℕ → RecordValue → Bool
is_past day r = nat_lt r.tap.day day || (r.lane == 0)

-- how many of these taps stand before the first that isn't past
abbrev pub front : ℕ → List RecordValue → ℕ
front day taps = prefix_len (is_past day) taps

-- how many of these taps went: they stand before those that are held
abbrev pub gone_of : List RecordValue → ℕ
gone_of taps = front 0 taps

-- refused where the device isn't the scheme's, or a day before this one isn't closed and the lane isn't retired
abbrev pub forget_judged : LedgerValue → ℕ → ℕ → Result Unit ForgetFault
forget_judged v device day = if not (v.knows device) then Err UnknownDevice else (if not (v.retired device) && nat_lt (v.start + v.closed device) day then Err NotClosed else Ok tt)

abbrev pub stated_from : ℕ → (ℕ → Option ℕ) → ℕ → Option ℕ
stated_from day stated e = if nat_lt e day then None else stated e

abbrev pub forgotten : ℕ → ℕ → LedgerValue → LedgerValue
forgotten device day v = record v {
  taken = put v.taken device (let_go (front day (v.taken device)) (v.taken device));
  stated = put v.stated device (stated_from day (v.stated device));
  from = put v.from device (max (v.from device) day);
}

-- TAPS BETWEEN TWO DAYS
-- the one stands before the other, by day, moment, device and lane
abbrev pub is_before : RecordValue → RecordValue → Bool
is_before a b =
    if nat_lt a.tap.day b.tap.day then true else if nat_lt b.tap.day a.tap.day then false else
    if nat_lt a.tap.moment b.tap.moment then true else if nat_lt b.tap.moment a.tap.moment then false else
    if nat_lt a.device b.device then true else if nat_lt b.device a.device then false else
    nat_lt a.lane b.lane

abbrev pub IsAmong : List RecordValue → RecordValue → Type 0
IsAmong rows r = (k : ℕ) × (slice_get rows k ≡ Some r)

pub record AreTapsBetween (v : LedgerValue) (from to : ℕ) (rows : List RecordValue) : Type 0 where
  pub taken : (k : ℕ) (r : RecordValue) → slice_get rows k ≡ Some r → IsAmong (v.taken r.device) r × (from ≤ r.tap.day) × (r.tap.day ≤ to)
  pub all : (device k : ℕ) (r : RecordValue) → slice_get (v.taken device) k ≡ Some r → from ≤ r.tap.day → r.tap.day ≤ to → IsAmong rows r
  pub sorted : (j k : ℕ) (a b : RecordValue) → j < k → slice_get rows j ≡ Some a → slice_get rows k ≡ Some b → is_before a b ≡ true
