-- What an outbox holds, and what its calls make of it.
use Rattle.std.specs.Prelude.{◌≡◌, ℕ, zero, suc, ◌+◌, ◌-◌, ◌<◌, ◌≤◌, nat_le, nat_lt, ◌==◌, List, [], ◌∷◌, Option, None, Some, is_some, Result, Ok, Err, if◌then◌else◌}
use Rattle.fare_record.specs.Values.{RecordValue, StatementValue}
use Rattle.fare_store.specs.declared.fault.StoreFault.{StoreFault}
use Rattle.fare_store.specs.declared.fault.StoreFault.TheVariants as store
use Rattle.fare_store.specs.declared.fault.StatedFault.{StatedFault}
use Rattle.fare_store.specs.declared.fault.StatedFault.TheVariants as stated
use Rattle.fare_store.specs.Tables.{put, put2, put3}
use Rattle.fare_store.specs.LedgerWords.{stated_from}

pub record OutboxValue : Type 0 where
  -- the greatest link that it has had of a device, 0 where it never saw the device
  pub upto : ℕ → ℕ
  -- the tap rows that it holds, by owner, device and lane number
  pub rows : ℕ → ℕ → ℕ → Option RecordValue
  -- how many these are
  pub row_count : ℕ
  -- the counts of the statements that it holds, by owner, device and day
  pub stated : ℕ → ℕ → ℕ → Option ℕ
  -- how many these are
  pub stated_count : ℕ

-- no tap, no statement, and it never had one of a tap
pub record IsEmptyOutbox (v : OutboxValue) : Type 0 where
  pub upto : (device : ℕ) → v.upto device ≡ 0
  pub rows : (owner device lane : ℕ) → v.rows owner device lane ≡ None
  pub row_count : v.row_count ≡ 0
  pub stated : (owner device day : ℕ) → v.stated owner device day ≡ None
  pub stated_count : v.stated_count ≡ 0

-- STORE
-- the first refusal that applies
abbrev pub store_judged : OutboxValue → RecordValue → Result Unit StoreFault
store_judged v r =
    if nat_le r.link (v.upto r.device) then Err store.Duplicate else
    if nat_lt (v.upto r.device + 1) r.link then Err store.Gap else
    if is_some (v.rows r.owner r.device r.lane) then Err store.Conflict else
    if nat_le 1000000 v.row_count then Err store.OutboxFull else
    Ok tt

-- the device's next link, and the row
abbrev pub stored : RecordValue → OutboxValue → OutboxValue
stored r v = record v {
  upto = put v.upto r.device r.link;
  rows = put3 v.rows r.owner r.device r.lane (Some r);
  row_count = v.row_count + 1;
}

-- STORE A STATEMENT
-- the first refusal that applies, by the count that is held, the count stated, and how many statements are held
abbrev pub stated_judged_by : Option ℕ → ℕ → ℕ → Result Unit StatedFault
stated_judged_by (Some held) count total = if held == count then Err stated.Duplicate else Err stated.Conflict
stated_judged_by None count total = if nat_le 1000000 total then Err stated.OutboxFull else Ok tt

abbrev pub stated_judged : OutboxValue → StatementValue → Result Unit StatedFault
stated_judged v s = stated_judged_by (v.stated s.owner s.device s.day) s.count v.stated_count

abbrev pub stored_statement : StatementValue → OutboxValue → OutboxValue
stored_statement s v = record v { stated = put3 v.stated s.owner s.device s.day (Some s.count); stated_count = v.stated_count + 1 }

-- NEXT
-- a row of a lane after a lane number, with none of that lane between
pub record IsLeastRow (rows : ℕ → ℕ → ℕ → Option RecordValue) (owner device after : ℕ) (r : RecordValue) : Type 0 where
  pub of_owner : r.owner ≡ owner
  pub of_device : r.device ≡ device
  pub behind : after < r.lane
  pub is_held : rows owner device r.lane ≡ Some r
  pub least : (lane : ℕ) → after < lane → lane < r.lane → rows owner device lane ≡ None

-- the row of least lane number after this one, of the lane of an owner and a device
abbrev pub IsNextRow : (ℕ → ℕ → ℕ → Option RecordValue) → ℕ → ℕ → ℕ → Option RecordValue → Type 0
IsNextRow rows owner device after None = (lane : ℕ) → after < lane → rows owner device lane ≡ None
IsNextRow rows owner device after (Some r) = IsLeastRow rows owner device after r

-- a statement of a day from a day on, with none of that owner and device between
pub record IsLeastStatement (held : ℕ → ℕ → ℕ → Option ℕ) (owner device from : ℕ) (s : StatementValue) : Type 0 where
  pub of_owner : s.owner ≡ owner
  pub of_device : s.device ≡ device
  pub not_before : from ≤ s.day
  pub is_held : held owner device s.day ≡ Some s.count
  pub least : (day : ℕ) → from ≤ day → day < s.day → held owner device day ≡ None

-- the statement of least day from this one on, of those of an owner and a device
abbrev pub IsNextStatement : (ℕ → ℕ → ℕ → Option ℕ) → ℕ → ℕ → ℕ → Option StatementValue → Type 0
IsNextStatement held owner device from None = (day : ℕ) → from ≤ day → held owner device day ≡ None
IsNextStatement held owner device from (Some s) = IsLeastStatement held owner device from s

-- PRUNE
-- the rows of a lane behind a lane number
abbrev pub behind : ℕ → (ℕ → Option RecordValue) → ℕ → Option RecordValue
behind upto rows lane = if nat_le lane upto then None else rows lane

-- how many rows of a lane stand up to a lane number
abbrev pub rows_upto : ℕ → (ℕ → Option RecordValue) → ℕ
rows_upto zero rows = if is_some (rows 0) then 1 else 0
rows_upto (suc n) rows = rows_upto n rows + (if is_some (rows (suc n)) then 1 else 0)

abbrev pub pruned : ℕ → ℕ → ℕ → OutboxValue → OutboxValue
pruned owner device upto v = record v {
  rows = put2 v.rows owner device (behind upto (v.rows owner device));
  row_count = v.row_count - rows_upto upto (v.rows owner device);
}

-- several lanes of an owner, each a device and a lane number, one after the other
abbrev pub pruned_all : ℕ → List (ℕ × ℕ) → OutboxValue → OutboxValue
pruned_all owner [] v = v
pruned_all owner (lane ∷ more) v = pruned_all owner more (pruned owner lane.0 lane.1 v)

-- LET STATEMENTS GO
-- how many statements of a lane are of days before this one
abbrev pub stated_before : ℕ → (ℕ → Option ℕ) → ℕ
stated_before zero stated = 0
stated_before (suc n) stated = stated_before n stated + (if is_some (stated n) then 1 else 0)

abbrev pub without_statements : ℕ → ℕ → ℕ → OutboxValue → OutboxValue
without_statements owner device day v = record v {
  stated = put2 v.stated owner device (stated_from day (v.stated owner device));
  stated_count = v.stated_count - stated_before day (v.stated owner device);
}
