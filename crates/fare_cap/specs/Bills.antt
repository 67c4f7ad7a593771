-- The bill of a day.
use Rattle.std.specs.Prelude.{ℕ, List, length, map, sum_by}
use Rattle.fare_record.specs.Values.{RecordValue}
use Rattle.fare_scheme.specs.Values.{SchemeValue}
use Rattle.fare_cap.specs.Values.{AccountValue}
use Rattle.fare_cap.specs.declared.row.Row.{Row}
use Rattle.fare_cap.specs.Order.{in_order}
use Rattle.fare_cap.specs.Accounts.{part_of, counted_on, accounts_of}
use Rattle.fare_cap.specs.Fares.{paid_on, amount_by}

-- what contracts see of a bill
pub record BillValue : Type 0 where
  pub rows : List Row
  pub total : ℕ

-- an account's row, the records in order
abbrev pub row_of : SchemeValue → List RecordValue → ℕ → AccountValue → Row
row_of scheme ordered day account = record {
  account = account;
  rides = length (part_of account (counted_on scheme day ordered));
  amount = amount_by scheme account (paid_on scheme ordered account) day;
}

-- a row for each account with a tap that counts on the day, ascending by product, then token
abbrev pub bill_rows : SchemeValue → List RecordValue → ℕ → List Row
bill_rows scheme ordered day = map (row_of scheme ordered day) (accounts_of (counted_on scheme day ordered))

-- the sum of the rows' amounts
abbrev pub total_of : List Row → ℕ
total_of rows = sum_by (λ (row : Row). row.amount) rows

-- the bill of a day by these records
abbrev pub bill_of : SchemeValue → List RecordValue → ℕ → BillValue
bill_of scheme records day = record { rows = bill_rows scheme (in_order records) day; total = total_of (bill_rows scheme (in_order records) day) }
