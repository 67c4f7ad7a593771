-- What a ledger has of a week up to a day, and whether it may be billed.
use Rattle.std.specs.Prelude.{◌≡◌, ℕ, Option, List, Result, Ok, Err}
use Rattle.fare_scheme.specs.Values.{SchemeValue}
use Rattle.fare_cap.specs.Fares.{week_start}
use Rattle.fare_store.specs.LedgerWords.{LedgerValue, AreTapsBetween}
use Rattle.fare_side.specs.declared.bill_fault.BillFault.{BillFault}
use Rattle.fare_side.specs.declared.week_taps.WeekTaps.{WeekTaps}
use Rattle.fare_side.specs.OpenDays.{first_open, short_devices, where_open}

-- the first device of the scheme whose day the ledger has neither closed nor its lane retired
abbrev pub open_of : LedgerValue → ℕ → SchemeValue → Option ℕ
open_of v day sc = first_open v.start v.closed v.retired day sc.devices

-- the devices whose lanes it has retired, and whose day it has not closed
abbrev pub short_of : LedgerValue → ℕ → SchemeValue → List ℕ
short_of v day sc = short_devices v.start v.closed v.retired day sc.devices

-- the taps of the week, and of which devices they are short, or why there is no bill
abbrev pub IsWeekOf : SchemeValue → LedgerValue → ℕ → Result WeekTaps BillFault → Type 0
IsWeekOf sc v day (Ok week) = (where_open (open_of v day sc) ≡ Ok tt) × AreTapsBetween v (week_start sc day) day week.taps.items × (week.short.items ≡ short_of v day sc)
IsWeekOf sc v day (Err why) = where_open (open_of v day sc) ≡ Err why
