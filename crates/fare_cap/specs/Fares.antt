-- What an account pays: a flat fare for each paid tap, at most the daily cap on a day, and at most the weekly cap
-- from Monday to Sunday.
use Rattle.std.specs.Prelude.{ℕ, ◌+◌, ◌-◌, ◌*◌, zero, suc, min, max, List, unwrap_or}
use Rattle.fare_record.specs.Values.{RecordValue}
use Rattle.fare_day.specs.Week.{monday_on_or_before}
use Rattle.fare_scheme.specs.declared.entry.Tariff.{Tariff}
use Rattle.fare_scheme.specs.Values.{SchemeValue}
use Rattle.fare_scheme.specs.Words.{tariff_of}
use Rattle.fare_cap.specs.Values.{AccountValue}
use Rattle.fare_cap.specs.Accounts.{part_of, counted_on}
use Rattle.fare_cap.specs.Windows.{paid}

-- a product's tariff; no record counts whose product isn't registered
abbrev pub tariff_or_none : SchemeValue → ℕ → Tariff
tariff_or_none scheme product = unwrap_or (tariff_of scheme product) (record { fare = 0; daily = 0; weekly = 0; hop = 0 })

-- for how many seconds after a paid tap further taps of the account are free
abbrev pub hop_of : SchemeValue → AccountValue → ℕ
hop_of scheme account = (tariff_or_none scheme account.product).hop

-- how many taps of an account are paid on each day, the records in order
abbrev pub paid_on : SchemeValue → List RecordValue → AccountValue → ℕ → ℕ
paid_on scheme ordered account day = paid (hop_of scheme account) (part_of account (counted_on scheme day ordered))

-- the fare of a day with so many paid taps: the flat fare of each, at most the daily cap
abbrev pub day_fare : Tariff → ℕ → ℕ
day_fare tariff taps = min tariff.daily (tariff.fare * taps)

-- the sum of the amounts at the numbers below this one
abbrev pub sum_below : ℕ → (ℕ → ℕ) → ℕ
sum_below zero amount = 0
sum_below (suc n) amount = sum_below n amount + amount n

-- where the week of a day begins: the later of its Monday and the start day
abbrev pub week_start : SchemeValue → ℕ → ℕ
week_start scheme day = max (monday_on_or_before day) scheme.start

-- the day fares of the week before the day, by how many taps are paid on each day
abbrev pub fares_before : SchemeValue → Tariff → (ℕ → ℕ) → ℕ → ℕ
fares_before scheme tariff paid_by_day day =
    sum_below (day - week_start scheme day) (λ k. day_fare tariff (paid_by_day (week_start scheme day + k)))

-- by how much a week's fares rise under the weekly cap
abbrev pub rise : Tariff → ℕ → ℕ → ℕ
rise tariff before after = min tariff.weekly after - min tariff.weekly before

-- what an account pays for a day: by how much the day's fare raises the week's
abbrev pub amount_by : SchemeValue → AccountValue → (ℕ → ℕ) → ℕ → ℕ
amount_by scheme account paid_by_day day =
    let tariff = tariff_or_none scheme account.product in
    let before = fares_before scheme tariff paid_by_day day in
    rise tariff before (before + day_fare tariff (paid_by_day day))
