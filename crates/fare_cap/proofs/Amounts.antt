-- Amounts by two tables that tell the same.
use Rattle.std.proofs.Common.{◌≡◌, ℕ, zero, suc, ◌+◌, ◌-◌, ◌<◌, List, refl, ◌∙◌, ap, arith}
use Rattle.fare_record.specs.Values.{RecordValue}
use Rattle.fare_scheme.specs.Values.{SchemeValue}
use Rattle.fare_scheme.specs.declared.entry.Tariff.{Tariff}
use Rattle.fare_cap.specs.Values.{AccountValue}
use Rattle.fare_cap.specs.declared.day_rides.DayRides.{DayRides}
use Rattle.fare_cap.specs.declared.row.Row.{Row}
use Rattle.fare_cap.specs.Fares.{sum_below, day_fare, week_start, fares_before, rise, tariff_or_none, amount_by, paid_on}
use Rattle.fare_cap.specs.RidesWords.{rides_on}
use Rattle.fare_cap.specs.Bills.{row_of}

abbrev pub row_with : AccountValue → ℕ → ℕ → Row
row_with account rides amount = record { account = account; rides = rides; amount = amount }

pub sum_below-same : (n : ℕ) (f g : ℕ → ℕ) → ((k : ℕ) → f k ≡ g k) → sum_below n f ≡ sum_below n g
sum_below-same zero f g same = refl
sum_below-same (suc n) f g same = ap (λ s. s + f n) (sum_below-same n f g same) ∙ ap (λ x. sum_below n g + x) (same n)

-- the same where they agree on the days before the day, and on it
pub sum_below-same_below : (n : ℕ) (f g : ℕ → ℕ) → ((k : ℕ) → k < n → f k ≡ g k) → sum_below n f ≡ sum_below n g
sum_below-same_below zero f g same = refl
sum_below-same_below (suc n) f g same = ap (λ s. s + f n) (sum_below-same_below n f g (λ k l. same k (omega arith))) ∙ ap (λ x. sum_below n g + x) (same n (omega arith))

pub fares_before-same_week : (scheme : SchemeValue) (tariff : Tariff) (f g : ℕ → ℕ) (day : ℕ) → ((k : ℕ) → k < day - week_start scheme day → f (week_start scheme day + k) ≡ g (week_start scheme day + k))
    → fares_before scheme tariff f day ≡ fares_before scheme tariff g day
fares_before-same_week scheme tariff f g day same =
    sum_below-same_below (day - week_start scheme day) (λ k. day_fare tariff (f (week_start scheme day + k))) (λ k. day_fare tariff (g (week_start scheme day + k)))
    (λ k l. ap (day_fare tariff) (same k l))

pub fares_before-same : (scheme : SchemeValue) (tariff : Tariff) (f g : ℕ → ℕ) (day : ℕ) → ((k : ℕ) → f k ≡ g k) → fares_before scheme tariff f day ≡ fares_before scheme tariff g day
fares_before-same scheme tariff f g day same =
    sum_below-same (day - week_start scheme day) (λ k. day_fare tariff (f (week_start scheme day + k))) (λ k. day_fare tariff (g (week_start scheme day + k)))
    (λ k. ap (day_fare tariff) (same (week_start scheme day + k)))

pub amount_by-same : (scheme : SchemeValue) (account : AccountValue) (f g : ℕ → ℕ) (day : ℕ) → ((k : ℕ) → f k ≡ g k) → amount_by scheme account f day ≡ amount_by scheme account g day
amount_by-same scheme account f g day same =
    let tariff = tariff_or_none scheme account.product in
    let before = fares_before-same scheme tariff f g day same in
    ap (λ b. rise tariff b (b + day_fare tariff (f day))) before ∙ ap (λ n. rise tariff (fares_before scheme tariff g day) (fares_before scheme tariff g day + day_fare tariff n)) (same day)

-- the row that a table of rides gives
pub row_same : (scheme : SchemeValue) (ordered : List RecordValue) (day : ℕ) (account : AccountValue) (table : AccountValue → ℕ → DayRides) (rides amount : ℕ)
    → ((a : AccountValue) (d : ℕ) → table a d ≡ rides_on scheme ordered a d) → rides ≡ (table account day).taps → amount ≡ amount_by scheme account (λ d. (table account d).paid) day
    → row_with account rides amount ≡ row_of scheme ordered day account
row_same scheme ordered day account table rides amount counts is_rides is_amount =
    ap (λ n. row_with account n amount) (is_rides ∙ ap (λ (r : DayRides). r.taps) (counts account day))
    ∙ ap (row_with account (rides_on scheme ordered account day).taps)
    (is_amount ∙ amount_by-same scheme account (λ d. (table account d).paid) (paid_on scheme ordered account) day (λ d. ap (λ (r : DayRides). r.paid) (counts account d)))
