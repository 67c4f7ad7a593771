-- A bill depends on the records of its week alone, and not on their order.
use Rattle.std.proofs.Common.{◌≡◌, ℕ, ◌+◌, ◌-◌, ◌<◌, ◌≤◌, Bool, true, false, cond, ◌&&◌, ◌==◌, eqb-true, nat_le, leb-true, List, [], ◌∷◌, length, map, filter, refl, sym, ◌∙◌, ap, arith}
use Rattle.std.proofs.lemmas.Bool.{and_parts}
use Rattle.fare_record.specs.Values.{RecordValue}
use Rattle.fare_scheme.specs.Values.{SchemeValue}
use Rattle.fare_cap.specs.Values.{AccountValue}
use Rattle.fare_cap.specs.Order.{in_order}
use Rattle.fare_cap.specs.Accounts.{counts, counted_on, part_of, accounts_of}
use Rattle.fare_cap.specs.Windows.{paid}
use Rattle.fare_cap.specs.Fares.{paid_on, hop_of, week_start, fares_before, day_fare, rise, tariff_or_none}
use Rattle.fare_cap.specs.Bills.{BillValue, row_of, bill_rows, total_of}
use Rattle.fare_cap.specs.declared.row.Row.{Row}
use Rattle.fare_cap.specs.Spans.{KeepsWeek, OtherDaysCountNowhere}
use Rattle.fare_cap.proofs.Sorting.{filter_yes, filter_no}
use Rattle.fare_cap.proofs.Ordered.{in_order_filter}
use Rattle.fare_cap.proofs.Amounts.{row_with, fares_before-same_week}

-- two lists have the same taps that count on each day of the week up to the day
pub record HaveSameWeek (scheme : SchemeValue) (day : ℕ) (xs ys : List RecordValue) : Type 0 where
  pub before : (k : ℕ) → k < day - week_start scheme day → counted_on scheme (week_start scheme day + k) xs ≡ counted_on scheme (week_start scheme day + k) ys
  pub now : counted_on scheme day xs ≡ counted_on scheme day ys

pub fares-same_week : (scheme : SchemeValue) (day : ℕ) (xs ys : List RecordValue) → HaveSameWeek scheme day xs ys → (account : AccountValue)
    → fares_before scheme (tariff_or_none scheme account.product) (paid_on scheme xs account) day ≡ fares_before scheme (tariff_or_none scheme account.product) (paid_on scheme ys account) day
fares-same_week scheme day xs ys same account =
    fares_before-same_week scheme (tariff_or_none scheme account.product) (paid_on scheme xs account) (paid_on scheme ys account) day
    (λ k l. ap (λ (taps : List RecordValue). paid (hop_of scheme account) (part_of account taps)) (same.before k l))

row-same_week : (scheme : SchemeValue) (day : ℕ) (xs ys : List RecordValue) → HaveSameWeek scheme day xs ys → (account : AccountValue) → row_of scheme xs day account ≡ row_of scheme ys day account
row-same_week scheme day xs ys same account =
    ap (λ week. by week (part_of account (counted_on scheme day xs))) (fares-same_week scheme day xs ys same account)
    ∙ ap (λ (taps : List RecordValue). by (fares_before scheme (tariff_or_none scheme account.product) (paid_on scheme ys account) day) (part_of account taps)) same.now
  where
    by : ℕ → List RecordValue → Row
    by week taps =
        row_with account (length taps) (rise (tariff_or_none scheme account.product) week (week + day_fare (tariff_or_none scheme account.product) (paid (hop_of scheme account) taps)))

map-same : {X Y : Type 0} (f g : X → Y) → ((x : X) → f x ≡ g x) → (xs : List X) → map f xs ≡ map g xs
map-same f g same [] = refl
map-same {X} {Y} f g same (x ∷ xs) = ap (λ y. y ∷ map f xs) (same x) ∙ ap (λ (l : List Y). g x ∷ l) (map-same f g same xs)

pub rows-same_week : (scheme : SchemeValue) (day : ℕ) (xs ys : List RecordValue) → HaveSameWeek scheme day xs ys → bill_rows scheme xs day ≡ bill_rows scheme ys day
rows-same_week scheme day xs ys same =
    map-same (row_of scheme xs day) (row_of scheme ys day) (row-same_week scheme day xs ys same) (accounts_of (counted_on scheme day xs))
    ∙ ap (λ (taps : List RecordValue). map (row_of scheme ys day) (accounts_of taps)) same.now

-- RECORDS OF OTHER DAYS
filter_kept : {X : Type 0} (q p : X → Bool) → ((x : X) → q x ≡ true → p x ≡ true) → (xs : List X) → filter q (filter p xs) ≡ filter q xs
filter_kept q p keeps [] = refl
filter_kept {X} q p keeps (x ∷ xs) = by (filter_kept q p keeps xs) (p x) (q x) refl refl
  where
    by : filter q (filter p xs) ≡ filter q xs → (s t : Bool) → p x ≡ s → q x ≡ t → filter q (filter p (x ∷ xs)) ≡ filter q (x ∷ xs)
    by rest true t a b = ap (filter q) (filter_yes p x xs a) ∙ ap (λ (l : List X). cond (q x) (x ∷ l) l) rest
    by rest false true a b = absurd (bad (sym a ∙ keeps x b))
      where
        bad : false ≡ true → ⊥
        bad e = cc
    by rest false false a b = ap (filter q) (filter_no p x xs a) ∙ rest ∙ sym (filter_no q x xs b)

counted-kept : (scheme : SchemeValue) (day : ℕ) (p : RecordValue → Bool) → KeepsWeek scheme day p → (on : ℕ) → on ≤ day → (scheme.start ≤ on → week_start scheme day ≤ on)
    → (xs : List RecordValue) → counted_on scheme on (filter p xs) ≡ counted_on scheme on xs
counted-kept scheme day p week on within begun xs = filter_kept (λ r. counts scheme r && r.tap.day == on) p keeps xs
  where
    keeps : (r : RecordValue) → (counts scheme r && r.tap.day == on) ≡ true → p r ≡ true
    keeps r yes_on =
        let parts = and_parts (counts scheme r) (r.tap.day == on) yes_on in
        let is_on : r.tap.day ≡ on = eqb-true r.tap.day on parts.1 in
        let started : scheme.start ≤ r.tap.day = leb-true scheme.start r.tap.day ((and_parts _ (nat_le scheme.start r.tap.day) parts.0).1) in
        let from : week_start scheme day ≤ on = begun (omega (arith, is_on, started)) in
        week.kept r (omega (arith, is_on, from)) (omega (arith, is_on, within))

pub week-kept : (scheme : SchemeValue) (day : ℕ) (p : RecordValue → Bool) → KeepsWeek scheme day p → (xs : List RecordValue) → HaveSameWeek scheme day (filter p xs) xs
week-kept scheme day p week xs = record {
  before = λ k l. counted-kept scheme day p week (week_start scheme day + k) (omega arith) (λ s. omega arith) xs;
  now = counted-kept scheme day p week day (omega arith) (λ s. omega (arith, s)) xs;
}

pub other_days_count_nowhere : OtherDaysCountNowhere
other_days_count_nowhere scheme day p records week =
    ap (λ (ordered : List RecordValue). with_rows (bill_rows scheme ordered day)) (in_order_filter p records)
    ∙ ap with_rows (rows-same_week scheme day (filter p (in_order records)) (in_order records) (week-kept scheme day p week (in_order records)))
  where
    with_rows : List Row → BillValue
    with_rows rows = record { rows = rows; total = total_of rows }
