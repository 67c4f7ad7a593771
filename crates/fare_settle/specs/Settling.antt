-- The settlement of a day.
use Rattle.std.specs.Prelude.{◌≡◌, ℕ, Bool, ◌==◌, List, length, filter, map, sum_by}
use Rattle.std.specs.List.{AllByRecursion}
use Rattle.std.specs.List.Sorted.{IsPermutation}
use Rattle.fare_record.specs.Values.{RecordValue}
use Rattle.fare_scheme.specs.Values.{SchemeValue}
use Rattle.fare_scheme.specs.Facts.{IsScheme}
use Rattle.fare_cap.specs.Order.{in_order}
use Rattle.fare_cap.specs.Bills.{bill_of}
use Rattle.fare_cap.specs.Spans.{KeepsWeek, AreApart}
use Rattle.fare_settle.specs.declared.charge.Charge.{Charge}
use Rattle.fare_settle.specs.declared.route_share.RouteShare.{RouteShare}
use Rattle.fare_settle.specs.Values.{SettledValue}
use Rattle.fare_settle.specs.Routes.{sum_of, shares_by_route}
use Rattle.fare_settle.specs.Charges.{charges_of}

-- an operator's charges
abbrev pub charges_at : List Charge → ℕ → List Charge
charges_at charges operator = filter (λ (c : Charge). c.operator == operator) charges

-- an operator with the number of its charges, which is that of its taps, their sum, and the same by route
abbrev pub share_of : List Charge → ℕ → SettledValue
share_of charges operator = record {
  operator = operator;
  taps = length (charges_at charges operator);
  amount = sum_of (charges_at charges operator);
  routes = shares_by_route (charges_at charges operator);
}

-- the share of each operator, in order of registration
abbrev pub settlement_of : SchemeValue → List RecordValue → ℕ → List SettledValue
settlement_of scheme records day = map (share_of (charges_of scheme (in_order records) day)) scheme.operators

-- what all operators get together
abbrev pub amount_of : List SettledValue → ℕ
amount_of settlement = sum_by (λ (s : SettledValue). s.amount) settlement

-- the operators' amounts add up to the bill's total, for every list of records
abbrev pub OperatorsShareTheBill : Type 0
OperatorsShareTheBill = (scheme : SchemeValue) (records : List RecordValue) (day : ℕ) → IsScheme scheme
    → amount_of (settlement_of scheme records day) ≡ (bill_of scheme records day).total

-- records of other days settle nothing
abbrev pub OtherDaysSettleNothing : Type 0
OtherDaysSettleNothing = (scheme : SchemeValue) (day : ℕ) (keeps : RecordValue → Bool) (records : List RecordValue) → KeepsWeek scheme day keeps
    → settlement_of scheme (filter keeps records) day ≡ settlement_of scheme records day

-- nor does the order in which they are handed in
abbrev pub OrderSettlesNothing : Type 0
OrderSettlesNothing = (scheme : SchemeValue) (day : ℕ) (some others : List RecordValue) → IsPermutation some others → AreApart some
    → settlement_of scheme some day ≡ settlement_of scheme others day

-- an operator's routes, 0 among them, add up to its two numbers
pub record AddsUp (share : SettledValue) : Type 0 where
  pub taps : sum_by (λ (r : RouteShare). r.taps) share.routes ≡ share.taps
  pub amount : sum_by (λ (r : RouteShare). r.amount) share.routes ≡ share.amount

-- so do those of each operator, for every list of records
abbrev pub RoutesAddUp : Type 0
RoutesAddUp = (scheme : SchemeValue) (records : List RecordValue) (day : ℕ) → AllByRecursion AddsUp (settlement_of scheme records day)
