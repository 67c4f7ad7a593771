-- A settlement depends on the records of its week alone, and not on their order.
use Rattle.std.proofs.Common.{◌≡◌, ℕ, ◌+◌, List, [], ◌∷◌, ◌++◌, map, filter, refl, ◌∙◌, ap}
use Rattle.fare_record.specs.Values.{RecordValue}
use Rattle.fare_scheme.specs.Values.{SchemeValue}
use Rattle.fare_cap.specs.Order.{in_order}
use Rattle.fare_cap.specs.Accounts.{account_of, part_of, counted_on}
use Rattle.fare_cap.specs.Windows.{paid}
use Rattle.fare_cap.specs.Fares.{hop_of, day_fare, rise, tariff_or_none}
use Rattle.fare_cap.proofs.Ordered.{in_order_filter}
use Rattle.fare_cap.proofs.Weeks.{HaveSameWeek, fares-same_week, week-kept}
use Rattle.fare_cap.proofs.Permuted.{in_order-permutation}
use Rattle.fare_settle.specs.declared.charge.Charge.{Charge}
use Rattle.fare_settle.specs.Charges.{operator_or_none, charge_behind, charges_behind, charges_of}
use Rattle.fare_settle.specs.Settling.{share_of, OtherDaysSettleNothing, OrderSettlesNothing}

charge-same_week : (scheme : SchemeValue) (day : ℕ) (xs ys : List RecordValue) → HaveSameWeek scheme day xs ys → (front : List RecordValue) (tap : RecordValue)
    → charge_behind scheme xs day front tap ≡ charge_behind scheme ys day front tap
charge-same_week scheme day xs ys same front tap = ap by (fares-same_week scheme day xs ys same (account_of tap))
  where
    by : ℕ → Charge
    by week = record {
      operator = operator_or_none scheme tap.device;
      route = tap.tap.route;
      amount =
          rise (tariff_or_none scheme (account_of tap).product) (week + day_fare (tariff_or_none scheme (account_of tap).product) (paid (hop_of scheme (account_of tap)) (part_of (account_of tap) front)))
          (week + day_fare (tariff_or_none scheme (account_of tap).product) (paid (hop_of scheme (account_of tap)) (part_of (account_of tap) front ++ tap ∷ [])));
    }

charges_behind-same_week : (scheme : SchemeValue) (day : ℕ) (xs ys : List RecordValue) → HaveSameWeek scheme day xs ys → (front rest : List RecordValue)
    → charges_behind scheme xs day front rest ≡ charges_behind scheme ys day front rest
charges_behind-same_week scheme day xs ys same front [] = refl
charges_behind-same_week scheme day xs ys same front (tap ∷ rest) =
    ap (λ (c : Charge). c ∷ charges_behind scheme xs day (front ++ tap ∷ []) rest) (charge-same_week scheme day xs ys same front tap)
    ∙ ap (λ (l : List Charge). charge_behind scheme ys day front tap ∷ l) (charges_behind-same_week scheme day xs ys same (front ++ tap ∷ []) rest)

charges-same_week : (scheme : SchemeValue) (day : ℕ) (xs ys : List RecordValue) → HaveSameWeek scheme day xs ys → charges_of scheme xs day ≡ charges_of scheme ys day
charges-same_week scheme day xs ys same =
    charges_behind-same_week scheme day xs ys same [] (counted_on scheme day xs) ∙ ap (charges_behind scheme ys day []) same.now

pub other_days_settle_nothing : OtherDaysSettleNothing
other_days_settle_nothing scheme day p records week =
    ap (λ (ordered : List RecordValue). map (share_of (charges_of scheme ordered day)) scheme.operators) (in_order_filter p records)
    ∙ ap (λ (charges : List Charge). map (share_of charges) scheme.operators) (charges-same_week scheme day (filter p (in_order records)) (in_order records) (week-kept scheme day p week (in_order records)))

pub order_settles_nothing : OrderSettlesNothing
order_settles_nothing scheme day xs ys moved distinct =
    ap (λ (ordered : List RecordValue). map (share_of (charges_of scheme ordered day)) scheme.operators) (in_order-permutation xs ys moved distinct)
