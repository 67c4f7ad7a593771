-- The shares of routes add up.
use Rattle.std.proofs.Common.{◌≡◌, ℕ, ◌+◌, ◌==◌, List, [], ◌∷◌, length, map, sum_by, refl, sym, ◌∙◌, ap, eqb-true, arith}
use Rattle.std.specs.Cmp.{nat_cmp_total}
use Rattle.std.specs.Ordering.{nat_cmp}
use Rattle.std.specs.List.{AllByRecursion}
use Rattle.std.proofs.lemmas.List.Sums.{sum_by-cons}
use Rattle.fare_cap.specs.Order.{in_order}
use Rattle.fare_cap.proofs.CountedKeys.{nat_tied}
use Rattle.fare_settle.specs.declared.charge.Charge.{Charge}
use Rattle.fare_settle.specs.declared.route_share.RouteShare.{RouteShare}
use Rattle.fare_settle.specs.Charges.{charges_of}
use Rattle.fare_settle.specs.Routes.{sum_of, charges_on, routes_of, route_share_of, shares_by_route}
use Rattle.fare_settle.specs.Settling.{charges_at, share_of, AddsUp, RoutesAddUp}
use Rattle.fare_settle.proofs.Listing.{keys_apart, keys_all}
use Rattle.fare_settle.proofs.Summing.{sum_by-same, sum_by-map, sum_by-keys}

ones : {X : Type 0} (xs : List X) → sum_by (λ x. 1) xs ≡ length xs
ones [] = refl
ones (x ∷ xs) = let first = sum_by-cons (λ y. 1) x xs in let rest = ones xs in omega (arith, first, rest)

-- the sums of charges by route add up to their sum
by_route : (amount : Charge → ℕ) (charges : List Charge) → sum_by (λ route. sum_by amount (charges_on charges route)) (routes_of charges) ≡ sum_by amount charges
by_route amount charges =
    sum_by-keys (λ a b. a == b) eqb-true (λ (c : Charge). c.route) amount (routes_of charges) charges
    (keys_apart nat_cmp (λ a b. a == b) nat_cmp_total nat_tied eqb-true (λ (c : Charge). c.route) charges)
    (keys_all nat_cmp (λ a b. a == b) nat_cmp_total nat_tied eqb-true (λ (c : Charge). c.route) charges)

shares_add_up : (charges : List Charge) (operator : ℕ) → AddsUp (share_of charges operator)
shares_add_up charges operator =
    let own = charges_at charges operator in
    record {
      taps =
          sum_by-map (λ (r : RouteShare). r.taps) (route_share_of own) (routes_of own)
          ∙ sum_by-same (λ route. length (charges_on own route)) (λ route. sum_by (λ (c : Charge). 1) (charges_on own route)) (λ route. sym (ones (charges_on own route))) (routes_of own)
          ∙ by_route (λ (c : Charge). 1) own ∙ ones own;
      amount = sum_by-map (λ (r : RouteShare). r.amount) (route_share_of own) (routes_of own) ∙ by_route (λ (c : Charge). c.amount) own;
    }

all_shares : (charges : List Charge) (operators : List ℕ) → AllByRecursion AddsUp (map (share_of charges) operators)
all_shares charges [] = tt
all_shares charges (o ∷ operators) = (shares_add_up charges o, all_shares charges operators)

pub routes_add_up : RoutesAddUp
routes_add_up scheme records day = all_shares (charges_of scheme (in_order records) day) scheme.operators
