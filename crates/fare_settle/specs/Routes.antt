-- What charges come to on each route.
use Rattle.std.specs.Prelude.{ℕ, ◌+◌, ◌==◌, List, [], length, filter, fold, map, sum_by}
use Rattle.std.specs.Ordering.{nat_cmp}
use Rattle.std.specs.BTreeSet.{insert_key}
use Rattle.fare_settle.specs.declared.charge.Charge.{Charge}
use Rattle.fare_settle.specs.declared.route_share.RouteShare.{RouteShare}

-- the sum of charges
abbrev pub sum_of : List Charge → ℕ
sum_of charges = sum_by (λ (c : Charge). c.amount) charges

-- those of a route
abbrev pub charges_on : List Charge → ℕ → List Charge
charges_on charges route = filter (λ (c : Charge). c.route == route) charges

-- the routes of charges, each once, ascending
abbrev pub routes_of : List Charge → List ℕ
routes_of charges = fold (λ routes (c : Charge). insert_key nat_cmp routes c.route) [] charges

-- a route with the number of its charges, which is that of its taps, and their sum
abbrev pub route_share_of : List Charge → ℕ → RouteShare
route_share_of charges route = record { route = route; taps = length (charges_on charges route); amount = sum_of (charges_on charges route) }

-- the share of each route, ascending
abbrev pub shares_by_route : List Charge → List RouteShare
shares_by_route charges = map (route_share_of charges) (routes_of charges)

-- a route with no charge, and what one more makes of a share
abbrev pub no_share : ℕ → RouteShare
no_share route = record { route = route; taps = 0; amount = 0 }

abbrev pub with_charge : RouteShare → Charge → RouteShare
with_charge share charge = record { route = share.route; taps = share.taps + 1; amount = share.amount + charge.amount }
