use Rattle.std.proofs.Common.{◌≡◌, ◌++◌, map}
use Rattle.fare_settle.specs.Routes.{route_share_of, shares_by_route}
use Rattle.fare_settle.proofs.routes.shares_by_route.Given as goal

abbrev pub invariant-loop-route : goal.invariant-loop-route
invariant-loop-route l = l.shares.items ++ map (route_share_of l.charges) l.route-iterator ≡ shares_by_route l.charges
