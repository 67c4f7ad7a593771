-- What a tally tells of a route.
use Rattle.std.specs.Prelude.{ℕ, unwrap_or, nat_eq}
use Rattle.std.specs.HashMap.{get}
use Rattle.fare_settle.specs.declared.route_share.RouteShare.{RouteShare}
use Rattle.fare_settle.specs.declared.tally.Tally.{Tally}
use Rattle.fare_settle.specs.Routes.{no_share}

abbrev pub tallied : Tally → ℕ → RouteShare
tallied tally route = unwrap_or (get nat_eq tally.shares route) (no_share route)
