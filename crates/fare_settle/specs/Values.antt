-- What contracts see of a settlement.
use Rattle.std.specs.Prelude.{ℕ, List}
use Rattle.fare_settle.specs.declared.route_share.RouteShare.{RouteShare}

-- what an operator gets for a day, and of each route
pub record SettledValue : Type 0 where
  pub operator : ℕ
  pub taps : ℕ
  pub amount : ℕ
  pub routes : List RouteShare
