use Rattle.std.proofs.Common.{◌≡◌, take}
use Rattle.fare_settle.specs.Routes.{routes_of}
use Rattle.fare_settle.proofs.routes.routes.Given as goal

abbrev pub invariant-loop-charge : goal.invariant-loop-charge
invariant-loop-charge l = l.routes.keys ≡ routes_of (take l.charge-index l.charges)
