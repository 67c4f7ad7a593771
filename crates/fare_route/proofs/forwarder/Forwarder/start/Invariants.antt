use Rattle.std.specs.Prelude.{nat_eq}
use Rattle.std.specs.HashMap.{get}
use Rattle.fare_route.proofs.Starting.{AreStarted}
use Rattle.fare_route.proofs.forwarder.Forwarder.start.Given as goal

abbrev pub invariant-loop-place : goal.invariant-loop-place
invariant-loop-place l = AreStarted l.scheme l.counts l.place (get nat_eq l.cursors)
