use Rattle.std.proofs.Common.{◌≡◌}
use Rattle.fare_desk.specs.Causes.{failures_of}
use Rattle.fare_desk.proofs.Lane.{StandsLane}
use Rattle.fare_desk.proofs.closing.close_lane.Given as goal

abbrev pub invariant-loop : goal.invariant-loop
invariant-loop g l = StandsLane g.O.Outbox.standing g.L.Ledger.standing l.owner l.device l.fn.hub l.hub (g.W.Write.contents l.fn.output) (g.W.Write.contents l.output) l.last l.counter × (failures_of g.O.Outbox.standing g.L.Ledger.standing l.hub ≡ failures_of g.O.Outbox.standing g.L.Ledger.standing l.fn.hub)
