use Rattle.std.proofs.Common.{◌+◌, ◌-◌, ◌<◌, ◌≤◌}
use Rattle.fare_store.proofs.Readings.{Since}
use Rattle.fare_desk.specs.Showing.{stated_days}
use Rattle.fare_desk.proofs.Held.{Found}
use Rattle.fare_desk.proofs.standing.statements_from.Given as goal

abbrev pub invariant-loop-statement : goal.invariant-loop-statement
invariant-loop-statement g l =
    Since (g.O.Outbox.standing l.fn.outbox) (g.O.Outbox.standing l.outbox) (0 < l.statements) (Found (stated_days (g.O.Outbox.standing l.fn.outbox).value l.owner l.device) l.fn.first l.statements l.from)
    × (l.fn.first + l.statements ≤ l.from)

abbrev pub decreases-loop-statement : goal.decreases-loop-statement
decreases-loop-statement g l = 100001 - l.from
