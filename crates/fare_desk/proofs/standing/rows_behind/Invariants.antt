use Rattle.std.proofs.Common.{◌+◌, ◌-◌, ◌<◌, ◌≤◌}
use Rattle.fare_store.proofs.Readings.{Since}
use Rattle.fare_desk.proofs.Held.{Found}
use Rattle.fare_desk.proofs.standing.rows_behind.Given as goal

abbrev pub invariant-loop-row : goal.invariant-loop-row
invariant-loop-row g l =
    Since (g.O.Outbox.standing l.fn.outbox) (g.O.Outbox.standing l.outbox) (0 < l.rows) (Found ((g.O.Outbox.standing l.fn.outbox).value.rows l.owner l.device) (l.fn.after + 1) l.rows (l.last + 1))
    × (l.fn.after + l.rows ≤ l.last)

abbrev pub decreases-loop-row : goal.decreases-loop-row
decreases-loop-row g l = 18446744073709551616 - l.last
