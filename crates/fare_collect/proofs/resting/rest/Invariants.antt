use Rattle.std.proofs.Common.{◌≡◌, List, None}
use Rattle.std.specs.Prelude.{◌⊎◌}
use Rattle.fare_inbox_queue.specs.declared.arrived.Arrived.{Arrived}
use Rattle.fare_writer.specs.Keeping.{HasKept}
use Rattle.fare_collect.specs.Resting.{HasPassed, IsGoing}
use Rattle.fare_collect.proofs.resting.rest.Given as goal

abbrev pub invariant-loop : goal.invariant-loop
invariant-loop g l =
    (items : List Arrived) × HasPassed l.scheme g.S.Source.talk l.id l.fn.station l.station items × HasKept l.scheme (g.O.Outbox.standing l.fn.outbox) (g.O.Outbox.standing l.outbox) items l.fn.tally l.tally None
    × (IsGoing l.station.end ⊎ (l.station.end.held ≡ None))
