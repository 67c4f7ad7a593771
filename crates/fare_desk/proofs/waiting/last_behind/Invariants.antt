use Rattle.fare_store.proofs.Readings.{Since}
use Rattle.fare_desk.proofs.Waits.{IsSearched, HasAsked, left_of}
use Rattle.fare_desk.proofs.waiting.last_behind.Given as goal

abbrev pub invariant-loop-owner : goal.invariant-loop-owner
invariant-loop-owner g l = Since (g.O.Outbox.standing l.fn.outbox) (g.O.Outbox.standing l.outbox) (HasAsked l.step l.high) (IsSearched ((g.O.Outbox.standing l.fn.outbox).value.rows l.owner l.device) l.fn.after l.low l.high)

abbrev pub decreases-loop-owner : goal.decreases-loop-owner
decreases-loop-owner g l = left_of l.low l.high
