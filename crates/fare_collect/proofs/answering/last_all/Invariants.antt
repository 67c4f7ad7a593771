use Rattle.fare_collect.proofs.Last.{AreAnswering}
use Rattle.fare_collect.proofs.answering.last_all.Given as goal

abbrev pub invariant-loop-device : goal.invariant-loop-device
invariant-loop-device g l = AreAnswering l.scheme g.S.Source.talk (g.O.Outbox.standing l.fn.outbox) (g.O.Outbox.standing l.outbox) l.fn.stations l.stations l.device-index
