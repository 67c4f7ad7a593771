use Rattle.fare_collect.proofs.Resumed.{AreResuming}
use Rattle.fare_collect.proofs.collecting.resume.Given as goal

abbrev pub invariant-loop-device : goal.invariant-loop-device
invariant-loop-device g l = AreResuming l.scheme (g.O.Outbox.standing l.fn.outbox) (g.O.Outbox.standing l.outbox) l.fn.stations l.stations l.device-index
