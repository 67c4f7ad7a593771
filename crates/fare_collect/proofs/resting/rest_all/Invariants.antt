use Rattle.std.proofs.Common.{None}
use Rattle.fare_collect.specs.Resting.{HaveRested}
use Rattle.fare_collect.proofs.resting.rest_all.Given as goal

abbrev pub invariant-loop-place : goal.invariant-loop-place
invariant-loop-place g l = HaveRested l.scheme g.S.Source.talk (g.O.Outbox.standing l.fn.outbox) (g.O.Outbox.standing l.outbox) l.fn.tally l.tally l.fn.stations l.stations l.place None
