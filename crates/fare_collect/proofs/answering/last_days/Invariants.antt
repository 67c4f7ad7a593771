use Rattle.std.proofs.Common.{◌≡◌, ◌++◌, List}
use Rattle.std.specs.Prelude.{Ok}
use Rattle.fare_store.specs.Keys.{Key}
use Rattle.fare_collect.specs.Ending.{HaveSent}
use Rattle.fare_collect.specs.Noting.{day_acks, AreNoted}
use Rattle.fare_collect.proofs.answering.last_days.Given as goal

abbrev pub invariant-loop-device : goal.invariant-loop-device
invariant-loop-device g l = (passed : List Key) × (passed ++ l.device-iterator ≡ l.days.keys) × AreNoted l.scheme l.device-iterator × HaveSent l.scheme g.S.Source.talk (g.O.Outbox.standing l.fn.outbox) (g.O.Outbox.standing l.outbox) l.fn.stations l.stations (λ x. day_acks l.scheme x passed) (Ok tt)
