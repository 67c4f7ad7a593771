use Rattle.std.proofs.Common.{◌≡◌, take}
use Rattle.std.specs.Map.{keys_of}
use Rattle.fare_desk.specs.Causes.{failures_of}
use Rattle.fare_desk.specs.Waiting.{TellsWaiting}
use Rattle.fare_desk.proofs.waiting.waits_for.Given as goal

abbrev pub invariant-loop-place : goal.invariant-loop-place
invariant-loop-place g l = TellsWaiting g.O.Outbox.standing g.L.Ledger.standing l.owner (take l.place (keys_of l.fn.hub.scheme.devices)) l.fn.hub l.hub l.waiting × (failures_of g.O.Outbox.standing g.L.Ledger.standing l.hub ≡ failures_of g.O.Outbox.standing g.L.Ledger.standing l.fn.hub)
