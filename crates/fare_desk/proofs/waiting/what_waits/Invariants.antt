use Rattle.std.proofs.Common.{◌≡◌, take}
use Rattle.std.specs.Map.{keys_of}
use Rattle.fare_desk.specs.Causes.{failures_of}
use Rattle.fare_desk.specs.Waiting.{TellsOwners}
use Rattle.fare_desk.proofs.waiting.what_waits.Given as goal

abbrev pub invariant-loop-place : goal.invariant-loop-place
invariant-loop-place g l = TellsOwners g.O.Outbox.standing g.L.Ledger.standing (take l.place (keys_of l.fn.hub.scheme.owners)) l.fn.hub l.hub l.waits.items × (failures_of g.O.Outbox.standing g.L.Ledger.standing l.hub ≡ failures_of g.O.Outbox.standing g.L.Ledger.standing l.fn.hub)
