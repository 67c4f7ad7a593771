use Rattle.std.proofs.Common.{◌≡◌, take}
use Rattle.std.specs.Map.{keys_of}
use Rattle.fare_sessions.specs.Stores.{AreClean, AreSound}
use Rattle.fare_desk.specs.Causes.{failures_of}
use Rattle.fare_desk.proofs.Lanes.{lanes_over}
use Rattle.fare_desk.proofs.LetGo.{StandsOver}
use Rattle.fare_desk.proofs.forgetting.forget_days.Given as goal

abbrev pub invariant-loop-place : goal.invariant-loop-place
invariant-loop-place g l = StandsOver g.O.Outbox.standing g.L.Ledger.standing l.first (lanes_over (take l.place (keys_of l.fn.hub.scheme.owners)) (keys_of l.fn.hub.scheme.devices)) l.fn.hub l.hub (g.W.Write.contents l.fn.output) (g.W.Write.contents l.output) × (AreClean g.O.Outbox.standing g.L.Ledger.standing l.hub → AreSound g.O.Outbox.standing g.L.Ledger.standing l.fn.hub → failures_of g.O.Outbox.standing g.L.Ledger.standing l.hub ≡ failures_of g.O.Outbox.standing g.L.Ledger.standing l.fn.hub)
