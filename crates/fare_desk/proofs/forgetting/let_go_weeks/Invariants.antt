use Rattle.std.proofs.Common.{◌≡◌, ◌-◌}
use Rattle.fare_sessions.specs.Stores.{AreClean, AreSound}
use Rattle.fare_desk.specs.Causes.{failures_of}
use Rattle.fare_desk.specs.Forgetting.{LetsSomeGo, MayGo}
use Rattle.fare_desk.proofs.forgetting.let_go_weeks.Given as goal

abbrev pub invariant-loop-week : goal.invariant-loop-week
invariant-loop-week g l =
    LetsSomeGo g.O.Outbox.standing g.L.Ledger.standing l.day l.owner l.device l.fn.hub l.hub
    × (AreSound g.O.Outbox.standing g.L.Ledger.standing l.fn.hub → MayGo g.O.Outbox.standing g.L.Ledger.standing l.day l.owner l.device l.fn.hub → MayGo g.O.Outbox.standing g.L.Ledger.standing l.day l.owner l.device l.hub)
    × (AreClean g.O.Outbox.standing g.L.Ledger.standing l.hub → AreSound g.O.Outbox.standing g.L.Ledger.standing l.fn.hub → MayGo g.O.Outbox.standing g.L.Ledger.standing l.day l.owner l.device l.fn.hub → failures_of g.O.Outbox.standing g.L.Ledger.standing l.hub ≡ failures_of g.O.Outbox.standing g.L.Ledger.standing l.fn.hub)

abbrev pub decreases-loop-week : goal.decreases-loop-week
decreases-loop-week g l = l.day - l.week
