use Rattle.std.proofs.Common.{◌<◌}
use Rattle.fare_store.proofs.Readings.{Since}
use Rattle.fare_sessions.proofs.Unheld.{AreHeldBefore}
use Rattle.fare_sessions.proofs.billing.first_unheld.Given as goal

abbrev pub invariant-loop-device : goal.invariant-loop-device
invariant-loop-device g l = Since (g.L.Ledger.standing l.fn.ledger) (g.L.Ledger.standing l.ledger) (0 < l.device-index) (AreHeldBefore (g.L.Ledger.standing l.fn.ledger).value.from l.day l.scheme.devices l.device-index)
