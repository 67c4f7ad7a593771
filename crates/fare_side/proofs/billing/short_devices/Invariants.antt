use Rattle.std.proofs.Common.{◌<◌, ◌≤◌}
use Rattle.fare_store.proofs.Readings.{Since}
use Rattle.fare_side.proofs.Opens.{AreShortBefore}
use Rattle.fare_side.proofs.billing.short_devices.Given as goal

abbrev pub invariant-loop-device : goal.invariant-loop-device
invariant-loop-device g l =
    let v = (g.L.Ledger.standing l.fn.ledger).value in
    Since (g.L.Ledger.standing l.fn.ledger) (g.L.Ledger.standing l.ledger) (0 < l.device-index) (v.start ≤ l.day → AreShortBefore v.start v.closed v.retired l.day l.scheme.devices l.device-index l.short.items)
