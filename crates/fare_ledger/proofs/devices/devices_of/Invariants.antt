use Rattle.fare_ledger.specs.Known.{knows}
use Rattle.fare_ledger.proofs.Known.{AreKnown}
use Rattle.fare_ledger.proofs.devices.devices_of.Given as goal

abbrev pub invariant-loop-device : goal.invariant-loop-device
invariant-loop-device l = AreKnown l.scheme l.device-index (knows l.devices)
