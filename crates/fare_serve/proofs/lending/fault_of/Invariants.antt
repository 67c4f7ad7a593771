use Rattle.std.proofs.Common.{◌≡◌, drop}
use Rattle.fare_serve.specs.Lending.{fault_in}
use Rattle.fare_serve.proofs.lending.fault_of.Given as goal

abbrev pub invariant-loop-fault : goal.invariant-loop-fault
invariant-loop-fault l = fault_in l.station l.faults ≡ fault_in l.station (drop l.fault-index l.faults)
