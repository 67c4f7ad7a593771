use Rattle.std.proofs.Common.{◌≡◌, drop}
use Rattle.fare_serve.specs.Calls.{first_ending}
use Rattle.fare_serve.proofs.sessions.first_ending_of.Given as goal

abbrev pub invariant-loop-fault : goal.invariant-loop-fault
invariant-loop-fault l = first_ending l.faults ≡ first_ending (drop l.fault-index l.faults)
