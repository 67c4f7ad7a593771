use Rattle.fare_world.specs.Restarts.{IsOwnerAgain}
use Rattle.fare_world.proofs.Pairs.{PairedTo}
use Rattle.fare_world.proofs.world.restarting.restart_owners.Given as goal

abbrev pub invariant-loop-owner : goal.invariant-loop-owner
invariant-loop-owner g l = PairedTo (IsOwnerAgain l.scheme) l.fn.owners l.owners l.owner-index
