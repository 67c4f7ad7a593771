use Rattle.std.proofs.Common.{None}
use Rattle.fare_world.specs.Restarts.{IsAsked}
use Rattle.fare_world.proofs.Pairs.{PairedTo}
use Rattle.fare_world.proofs.world.restarting.ask_owners.Given as goal

abbrev pub invariant-loop-owner : goal.invariant-loop-owner
invariant-loop-owner g l = PairedTo (IsAsked g.L.Ledger.standing l.scheme None) l.fn.owners l.owners l.owner-index
