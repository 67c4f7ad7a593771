use Rattle.std.proofs.Common.{take}
use Rattle.fare_settle.specs.Tallies.{tallied}
use Rattle.fare_settle.proofs.Tallying.{AreTallied}
use Rattle.fare_settle.proofs.tally.Tally.count.Given as goal

abbrev pub invariant-loop-charge : goal.invariant-loop-charge
invariant-loop-charge l = AreTallied (tallied l.tally) (take l.charge-index l.charges) l.charge-index
