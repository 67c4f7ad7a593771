use Rattle.std.proofs.Common.{◌≡◌, map, take}
use Rattle.fare_settle.specs.Settling.{share_of}
use Rattle.fare_settle.proofs.settling.settle.Given as goal

abbrev pub invariant-loop-operator : goal.invariant-loop-operator
invariant-loop-operator l = l.shares.items ≡ map (share_of l.charges.items) (take l.operator-index l.scheme.operators)
