use Rattle.std.proofs.Common.{◌≡◌, take}
use Rattle.fare_settle.specs.Settling.{charges_at}
use Rattle.fare_settle.proofs.settling.charges_at.Given as goal

abbrev pub invariant-loop-charge : goal.invariant-loop-charge
invariant-loop-charge l = l.own.items ≡ charges_at (take l.charge-index l.charges) l.operator
