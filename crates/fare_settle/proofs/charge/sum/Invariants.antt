use Rattle.std.proofs.Common.{◌≡◌, ◌≤◌, ◌*◌, ℕ, take}
use Rattle.fare_settle.specs.Routes.{sum_of}
use Rattle.fare_settle.proofs.charge.sum.Given as goal

pub record IsSum (sum total places : ℕ) : Type 0 where
  pub value : sum ≡ total
  pub small : sum ≤ places * 10000000

abbrev pub invariant-loop-charge : goal.invariant-loop-charge
invariant-loop-charge l = IsSum l.sum (sum_of (take l.charge-index l.charges)) l.charge-index
