use Rattle.fare_world.proofs.Pairs.{PairedTo}
use Rattle.fare_world.proofs.Emptiness.{IsFoundEmpty}
use Rattle.fare_world.proofs.world.judging.are_empty.Given as goal

abbrev pub invariant-loop-ledger : goal.invariant-loop-ledger
invariant-loop-ledger g l = PairedTo (IsFoundEmpty g.L.Ledger.standing) l.fn.ledgers l.ledgers l.ledger-index
