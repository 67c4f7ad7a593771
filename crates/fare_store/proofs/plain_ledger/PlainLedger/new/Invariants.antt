use Rattle.std.specs.Prelude.{nat_eq}
use Rattle.std.specs.HashMap.{get}
use Rattle.fare_store.proofs.LedgerMaking.{AreFresh}
use Rattle.fare_store.proofs.plain_ledger.PlainLedger.new.Given as goal

abbrev pub invariant-loop-device : goal.invariant-loop-device
invariant-loop-device l = AreFresh l.scheme l.device-index (get nat_eq l.taken)
