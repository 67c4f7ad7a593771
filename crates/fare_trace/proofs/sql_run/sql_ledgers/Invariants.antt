use Rattle.std.proofs.Common.{◌≡◌, ℕ, Some, length}
use Rattle.std.specs.Prelude.{slice_get}
use Rattle.sqlite.specs.Steps.{over_memory}
use Rattle.sqlite_trees.specs.declared.memory.MemStore.{MemStore}
use Rattle.fare_ledger.specs.declared.tables.SqlLedger.{SqlLedger}
use Rattle.fare_trace.specs.Stores.{IsNewLedgerAt, sql_ledger_is}
use Rattle.fare_trace.proofs.sql_run.sql_ledgers.Given as goal

abbrev pub invariant-loop-owner : goal.invariant-loop-owner
invariant-loop-owner l = record {
  count : length l.ledgers.items ≡ l.owner-index;
  each : (k : ℕ) (x : SqlLedger MemStore over_memory) → slice_get l.ledgers.items k ≡ Some x → IsNewLedgerAt sql_ledger_is l.scheme k x;
}
