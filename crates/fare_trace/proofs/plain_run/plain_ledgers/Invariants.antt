use Rattle.std.proofs.Common.{◌≡◌, ℕ, Some, length}
use Rattle.std.specs.Prelude.{slice_get}
use Rattle.fare_store.specs.declared.plain_ledger.PlainLedger.{PlainLedger}
use Rattle.fare_trace.specs.Stores.{IsNewLedgerAt, ledger_is}
use Rattle.fare_trace.proofs.plain_run.plain_ledgers.Given as goal

abbrev pub invariant-loop-owner : goal.invariant-loop-owner
invariant-loop-owner l = record {
  count : length l.ledgers.items ≡ l.owner-index;
  each : (k : ℕ) (x : PlainLedger) → slice_get l.ledgers.items k ≡ Some x → IsNewLedgerAt ledger_is l.scheme k x;
}
