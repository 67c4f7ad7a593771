use Rattle.std.proofs.Common.{◌≡◌, drop}
use Rattle.std.specs.Prelude.{IsTrue}
use Rattle.sqlite.specs.State.{HasCleanDisk, Survives}
use Rattle.sqlite.specs.Held.{state}
use Rattle.fare_tables.specs.Asking.{Inside}
use Rattle.fare_outbox_rows.specs.Layouts.{schema_in, ours}
use Rattle.fare_outbox_rows.specs.Held.{held_of, AreReadable}
use Rattle.fare_outbox_rows.proofs.Batches.{Goes, with_taps_by_last}
use Rattle.fare_outbox_rows.proofs.writing.put_rows.Given as goal

abbrev pub invariant-loop-place : goal.invariant-loop-place
invariant-loop-place g l = record {
  same_reference : l.tx.conn.ghost_name ≡ l.fn.tx.conn.ghost_name;
  puts : HasCleanDisk (state g.S.Store l.tx.conn.now) → IsTrue (state g.S.Store l.fn.tx.conn.now).in_transaction → (state g.S.Store l.fn.tx.conn.now).now.schema ≡ schema_in l.layout → AreReadable (ours l.layout (state g.S.Store l.fn.tx.conn.now).now.trees)
      → Goes l.layout (state g.S.Store l.tx.conn.now).now l.place (drop l.place l.rows) (with_taps_by_last l.rows (held_of (ours l.layout (state g.S.Store l.fn.tx.conn.now).now.trees))) × IsTrue (state g.S.Store l.tx.conn.now).in_transaction;
  inside : HasCleanDisk (state g.S.Store l.tx.conn.now) → Inside (state g.S.Store l.fn.tx.conn.now) (state g.S.Store l.tx.conn.now);
  survives : Survives (state g.S.Store l.fn.tx.conn.now) (state g.S.Store l.tx.conn.now) (λ _. ⊥);
}
