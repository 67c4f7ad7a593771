use Rattle.std.proofs.Common.{◌≡◌, take}
use Rattle.std.specs.Prelude.{IsTrue, length}
use Rattle.sqlite.specs.State.{HasCleanDisk, Survives}
use Rattle.sqlite.specs.Held.{state}
use Rattle.fare_tables.specs.Asking.{Inside}
use Rattle.fare_outbox_rows.specs.Layouts.{schema_in, ours}
use Rattle.fare_outbox_rows.specs.Held.{held_of, AreReadable, without_lanes}
use Rattle.fare_outbox.proofs.Batches.{Comes}
use Rattle.fare_outbox.proofs.pruning.cut_lanes.Given as goal

abbrev pub invariant-loop-lane : goal.invariant-loop-lane
invariant-loop-lane g l = record {
  same_reference : l.tx.conn.ghost_name ≡ l.fn.tx.conn.ghost_name;
  puts : HasCleanDisk (state g.S.Store l.tx.conn.now) → IsTrue (state g.S.Store l.fn.tx.conn.now).in_transaction → (state g.S.Store l.fn.tx.conn.now).now.schema ≡ schema_in l.layout → AreReadable (ours l.layout (state g.S.Store l.fn.tx.conn.now).now.trees)
      → Comes l.layout (state g.S.Store l.tx.conn.now).now l.lane-index (without_lanes l.fn.owner (take l.lane-index l.lanes) (held_of (ours l.layout (state g.S.Store l.fn.tx.conn.now).now.trees))) × IsTrue (state g.S.Store l.tx.conn.now).in_transaction;
  inside : HasCleanDisk (state g.S.Store l.tx.conn.now) → Inside (state g.S.Store l.fn.tx.conn.now) (state g.S.Store l.tx.conn.now);
  survives : Survives (state g.S.Store l.fn.tx.conn.now) (state g.S.Store l.tx.conn.now) (λ _. ⊥);
  left : HasCleanDisk (state g.S.Store l.tx.conn.now) → IsTrue (state g.S.Store l.fn.tx.conn.now).in_transaction → (state g.S.Store l.fn.tx.conn.now).now.schema ≡ schema_in l.layout → AreReadable (ours l.layout (state g.S.Store l.fn.tx.conn.now).now.trees)
      → l.fn.rows ≡ length (held_of (ours l.layout (state g.S.Store l.fn.tx.conn.now).now.trees)).taps → l.left ≡ length (without_lanes l.fn.owner (take l.lane-index l.lanes) (held_of (ours l.layout (state g.S.Store l.fn.tx.conn.now).now.trees))).taps;
}
