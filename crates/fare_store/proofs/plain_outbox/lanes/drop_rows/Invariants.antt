use Rattle.std.specs.BTreeMap as tree
use Rattle.fare_store.specs.Falling.{falling}
use Rattle.fare_store.proofs.Pruning.{AreGoing}
use Rattle.fare_store.proofs.plain_outbox.lanes.drop_rows.Given as goal

abbrev pub invariant-loop-oldest : goal.invariant-loop-oldest
invariant-loop-oldest l = AreGoing l.upto (tree.get falling l.fn.rows) (tree.get falling l.rows) (tree.btree_map_len l.fn.rows) (tree.btree_map_len l.rows)

abbrev pub decreases-loop-oldest : goal.decreases-loop-oldest
decreases-loop-oldest l = tree.btree_map_len l.rows
