use Rattle.std.specs.BTreeMap as tree
use Rattle.fare_record.specs.Counting.{AreLeft}
use Rattle.fare_store.specs.PlainOutboxWords.{stated_in}
use Rattle.fare_store.proofs.Untold.{AreWithout}
use Rattle.fare_store.proofs.plain_outbox.forgetting.remove_before.Given as goal

abbrev pub invariant-loop-earlier : goal.invariant-loop-earlier
invariant-loop-earlier l =
    AreLeft 0 l.fn.day l.earlier-iterator
    × AreWithout l.owner l.device l.earlier-iterator.next (stated_in l.initial.statements) (stated_in l.statements) (tree.btree_map_len l.initial.statements) (tree.btree_map_len l.statements)
