use Rattle.std.proofs.Common.{◌≡◌, ◌+◌, ◌++◌, length}
use Rattle.std.specs.Prelude.{vec_capacity}
use Rattle.std.specs.Vec.Iter.{into_iter_items, into_iter_len}
use Rattle.fare_databases.proofs.opening.hand_on.Given as goal

abbrev pub invariant-loop-database : goal.invariant-loop-database
invariant-loop-database g l =
    (goal.iterator-loop-database g).can_next l.database-iterator ×
    (goal.iterator-loop-database g).is_finite l.database-iterator ×
    (l.databases.items ++ into_iter_items l.database-iterator ≡ l.fn.databases.items ++ into_iter_items l.fn.waiting) ×
    (length l.databases.items + into_iter_len l.database-iterator ≡ length l.fn.databases.items + into_iter_len l.fn.waiting) ×
    (vec_capacity l.databases ≡ vec_capacity l.fn.databases)
