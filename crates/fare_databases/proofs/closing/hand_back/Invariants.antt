use Rattle.std.proofs.Common.{◌≡◌, ◌+◌, ◌++◌, ℕ, List, length}
use Rattle.std.specs.Prelude.{slice_get, vec_capacity}
use Rattle.std.specs.Vec.Iter.{into_iter_items, into_iter_len}
use Rattle.sqlite.specs.Held.{Held}
use Rattle.fare_databases.specs.Closed.{AreBacks}
use Rattle.fare_databases.proofs.closing.hand_back.Given as goal

abbrev pub invariant-loop-ledger : goal.invariant-loop-ledger
invariant-loop-ledger g l =
    (goal.iterator-loop-ledger g).can_next l.ledger-iterator ×
    (goal.iterator-loop-ledger g).is_finite l.ledger-iterator ×
    (vec_capacity l.databases ≡ vec_capacity l.fn.databases) ×
    ((backs : List (Held _)) × (l.databases.items ≡ l.fn.databases.items ++ backs) × (length backs + into_iter_len l.ledger-iterator ≡ length l.fn.ledgers.items) × AreBacks g.S.Store l.fn.ledgers.items backs × ((k : ℕ) → slice_get (into_iter_items l.ledger-iterator) k ≡ slice_get l.fn.ledgers.items (length backs + k)))
