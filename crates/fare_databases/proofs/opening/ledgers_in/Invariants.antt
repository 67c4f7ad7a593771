use Rattle.std.proofs.Common.{◌≡◌, ◌+◌, ◌≤◌, ℕ, Some, length}
use Rattle.std.specs.Prelude.{slice_get, vec_capacity}
use Rattle.std.specs.Vec.Iter.{into_iter_items, into_iter_len}
use Rattle.sqlite.specs.Held.{state}
use Rattle.fare_scheme.specs.Words.{id_at}
use Rattle.fare_ledger.specs.Words.{stands}
use Rattle.fare_databases.specs.Opened.{IsOpenedLedger}
use Rattle.fare_databases.proofs.opening.ledgers_in.Given as goal

abbrev pub invariant-loop-database : goal.invariant-loop-database
invariant-loop-database g l =
    (length l.ledgers.items + into_iter_len l.waiting ≡ length l.scheme.owners) ×
    ((k : ℕ) (x : _) (owner : ℕ) (d : _) → slice_get l.ledgers.items k ≡ Some x → id_at l.scheme.owners k ≡ Some owner → slice_get l.fn.databases.items k ≡ Some d → IsOpenedLedger l.scheme owner (state g.S.Store d) (stands g.S.Store x)) ×
    ((k : ℕ) → slice_get (into_iter_items l.waiting) k ≡ slice_get l.fn.databases.items (length l.ledgers.items + k)) ×
    (length l.fn.databases.items ≤ vec_capacity l.ledgers) ×
    (l.room ≡ l.fn.room) ×
    (length (into_iter_items l.waiting) ≡ into_iter_len l.waiting)

abbrev pub decreases-loop-database : goal.decreases-loop-database
decreases-loop-database g l = into_iter_len l.waiting
