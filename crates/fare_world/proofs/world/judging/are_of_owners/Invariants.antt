use Rattle.std.proofs.Common.{◌≡◌, ◌<◌, ℕ, Some}
use Rattle.std.specs.Prelude.{slice_get}
use Rattle.fare_scheme.specs.Words.{id_at}
use Rattle.fare_world.proofs.world.judging.are_of_owners.Given as goal

abbrev pub invariant-loop-place : goal.invariant-loop-place
invariant-loop-place g l = (k : ℕ) (x : g.row.L.Denot) → k < l.place → slice_get l.ledgers k ≡ Some x → id_at l.scheme.owners k ≡ Some (g.L.Ledger.standing x).value.owner
