use Rattle.std.proofs.Common.{◌≡◌, ◌++◌, ◌≤◌, ℕ, Some, None, length}
use Rattle.std.specs.Prelude.{map, slice_get, vec_capacity}
use Rattle.std.specs.Vec.Iter.{into_iter_items, into_iter_len}
use Rattle.fare_side.specs.declared.owner.Owner.{Owner}
use Rattle.fare_world.specs.Fresh.{side_of}
use Rattle.fare_world.proofs.world.fresh.joined.Given as goal

abbrev pub invariant-loop-side : goal.invariant-loop-side
invariant-loop-side g l = record {
  sides_are : map side_of l.owners.items ++ into_iter_items l.side-iterator.a ≡ l.fn.sides.items;
  ledgers_are : map (λ (x : Owner g.row.L.Denot). x.ledger) l.owners.items ++ into_iter_items l.side-iterator.b ≡ l.fn.ledgers.items;
  sides_left : into_iter_len l.side-iterator.a ≡ length (into_iter_items l.side-iterator.a);
  ledgers_left : into_iter_len l.side-iterator.b ≡ length (into_iter_items l.side-iterator.b);
  hands : (k : ℕ) (x : Owner g.row.L.Denot) → slice_get l.owners.items k ≡ Some x → x.hand ≡ None;
  room : length l.fn.ledgers.items ≤ vec_capacity l.owners;
}
