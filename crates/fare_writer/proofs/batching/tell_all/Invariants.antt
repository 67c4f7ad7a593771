use Rattle.std.proofs.Common.{◌≡◌, ◌+◌, take}
use Rattle.std.specs.Prelude.{min}
use Rattle.fare_writer.specs.Handling.{AreTellers}
use Rattle.fare_writer.specs.Batches.{HaveTold}
use Rattle.fare_writer.proofs.batching.tell_all.Given as goal

abbrev pub invariant-loop-place : goal.invariant-loop-place
invariant-loop-place g l = record {
  ready : AreTellers l.lines l.tellers;
  told : HaveTold l.floor.scheme.now (take l.place l.items) l.fn.tellers l.tellers;
  stored : min l.tally.stored 18446744073709551615 ≡ min (l.fn.tally.stored + l.place) 18446744073709551615;
  days : l.tally.days ≡ l.fn.tally.days;
}
