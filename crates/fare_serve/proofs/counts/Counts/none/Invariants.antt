use Rattle.std.proofs.Common.{◌≡◌, map, take}
use Rattle.std.specs.Map.{keys_of}
use Rattle.fare_serve.proofs.Counted.{zero_of}
use Rattle.fare_serve.proofs.counts.Counts.none.Given as goal

abbrev pub invariant-loop-owner : goal.invariant-loop-owner
invariant-loop-owner l = l.taken.items ≡ map zero_of (take l.owner-index (keys_of l.scheme.owners))
