use Rattle.std.proofs.Common.{◌≡◌, length}
use Rattle.std.specs.Prelude.{vec_capacity}
use Rattle.fare_collect.specs.Opening.{ArePosting}
use Rattle.fare_collect.proofs.opening.post_all.Given as goal

abbrev pub invariant-loop-pass : goal.invariant-loop-pass
invariant-loop-pass g l =
    ArePosting l.fn.passes.items l.passes.items l.fn.hears.items l.hears.items l.fn.stations l.stations
    × (vec_capacity l.passes ≡ vec_capacity l.fn.passes)
    × (vec_capacity l.hears ≡ vec_capacity l.fn.hears)

abbrev pub decreases-loop-pass : goal.decreases-loop-pass
decreases-loop-pass g l = length l.passes.items
