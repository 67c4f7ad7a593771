use Rattle.std.proofs.Common.{length}
use Rattle.fare_opening.proofs.beside.+olders_are_beside.Given as goal

abbrev pub decreases-olders_are_beside : goal.decreases-olders_are_beside
decreases-olders_are_beside l = length l.olders.now
