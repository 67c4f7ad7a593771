use Rattle.std.proofs.Common.{length}
use Rattle.fare_layout.proofs.layout.+are_from.Given as goal

abbrev pub decreases-are_from : goal.decreases-are_from
decreases-are_from l = length l.places.now
