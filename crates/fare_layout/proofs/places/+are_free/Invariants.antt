use Rattle.std.proofs.Common.{length}
use Rattle.fare_layout.proofs.places.+are_free.Given as goal

abbrev pub decreases-are_free : goal.decreases-are_free
decreases-are_free l = length l.tables.now
