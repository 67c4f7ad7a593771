use Rattle.std.proofs.Common.{length}
use Rattle.fare_layout.proofs.places.+all_free.Given as goal

abbrev pub decreases-all_free : goal.decreases-all_free
decreases-all_free l = length l.places.now
