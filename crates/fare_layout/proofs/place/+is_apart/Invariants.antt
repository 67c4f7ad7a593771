use Rattle.std.proofs.Common.{length}
use Rattle.fare_layout.proofs.place.+is_apart.Given as goal

abbrev pub decreases-is_apart : goal.decreases-is_apart
decreases-is_apart l = length l.places.now
