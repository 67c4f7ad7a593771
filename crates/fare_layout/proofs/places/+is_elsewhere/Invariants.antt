use Rattle.std.proofs.Common.{length}
use Rattle.fare_layout.proofs.places.+is_elsewhere.Given as goal

abbrev pub decreases-is_elsewhere : goal.decreases-is_elsewhere
decreases-is_elsewhere l = length l.tables.now
