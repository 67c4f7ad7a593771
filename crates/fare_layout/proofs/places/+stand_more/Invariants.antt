use Rattle.std.proofs.Common.{length}
use Rattle.fare_layout.proofs.places.+stand_more.Given as goal

abbrev pub decreases-stand_more : goal.decreases-stand_more
decreases-stand_more l = length l.tables.now
