use Rattle.std.proofs.Common.{length}
use Rattle.fare_layout.proofs.places.+refer_elsewhere.Given as goal

abbrev pub decreases-refer_elsewhere : goal.decreases-refer_elsewhere
decreases-refer_elsewhere l = length l.references.now
