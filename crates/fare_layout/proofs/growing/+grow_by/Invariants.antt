use Rattle.std.proofs.Common.{length}
use Rattle.fare_layout.proofs.growing.+grow_by.Given as goal

abbrev pub decreases-grow_by : goal.decreases-grow_by
decreases-grow_by l = length l.texts.now
