use Rattle.std.proofs.Common.{length}
use Rattle.fare_layout.proofs.growing.+has_none.Given as goal

abbrev pub decreases-has_none : goal.decreases-has_none
decreases-has_none l = length l.texts.now
