use Rattle.std.proofs.Common.{length}
use Rattle.fare_layout.proofs.layout.+keep_meaning.Given as goal

abbrev pub decreases-keep_meaning : goal.decreases-keep_meaning
decreases-keep_meaning l = length l.texts.now
