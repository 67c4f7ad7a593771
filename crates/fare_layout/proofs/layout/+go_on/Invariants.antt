use Rattle.std.proofs.Common.{length}
use Rattle.fare_layout.proofs.layout.+go_on.Given as goal

abbrev pub decreases-go_on : goal.decreases-go_on
decreases-go_on l = length l.from.now
