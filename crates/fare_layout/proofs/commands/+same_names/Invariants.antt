use Rattle.std.proofs.Common.{length}
use Rattle.fare_layout.proofs.commands.+same_names.Given as goal

abbrev pub decreases-same_names : goal.decreases-same_names
decreases-same_names l = length l.a.now
