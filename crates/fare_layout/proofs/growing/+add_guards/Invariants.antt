use Rattle.std.proofs.Common.{length}
use Rattle.fare_layout.proofs.growing.+add_guards.Given as goal

abbrev pub decreases-add_guards : goal.decreases-add_guards
decreases-add_guards l = length l.keys.now
