use Rattle.std.proofs.Common.{length}
use Rattle.fare_lists.proofs.fitting.+lists_fit.Given as goal

abbrev pub decreases-lists_fit : goal.decreases-lists_fit
decreases-lists_fit l = length l.tables.now
