use Rattle.std.proofs.Common.{length}
use Rattle.fare_opening.proofs.older.+raise_any.Given as goal

abbrev pub decreases-raise_any : goal.decreases-raise_any
decreases-raise_any g l = length l.olders.now
