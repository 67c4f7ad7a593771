use Rattle.std.proofs.Common.{length}
use Rattle.fare_lists.proofs.writing.+write_lists.Given as goal

abbrev pub decreases-write_lists : goal.decreases-write_lists
decreases-write_lists g l = length l.tables.now
