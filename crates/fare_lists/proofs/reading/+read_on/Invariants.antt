use Rattle.std.proofs.Common.{length}
use Rattle.fare_lists.proofs.reading.+read_on.Given as goal

abbrev pub decreases-read_on : goal.decreases-read_on
decreases-read_on g l = length l.tables.now
