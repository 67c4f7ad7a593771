use Rattle.std.proofs.Common.{length}
use Rattle.fare_layout.proofs.growing.+are_counted.Given as goal

abbrev pub decreases-are_counted : goal.decreases-are_counted
decreases-are_counted l = length l.tables.now
