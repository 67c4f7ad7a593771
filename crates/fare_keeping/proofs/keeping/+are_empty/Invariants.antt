use Rattle.std.proofs.Common.{length}
use Rattle.fare_keeping.proofs.keeping.+are_empty.Given as goal

abbrev pub decreases-are_empty : goal.decreases-are_empty
decreases-are_empty l = length l.lists.now
