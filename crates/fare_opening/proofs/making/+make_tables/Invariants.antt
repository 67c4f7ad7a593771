use Rattle.std.proofs.Common.{length}
use Rattle.fare_opening.proofs.making.+make_tables.Given as goal

abbrev pub decreases-make_tables : goal.decreases-make_tables
decreases-make_tables g l = length l.tables.now
