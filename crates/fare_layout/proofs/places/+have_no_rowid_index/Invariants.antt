use Rattle.std.proofs.Common.{length}
use Rattle.fare_layout.proofs.places.+have_no_rowid_index.Given as goal

abbrev pub decreases-have_no_rowid_index : goal.decreases-have_no_rowid_index
decreases-have_no_rowid_index l = length l.places.now
