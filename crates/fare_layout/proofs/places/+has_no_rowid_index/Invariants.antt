use Rattle.std.proofs.Common.{length}
use Rattle.fare_layout.proofs.places.+has_no_rowid_index.Given as goal

abbrev pub decreases-has_no_rowid_index : goal.decreases-has_no_rowid_index
decreases-has_no_rowid_index l = length l.indexes.now
