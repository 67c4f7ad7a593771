use Rattle.std.proofs.Common.{length}
use Rattle.fare_layout.proofs.commands.+same_upserts.Given as goal

abbrev pub decreases-same_upserts : goal.decreases-same_upserts
decreases-same_upserts l = length l.a.now
