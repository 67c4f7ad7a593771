use Rattle.fare_frame.proofs.Streams.{no_prefix}
use Rattle.fare_frame.proofs.laws.no_spelling_begins_another.Goals as goal

pub returns : goal.returns
returns c = no_prefix
