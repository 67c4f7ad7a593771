use Rattle.fare_frame.proofs.Streams.{fed_whole, fed_only}
use Rattle.fare_frame.proofs.laws.pieces_are_one_stream.Goals as goal

pub returns-clause-whole : goal.returns-clause-whole
returns-clause-whole c = fed_whole

pub returns-clause-only : goal.returns-clause-only
returns-clause-only c = fed_only
