use Rattle.fare_frame.proofs.Streams.{one_reading}
use Rattle.fare_frame.proofs.laws.a_stream_has_one_reading.Goals as goal

pub returns : goal.returns
returns c = one_reading
