use Rattle.fare_replay.proofs.Writings.{one_writing}
use Rattle.fare_replay.proofs.laws.a_replay_writes_one_answer.Goals as goal

pub returns : goal.returns
returns c = one_writing
