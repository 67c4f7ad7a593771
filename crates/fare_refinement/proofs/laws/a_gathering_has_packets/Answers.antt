use Rattle.fare_refinement.proofs.Packets.{gathering_with_packets}
use Rattle.fare_refinement.proofs.laws.a_gathering_has_packets.Goals as goal

pub returns : goal.returns
returns c = gathering_with_packets
