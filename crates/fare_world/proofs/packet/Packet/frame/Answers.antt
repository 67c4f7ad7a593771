use Rattle.std.proofs.Common.{◌∙◌}
use Rattle.fare_world.proofs.Packets.{kept_read}
use Rattle.fare_world.proofs.packet.Packet.frame.Goals as goal

pub returns : goal.returns
returns c = λ f is e. kept_read c.self.inside.frame f c.self.invariant is (c.self.view_is ∙ e)
