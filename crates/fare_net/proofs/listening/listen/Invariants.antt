use Rattle.std.proofs.Common.{◌+◌, ◌*◌, ◌-◌, length}
use Rattle.fare_net.specs.Listening.{IsHearing}
use Rattle.fare_net.proofs.listening.listen.Given as goal

abbrev pub invariant-loop-frame : goal.invariant-loop-frame
invariant-loop-frame g l = IsHearing l.fn.scheme l.station l.frames.items (g.R.Read.remaining l.fn.reader) l.source

-- the bytes that may still be read and those that were, but for one of each frame
abbrev pub decreases-loop-frame : goal.decreases-loop-frame
decreases-loop-frame g l = 4096 * l.source.turns + length l.source.intake.read - length l.source.intake.taken
