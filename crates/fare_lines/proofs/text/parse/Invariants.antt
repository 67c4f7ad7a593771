use Rattle.std.proofs.Common.{length}
use Rattle.fare_lines.specs.Unread.{ReadsOff, whole}
use Rattle.fare_lines.proofs.text.parse.Given as goal

abbrev pub invariant-loop-lines : goal.invariant-loop-lines
invariant-loop-lines l = ReadsOff (whole l.text) l.lines l.read.items

abbrev pub decreases-loop-lines : goal.decreases-loop-lines
decreases-loop-lines l = length l.lines.rest
