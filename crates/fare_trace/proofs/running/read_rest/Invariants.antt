use Rattle.std.proofs.Common.{List, length}
use Rattle.fare_lines.specs.declared.line.Line.{Line}
use Rattle.fare_lines.specs.Unread.{ReadsOff}
use Rattle.fare_trace.proofs.running.read_rest.Given as goal

abbrev pub invariant-loop : goal.invariant-loop
invariant-loop l = (lines : List Line) × ReadsOff l.fn.lines l.lines lines

abbrev pub decreases-loop : goal.decreases-loop
decreases-loop l = length l.lines.rest
