use Rattle.std.proofs.Common.{length}
use Rattle.fare_trace.proofs.Progress.{IsRunning}
use Rattle.fare_trace.proofs.running.run_lines.Given as goal

abbrev pub invariant-loop-line : goal.invariant-loop-line
invariant-loop-line g l = IsRunning g.O.Outbox.standing g.L.Ledger.standing l.fn.world l.world l.fn.lines l.lines l.fn.out.items l.out.items

abbrev pub decreases-loop-line : goal.decreases-loop-line
decreases-loop-line g l = length l.lines.rest
