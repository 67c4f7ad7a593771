use Rattle.std.proofs.Common.{length}
use Rattle.fare_trace.specs.Answers.{Drafting, first_stage}
use Rattle.fare_trace.specs.Progress.{Goes}
use Rattle.fare_trace.proofs.answers.register.Given as goal

abbrev pub invariant-loop-line : goal.invariant-loop-line
invariant-loop-line l = Goes first_stage (Drafting l.draft l.used) l.fn.lines l.lines l.fn.out.items l.out.items

abbrev pub decreases-loop-line : goal.decreases-loop-line
decreases-loop-line l = length l.lines.rest
