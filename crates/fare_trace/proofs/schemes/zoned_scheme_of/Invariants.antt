use Rattle.std.proofs.Common.{drop}
use Rattle.fare_trace.specs.Schemes.{HasZone, HaveDrafted}
use Rattle.fare_trace.proofs.schemes.zoned_scheme_of.Given as goal

abbrev pub invariant-loop-line : goal.invariant-loop-line
invariant-loop-line l = HaveDrafted l.lines (drop l.line-index l.lines) l.draft l.used × HasZone l.draft.zone l.zone
