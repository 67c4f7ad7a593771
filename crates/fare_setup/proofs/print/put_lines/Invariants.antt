use Rattle.std.proofs.Common.{◌≡◌, ◌++◌, take, map}
use Rattle.fare_lines.specs.declared.line.Line.TheVariants.{Setup}
use Rattle.fare_lines.specs.Lines.{printed}
use Rattle.fare_setup.proofs.print.put_lines.Given as goal

abbrev pub invariant-loop-line : goal.invariant-loop-line
invariant-loop-line l = l.out.items ≡ l.fn.out.items ++ printed (map Setup (take l.line-index l.lines))
