use Rattle.std.proofs.Common.{◌≡◌, ◌++◌, take, map}
use Rattle.fare_lines.specs.declared.line.SchemeLine.TheVariants as line
use Rattle.fare_setup.proofs.lines.push_operators.Given as goal

abbrev pub invariant-loop-operator : goal.invariant-loop-operator
invariant-loop-operator l = l.lines.items ≡ l.fn.lines.items ++ map line.Operator (take l.operator-index l.scheme.operators)
