use Rattle.std.proofs.Common.{ℕ, take}
use Rattle.fare_register.specs.Registers.{told_list, IdFits, one_number, operator_lines, ArePushed}
use Rattle.fare_register.proofs.reading.push_operators.Given as goal

abbrev pub invariant-loop-row : goal.invariant-loop-row
invariant-loop-row l = ArePushed ℕ IdFits one_number operator_lines (told_list (take l.row-index l.rows)) l.fn.lines.items l.lines.items
