use Rattle.std.proofs.Common.{ℕ, take}
use Rattle.fare_register.specs.Registers.{told_list, FirstFits, pair_numbers, owner_lines, ArePushed}
use Rattle.fare_register.proofs.reading.push_owners.Given as goal

abbrev pub invariant-loop-row : goal.invariant-loop-row
invariant-loop-row l = ArePushed (ℕ × ℕ) FirstFits pair_numbers owner_lines (told_list (take l.row-index l.rows)) l.fn.lines.items l.lines.items
