use Rattle.std.proofs.Common.{ℕ, take}
use Rattle.fare_scheme.specs.declared.entry.Placement.{Placement}
use Rattle.fare_register.specs.Registers.{told_list, StationFits, device_numbers, device_lines, ArePushed}
use Rattle.fare_register.proofs.reading.push_devices.Given as goal

abbrev pub invariant-loop-row : goal.invariant-loop-row
invariant-loop-row l = ArePushed (ℕ × Placement) StationFits device_numbers device_lines (told_list (take l.row-index l.rows)) l.fn.lines.items l.lines.items
