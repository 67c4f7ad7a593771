use Rattle.std.proofs.Common.{◌≡◌, take, map}
use Rattle.fare_register.specs.Registers.{told_list, one_number}
use Rattle.fare_register.proofs.reading.bytes_of.Given as goal

abbrev pub invariant-loop-row : goal.invariant-loop-row
invariant-loop-row l = told_list (take l.row-index l.rows) ≡ map one_number l.bytes.items
