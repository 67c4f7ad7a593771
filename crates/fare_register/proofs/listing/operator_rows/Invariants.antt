use Rattle.std.proofs.Common.{◌≡◌, map, take}
use Rattle.fare_register.specs.Registers.{told_list, one_number}
use Rattle.fare_register.proofs.listing.operator_rows.Given as goal

abbrev pub invariant-loop-operator : goal.invariant-loop-operator
invariant-loop-operator l = told_list l.rows.items ≡ map one_number (take l.operator-index l.scheme.operators)
