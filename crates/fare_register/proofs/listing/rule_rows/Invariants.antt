use Rattle.std.proofs.Common.{◌≡◌, map, take}
use Rattle.fare_register.specs.Registers.{told_list, one_number}
use Rattle.fare_register.proofs.listing.rule_rows.Given as goal

abbrev pub invariant-loop-byte : goal.invariant-loop-byte
invariant-loop-byte l = told_list l.rows.items ≡ map one_number (take l.byte-index l.byte-items)
