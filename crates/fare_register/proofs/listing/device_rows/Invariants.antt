use Rattle.std.proofs.Common.{◌≡◌, map, take}
use Rattle.fare_register.specs.Registers.{told_list, device_numbers}
use Rattle.fare_register.proofs.listing.device_rows.Given as goal

abbrev pub invariant-loop-position : goal.invariant-loop-position
invariant-loop-position l = told_list l.rows.items ≡ map device_numbers (take l.position l.scheme.devices)
