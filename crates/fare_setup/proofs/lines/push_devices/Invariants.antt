use Rattle.std.proofs.Common.{◌≡◌, ◌++◌, take, map}
use Rattle.fare_setup.specs.SchemeLines.{device_line}
use Rattle.fare_setup.proofs.lines.push_devices.Given as goal

abbrev pub invariant-loop-position : goal.invariant-loop-position
invariant-loop-position l = l.lines.items ≡ l.fn.lines.items ++ map device_line (take l.position l.scheme.devices)
