use Rattle.std.proofs.Common.{◌≡◌, ◌++◌, take}
use Rattle.std.specs.Prelude.{string_bytes}
use Rattle.std.specs.List.{flat_map}
use Rattle.std.specs.Map.{keys_of}
use Rattle.fare_page.specs.Gauges.{device_line, devices_head}
use Rattle.fare_page.proofs.gauges.add_devices.Given as goal

abbrev pub invariant-loop-device : goal.invariant-loop-device
invariant-loop-device l = string_bytes l.text ≡ string_bytes l.fn.text ++ (devices_head ++ flat_map (device_line l.scheme) (take l.device-index (keys_of l.scheme.devices)))
