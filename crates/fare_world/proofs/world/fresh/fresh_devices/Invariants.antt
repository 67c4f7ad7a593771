use Rattle.std.proofs.Common.{◌≡◌, ℕ, Some, length}
use Rattle.std.specs.Prelude.{slice_get}
use Rattle.fare_device.specs.DeviceWords.{DeviceValue}
use Rattle.fare_world.specs.Fresh.{IsFreshDevice}
use Rattle.fare_world.proofs.world.fresh.fresh_devices.Given as goal

abbrev pub invariant-loop-id : goal.invariant-loop-id
invariant-loop-id l = record {
  count : length l.devices.items ≡ l.id-index;
  each : (k : ℕ) (x : DeviceValue) → slice_get l.devices.items k ≡ Some x → IsFreshDevice l.scheme k x;
}
