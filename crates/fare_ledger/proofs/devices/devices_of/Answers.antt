use Rattle.std.proofs.Common.{◌≤◌, length, nat_eq, ap, arith}
use Rattle.std.specs.List.{list_any}
use Rattle.fare_scheme.proofs.Slices.{item_at, none_left}
use Rattle.fare_ledger.specs.Known.{knows}
use Rattle.fare_ledger.proofs.Known.{none_known, more_known, all_known}
use Rattle.fare_ledger.proofs.devices.devices_of.Goals as goal

pub loop-device-init : goal.loop-device-init
loop-device-init c = none_known c.args.scheme.now (knows c.new-devices.result) (λ d. ap (list_any (nat_eq d)) c.new-devices.ensures.empty)

pub loop-device-preserved : goal.loop-device-preserved
loop-device-preserved c = more_known c.args.scheme.now c.loop-device.device-index c.device-item.result (knows c.loop-device.devices) (knows c.insert.new.self) (c.devices-device-items.ensures.placed c.loop-device.device-index c.device-item.result (item_at c.devices-device-items.result.now c.loop-device.device-index c.device-item.result c.loop-device-test.true c.device-item.is)) c.in_ok-insert.ensures.updates.0 c.loop-device.invariant

pub returns : goal.returns
returns c =
    let sc = c.args.scheme.now in
    let all : length sc.devices ≤ c.loop-device.device-index = none_left sc.devices c.devices-device-items.result.now c.loop-device.device-index c.devices-device-items.ensures.value (omega (arith, c.loop-device-test.false)) in
    all_known sc c.loop-device.device-index (knows c.loop-device.devices) all c.loop-device.invariant
