use Rattle.std.proofs.Common.{◌≡◌, ◌≤◌, ℕ, if◌then◌else◌, nat_eq, length, false, true, Some, None, refl, rules, sym, ◌∙◌, ap, arith}
use Rattle.std.specs.Prelude.{option_map}
use Rattle.std.specs.HashMap.{get}
use Rattle.fare_link.specs.Values.{ReceiverValue}
use Rattle.fare_scheme.proofs.Slices.{item_at, none_left}
use Rattle.fare_scheme.specs.Words.{station_of, position_of_device}
use Rattle.fare_collector.specs.Collecting.{first_link, is_id}
use Rattle.fare_collector.proofs.Changing.{turned}
use Rattle.fare_collector.proofs.Making.{one_more, not_yet, all_devices}
use Rattle.fare_collector.proofs.collector.Collector.new.Goals as goal

pub loop-device-preserved-then-ne : goal.loop-device-preserved-then-ne
loop-device-preserved-then-ne c =
    let sc = c.args.scheme.now in
    let k = c.loop-device.device-index in
    let device = c.device-item.result in
    let at : position_of_device sc device ≡ Some k = c.devices-device-items.ensures.placed k device (item_at c.devices-device-items.result.now k device c.loop-device-test.true c.device-item.is) in
    let elsewhere : is_id (station_of sc device) c.args.station ≡ false = search rules in
    let table = λ (d : ℕ). option_map (λ (r : ReceiverValue). r.next) (get nat_eq c.loop-device.receivers d) in
    let none : table device ≡ first_link sc c.args.station device =
    c.loop-device.invariant device ∙ not_yet sc c.args.station c.loop-device.device-index device at ∙ sym (ap (λ b. if b then Some 1 else None) elsewhere) in
    one_more sc c.args.station c.loop-device.device-index device at table table c.loop-device.invariant none (λ d _. refl)

pub loop-device-preserved : goal.loop-device-preserved
loop-device-preserved c =
    let sc = c.args.scheme.now in
    let k = c.loop-device.device-index in
    let device = c.device-item.result in
    let at : position_of_device sc device ≡ Some k = c.devices-device-items.ensures.placed k device (item_at c.devices-device-items.result.now k device c.loop-device-test.true c.device-item.is) in
    let here : is_id (station_of sc device) c.args.station ≡ true = search rules in
    let old = λ (d : ℕ). option_map (λ (r : ReceiverValue). r.next) (get nat_eq c.loop-device.receivers d) in
    let new = λ (d : ℕ). option_map (λ (r : ReceiverValue). r.next) (get nat_eq c.insert.new.self d) in
    let one : new device ≡ first_link sc c.args.station device =
    ap (option_map (λ (r : ReceiverValue). r.next)) c.in-Ok.ensures.updates.1 ∙ ap (λ (r : ReceiverValue). Some r.next) c.new.ensures ∙ sym (ap (λ b. if b then Some 1 else None) here) in
    one_more sc c.args.station c.loop-device.device-index device at old new c.loop-device.invariant one
    (λ d differ. ap (option_map (λ (r : ReceiverValue). r.next)) (c.in-Ok.ensures.updates.2 d (turned device d ∙ differ)))

pub returns-clause-next : goal.returns-clause-next
returns-clause-next c =
    let sc = c.args.scheme.now in
    let all : length sc.devices ≤ c.loop-device.device-index = none_left sc.devices c.devices-device-items.result.now c.loop-device.device-index c.devices-device-items.ensures.value (omega (arith, c.loop-device-test.false)) in
    λ device. c.loop-device.invariant device ∙ all_devices sc c.args.station c.loop-device.device-index device all
