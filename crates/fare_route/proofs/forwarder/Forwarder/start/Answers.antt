use Rattle.std.proofs.Common.{ap, ◌<◌, length, nat_eq, None, refl, arith}
use Rattle.std.specs.HashMap.{get}
use Rattle.std.proofs.lemmas.Option.{slice_get_read}
use Rattle.std.proofs.lemmas.Map.Entries.{length-keys_of}
use Rattle.fare_scheme.proofs.Slices.{item_at}
use Rattle.fare_route.proofs.Starting.{more_started}
use Rattle.fare_route.proofs.forwarder.Forwarder.start.Goals as goal

pub loop-place-preserved : goal.loop-place-preserved
loop-place-preserved c =
    let k = c.loop-place.place in
    let counts = c.args.counts.now in
    let p = c.index-counts-place.result in
    let within : k < length counts = omega (arith, c.loop-place-test.true, c.if-counts-device_count.false, c.device_count.ensures.value, ap length c.devices-device-items.ensures.value, length-keys_of c.args.scheme.now.devices) in
    let held = slice_get_read counts (length counts) k p refl within c.index-counts-place.is in
    more_started c.args.scheme.now counts k c.device-item.result p (record { lane = p.0; day = c.first_day.result; before = None }) (get nat_eq c.loop-place.cursors) (get nat_eq c.insert.new.self) (c.devices-device-items.ensures.placed k c.device-item.result (item_at c.devices-device-items.result.now k c.device-item.result c.loop-place-test.true c.device-item.is)) held
    (λ i. record { lane = p.0; day = c.first_day.ensures i; before = None }) c.in-Ok.ensures.updates.0 c.loop-place.invariant
