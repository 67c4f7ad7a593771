use Rattle.std.proofs.Common.{[], ◌∷◌, ◌++◌, take, sym, ap, ◌∙◌, append_assoc, append-nil, arith}
use Rattle.std.specs.Prelude.{string_bytes}
use Rattle.std.specs.List.{flat_map}
use Rattle.std.specs.Map.{keys_of}
use Rattle.std.proofs.lemmas.Grind.{flat_map-append}
use Rattle.fare_scheme.proofs.Slices.{entry_at, none_left}
use Rattle.fare_page.specs.Gauges.{device_line, devices_head}
use Rattle.fare_desk.proofs.Lanes.{keys_all, keys_more}
use Rattle.fare_page.proofs.gauges.add_devices.Goals as goal

pub loop-device-preserved : goal.loop-device-preserved
loop-device-preserved c =
    let sc = c.args.scheme.now in
    let old = string_bytes c.args.text.now in
    let ds = take c.loop-device.device-index (keys_of sc.devices) in
    let d = c.device-item.result in
    let at = entry_at c.args.scheme.now.devices c.devices-device-items.result.now c.loop-device.device-index c.device-item.result c.devices-device-items.ensures.value c.loop-device-test.true c.device-item.is in
    c.in_ok-add_device.ensures ∙ (ap (λ l. l ++ device_line sc d) c.loop-device.invariant
    ∙ (append_assoc old (devices_head ++ flat_map (device_line sc) ds) (device_line sc d)
    ∙ ap (λ l. old ++ l) (append_assoc devices_head (flat_map (device_line sc) ds) (device_line sc d)
    ∙ ap (λ l. devices_head ++ l) (ap (λ l. flat_map (device_line sc) ds ++ l) (sym (append-nil (device_line sc d))) ∙ (sym (flat_map-append (device_line sc) ds (d ∷ [])) ∙ ap (flat_map (device_line sc)) (sym (keys_more sc.devices c.loop-device.device-index d at)))))))

pub returns : goal.returns
returns c =
    let sc = c.args.scheme.now in
    c.loop-device.invariant ∙ ap (λ l. string_bytes c.args.text.now ++ (devices_head ++ flat_map (device_line sc) l)) (keys_all sc.devices c.loop-device.device-index (none_left sc.devices c.devices-device-items.result.now c.loop-device.device-index c.devices-device-items.ensures.value (omega (arith, c.loop-device-test.false))))
