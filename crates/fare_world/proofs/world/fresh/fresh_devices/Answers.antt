use Rattle.std.proofs.Common.{◌≡◌, ◌+◌, ◌++◌, ◌∷◌, [], Some, length, sym, ap, ◌∙◌, arith}
use Rattle.std.specs.Prelude.{slice_get}
use Rattle.std.specs.Map.{keys_of}
use Rattle.std.proofs.lemmas.List.{length_push}
use Rattle.std.proofs.lemmas.Map.Entries.{length-keys_of}
use Rattle.fare_scheme.proofs.Slices.{item_at}
use Rattle.fare_scheme.specs.Words.{buffer_of, position_of_device}
use Rattle.fare_device.specs.DeviceWords.{DeviceValue, fresh_device}
use Rattle.fare_world.specs.Fresh.{IsFreshDevice}
use Rattle.fare_world.proofs.Starting.{one_device_more}
use Rattle.fare_world.proofs.world.fresh.fresh_devices.Goals as goal

pub loop-id-preserved : goal.loop-id-preserved
loop-id-preserved c =
    let sc = c.args.scheme.now in
    let xs = c.loop-id.devices.items in
    let i = c.loop-id.invariant in
    let device = c.in-Ok.device in
    let made : device ≡ fresh_device c.id-item.result sc.start device.room (keys_of sc.owners) = c.in-Ok.ensures.made in
    let id : device.id ≡ c.id-item.result = ap (λ (z : DeviceValue). z.id) made in
    let at : position_of_device sc device.id ≡ Some (length xs) = ap (position_of_device sc) id ∙ (c.devices-id-items.ensures.placed c.loop-id.id-index c.id-item.result (item_at c.devices-id-items.result.now c.loop-id.id-index c.id-item.result c.loop-id-test.true c.id-item.is)) ∙ ap Some (sym i.count) in
    let is : IsFreshDevice sc (length xs) device = record { at = at; room = ap (buffer_of sc) id ∙ c.in-Ok.ensures.room; fresh = made ∙ ap (λ n. fresh_device n sc.start device.room (keys_of sc.owners)) (sym id) } in
    let pushed : c.push.new.self.items ≡ xs ++ device ∷ [] = c.in_ok-push-in-Ok.ensures.items in
    record {
      count = ap length pushed ∙ length_push xs device ∙ ap (λ n. n + 1) i.count;
      each = λ k x e. one_device_more sc xs device i.each is k x (ap (λ l. slice_get l k) (sym pushed) ∙ e);
    }

pub returns : goal.returns
returns c =
    let all : c.loop-id.id-index ≡ length c.args.scheme.now.devices = omega (arith, ap length c.devices-id-items.ensures.value, length-keys_of c.args.scheme.now.devices, c.loop-id-test.false, c.loop-id.auto.id-index-end) in
    record { count = c.loop-id.invariant.count ∙ all; each = c.loop-id.invariant.each }
