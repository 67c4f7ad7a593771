use Rattle.std.proofs.Common.{◌≡◌, ◌+◌, [], length, ap, sym, ◌∙◌, arith}
use Rattle.std.proofs.lemmas.Grind.{common_steps}
use Rattle.std.specs.Prelude.{slice_get}
use Rattle.std.specs.List.{sum}
use Rattle.std.specs.Map.{keys_of}
use Rattle.std.proofs.lemmas.Map.Entries.{length-keys_of}
use Rattle.fare_device.specs.DeviceWords.{DeviceValue}
use Rattle.fare_device.proofs.Kept.{within_more}
use Rattle.fare_device.proofs.Sums.{count-le-sum}
use Rattle.fare_device.proofs.device.Device.with_numbers.Goals as goal

pub invariant_of-device : goal.invariant_of-device
invariant_of-device c =
    let none : c.device.inside.waiting.items ≡ [] = ap (λ (d : DeviceValue). d.waiting) (c.device.view_is ∙ c.in-Ok.ensures.made) in
    let empty : length c.device.inside.waiting.items ≡ 0 = ap length none in
    let total : sum c.args.lanes.now ≡ c.args.last = grind (arith, common_steps) in
    let no_base : c.device.inside.link.base ≡ 0 = ap (λ (d : DeviceValue). d.base) (c.device.view_is ∙ c.in-Ok.ensures.made) in
    let no_cursor : c.device.inside.link.cursor ≡ 0 = ap (λ (d : DeviceValue). d.cursor) (c.device.view_is ∙ c.in-Ok.ensures.made) in
    let base : c.acked.new.self.base ≡ c.args.last = grind (arith, common_steps, no_base) in
    let cursor : c.acked.new.self.cursor ≡ c.args.last = grind (arith, common_steps, no_cursor) in
    let ids : c.device.inside.owners.items ≡ keys_of c.args.scheme.now.owners = ap (λ (d : DeviceValue). d.owners) (c.device.view_is ∙ c.in-Ok.ensures.made) in
    let each : length c.args.lanes.now ≡ length c.args.scheme.now.owners = grind (arith, common_steps) in
    let same : c.copy_from_slice.new.self.items ≡ c.args.lanes.now = c.copy_from_slice.ensures.items in
    record {
      few = omega (arith, empty, base, c.if-last-gt-LAST_NUMBER.false);
      within = c.device.invariant.within;
      base = omega (arith, base, cursor);
      cursor = omega (arith, empty, base, cursor);
      tail = rw none (λ k r e. absurd (cc));
      owners = ap length ids ∙ length-keys_of c.args.scheme.now.owners ∙ sym (ap length same ∙ each);
      registered = omega (arith, ap length same, each, c.owner_count.ensures.valid.owners.few);
      lanes = λ k n e. omega (arith, empty, base, total, count-le-sum c.args.lanes.now k n (ap (λ l. slice_get l k) (sym same) ∙ e));
      counts = within_more (c.device.inside.link.base + length c.device.inside.waiting.items) (c.acked.new.self.base + length c.device.inside.waiting.items) c.device.inside.counts (omega (arith, empty, no_base)) c.device.invariant.counts;
      places = c.device.invariant.places;
      days = c.device.invariant.days;
    }
