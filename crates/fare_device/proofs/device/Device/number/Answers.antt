use Rattle.std.proofs.Common.{◌≡◌, ◌<◌, ◌≤◌, ◌+◌, ◌∷◌, ◌++◌, [], get_or, length, refl, ap, sym, ◌∙◌, arith}
use Rattle.std.proofs.lemmas.Grind.{common_steps}
use Rattle.std.proofs.lemmas.List.{length-set}
use Rattle.std.proofs.lemmas.Option.{slice_get_read, slice_get-get_or}
use Rattle.fare_record.specs.Values.{RecordValue}
use Rattle.fare_device.specs.DeviceWords.{last_link}
use Rattle.fare_device.proofs.Kept.{tail_more, within_set}
use Rattle.fare_device.proofs.device.Device.number.Goals as goal

pub invariant_of-self-2 : goal.invariant_of-self-2
invariant_of-self-2 c =
    let was = c.self.invariant in
    let r = c.new-numbered.result in
    let lanes = c.self.inside.lanes.items in
    let counts = c.self.inside.counts in
    let before = c.self.inside.link.base + length c.self.inside.waiting.items in
    let place = c.args.place in
    let here : place < length lanes = grind (arith, common_steps) in
    let pushed : c.push.new.self.items ≡ c.self.inside.waiting.items ++ r ∷ [] = grind (arith, common_steps) in
    let longer : length c.push.new.self.items ≡ length c.self.inside.waiting.items + 1 = grind (arith, common_steps) in
    let lane : c.index.result.now ≤ before = was.lanes place c.index.result.now (slice_get_read lanes (length lanes) place c.index.result.now refl here c.index.ensures) in
    let counted : get_or counts place 0 ≤ before = was.counts place (get_or counts place 0) (slice_get-get_or counts place 0 (omega (arith, was.places, was.registered))) in
    let within : length c.push.new.self.items ≤ c.push.new.self.capacity = grind (arith, common_steps, was.within) in
    let same : before ≡ c.last.result = ap last_link c.self.view_is ∙ sym c.last.ensures.value in
    record {
      few = omega (arith, longer, same);
      within = within;
      base = was.base;
      cursor = omega (arith, was.cursor);
      tail = rw pushed (tail_more c.self.inside.id c.self.inside.link.base c.self.inside.waiting.items r was.tail (record {
        device = ap (λ (y : RecordValue). y.device) c.new-numbered.ensures;
        link = omega (arith, ap (λ (y : RecordValue). y.link) c.new-numbered.ensures, same);
      }));
      owners = was.owners ∙ sym (length-set lanes place (c.index.result.now + 1));
      registered = omega (arith, was.registered, length-set lanes place (c.index.result.now + 1));
      lanes = within_set before (c.self.inside.link.base + length c.push.new.self.items) lanes place (c.index.result.now + 1) (omega (arith, longer)) (omega (arith, longer, lane)) was.lanes;
      counts = within_set before (c.self.inside.link.base + length c.push.new.self.items) counts place (get_or counts place 0 + 1) (omega (arith, longer)) (omega (arith, longer, counted)) was.counts;
      places = length-set counts place (get_or counts place 0 + 1) ∙ was.places;
      days = was.days;
    }

pub overflow_add-self : goal.overflow_add-self
overflow_add-self c =
    let was = c.self.invariant in
    let counts = c.self.inside.counts in
    let place = c.args.place in
    let here : place < length c.self.inside.lanes.items = grind (arith, common_steps) in
    let counted : get_or counts place 0 ≤ c.self.inside.link.base + length c.self.inside.waiting.items = was.counts place (get_or counts place 0) (slice_get-get_or counts place 0 (omega (arith, was.places, was.registered))) in
    omega (arith, counted, was.few)
