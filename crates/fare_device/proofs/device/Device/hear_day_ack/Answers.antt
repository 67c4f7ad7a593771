use Rattle.std.proofs.Common.{◌≡◌, ◌≤◌, length, sym, ap, ◌∙◌, arith}
use Rattle.fare_device.specs.Turning.{without}
use Rattle.fare_device.proofs.Without.{length-without, stays_same}
use Rattle.fare_device.proofs.device.Device.hear_day_ack.Goals as goal

pub invariant_of-self : goal.invariant_of-self
invariant_of-self c =
    let was = c.self.invariant in
    let gone : c.remove.new.self ≡ without c.self.inside.days c.args.day = c.remove.ensures.gone in
    record {
      few = was.few;
      within = was.within;
      base = was.base;
      cursor = was.cursor;
      tail = was.tail;
      owners = was.owners;
      registered = was.registered;
      lanes = was.lanes;
      counts = was.counts;
      places = was.places;
      days = omega (arith, was.days, ap length gone, length-without c.self.inside.days c.args.day);
    }

pub returns-clause-stays : goal.returns-clause-stays
returns-clause-stays c = λ none.
    rw (← c.self.view_is, c.remove.ensures.gone) (stays_same _ c.args.day (sym c.remove.ensures.value ∙ none))
