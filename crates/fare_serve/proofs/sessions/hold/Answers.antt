use Rattle.std.proofs.Common.{◌∙◌, ap, inr, sym}
use Rattle.fare_serve.specs.Calls.{first_ending}
use Rattle.fare_serve.proofs.sessions.hold.Goals as goal

pub returns-in-None-clause-held : goal.returns-in-None-clause-held
returns-in-None-clause-held g c =
    let promises = c.in_ok-report.ensures in
    record {
      scheme = promises.scheme;
      still = promises.still;
      follow = promises.follow;
      sound = promises.sound;
      lasting = promises.lasting;
      owned = promises.owned;
      agrees = promises.agrees;
      grows = promises.grows;
      covered = promises.covered;
      boundaries = promises.boundaries;
      stored = promises.stored;
      taken = promises.taken;
      left = promises.left;
      gave_up = search;
      in_order = promises.in_order;
      untouched = promises.untouched;
    }

pub returns-in-Some-clause-ended : goal.returns-in-Some-clause-ended
returns-in-Some-clause-ended g c =
    let promises = c.in_ok-report.ensures in
    inr (
      c.in_ok-report.report,
      record {
        scheme = promises.scheme;
        still = promises.still;
        follow = promises.follow;
        sound = promises.sound;
        lasting = promises.lasting;
        owned = promises.owned;
        agrees = promises.agrees;
        grows = promises.grows;
        covered = promises.covered;
        boundaries = promises.boundaries;
        stored = promises.stored;
        taken = promises.taken;
        left = promises.left;
        gave_up = search;
        in_order = promises.in_order;
        untouched = promises.untouched;
      },
      sym (ap first_ending c.deref.ensures.value) ∙ sym c.in-Some.ensures.value,
    )
