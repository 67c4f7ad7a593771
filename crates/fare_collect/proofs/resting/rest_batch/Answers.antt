use Rattle.std.proofs.Common.{[], refl}
use Rattle.fare_collect.proofs.Rested.{passed_none}
use Rattle.fare_collect.proofs.resting.rest_batch.Goals as goal

pub returns-in_default-clause-rested : goal.returns-in_default-clause-rested
returns-in_default-clause-rested g c = record {
  more = [];
  passed = passed_none c.args.scheme.now g.S.Source.talk c.args.id c.args.station.now c.args.station.now c.requires.going (record { given = refl; answered = refl; failures = refl; ended = λ e. e }) refl refl;
  kept = c.keep.ensures.kept;
}
