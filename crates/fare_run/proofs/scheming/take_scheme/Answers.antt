use Rattle.fare_run.specs.Scheming.{given_by}
use Rattle.fare_run.proofs.Taken.{none_of, taken_of, taken_spelled}
use Rattle.fare_run.proofs.scheming.take_scheme.Goals as goal

pub returns-in-Some-clause-made : goal.returns-in-Some-clause-made
returns-in-Some-clause-made g c = taken_spelled (given_by c.args.source (g.I.Read.remaining c.args.input.now)) c.in_ok-given.given c.in_ok-taken.field-0 c.in-Some.taken c.in_ok-given.ensures.made c.in_ok-taken.ensures.given c.in-Some.is

pub returns-in-Some-clause-some : goal.returns-in-Some-clause-some
returns-in-Some-clause-some g c =
    let some = c.in_ok-given.ensures.some in
    (some.0, taken_of c.args.source c.in_ok-given.given c.in_ok-taken.field-0 c.in-Some.taken some.0 some.1 c.in_ok-taken.ensures.given c.in-Some.is)

pub returns-in-None-clause-some : goal.returns-in-None-clause-some
returns-in-None-clause-some g c =
    let some = c.in_ok-given.ensures.some in
    (some.0, none_of c.args.source c.in_ok-given.given c.in_ok-taken.field-0 some.0 some.1 c.in_ok-taken.ensures.given c.in-None.is)
