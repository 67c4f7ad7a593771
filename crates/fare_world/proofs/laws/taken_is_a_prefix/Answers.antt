use Rattle.fare_world.specs.System.{start}
use Rattle.fare_world.proofs.Stepping.{start_is, lanes_run, taken_is_prefix}
use Rattle.fare_world.proofs.laws.taken_is_a_prefix.Goals as goal

pub returns-clause-run : goal.returns-clause-run
returns-clause-run c = λ sc es. lanes_run sc (start sc) es (start_is sc)

pub returns-clause-prefix : goal.returns-clause-prefix
returns-clause-prefix c = taken_is_prefix
