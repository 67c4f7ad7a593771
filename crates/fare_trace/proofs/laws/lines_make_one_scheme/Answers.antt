use Rattle.fare_trace.proofs.Clocks.{none_made, one_scheme}
use Rattle.fare_trace.proofs.Drafted.{drafted_makes}
use Rattle.fare_trace.proofs.laws.lines_make_one_scheme.Goals as goal

pub returns-clause-one : goal.returns-clause-one
returns-clause-one c = one_scheme

pub returns-clause-drafted : goal.returns-clause-drafted
returns-clause-drafted c = drafted_makes

pub returns-clause-none : goal.returns-clause-none
returns-clause-none c = none_made
