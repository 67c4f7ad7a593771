use Rattle.fare_setup.proofs.OneScheme.{one_scheme}
use Rattle.fare_setup.proofs.laws.lines_make_one_scheme.Goals as goal

pub returns : goal.returns
returns c = one_scheme
