use Rattle.std.proofs.Common.{arith}
use Rattle.fare_lines.proofs.Counts.{too_many_for_scheme}
use Rattle.fare_lines.proofs.build.build_setup.Goals as goal

pub returns-in_default-clause-none : goal.returns-in_default-clause-none
returns-in_default-clause-none c = too_many_for_scheme c.args.keyword c.args.numbers.now (omega arith)
