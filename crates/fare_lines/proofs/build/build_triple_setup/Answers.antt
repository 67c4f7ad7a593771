use Rattle.std.proofs.Common.{arith}
use Rattle.std.proofs.lemmas.Grind.{common_steps}
use Rattle.fare_lines.proofs.Counts.{no_three_of_scheme}
use Rattle.fare_lines.proofs.build.build_triple_setup.Goals as goal

pub returns-in_err-first-clause-none : goal.returns-in_err-first-clause-none
returns-in_err-first-clause-none c = no_three_of_scheme _ c.args.keyword c.args.first c.args.second c.args.third (λ narrow. grind (arith, common_steps))

pub returns-in_err-third-clause-none : goal.returns-in_err-third-clause-none
returns-in_err-third-clause-none c = no_three_of_scheme _ c.args.keyword c.args.first c.args.second c.args.third (λ narrow. grind (arith, common_steps))
