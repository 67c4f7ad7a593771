use Rattle.std.proofs.Common.{arith, rules}
use Rattle.std.proofs.lemmas.Grind.{common_steps}
use Rattle.fare_command.proofs.command.number_arg.Goals as goal

pub returns : goal.returns
returns c = (grind (arith, common_steps), search rules)
