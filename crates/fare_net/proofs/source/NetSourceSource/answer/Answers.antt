use Rattle.std.proofs.Common.{arith}
use Rattle.std.proofs.lemmas.Grind.{common_steps}
use Rattle.fare_net.proofs.source.NetSourceSource.answer.Goals as goal

pub returns-then-self-clause-hears : goal.returns-then-self-clause-hears
returns-then-self-clause-hears g c = grind (arith, common_steps)

pub returns-clause-hears : goal.returns-clause-hears
returns-clause-hears g c = grind (arith, common_steps)

pub returns-clause-hands : goal.returns-clause-hands
returns-clause-hands g c = grind (arith, common_steps)
