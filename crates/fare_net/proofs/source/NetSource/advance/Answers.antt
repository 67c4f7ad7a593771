use Rattle.std.proofs.Common.{arith}
use Rattle.std.proofs.lemmas.Grind.{common_steps}
use Rattle.fare_net.proofs.source.NetSource.advance.Goals as goal

pub returns-then-self-eq0-clause-advances : goal.returns-then-self-eq0-clause-advances
returns-then-self-eq0-clause-advances g c = grind (arith, common_steps)

pub returns-clause-advances : goal.returns-clause-advances
returns-clause-advances g c = grind (arith, common_steps)
