use Rattle.std.proofs.Common.{refl}
use Rattle.fare_inbox_queue.specs.Line.{whole}
use Rattle.fare_inbox_queue.proofs.LineSteps.{opens, puts, takes, splits, joins}
use Rattle.fare_inbox_queue.proofs.laws.each_line_step_keeps_the_rule.Goals as goal

pub returns-clause-opens : goal.returns-clause-opens
returns-clause-opens c = opens

pub returns-clause-put : goal.returns-clause-put
returns-clause-put c = puts

pub returns-clause-take : goal.returns-clause-take
returns-clause-take c = takes

pub returns-clause-split : goal.returns-clause-split
returns-clause-split c = λ port. splits port whole refl

pub returns-clause-join : goal.returns-clause-join
returns-clause-join c = λ port other v w may_put may_take. joins port v other w may_put may_take
