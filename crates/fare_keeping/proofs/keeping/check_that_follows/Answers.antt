use Rattle.std.proofs.Common.{inr}
use Rattle.fare_keeping.proofs.keeping.check_that_follows.Goals as goal

pub returns-clause-follows : goal.returns-clause-follows
returns-clause-follows c = inr (c.in_ok-kept.kept, c.in_ok-kept.ensures.told, c.first_contradiction.ensures.none.0 c.in-None.is)
