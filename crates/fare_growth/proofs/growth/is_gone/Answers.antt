use Rattle.fare_growth.proofs.Searching.{gone_answered}
use Rattle.fare_growth.proofs.growth.is_gone.Goals as goal

pub returns : goal.returns
returns c = gone_answered c.args.later.now c.args.entry.now c.of.result c.is_none.result c.of.ensures c.is_none.ensures
