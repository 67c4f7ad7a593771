use Rattle.std.proofs.Common.{nat_eq, rules, tests}
use Rattle.std.proofs.lemmas.Iterator.{YieldsList-from_slice}
use Rattle.std.proofs.lemmas.Iterator.Search.{any_from_yields_List}
use Rattle.fare_inbox_queue.proofs.stations.is_named.Goals as goal

pub returns : goal.returns
returns c = any_from_yields_List (nat_eq c.args.station) _ _ _ c.any.ensures.ran (YieldsList-from_slice c.args.stations.now cc) (λ x b q k. search (rules, tests))
