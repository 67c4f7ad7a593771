use Rattle.std.proofs.Common.{rules, tests}
use Rattle.std.proofs.lemmas.Iterator.{YieldsList-from_slice}
use Rattle.std.proofs.lemmas.Iterator.Search.{any_from_yields_List}
use Rattle.fare_outbox.specs.Batches.{is_before}
use Rattle.fare_outbox.proofs.batching.any_before.Goals as goal

pub returns : goal.returns
returns c = any_from_yields_List (is_before c.args.other.now) _ _ _ c.any.ensures.ran (YieldsList-from_slice c.args.rows.now cc) (λ x b q k. search (rules, tests))
