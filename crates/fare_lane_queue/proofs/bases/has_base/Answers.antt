use Rattle.std.proofs.Common.{ℕ, nat_eq, rules, tests}
use Rattle.std.proofs.lemmas.Iterator.{YieldsList-from_slice}
use Rattle.std.proofs.lemmas.Iterator.Search.{any_from_yields_List}
use Rattle.fare_lane_queue.proofs.bases.has_base.Goals as goal

pub returns : goal.returns
returns c =
    any_from_yields_List (λ (base : ℕ × ℕ). nat_eq c.args.device base.0) _ _ _ c.any.ensures.ran (YieldsList-from_slice c.args.bases.now cc) (λ x b q k. search (rules, tests))
