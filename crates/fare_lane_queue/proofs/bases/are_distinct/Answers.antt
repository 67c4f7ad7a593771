use Rattle.std.proofs.Common.{◌≡◌, ℕ, List, get_or, true≢false, sym, ap, ◌∙◌}
use Rattle.std.specs.List.{IsDistinct}
use Rattle.fare_lane_queue.proofs.Distinct.{distinct_more, repeats}
use Rattle.fare_lane_queue.proofs.bases.are_distinct.Goals as goal

read : (bases : List (ℕ × ℕ)) (index : ℕ) (base : ℕ × ℕ) → base ≡ get_or bases index base → get_or bases index base ≡ get_or bases index (get_or bases index base)
read bases index base is = ap (λ (b : ℕ × ℕ). get_or bases index b) is

pub loop-index-init : goal.loop-index-init
unfolding IsDistinct
loop-index-init c = tt

pub returns-then-has_base : goal.returns-then-has_base
returns-then-has_base c = (
  λ is. absurd (true≢false (sym is)),
  λ distinct. absurd (repeats c.args.bases.now c.loop-index.index _ c.loop-index-test.true (read c.args.bases.now c.loop-index.index c.index-bases-index.result c.index-bases-index.is) (sym c.has_base.ensures ∙ c.if-has_base.true) distinct),
)

pub loop-index-preserved : goal.loop-index-preserved
loop-index-preserved c =
    distinct_more c.args.bases.now c.loop-index.index _ c.loop-index-test.true (read c.args.bases.now c.loop-index.index c.index-bases-index.result c.index-bases-index.is) (sym c.has_base.ensures ∙ c.if-has_base.false) c.loop-index.invariant
