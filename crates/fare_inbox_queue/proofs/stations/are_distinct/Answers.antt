use Rattle.std.proofs.Common.{true≢false, sym, ◌∙◌}
use Rattle.std.specs.List.{IsDistinct}
use Rattle.fare_inbox_queue.proofs.Distinct.{distinct_more, new_here}
use Rattle.fare_inbox_queue.proofs.stations.are_distinct.Goals as goal

pub loop-index-init : goal.loop-index-init
unfolding IsDistinct
loop-index-init c = tt

pub returns-then-is_named : goal.returns-then-is_named
returns-then-is_named c = (
  λ is. absurd (true≢false (sym is)),
  λ distinct. absurd (true≢false (sym c.if-is_named.true ∙ (c.is_named.ensures ∙ new_here c.args.stations.now c.loop-index.index c.index-stations-index.result c.loop-index-test.true c.index-stations-index.is distinct))),
)

pub loop-index-preserved : goal.loop-index-preserved
loop-index-preserved c =
    distinct_more c.args.stations.now c.loop-index.index c.index-stations-index.result c.loop-index-test.true c.index-stations-index.is (sym c.is_named.ensures ∙ c.if-is_named.false) c.loop-index.invariant
