use Rattle.std.proofs.Common.{ap, ◌∙◌}
use Rattle.crossbeam_queue.specs.Passes.{view}
use Rattle.fare_lane_queue.specs.declared.rule.View.{View}
use Rattle.fare_lane_queue.proofs.Steps.{joins, learns_all}
use Rattle.fare_lane_queue.proofs.queue.LaneQueue.finish.Goals as goal

pub absorb-requires-clause-rule : goal.absorb-requires-clause-rule
absorb-requires-clause-rule g c = joins _ _ _ _ ((λ i. (view (c.into_pass-pass.ensures i)).puts) ∙ c.requires.forward.puts) ((λ i. (view (c.into_parts-other.ensures i).0).takes) ∙ c.requires.owner.takes)

pub len_as-left-requires-clause-rule : goal.len_as-left-requires-clause-rule
len_as-left-requires-clause-rule g c = learns_all _ _ (ap (λ (v : View). v.puts) c.absorb.ensures.rule) (ap (λ (v : View). v.takes) c.absorb.ensures.rule)
