use Rattle.std.proofs.Common.{ap, sym, ◌∙◌, subst}
use Rattle.crossbeam_queue.specs.Passes.{view}
use Rattle.fare_inbox_queue.specs.declared.ack_rule.View.{View}
use Rattle.fare_inbox_queue.specs.Line.{both, IsLeft}
use Rattle.fare_inbox_queue.proofs.LineSteps.{joins, learns_left}
use Rattle.fare_inbox_queue.proofs.LineEnds.{items_stored}
use Rattle.fare_inbox_queue.proofs.ack_line.AckLine.finish.Goals as goal

pub absorb-requires-clause-rule : goal.absorb-requires-clause-rule
absorb-requires-clause-rule g c = joins _ _ _ _ ((λ i. (view (c.into_pass-pass.ensures i)).puts) ∙ c.requires.ack.puts) ((λ i. (view (c.into_parts-other.ensures i).0).takes) ∙ c.requires.hear.takes)

pub len_as-left-requires-clause-rule : goal.len_as-left-requires-clause-rule
len_as-left-requires-clause-rule g c = learns_left _ _ (ap (λ (v : View). v.puts) c.absorb.ensures.rule) (ap (λ (v : View). v.takes) c.absorb.ensures.rule)

pub returns-clause-stored : goal.returns-clause-stored
returns-clause-stored g c =
    let same = c.len_as-left.ensures.queue.1 ∙ (c.absorb.ensures.rule ∙ λ i. both (view (c.into_pass-pass.ensures i)) (view (c.into_parts-other.ensures i).0)) in
    let held = c.len_as-left.ensures.rule.1 in
    items_stored (view c.args.ack.pass) (view c.args.hear.pass) (view c.len_as-left.new.pass) held.0 same (subst (λ (v : View). IsLeft v held.0) (sym c.len_as-left.ensures.queue.1) held.2)
