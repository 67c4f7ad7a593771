use Rattle.std.proofs.Common.{◌≡◌, ◌∷◌, ◌++◌, List, length, drop, ap, sym, ◌∙◌, refl, arith}
use Rattle.crossbeam_queue.specs.Passes.{view}
use Rattle.fare_record.specs.declared.item.Item.{Item}
use Rattle.fare_lane_queue.specs.declared.rule.View.{View}
use Rattle.fare_lane_queue.proofs.Steps.{drains, learns_left, left_before, left_whole}
use Rattle.fare_lane_queue.proofs.ended.Ended.next.Goals as goal

abbrev left_in : View → List Item
left_in v = drop (length v.taken) v.sent

pub pop_as-requires-clause-rule : goal.pop_as-requires-clause-rule
pop_as-requires-clause-rule g c = (drains _ _ c.requires.puts c.requires.takes, learns_left _ _ c.requires.puts c.requires.takes)

pub returns-clause-some : goal.returns-clause-some
returns-clause-some g c =
    let step = c.in_ok-item.ensures.rule in
    left_before _ _ _ step.1 ∙ ap (λ (v : View). c.in_ok-item.item ∷ left_in v) (sym step.0)

pub returns-clause-ended : goal.returns-clause-ended
returns-clause-ended g c =
    let step = c.in_ok-item.ensures.rule in
    let same = c.in_ok-item.ensures.queue in
    let fewer : left_in (view c.args.self.now.pass) ≡ c.in_ok-item.item ∷ left_in (view c.pop_as.new.pass) =
    left_before _ _ _ step.1 ∙ ap (λ (v : View). c.in_ok-item.item ∷ left_in v) (sym step.0) in
    let count = ap length fewer in
    let before = c.requires.left in (
      record {
        pass = (same.0 ∙ c.requires.pass.0, same.2 ∙ c.requires.pass.1);
        puts = ap (λ (v : View). v.puts) step.0 ∙ c.requires.puts;
        takes = ap (λ (v : View). v.takes) step.0 ∙ c.requires.takes;
        kept = ap (λ (v : View). v.sent) step.0 ∙ (left_whole _ _ _ step.1 ∙ ap (λ (v : View). v.taken ++ left_in v) (sym step.0));
        left = omega (arith, count, before);
      },
      refl,
    )
