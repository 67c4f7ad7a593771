use Rattle.std.proofs.Common.{◌≡◌, ◌∷◌, ◌++◌, length, ap, sym, ◌∙◌, refl, arith}
use Rattle.crossbeam_queue.specs.Passes.{view}
use Rattle.fare_inbox_queue.specs.declared.ack_rule.View.{View}
use Rattle.fare_inbox_queue.specs.LinePasses.{items_of, told_left}
use Rattle.fare_inbox_queue.proofs.LineSteps.{drains, learns_left, left_before, left_whole}
use Rattle.fare_inbox_queue.proofs.ack_ended.AckLineEnded.next.Goals as goal

pub pop_as-requires-clause-rule : goal.pop_as-requires-clause-rule
pop_as-requires-clause-rule g c = (drains _ _ c.requires.puts c.requires.takes, learns_left _ _ c.requires.puts c.requires.takes)

pub returns-clause-some : goal.returns-clause-some
returns-clause-some g c =
    let step = c.in_ok-told.ensures.rule in
    ap items_of (left_before _ _ _ step.1 ∙ ap (λ (v : View). c.in_ok-told.told ∷ told_left v) (sym step.0))

pub returns-clause-ended : goal.returns-clause-ended
returns-clause-ended g c =
    let step = c.in_ok-told.ensures.rule in
    let same = c.in_ok-told.ensures.queue in
    let fewer : items_of (told_left (view c.args.self.now.pass)) ≡ c.in_ok-told.told.item ∷ items_of (told_left (view c.pop_as.new.pass)) =
    ap items_of (left_before _ _ _ step.1 ∙ ap (λ (v : View). c.in_ok-told.told ∷ told_left v) (sym step.0)) in
    let count = ap length fewer in
    let before = c.requires.left in (
      record {
        pass = (same.0 ∙ c.requires.pass.0, same.2 ∙ c.requires.pass.1);
        puts = ap (λ (v : View). v.puts) step.0 ∙ c.requires.puts;
        takes = ap (λ (v : View). v.takes) step.0 ∙ c.requires.takes;
        kept = ap (λ (v : View). v.sent) step.0 ∙ (left_whole _ _ _ step.1 ∙ ap (λ (v : View). v.taken ++ told_left v) (sym step.0));
        left = omega (arith, count, before);
      },
      refl,
    )
