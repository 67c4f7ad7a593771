use Rattle.std.proofs.Common.{◌≡◌, sym, ap, ◌∙◌, refl, arith}
use Rattle.std.specs.Map.{keys_of}
use Rattle.crossbeam_queue.specs.Passes.{view}
use Rattle.fare_inbox_queue.specs.declared.inbox_rule.View.{View}
use Rattle.fare_inbox_queue.proofs.Steps.{drains, learns_left}
use Rattle.fare_inbox_queue.proofs.Ends.{left_behind, left_before, left_length}
use Rattle.fare_inbox_queue.proofs.inbox_ended.InboxEnded.next.Goals as goal

pub pop_as-requires-clause-rule : goal.pop_as-requires-clause-rule
pop_as-requires-clause-rule g c = (drains _ _ c.requires.takes c.requires.all, learns_left _ _ c.requires.takes c.requires.all)

pub overflow_sub-self : goal.overflow_sub-self
overflow_sub-self g c =
    let first = c.in_ok-item.ensures.rule.1 in
    let holds = c.requires.holds in
    let same = left_length (view c.args.self.now.pass) holds.0 _ holds.2 first.1 in
    let count = holds.1 in omega (arith, same, count)

pub returns-clause-fewer : goal.returns-clause-fewer
returns-clause-fewer g c =
    let first = c.in_ok-item.ensures.rule.1 in
    let holds = c.requires.holds in
    let same = left_length (view c.args.self.now.pass) holds.0 _ holds.2 first.1 in
    let count = holds.1 in omega (arith, same, count)

pub returns-clause-some : goal.returns-clause-some
returns-clause-some g c =
    let step = c.in_ok-item.ensures.rule in left_before _ _ _ step.1.0 step.0 step.1.1

pub returns-in_err-item-clause-zero : goal.returns-in_err-item-clause-zero
returns-in_err-item-clause-zero g c =
    let none = c.in_err-item.ensures.rule.1 in
    let holds = c.requires.holds in
    let zero : c.args.self.now.left ≡ 0 = sym holds.1 ∙ (left_length (view c.args.self.now.pass) holds.0 none.0 holds.2 none.2 ∙ none.1) in
    rw c.from_residual.ensures (zero, zero)

pub returns-clause-ended : goal.returns-clause-ended
returns-clause-ended g c =
    let step = c.in_ok-item.ensures.rule in
    let same = c.in_ok-item.ensures.queue in
    let holds = c.requires.holds in
    let long = left_length (view c.args.self.now.pass) holds.0 _ holds.2 step.1.1 in
    let count = holds.1 in (
      record {
        pass = (same.0 ∙ c.requires.pass.0, same.2 ∙ c.requires.pass.1);
        takes = ap (λ (v : View). v.takes) step.0 ∙ c.requires.takes;
        all = ap (λ (v : View). keys_of v.ended) step.0 ∙ (c.requires.all ∙ ap (λ (v : View). v.seated) (sym step.0));
        holds = (step.1.0, omega (arith, long, count), left_behind _ _ _ step.1.0 step.0 step.1.1);
      },
      refl,
    )
