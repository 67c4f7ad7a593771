use Rattle.std.proofs.Common.{◌≡◌, ℕ, List, false, nat_eq, sym, ap, ◌∙◌, subst}
use Rattle.std.specs.List.{list_any}
use Rattle.std.specs.Map.{keys_of}
use Rattle.fare_inbox_queue.specs.declared.arrived.Arrived.{Arrived}
use Rattle.fare_inbox_queue.specs.declared.inbox_rule.View.{View}
use Rattle.crossbeam_queue.specs.Passes.{view}
use Rattle.fare_inbox_queue.specs.Inbox.{IsLeft}
use Rattle.fare_inbox_queue.specs.InboxPasses.{stations_of}
use Rattle.fare_inbox_queue.proofs.Steps.{learns_left}
use Rattle.fare_inbox_queue.proofs.Ends.{keys_sent, each_pass, no_others}
use Rattle.fare_inbox_queue.proofs.inbox.Inbox.finish.Goals as goal

pub len_as-left-requires-clause-rule : goal.len_as-left-requires-clause-rule
len_as-left-requires-clause-rule g c =
    learns_left _ _ c.gather.ensures.takes
    (ap (λ (l : List (ℕ × List Arrived)). keys_of l) c.gather.ensures.ended ∙ (keys_sent c.args.passes.items ∙ (c.requires.all ∙ sym (c.gather.ensures.seated ∙ (λ i. (view (c.into_parts-pass.ensures i).0).seated)))))

pub returns-clause-ended : goal.returns-clause-ended
returns-clause-ended g c =
    let same = c.len_as-left.ensures.queue in
    let held = c.len_as-left.ensures.rule.1 in
    record {
      pass = (same.0.0 ∙ c.gather.ensures.queue.0, same.0.2 ∙ c.gather.ensures.queue.1);
      takes = ap (λ (v : View). v.takes) same.1 ∙ c.gather.ensures.takes;
      all = ap (λ (v : View). keys_of v.ended) same.1
          ∙ (ap (λ (l : List (ℕ × List Arrived)). keys_of l) c.gather.ensures.ended ∙ (keys_sent c.args.passes.items ∙ (c.requires.all ∙ (sym (c.gather.ensures.seated ∙ (λ i. (view (c.into_parts-pass.ensures i).0).seated)) ∙ ap (λ (v : View). v.seated) (sym same.1)))));
      holds = (held.0, held.1, subst (λ (v : View). IsLeft v held.0) (sym same.1) held.2);
    }

pub returns-clause-each : goal.returns-clause-each
returns-clause-each g c =
    let same = c.len_as-left.ensures.queue.1 in
    let held = c.len_as-left.ensures.rule.1 in
    each_pass _ held.0 _ c.args.passes.items (ap (λ (v : View). v.ended) same ∙ c.gather.ensures.ended) (ap (λ (v : View). v.taken) same ∙ (c.gather.ensures.taken ∙ (λ i. (view (c.into_parts-pass.ensures i).0).taken))) (subst (λ (v : View). IsLeft v held.0) (sym same) held.2)

pub returns-clause-others : goal.returns-clause-others
returns-clause-others g c = λ station new.
    let same = c.len_as-left.ensures.queue.1 in
    let held = c.len_as-left.ensures.rule.1 in
    let keys : keys_of (view c.len_as-left.new.pass).ended ≡ stations_of c.args.writer = ap (λ (v : View). keys_of v.ended) same ∙ (ap (λ (l : List (ℕ × List Arrived)). keys_of l) c.gather.ensures.ended ∙ (keys_sent c.args.passes.items ∙ c.requires.all)) in
    no_others _ held.0 _ station (ap (λ (v : View). v.taken) same ∙ (c.gather.ensures.taken ∙ (λ i. (view (c.into_parts-pass.ensures i).0).taken))) (subst (λ (v : View). IsLeft v held.0) (sym same) held.2)
    (subst (λ (l : List ℕ). list_any (nat_eq station) l ≡ false) (sym keys) new)
