use Rattle.std.proofs.Common.{cond, subst, sym, ap, ◌∙◌, None}
use Rattle.std.specs.Ordering.{is_eq}
use Rattle.std.specs.BTreeMap as tree
use Rattle.fare_record.specs.Counting.{Span}
use Rattle.fare_record.proofs.Counting.{fewer_left}
use Rattle.fare_store.specs.Keys.{key_order}
use Rattle.fare_store.specs.PlainOutboxWords.{stated_in}
use Rattle.fare_store.proofs.Untold.{AreWithout, one_without}
use Rattle.fare_store.proofs.plain_outbox.forgetting.remove_before.Goals as goal

pub loop-earlier-preserved : goal.loop-earlier-preserved
loop-earlier-preserved c =
    let steps = c.in-Some.ensures.steps in
    let i = c.loop-earlier.invariant in
    let first = stated_in c.args.statements.now in
    let held = tree.btree_map_len c.args.statements.now in
    let old = c.loop-earlier.statements in (
      fewer_left 0 c.args.day c.in-Some.earlier c.loop-earlier.earlier-iterator c.next.new.self i.0 steps,
      subst (λ n. AreWithout c.args.owner c.args.device n first (stated_in c.remove.new.self) held (tree.btree_map_len c.remove.new.self)) (sym (ap (λ (s : Span). s.next) steps.2))
          (one_without c.args.owner c.args.device c.loop-earlier.earlier-iterator.next held first old c.remove.new.self c.remove.result i.1
          (c.remove.ensures.value ∙ ap (stated_in old c.args.owner c.args.device) steps.0)
          (λ q. c.remove.ensures.updates.0 q ∙ ap (λ k. cond (is_eq (key_order (c.args.owner, c.args.device, k) q)) None (tree.get key_order old q)) steps.0)
          c.remove.ensures.len),
    )
