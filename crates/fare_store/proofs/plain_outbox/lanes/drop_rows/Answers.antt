use Rattle.std.proofs.Common.{rules, ◌≡◌, ◌+◌, is_some, refl, sym, ◌∙◌, ap, arith}
use Rattle.std.specs.Prelude.{IsSome, if◌then◌else◌}
use Rattle.std.specs.BTreeMap as tree
use Rattle.fare_store.specs.Falling.{falling}
use Rattle.fare_store.proofs.Pruning.{back_out, one_gone, gone_empty, gone_past}
use Rattle.fare_store.proofs.plain_outbox.lanes.drop_rows.Goals as goal

pub loop-oldest-preserved : goal.loop-oldest-preserved
loop-oldest-preserved c =
    let some : IsSome c.pop_last.result = c.pop_last.ensures.variant.1 (c.in-Some.ensures.variant.0 refl) in
    let fewer : tree.btree_map_len c.pop_last.new.self + 1 ≡ tree.btree_map_len c.loop-oldest.rows = ap (λ t. tree.btree_map_len c.pop_last.new.self + (if t then 1 else 0)) (sym some) ∙ c.pop_last.ensures.len in
    let out = back_out c.loop-oldest.rows c.pop_last.new.self c.in-Some.oldest.now c.in-Some.field-0-1.now c.pop_last.result c.in-Some.ensures.last some c.pop_last.ensures.removal fewer c.pop_last.ensures.updates in
    one_gone c.args.upto (tree.get falling c.args.rows.now) (tree.btree_map_len c.args.rows.now) c.loop-oldest.rows c.pop_last.new.self c.in-Some.oldest.now c.loop-oldest.invariant (omega (arith, c.if-oldest-upto.true)) (ap is_some c.in-Some.ensures.value) out fewer

pub returns-in-loop-oldest-clause-left : goal.returns-in-loop-oldest-clause-left
returns-in-loop-oldest-clause-left c =
    let empty : tree.btree_map_len c.loop-oldest.rows ≡ 0 = search rules in
    (gone_empty c.args.upto (tree.get falling c.args.rows.now) (tree.btree_map_len c.args.rows.now) c.loop-oldest.rows c.loop-oldest.invariant empty).left

pub returns-in-loop-oldest-clause-count : goal.returns-in-loop-oldest-clause-count
returns-in-loop-oldest-clause-count c =
    let empty : tree.btree_map_len c.loop-oldest.rows ≡ 0 = search rules in
    (gone_empty c.args.upto (tree.get falling c.args.rows.now) (tree.btree_map_len c.args.rows.now) c.loop-oldest.rows c.loop-oldest.invariant empty).count

pub returns-else-oldest-upto-clause-left : goal.returns-else-oldest-upto-clause-left
returns-else-oldest-upto-clause-left c = (gone_past c.args.upto (tree.get falling c.args.rows.now) (tree.btree_map_len c.args.rows.now) c.loop-oldest.rows c.in-Some.oldest.now c.loop-oldest.invariant (omega (arith, c.if-oldest-upto.false)) c.in-Some.ensures.greatest).left

pub returns-else-oldest-upto-clause-count : goal.returns-else-oldest-upto-clause-count
returns-else-oldest-upto-clause-count c = (gone_past c.args.upto (tree.get falling c.args.rows.now) (tree.btree_map_len c.args.rows.now) c.loop-oldest.rows c.in-Some.oldest.now c.loop-oldest.invariant (omega (arith, c.if-oldest-upto.false)) c.in-Some.ensures.greatest).count
