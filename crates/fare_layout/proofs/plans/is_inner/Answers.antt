use Rattle.std.proofs.Common.{◌≡◌, ◌≢◌, ◌-◌, true, nat_lt, length, sym, ap, ◌∙◌, arith}
use Rattle.sqlite_schema.specs.Plan.{join_to, stage_join}
use Rattle.sqlite_sql.specs.Query.{inner}
use Rattle.fare_layout.proofs.Nodes.{join_at, inner_same}
use Rattle.fare_layout.proofs.plans.is_inner.Goals as goal

pub returns-then-table-tree : goal.returns-then-table-tree
returns-then-table-tree c ops =
    let steps = c.args.steps.now in
    let within : true ≡ nat_lt c.args.from (length steps) = c.in-Some-Inner.ensures.lookup.0 in
    let deep : length steps ≢ 0 = grind (arith, within) in
    let at = join_at ops steps (length steps) c.args.from _ deep c.in-Some-Inner.ensures.lookup.3.1 ∙ ap (stage_join ops (join_to ops steps (length steps - 1))) c.in-Some-Inner.field-0-is in
    let ends = c.is_end.ensures ops in
    (λ over. at ∙ (λ i. inner (c.if-table-tree.true i) (ends.0 over i)), λ same. ends.1 (inner_same _ _ _ _ (sym at ∙ same)))
