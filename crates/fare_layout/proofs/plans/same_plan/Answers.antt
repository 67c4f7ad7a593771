use Rattle.std.proofs.Common.{arith, ◌≡◌, IsTrue, sym, subst, ap, ◌∙◌}
use Rattle.sqlite_schema.specs.Plan.{query_in}
use Rattle.fare_layout.specs.Commands.{moved_query, IsSimpleQuery}
use Rattle.fare_layout.proofs.plans.same_plan.Goals.{then-is_inner, else-is_inner, then-same_roots, else-same_roots, then-same_grouping, else-same_grouping, then-same_roots-2, else-same_roots-2, then-a-b, else-a-b, then-same_collations, else-same_collations, then-same_sort_keys, else-same_sort_keys}
use Rattle.fare_layout.proofs.plans.same_plan.Goals as goal

-- each part in turn is found, so the next one is looked at
pub returns-else-same_root-clause-found : goal.returns-else-same_root-clause-found
returns-else-same_root-clause-found c simple same =
    let e : query_in c.a.inside ≡ moved_query c.args.tree (query_in c.b.inside) = c.a.view_is ∙ same ∙ ap (moved_query c.args.tree) (sym c.b.view_is) in
    let s : IsSimpleQuery (query_in c.b.inside) = subst IsSimpleQuery (sym c.b.view_is) simple in
    let over : IsTrue c.is_inner.result = rw c.as_slice.ensures at (c.is_inner.ensures c.a.inside.nodes).1 (ap (λ q. q.from) e) in
    let filter : IsTrue c.if-is_inner.value = elim c.if-is_inner.branch [
      | then-is_inner w ↦ w.value-is ∙ (rw (c.as_slice-ops.ensures, c.as_slice-nodes.ensures, w.as_slice-then-is_inner.ensures, w.as_slice-then-is_inner-2.ensures) at w.same_roots.ensures.found s.filter (ap (λ q. q.filter) e))
      | else-is_inner w ↦ w.value-is ∙ over
    ] in
    let group : IsTrue c.if-same_roots.value = elim c.if-same_roots.branch [
      | then-same_roots w ↦ w.value-is ∙ (rw (c.as_slice-ops.ensures, c.as_slice-nodes.ensures) at w.same_grouping.ensures.found s.group (ap (λ q. q.group) e))
      | else-same_roots w ↦ w.value-is ∙ filter
    ] in
    let project : IsTrue c.if-same_grouping.value = elim c.if-same_grouping.branch [
      | then-same_grouping w ↦ w.value-is ∙ (rw (c.as_slice-ops.ensures, c.as_slice-nodes.ensures, w.as_slice-then-same_grouping.ensures, w.as_slice-then-same_grouping-2.ensures) at w.same_roots-then-same_grouping.ensures.found s.project (ap (λ q. q.project) e))
      | else-same_grouping w ↦ w.value-is ∙ group
    ] in
    let distinct : IsTrue c.if-same_roots-2.value = elim c.if-same_roots-2.branch [
      | then-same_roots-2 w ↦ let flag : c.a.inside.distinct ≡ c.b.inside.distinct = ap (λ q. q.distinct) e in grind (arith, w.value-is, flag)
      | else-same_roots-2 w ↦ w.value-is ∙ project
    ] in
    let collations : IsTrue c.if-a-b.value = elim c.if-a-b.branch [
      | then-a-b w ↦ w.value-is ∙ (rw (w.as_slice-then-a-b.ensures, w.as_slice-then-a-b-2.ensures) at w.same_collations.ensures.1 (ap (λ q. q.collations) e))
      | else-a-b w ↦ w.value-is ∙ distinct
    ] in
    let order : IsTrue c.if-same_collations.value = elim c.if-same_collations.branch [
      | then-same_collations w ↦ w.value-is ∙ (rw (c.as_slice-ops.ensures, c.as_slice-nodes.ensures, w.as_slice-then-same_collations.ensures, w.as_slice-then-same_collations-2.ensures) at w.same_sort_keys.ensures.found s.order (ap (λ q. q.order) e))
      | else-same_collations w ↦ w.value-is ∙ collations
    ] in
    elim c.if-same_sort_keys.branch [
      | then-same_sort_keys w ↦ w.value-is ∙ (rw (c.as_slice-ops.ensures, c.as_slice-nodes.ensures) at w.same_root.ensures.found s.limit (ap (λ q. q.limit) e))
      | else-same_sort_keys w ↦ w.value-is ∙ order
    ]
