use Rattle.std.proofs.Common.{◌++◌, ◌∷◌, [], ap, sym, ◌∙◌}
use Rattle.std.specs.Prelude.{slice_get, option_map}
use Rattle.fare_scheme.proofs.Slices.{item_at}
use Rattle.fare_lines.specs.declared.line.SchemeLine.TheVariants as line
use Rattle.fare_setup.proofs.Pushing.{one_line}
use Rattle.fare_setup.proofs.lines.push_operators.Goals as goal

pub loop-operator-preserved : goal.loop-operator-preserved
loop-operator-preserved c =
    let ids = c.operators-operator-items.result.now in
    let k = c.loop-operator.operator-index in
    let operator = c.operator-item.result in
    let at = item_at ids k operator c.loop-operator-test.true c.operator-item.is in
    one_line (λ o. line.Operator o) c.args.lines.now.items c.loop-operator.lines.items c.push.new.self.items c.args.scheme.now.operators k (line.Operator operator)
    (ap (option_map (λ o. line.Operator o)) (sym (ap (λ l. slice_get l k) (sym c.operators-operator-items.ensures.value) ∙ at))) c.loop-operator.invariant
    (c.in_ok-push.ensures.items ∙ ap (λ n. c.loop-operator.lines.items ++ line.Operator n ∷ []) c.get.ensures.value)
