use Rattle.std.proofs.Common.{◌≤◌, ◌==◌, All, List, sym, ap, subst, ◌∙◌, arith}
use Rattle.std.proofs.lemmas.Grind.{common_steps}
use Rattle.std.proofs.lemmas.List.{take_all}
use Rattle.std.proofs.lemmas.List.Elements.{All-filter}
use Rattle.fare_settle.specs.declared.charge.Charge.{Charge}
use Rattle.fare_settle.specs.Settling.{charges_at}
use Rattle.fare_settle.proofs.settling.charges_at.Goals as goal

pub returns-clause-capped : goal.returns-clause-capped
returns-clause-capped c =
    let charges = c.args.charges.now in
    let own = c.loop-charge.invariant ∙ ap (λ (l : List Charge). charges_at l c.args.operator) (take_all c.loop-charge.charge-index charges c.loop-charge-test.false) in
    subst (All (λ (x : Charge). x.amount ≤ 10000000)) (sym own) (All-filter (λ (x : Charge). x.operator == c.args.operator) (λ (x : Charge). x.amount ≤ 10000000) charges c.requires)

pub returns-clause-value : goal.returns-clause-value
returns-clause-value c =
    let charges = c.args.charges.now in
    c.loop-charge.invariant ∙ ap (λ (l : List Charge). charges_at l c.args.operator) (take_all c.loop-charge.charge-index charges c.loop-charge-test.false)

pub loop-charge-preserved : goal.loop-charge-preserved
loop-charge-preserved c = grind (arith, common_steps)
