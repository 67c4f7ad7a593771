use Rattle.std.proofs.Common.{◌≡◌, ◌≤◌, ◌+◌, ◌++◌, ◌∷◌, [], take, sym, ap, subst, ◌∙◌, arith, List}
use Rattle.std.proofs.lemmas.List.{take_more}
use Rattle.fare_settle.specs.declared.charge.Charge.{Charge}
use Rattle.fare_settle.specs.Tallies.{tallied}
use Rattle.fare_settle.proofs.Tallying.{AreTallied, tallied_more}
use Rattle.fare_settle.proofs.tally.Tally.count.Goals as goal

pub add-requires-clause-taps : goal.add-requires-clause-taps
add-requires-clause-taps c = omega (arith, c.loop-charge.invariant.few c.charge-item.result.route)

pub add-requires-clause-amount : goal.add-requires-clause-amount
add-requires-clause-amount c =
    let charge = c.charge-item.result in
    let capped = subst (λ (x : Charge). x.amount ≤ 10000000) (sym c.charge-item.is) (c.requires c.loop-charge.charge-index charge c.loop-charge-test.true) in
    omega (arith, capped, c.loop-charge.invariant.small charge.route)

pub loop-charge-preserved : goal.loop-charge-preserved
loop-charge-preserved c =
    let charges = c.args.charges.now in
    let place = c.loop-charge.charge-index in
    let charge = c.charge-item.result in
    let front = take place charges in
    let capped = subst (λ (x : Charge). x.amount ≤ 10000000) (sym c.charge-item.is) (c.requires place charge c.loop-charge-test.true) in
    let grown : take (place + 1) charges ≡ front ++ charge ∷ [] =
    take_more charges place charge c.loop-charge-test.true ∙ ap (λ (x : Charge). front ++ x ∷ []) (sym c.charge-item.is) in
    subst (λ (l : List Charge). AreTallied (tallied c.add.new.self) l (place + 1)) (sym grown)
    (tallied_more (tallied c.loop-charge.tally) (tallied c.add.new.self) front charge place c.loop-charge.invariant capped c.in_ok-add.ensures)
