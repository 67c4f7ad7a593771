use Rattle.std.proofs.Common.{ap, ◌∙◌, ◌++◌, ◌∷◌, [], arith}
use Rattle.std.proofs.lemmas.Grind.{common_steps}
use Rattle.fare_net.specs.NetValue.{NetValue}
use Rattle.fare_net.proofs.Intakes.{front_taken}
use Rattle.fare_net.proofs.source.NetSourceSource.next.Goals as goal

pub returns-in-Some-clause-takes : goal.returns-in-Some-clause-takes
returns-in-Some-clause-takes g c =
    let filled = ap (λ (v : NetValue). v.intake.taken) c.self-2.view_is ∙ c.read_on.ensures.listens.taken in
    (c.in-Some.ensures.1 ∙ ap (λ t. t ++ c.in-Some.frame ∷ []) filled, front_taken _ _ _ c.stage-stage.ensures.holds c.in-Some.ensures)

pub returns-then-self-clause-reads : goal.returns-then-self-clause-reads
returns-then-self-clause-reads g c = grind (arith, common_steps)

pub returns-in-Some-clause-gives : goal.returns-in-Some-clause-gives
returns-in-Some-clause-gives g c = grind (arith, common_steps)
