use Rattle.std.proofs.Common.{subst, ap, ◌∙◌, arith}
use Rattle.std.proofs.lemmas.Bool.Decides.{nat_tests}
use Rattle.fare_net.specs.IntakeValue.{IntakeValue}
use Rattle.fare_net.specs.Intakes.{Holds}
use Rattle.fare_net.proofs.Intakes.{holds_inside, none_left}
use Rattle.fare_net.proofs.intake.Intake.is_waiting.Goals as goal

pub returns-then-self-len-clause-holds : goal.returns-then-self-len-clause-holds
returns-then-self-len-clause-holds c = subst Holds c.self.view_is (holds_inside c.self.inside c.self.invariant)

pub returns-else-self-len-clause-waiting : goal.returns-else-self-len-clause-waiting
returns-else-self-len-clause-waiting c = (
  λ t. grind (arith, nat_tests, t, c.if-self-len.false),
  λ w.
      let gone = none_left c.self.inside.frames.items c.self.inside.place (ap (λ (v : IntakeValue). v.pending) c.self.view_is ∙ w.pending) in
      absurd (omega (arith, gone, c.if-self-len.false, c.len.ensures, c.self.inside.frames.ok.0)),
)

pub returns-else-self-len-clause-holds : goal.returns-else-self-len-clause-holds
returns-else-self-len-clause-holds c = subst Holds c.self.view_is (holds_inside c.self.inside c.self.invariant)
