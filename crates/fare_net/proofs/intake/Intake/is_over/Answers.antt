use Rattle.std.proofs.Common.{ap, ◌∙◌, arith}
use Rattle.std.proofs.lemmas.Bool.Decides.{nat_tests}
use Rattle.fare_net.specs.IntakeValue.{IntakeValue}
use Rattle.fare_net.proofs.Intakes.{none_left}
use Rattle.fare_net.proofs.intake.Intake.is_over.Goals as goal

pub returns-else-self-len : goal.returns-else-self-len
returns-else-self-len c = record {
  over = (
    λ t. grind (arith, nat_tests, t, c.if-self-len.false),
    λ w.
        let gone = none_left c.self.inside.frames.items c.self.inside.place (ap (λ (v : IntakeValue). v.pending) c.self.view_is ∙ w.pending) in
        absurd (omega (arith, gone, c.if-self-len.false, c.len.ensures, c.self.inside.frames.ok.0)),
  );
}
