use Rattle.std.proofs.Common.{sym, ap, ◌∙◌, ◌++◌, ◌∷◌, [], inl, rules}
use Rattle.fare_frame.specs.declared.frame.Frame.{Frame}
use Rattle.fare_net.specs.NetValue.{NetValue}
use Rattle.fare_net.proofs.Intakes.{front_taken}
use Rattle.fare_net.proofs.Sources.{greeted_is}
use Rattle.fare_net.proofs.source.NetSource.greet.Goals as goal

pub returns-in_default-greeted-clause-fails : goal.returns-in_default-greeted-clause-fails
returns-in_default-greeted-clause-fails g c =
    let filled = ap (λ (v : NetValue). v.intake.taken) c.self-2.view_is ∙ c.fill.ensures.advances.taken in
    inl (c.in-Some.frame, (c.in-Some.ensures.1 ∙ ap (λ t. t ++ c.in-Some.frame ∷ []) filled, front_taken _ _ _ c.stage-stage.ensures.holds c.in-Some.ensures), sym c.in_default-greeted.ensures)

pub returns-then-not-is_spoken-clause-fails : goal.returns-then-not-is_spoken-clause-fails
returns-then-not-is_spoken-clause-fails g c =
    let filled = ap (λ (v : NetValue). v.intake.taken) c.self-2.view_is ∙ c.fill.ensures.advances.taken in
    let same = greeted_is c.in-Some.frame c.in-Some-greeted.hello (sym c.in-Some-greeted.ensures) in
    (c.in-Some-greeted.hello, (c.in-Some.ensures.1 ∙ ap (λ t. t ++ c.in-Some.frame ∷ []) filled ∙ ap (λ (f : Frame). c.args.self.now.intake.taken ++ f ∷ []) same, front_taken _ _ _ c.stage-stage.ensures.holds c.in-Some.ensures), search rules)

pub returns-in_default-station_of-clause-fails : goal.returns-in_default-station_of-clause-fails
returns-in_default-station_of-clause-fails g c =
    let filled = ap (λ (v : NetValue). v.intake.taken) c.self-2.view_is ∙ c.fill.ensures.advances.taken in
    let same = greeted_is c.in-Some.frame c.in-Some-greeted.hello (sym c.in-Some-greeted.ensures) in
    (c.in-Some-greeted.hello, (c.in-Some.ensures.1 ∙ ap (λ t. t ++ c.in-Some.frame ∷ []) filled ∙ ap (λ (f : Frame). c.args.self.now.intake.taken ++ f ∷ []) same, front_taken _ _ _ c.stage-stage.ensures.holds c.in-Some.ensures), search rules, search rules)

pub returns-clause-station : goal.returns-clause-station
returns-clause-station g c =
    let filled = ap (λ (v : NetValue). v.intake.taken) c.self-2.view_is ∙ c.fill.ensures.advances.taken in
    let same = greeted_is c.in-Some.frame c.in-Some-greeted.hello (sym c.in-Some-greeted.ensures) in
    record {
      hello = c.in-Some-greeted.hello;
      finds = (c.in-Some.ensures.1 ∙ ap (λ t. t ++ c.in-Some.frame ∷ []) filled ∙ ap (λ (f : Frame). c.args.self.now.intake.taken ++ f ∷ []) same, front_taken _ _ _ c.stage-stage.ensures.holds c.in-Some.ensures);
      version = search rules;
      is = search rules;
    }
