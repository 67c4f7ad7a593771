use Rattle.std.proofs.Common.{◌≡◌, [], Some, refl, sym, ap, subst, ◌∙◌}
use Rattle.std.specs.Prelude.{Option}
use Rattle.std.proofs.lemmas.List.{append-nil}
use Rattle.fare_collect.specs.declared.fault.StationFault.{StationFault}
use Rattle.fare_collect.specs.Stations.{held_list, SourceCounted}
use Rattle.fare_collect.proofs.resting.next_frame.Goals as goal

pub returns-in-Some : goal.returns-in-Some
returns-in-Some g c =
    let end = c.args.station.now.end in
    let talk = g.S.Source.talk c.args.station.now.source in
    let frame = c.in-Some.frame in
    let held : end.held ≡ Some frame = sym c.take.ensures.value ∙ c.in-Some.is in (
      record {
        more = [];
        given = sym (append-nil talk.given);
        frame = ap held_list (sym held) ∙ sym (append-nil (held_list end.held));
        held = c.take.ensures.after;
        answered = refl;
        going = λ none f e. (none, refl);
        at_end = λ none e. absurd (cc);
        cause = λ none. subst (λ (k : Option StationFault). SourceCounted talk.failures talk.failures k) (sym none) refl;
        other = λ none e. absurd (cc (sym none ∙ e));
      },
      refl,
    )
