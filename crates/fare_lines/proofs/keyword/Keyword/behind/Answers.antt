use Rattle.std.proofs.Common.{◌≡◌, ◌++◌, ◌∙◌, ap, sym, Some}
use Rattle.std.proofs.lemmas.Bool.Decides.{Decides-eqb}
use Rattle.std.proofs.lemmas.Slice.Eq.{strip_prefix_is}
use Rattle.fare_lines.specs.Reading.{BeginsWith, may_follow}
use Rattle.fare_lines.proofs.Cuts.{begins_of_some, begins_of_none}
use Rattle.fare_lines.proofs.Spelling.{keyword_cut}
use Rattle.fare_lines.proofs.keyword.Keyword.behind.Goals.{in_default-via-in-Some+else-not-is_follower, in_default-via-in_default}
use Rattle.fare_lines.proofs.keyword.Keyword.behind.Goals as goal

pub returns-in_default-clause-found : goal.returns-in_default-clause-found
returns-in_default-clause-found c =
    let rest = c.in_ok-rest.rest.now in
    let is : c.args.text.now ≡ c.text.result.now ++ rest = strip_prefix_is Decides-eqb c.args.text.now c.text.result.now (Some c.in_ok-rest.rest) c.in_ok-rest.ensures.cases in
    let begins : BeginsWith may_follow rest = elim c.in_default.branch [
      | in_default-via-in-Some+else-not-is_follower w ↦ begins_of_some may_follow rest w.in-Some.byte.now w.in-Some.ensures.value (sym w.is_follower.ensures ∙ w.if-not-is_follower.false)
      | in_default-via-in_default w ↦ begins_of_none may_follow rest w.in_default.ensures.value
    ] in
    keyword_cut c.args.self c.args.text.now rest (is ∙ ap (λ t. t ++ rest) c.text.ensures) begins
