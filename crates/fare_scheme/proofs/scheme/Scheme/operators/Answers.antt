use Rattle.std.proofs.Common.{sym, ◌∙◌, ap, rules}
use Rattle.std.specs.Prelude.{slice_get}
use Rattle.fare_scheme.specs.Facts.{IsScheme}
use Rattle.fare_scheme.specs.Values.{SchemeValue}
use Rattle.fare_scheme.proofs.Known.{position_of_id}
use Rattle.fare_scheme.proofs.scheme.Scheme.operators.Goals as goal

pub returns-clause-placed : goal.returns-clause-placed
returns-clause-placed c =
    let is : IsScheme c.args.self.now = search rules in
    let all = c.deref.ensures.value ∙ ap (λ (s : SchemeValue). s.operators) c.self.view_is in
    λ place operator at. position_of_id c.args.self.now.operators operator place is.operators.distinct (sym (ap (λ ids. slice_get ids place) all) ∙ at)
