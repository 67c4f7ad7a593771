use Rattle.std.proofs.Common.{◌∙◌, ap, rules}
use Rattle.std.specs.List.{slice_get}
use Rattle.fare_scheme.specs.Facts.{IsScheme}
use Rattle.fare_scheme.specs.Values.{SchemeValue}
use Rattle.fare_scheme.proofs.Known.{placed_answered, read_at}
use Rattle.fare_scheme.proofs.scheme.Scheme.operator_at.Goals as goal

pub returns-clause-placed : goal.returns-clause-placed
returns-clause-placed c =
    let is : IsScheme c.args.self.now = search rules in
    let held = c.deref.ensures.value ∙ ap (λ (s : SchemeValue). s.operators) c.self.view_is in
    let found = c.copied.ensures ∙ read_at c.deref.result.now c.args.position c.get.result c.get.ensures.lookup.3 c.get.ensures.lookup.1 ∙ ap (λ ids. slice_get ids c.args.position) held in
    placed_answered c.args.self.now.operators c.args.position c.copied.result is.operators.distinct found
