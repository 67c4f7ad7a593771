use Rattle.std.proofs.Common.{◌≡◌, sym, ◌∙◌, ap, rules}
use Rattle.std.specs.Prelude.{slice_get}
use Rattle.std.specs.Map.{keys_of}
use Rattle.fare_scheme.specs.Facts.{IsScheme}
use Rattle.fare_scheme.proofs.Known.{position_of_id}
use Rattle.fare_scheme.proofs.scheme.Scheme.owners.Goals as goal

pub returns-clause-placed : goal.returns-clause-placed
returns-clause-placed c =
    let is : IsScheme c.args.self.now = search rules in
    let all : c.as_slice.result.now ≡ keys_of c.args.self.now.owners = search rules in
    λ place owner at. position_of_id (keys_of c.args.self.now.owners) owner place is.owners.distinct (sym (ap (λ ids. slice_get ids place) all) ∙ at)
