use Rattle.std.proofs.Common.{◌≡◌, ◌<◌, [], ◌∷◌, ◌++◌, length, nat_eq, arith, refl, rules}
use Rattle.std.proofs.lemmas.Cmp.{nat_eq_equiv}
use Rattle.std.proofs.lemmas.Map.Keys.{IsDistinct-push}
use Rattle.std.specs.List.{IsDistinct}
use Rattle.fare_record.specs.Limits.{IsOperatorId}
use Rattle.fare_scheme.specs.contracts.draft.Draft.{the_view}
use Rattle.fare_scheme.proofs.Adding.{with_operator-IsDraft}
use Rattle.fare_scheme.proofs.draft.Draft.add_operator.Goals as goal

ids : (c : goal.In-Ok) → c.push.new.self.items ≡ c.self.inside.operators.items ++ c.args.operator ∷ []
ids c = search rules

distinct : (c : goal.In-Ok) → IsDistinct nat_eq (c.self.inside.operators.items ++ c.args.operator ∷ [])
distinct c = IsDistinct-push nat_eq_equiv c.self.inside.operators.items c.args.operator c.self.invariant.operators.distinct (search rules)

pub invariant_of-self-2 : goal.invariant_of-self-2
invariant_of-self-2 c =
    let id : IsOperatorId c.args.operator = c.in-Some.ensures.valid.0 refl in
    let below : length c.self.inside.operators.items < 16 = omega (arith, c.len.ensures, c.if-len-ge-MOST_OPERATORS.false) in
    rw (ids c) (with_operator-IsDraft (the_view c.self.inside) c.args.operator c.self.invariant id below (distinct c))
