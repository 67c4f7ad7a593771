use Rattle.std.proofs.Common.{◌≡◌, false, sym, ◌∙◌, ap}
use Rattle.fare_scheme.specs.Sealing.{lacks_a_kind}
use Rattle.fare_scheme.specs.contracts.draft.Draft.{the_view}
use Rattle.fare_scheme.proofs.Adding.{sealed_IsScheme}
use Rattle.fare_scheme.proofs.draft.Draft.seal.Goals as goal

pub invariant_of-result : goal.invariant_of-result
invariant_of-result c =
    let whole : lacks_a_kind (the_view c.self.inside) ≡ false = ap lacks_a_kind c.self.view_is ∙ sym c.lacks_a_kind.ensures ∙ c.if-lacks_a_kind.false in
    sealed_IsScheme (the_view c.self.inside) c.in-Some.start c.in-Some-zone.zone c.self.invariant whole c.in-Some.is
