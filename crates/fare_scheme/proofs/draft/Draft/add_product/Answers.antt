use Rattle.std.proofs.Common.{◌≡◌, ◌<◌, [], ◌∷◌, ◌++◌, length, true, sym, ◌∙◌, ap, arith, refl}
use Rattle.fare_record.specs.Limits.{IsProductId}
use Rattle.fare_scheme.specs.Facts.{IsTariff}
use Rattle.fare_scheme.specs.Registering.{is_registered, uncapped}
use Rattle.fare_scheme.specs.Values.{DraftValue}
use Rattle.fare_scheme.specs.contracts.draft.Draft.{the_view}
use Rattle.fare_scheme.proofs.Adding.{with_product-IsDraft, grown, grown_distinct}
use Rattle.fare_scheme.proofs.draft.Draft.add_product.Goals as goal

entries : (c : goal.In-Ok) → c.insert.new.self.entries ≡ c.self.inside.products.entries ++ (c.args.product, uncapped c.args.owner c.args.fare) ∷ []
entries c =
    let free = sym c.contains_key.ensures ∙ c.if-contains_key.false in
    grown c.self.inside.products c.insert.new.self c.in-Some.id c.uncapped.result free c.in-Ok.ensures.entries
    ∙ ap (λ id. c.self.inside.products.entries ++ (id, c.uncapped.result) ∷ []) c.in-Some.ensures.value
    ∙ ap (λ product. c.self.inside.products.entries ++ (c.args.product, product) ∷ []) (c.uncapped.ensures ∙ ap (λ owner. uncapped owner c.args.fare) c.in-Some-registered_owner.ensures.value)

pub invariant_of-self-2 : goal.invariant_of-self-2
invariant_of-self-2 c =
    let is = entries c in
    let id : IsProductId c.args.product = c.in-Some.ensures.valid.0 refl in
    let found : is_registered c.self.inside.owners.entries c.args.owner ≡ true = ap (λ (d : DraftValue). is_registered d.owners c.args.owner) c.self.view_is ∙ sym c.in-Some-registered_owner.ensures.found in
    let tariff : IsTariff (uncapped c.args.owner c.args.fare).tariff = record { fare = omega arith; daily = omega arith; weekly = omega arith; hop = omega arith } in
    let below : length c.self.inside.products.entries < 256 = omega (arith, c.len.ensures.len, c.if-len-ge-MOST_PRODUCTS.false) in
    rw is (with_product-IsDraft (the_view c.self.inside) c.args.product (uncapped c.args.owner c.args.fare) c.self.invariant id found tariff below (grown_distinct c.insert.new.self _ is c.insert.ensures.unique))

pub returns-clause-added : goal.returns-clause-added
returns-clause-added c = rw (entries c, ← c.self.view_is)
