use Rattle.std.proofs.Common.{◌≡◌, true, false, nat_eq, Some, is_some, map, sym, ◌∙◌, ap}
use Rattle.std.specs.Map.{lookup}
use Rattle.fare_scheme.specs.Values.{DraftValue}
use Rattle.fare_scheme.specs.Registering.{is_registered, windowed}
use Rattle.fare_scheme.specs.contracts.draft.Draft.{the_view}
use Rattle.fare_scheme.proofs.Changing.{entry, set_value-changed, with_hop-IsDraft}
use Rattle.fare_scheme.proofs.draft.Draft.set_hop.Goals as goal

-- the product is there, so `get_mut` finds it
pub returns-in_default-get_mut-clause-ok : goal.returns-in_default-get_mut-clause-ok
returns-in_default-get_mut-clause-ok c =
    let there : true ≡ is_registered c.self.inside.products.entries c.args.product = c.in-Some.ensures.found ∙ sym (ap (λ (d : DraftValue). is_registered d.products c.args.product) c.self.view_is) in
    let gone : false ≡ is_registered c.self.inside.products.entries c.args.product = ap is_some c.in_default-get_mut.ensures.value ∙ ap (λ id. is_registered c.self.inside.products.entries id) c.in-Some.ensures.value in
    absurd (let h : true ≡ false = there ∙ sym gone in cc)

entries : (c : goal.After-self-2-1) → (c.get_mut.follows.lender (windowed c.args.seconds c.in-Some-get_mut.product.now)).entries ≡ map (entry c.args.product (windowed c.args.seconds)) c.self.inside.products.entries
entries c =
    let old = c.in-Some-get_mut.product.now in
    let all = c.self.inside.products.entries in
    let found : lookup (nat_eq c.in-Some.id) all ≡ Some old = sym c.in-Some-get_mut.ensures.value in
    (c.get_mut.follows.holds (windowed c.args.seconds old)).0
    ∙ set_value-changed c.in-Some.id (windowed c.args.seconds) all old c.self.invariant.products.distinct found
    ∙ ap (λ id. map (entry id (windowed c.args.seconds)) all) c.in-Some.ensures.value

pub invariant_of-self-2 : goal.invariant_of-self-2
invariant_of-self-2 c =
    rw (entries c) (with_hop-IsDraft c.args.product c.args.seconds (the_view c.self.inside) c.self.invariant c.if-seconds-gt-MOST_HOP.false)

pub returns-clause-set : goal.returns-clause-set
returns-clause-set c = rw (entries c, ← c.self.view_is)
