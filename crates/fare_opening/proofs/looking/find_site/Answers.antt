use Rattle.std.proofs.Common.{◌≡◌, sym, subst}
use Rattle.fare_layout.specs.Growing.{GrowsBy}
use Rattle.fare_layout.specs.Layouts.{Fits}
use Rattle.fare_layout.proofs.Creation.{some_is}
use Rattle.fare_opening.proofs.Standing.{none_stands}
use Rattle.fare_opening.proofs.Vacant.{own_grown}
use Rattle.fare_opening.proofs.looking.find_site.Goals as goal

pub returns-in_ok-site_at-in-Some-2-clause-found : goal.returns-in_ok-site_at-in-Some-2-clause-found
returns-in_ok-site_at-in-Some-2-clause-found c p design tables texts =
    let grows = some_is c.in_ok-own.field-0 c.in-Some.own (GrowsBy c.new.result _) c.in-Some.is c.in_ok-own.ensures.grows in
    let own : c.in-Some.own ≡ p.own = own_grown p c.new.result c.in-Some.own design c.new.ensures (subst (λ t. GrowsBy c.new.result t c.in-Some.own) tables grows) in
    let fits = some_is c.in_ok-places.field-0 c.in-Some-2.places (Fits c.in-Some.own _ c.args.schema.now) c.in-Some-2.is c.in_ok-places.ensures.found in
    let here = subst (λ s. Fits s p.texts c.args.schema.now c.in-Some-2.places) own (subst (λ t. Fits c.in-Some.own t c.args.schema.now c.in-Some-2.places) texts fits) in (
      subst (Fits p.own p.texts c.in_ok-site_at-in-Some-2.field-0.schema) (sym c.in_ok-site_at-in-Some-2.ensures.places) (subst (λ s. Fits p.own p.texts s c.in-Some-2.places) (sym c.in_ok-site_at-in-Some-2.ensures.schema) here),
      sym c.in_ok-site_at-in-Some-2.ensures.schema,
    )

pub returns-in-None-clause-lacks : goal.returns-in-None-clause-lacks
returns-in-None-clause-lacks c none p design tables texts w site is =
    let grows = some_is c.in_ok-own.field-0 c.in-Some.own (GrowsBy c.new.result _) c.in-Some.is c.in_ok-own.ensures.grows in
    let own : c.in-Some.own ≡ p.own = own_grown p c.new.result c.in-Some.own design c.new.ensures (subst (λ t. GrowsBy c.new.result t c.in-Some.own) tables grows) in
    none_stands p w c.in-Some.own c.args.schema.now _ c.in_ok-places.field-0 design site own texts is c.in_ok-places.ensures.lacks c.in-None.is
