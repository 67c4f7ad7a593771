use Rattle.std.proofs.Common.{◌≡◌, ◌<◌, [], ◌∷◌, ◌++◌, length, nat_eq, true, sym, ◌∙◌, ap, arith, refl}
use Rattle.std.specs.List.{list_any}
use Rattle.fare_record.specs.Limits.{IsStationId}
use Rattle.fare_scheme.specs.Values.{DraftValue}
use Rattle.fare_scheme.specs.contracts.draft.Draft.{the_view}
use Rattle.fare_scheme.proofs.Adding.{with_station-IsDraft, grown, grown_distinct, there}
use Rattle.fare_scheme.proofs.draft.Draft.add_station.Goals as goal

entries : (c : goal.In-Ok) → c.insert.new.self.entries ≡ c.self.inside.stations.entries ++ (c.args.station, c.args.operator) ∷ []
entries c =
    let free = sym c.contains_key.ensures ∙ c.if-contains_key.false in
    grown c.self.inside.stations c.insert.new.self c.in-Some.id c.in-Some-registered_operator.parent free c.in-Ok.ensures.entries
    ∙ ap (λ id. c.self.inside.stations.entries ++ (id, c.in-Some-registered_operator.parent) ∷ []) c.in-Some.ensures.value
    ∙ ap (λ parent. c.self.inside.stations.entries ++ (c.args.station, parent) ∷ []) c.in-Some-registered_operator.ensures.value

pub invariant_of-self-2 : goal.invariant_of-self-2
invariant_of-self-2 c =
    let is = entries c in
    let id : IsStationId c.args.station = c.in-Some.ensures.valid.0 refl in
    let found : list_any (nat_eq c.args.operator) c.self.inside.operators.items ≡ true = ap (λ (d : DraftValue). list_any (nat_eq c.args.operator) d.operators) c.self.view_is ∙ sym c.in-Some-registered_operator.ensures.found in
    let below : length c.self.inside.stations.entries < 16 = omega (arith, c.len.ensures.len, c.if-len-ge-MOST_STATIONS.false) in
    rw is (with_station-IsDraft (the_view c.self.inside) c.args.station c.args.operator c.self.invariant id (there c.self.inside.operators.items c.args.operator found) below (grown_distinct c.insert.new.self _ is c.insert.ensures.unique))

pub returns-clause-added : goal.returns-clause-added
returns-clause-added c = rw (entries c, ← c.self.view_is)
