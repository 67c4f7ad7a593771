use Rattle.std.proofs.Common.{◌≡◌, ◌<◌, [], ◌∷◌, ◌++◌, length, sym, ◌∙◌, ap, arith, rules, refl}
use Rattle.fare_record.specs.Limits.{IsOwnerId}
use Rattle.fare_scheme.specs.Ranges.{IsCapacity}
use Rattle.fare_scheme.specs.contracts.draft.Draft.{the_view}
use Rattle.fare_scheme.proofs.Adding.{with_owner-IsDraft, grown, grown_distinct}
use Rattle.fare_scheme.proofs.draft.Draft.add_owner.Goals as goal

entries : (c : goal.In-Ok) → c.insert.new.self.entries ≡ c.self.inside.owners.entries ++ (c.args.owner, c.args.lane_capacity) ∷ []
entries c =
    let free = sym c.contains_key.ensures ∙ c.if-contains_key.false in
    grown c.self.inside.owners c.insert.new.self c.in-Some.id c.args.lane_capacity free c.in-Ok.ensures.entries
    ∙ ap (λ id. c.self.inside.owners.entries ++ (id, c.args.lane_capacity) ∷ []) c.in-Some.ensures.value

pub invariant_of-self-2 : goal.invariant_of-self-2
invariant_of-self-2 c =
    let is = entries c in
    let id : IsOwnerId c.args.owner = c.in-Some.ensures.valid.0 refl in
    let range : IsCapacity c.args.lane_capacity = c.is_capacity.ensures.0 (search rules) in
    let below : length c.self.inside.owners.entries < 16 = omega (arith, c.len.ensures.len, c.if-len-ge-MOST_OWNERS.false) in
    rw is (with_owner-IsDraft (the_view c.self.inside) c.args.owner c.args.lane_capacity c.self.invariant id range below (grown_distinct c.insert.new.self _ is c.insert.ensures.unique))

pub returns-clause-added : goal.returns-clause-added
returns-clause-added c = rw (entries c, ← c.self.view_is)
