use Rattle.std.proofs.Common.{◌≡◌, ℕ, ◌<◌, [], ◌∷◌, ◌++◌, length, true, sym, ◌∙◌, ap, arith, rules, refl}
use Rattle.fare_record.specs.Limits.{IsDeviceId}
use Rattle.fare_scheme.specs.declared.entry.Placement.{Placement}
use Rattle.fare_scheme.specs.Ranges.{IsBuffer}
use Rattle.fare_scheme.specs.Registering.{is_registered}
use Rattle.fare_scheme.specs.Values.{DraftValue}
use Rattle.fare_scheme.specs.contracts.draft.Draft.{the_view}
use Rattle.fare_scheme.proofs.Adding.{with_device-IsDraft, grown, grown_distinct}
use Rattle.fare_scheme.proofs.draft.Draft.add_device.Goals as goal

abbrev placed : ℕ → ℕ → Placement
placed station buffer = record { station = station; buffer = buffer }

entries : (c : goal.In-Ok) → c.insert.new.self.entries ≡ c.self.inside.devices.entries ++ (c.args.device, placed c.args.station c.args.buffer) ∷ []
entries c =
    let free = sym c.contains_key.ensures ∙ c.if-contains_key.false in
    let parent = c.in-Some-registered_station.parent in
    grown c.self.inside.devices c.insert.new.self c.in-Some.id (placed parent c.args.buffer) free c.in-Ok.ensures.entries
    ∙ ap (λ id. c.self.inside.devices.entries ++ (id, placed parent c.args.buffer) ∷ []) c.in-Some.ensures.value
    ∙ ap (λ station. c.self.inside.devices.entries ++ (c.args.device, placed station c.args.buffer) ∷ []) c.in-Some-registered_station.ensures.value

pub invariant_of-self-2 : goal.invariant_of-self-2
invariant_of-self-2 c =
    let is = entries c in
    let id : IsDeviceId c.args.device = c.in-Some.ensures.valid.0 refl in
    let found : is_registered c.self.inside.stations.entries c.args.station ≡ true = ap (λ (d : DraftValue). is_registered d.stations c.args.station) c.self.view_is ∙ sym c.in-Some-registered_station.ensures.found in
    let buffer : IsBuffer c.args.buffer = search rules in
    let below : length c.self.inside.devices.entries < 256 = omega (arith, c.len.ensures.len, c.if-len-ge-MOST_DEVICES.false) in
    rw is (with_device-IsDraft (the_view c.self.inside) c.args.device (placed c.args.station c.args.buffer) c.self.invariant id found buffer below (grown_distinct c.insert.new.self _ is c.insert.ensures.unique))

pub returns-clause-added : goal.returns-clause-added
returns-clause-added c = rw (entries c, ← c.self.view_is)
