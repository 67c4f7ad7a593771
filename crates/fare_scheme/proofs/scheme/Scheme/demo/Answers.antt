use Rattle.std.proofs.Common.{◌≡◌, true, false, sym, ◌∙◌, ap, subst}
use Rattle.fare_day.specs.Clock.{HasRule}
use Rattle.fare_day.specs.declared.zone.Zone.{Zone}
use Rattle.fare_scheme.specs.Values.{SchemeValue}
use Rattle.fare_scheme.specs.Demo.{demo_rule, demo_scheme}
use Rattle.fare_scheme.proofs.Demonstrating.{sealable, zone_of, same_zone, same_scheme}
use Rattle.fare_scheme.proofs.scheme.Scheme.demo.Goals as goal

pub unreachable-requires : goal.unreachable-requires
unreachable-requires c =
    let sealed : false ≡ true = c.in_default-seal.ensures.ok.1 (sealable c.args.size c.in-Ok.draft c.args.buffer c.args.inbox_capacity c.args.lane_capacity c.london-zone.result c.in-Ok.ensures.draft) in
    cc

pub returns-clause-scheme : goal.returns-clause-scheme
returns-clause-scheme c =
    let here = demo_scheme c.args.size c.args.buffer c.args.inbox_capacity c.args.lane_capacity c.london-zone.result in
    let sealed = same_scheme c.in-Ok.draft c.in-Ok-seal.scheme here c.in-Ok-seal.ensures.sealed c.in-Ok.ensures.draft in
    sealed
    ∙ ap (λ (zone : Zone). demo_scheme c.args.size c.args.buffer c.args.inbox_capacity c.args.lane_capacity zone)
    (zone_of c.args.size c.args.buffer c.args.inbox_capacity c.args.lane_capacity c.london-zone.result ∙ sym (ap (λ (s : SchemeValue). s.zone) sealed))

pub returns-clause-zone : goal.returns-clause-zone
returns-clause-zone c =
    let here = demo_scheme c.args.size c.args.buffer c.args.inbox_capacity c.args.lane_capacity c.london-zone.result in
    let same = same_zone c.in-Ok.draft c.in-Ok-seal.scheme here c.in-Ok-seal.ensures.sealed c.in-Ok.ensures.draft in
    subst (λ (zone : Zone). HasRule zone demo_rule) (sym (same ∙ sym (zone_of c.args.size c.args.buffer c.args.inbox_capacity c.args.lane_capacity c.london-zone.result))) c.london-zone.ensures
