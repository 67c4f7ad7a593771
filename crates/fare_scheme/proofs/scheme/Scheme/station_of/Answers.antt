use Rattle.std.proofs.Common.{◌≡◌, ℕ, Option, rules, sym, subst}
use Rattle.std.specs.Prelude.{◌↔◌, IfSome, IsSome}
use Rattle.fare_scheme.specs.declared.entry.Placement.{Placement}
use Rattle.fare_scheme.specs.Facts.{IsScheme}
use Rattle.fare_scheme.specs.Words.{station_of, position_of_device, position_of_station}
use Rattle.fare_scheme.proofs.Known.{part_found, station_is_known}
use Rattle.fare_scheme.proofs.scheme.Scheme.station_of.Goals as goal

pub returns-clause-found : goal.returns-clause-found
returns-clause-found c =
    let value : c.map.result ≡ station_of c.args.self.now c.args.device = search rules in
    subst (λ (r : Option ℕ). IsSome r ↔ IsSome (position_of_device c.args.self.now c.args.device)) (sym value) (part_found (λ (d : Placement). d.station) c.args.self.now.devices c.args.device)

pub returns-clause-known : goal.returns-clause-known
returns-clause-known c =
    let value : c.map.result ≡ station_of c.args.self.now c.args.device = search rules in
    let is : IsScheme c.args.self.now = search rules in
    subst (λ (r : Option ℕ). IfSome r (λ station. IsSome (position_of_station c.args.self.now station))) (sym value) (station_is_known c.args.self.now is c.args.device)
