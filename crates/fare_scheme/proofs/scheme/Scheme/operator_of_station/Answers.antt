use Rattle.std.proofs.Common.{◌≡◌, ℕ, Option, rules, sym, subst}
use Rattle.std.specs.Prelude.{◌↔◌, IfSome, IsSome}
use Rattle.fare_scheme.specs.Facts.{IsScheme}
use Rattle.fare_scheme.specs.Words.{operator_of_station, position_of_station, position_of_operator}
use Rattle.fare_scheme.proofs.Known.{entry_found, station_operator_is_known}
use Rattle.fare_scheme.proofs.scheme.Scheme.operator_of_station.Goals as goal

pub returns-clause-found : goal.returns-clause-found
returns-clause-found c =
    let value : c.copied.result ≡ operator_of_station c.args.self.now c.args.station = search rules in
    subst (λ (r : Option ℕ). IsSome r ↔ IsSome (position_of_station c.args.self.now c.args.station)) (sym value) (entry_found c.args.self.now.stations c.args.station)

pub returns-clause-known : goal.returns-clause-known
returns-clause-known c =
    let value : c.copied.result ≡ operator_of_station c.args.self.now c.args.station = search rules in
    let is : IsScheme c.args.self.now = search rules in
    subst (λ (r : Option ℕ). IfSome r (λ operator. IsSome (position_of_operator c.args.self.now operator))) (sym value) (station_operator_is_known c.args.self.now is c.args.station)
