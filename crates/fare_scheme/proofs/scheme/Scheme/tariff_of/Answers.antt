use Rattle.std.proofs.Common.{◌≡◌, Option, rules, sym, subst}
use Rattle.std.specs.Prelude.{◌↔◌, IfSome, IsSome}
use Rattle.fare_scheme.specs.declared.entry.Product.{Product}
use Rattle.fare_scheme.specs.declared.entry.Tariff.{Tariff}
use Rattle.fare_scheme.specs.Facts.{IsScheme, IsTariff}
use Rattle.fare_scheme.specs.Words.{tariff_of, position_of_product}
use Rattle.fare_scheme.proofs.Known.{part_found, tariff_is_valid}
use Rattle.fare_scheme.proofs.scheme.Scheme.tariff_of.Goals as goal

pub returns-clause-found : goal.returns-clause-found
returns-clause-found c =
    let value : c.map.result ≡ tariff_of c.args.self.now c.args.product = search rules in
    subst (λ (r : Option Tariff). IsSome r ↔ IsSome (position_of_product c.args.self.now c.args.product)) (sym value) (part_found (λ (p : Product). p.tariff) c.args.self.now.products c.args.product)

pub returns-clause-valid : goal.returns-clause-valid
returns-clause-valid c =
    let value : c.map.result ≡ tariff_of c.args.self.now c.args.product = search rules in
    let is : IsScheme c.args.self.now = search rules in
    subst (λ (r : Option Tariff). IfSome r IsTariff) (sym value) (tariff_is_valid c.args.self.now is c.args.product)
