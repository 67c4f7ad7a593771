use Rattle.std.proofs.Common.{◌≡◌, ℕ, Option, rules, sym, subst}
use Rattle.std.specs.Prelude.{◌↔◌, IfSome, IsSome}
use Rattle.fare_scheme.specs.declared.entry.Product.{Product}
use Rattle.fare_scheme.specs.Facts.{IsScheme}
use Rattle.fare_scheme.specs.Words.{owner_of, position_of_product, position_of_owner}
use Rattle.fare_scheme.proofs.Known.{part_found, owner_is_known}
use Rattle.fare_scheme.proofs.scheme.Scheme.owner_of.Goals as goal

pub returns-clause-found : goal.returns-clause-found
returns-clause-found c =
    let value : c.map.result ≡ owner_of c.args.self.now c.args.product = search rules in
    subst (λ (r : Option ℕ). IsSome r ↔ IsSome (position_of_product c.args.self.now c.args.product)) (sym value) (part_found (λ (p : Product). p.owner) c.args.self.now.products c.args.product)

pub returns-clause-known : goal.returns-clause-known
returns-clause-known c =
    let value : c.map.result ≡ owner_of c.args.self.now c.args.product = search rules in
    let is : IsScheme c.args.self.now = search rules in
    subst (λ (r : Option ℕ). IfSome r (λ owner. IsSome (position_of_owner c.args.self.now owner))) (sym value) (owner_is_known c.args.self.now is c.args.product)
