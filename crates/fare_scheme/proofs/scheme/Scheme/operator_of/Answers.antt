use Rattle.std.proofs.Common.{◌≡◌, ℕ, Option, rules, sym, subst}
use Rattle.std.specs.Prelude.{◌↔◌, IfSome, IsSome}
use Rattle.fare_scheme.specs.Facts.{IsScheme}
use Rattle.fare_scheme.specs.Words.{operator_of, position_of_device, position_of_operator}
use Rattle.fare_scheme.proofs.Known.{operator_found, operator_is_known}
use Rattle.fare_scheme.proofs.scheme.Scheme.operator_of.Goals as goal

pub returns-clause-found : goal.returns-clause-found
returns-clause-found c =
    let value : c.copied.result ≡ operator_of c.args.self.now c.args.device = search rules in
    let is : IsScheme c.args.self.now = search rules in
    subst (λ (r : Option ℕ). IsSome r ↔ IsSome (position_of_device c.args.self.now c.args.device)) (sym value) (operator_found c.args.self.now is c.args.device)

pub returns-clause-known : goal.returns-clause-known
returns-clause-known c =
    let value : c.copied.result ≡ operator_of c.args.self.now c.args.device = search rules in
    let is : IsScheme c.args.self.now = search rules in
    subst (λ (r : Option ℕ). IfSome r (λ operator. IsSome (position_of_operator c.args.self.now operator))) (sym value) (operator_is_known c.args.self.now is c.args.device)
