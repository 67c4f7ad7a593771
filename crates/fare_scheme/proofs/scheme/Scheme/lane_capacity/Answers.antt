use Rattle.std.proofs.Common.{◌≡◌, ℕ, Option, rules, sym, subst}
use Rattle.std.specs.Prelude.{◌↔◌, IfSome, IsSome}
use Rattle.fare_scheme.specs.Facts.{IsScheme}
use Rattle.fare_scheme.specs.Words.{lane_capacity_of, position_of_owner}
use Rattle.fare_scheme.proofs.Known.{entry_found, lane_is_valid}
use Rattle.fare_scheme.specs.Ranges.{IsCapacity}
use Rattle.fare_scheme.proofs.scheme.Scheme.lane_capacity.Goals as goal

pub returns-clause-found : goal.returns-clause-found
returns-clause-found c =
    let value : c.copied.result ≡ lane_capacity_of c.args.self.now c.args.owner = search rules in
    subst (λ (r : Option ℕ). IsSome r ↔ IsSome (position_of_owner c.args.self.now c.args.owner)) (sym value) (entry_found c.args.self.now.owners c.args.owner)

pub returns-clause-valid : goal.returns-clause-valid
returns-clause-valid c =
    let value : c.copied.result ≡ lane_capacity_of c.args.self.now c.args.owner = search rules in
    let is : IsScheme c.args.self.now = search rules in
    subst (λ (r : Option ℕ). IfSome r IsCapacity) (sym value) (lane_is_valid c.args.self.now is c.args.owner)
