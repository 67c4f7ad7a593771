use Rattle.std.proofs.Common.{◌≡◌, ℕ, Option, rules, sym, subst}
use Rattle.std.specs.Prelude.{◌↔◌, IfSome, IsSome}
use Rattle.fare_scheme.specs.declared.entry.Placement.{Placement}
use Rattle.fare_scheme.specs.Facts.{IsScheme}
use Rattle.fare_scheme.specs.Words.{buffer_of, position_of_device}
use Rattle.fare_scheme.proofs.Known.{part_found, buffer_is_valid}
use Rattle.fare_scheme.specs.Ranges.{IsBuffer}
use Rattle.fare_scheme.proofs.scheme.Scheme.buffer_of.Goals as goal

pub returns-clause-found : goal.returns-clause-found
returns-clause-found c =
    let value : c.map.result ≡ buffer_of c.args.self.now c.args.device = search rules in
    subst (λ (r : Option ℕ). IsSome r ↔ IsSome (position_of_device c.args.self.now c.args.device)) (sym value) (part_found (λ (d : Placement). d.buffer) c.args.self.now.devices c.args.device)

pub returns-clause-valid : goal.returns-clause-valid
returns-clause-valid c =
    let value : c.map.result ≡ buffer_of c.args.self.now c.args.device = search rules in
    let is : IsScheme c.args.self.now = search rules in
    subst (λ (r : Option ℕ). IfSome r IsBuffer) (sym value) (buffer_is_valid c.args.self.now is c.args.device)
