use Rattle.std.proofs.Common.{rules, ◌≡◌, Option, Some}
use Rattle.fare_growth.specs.declared.entry.Contradiction.{Contradiction}
use Rattle.fare_growth.specs.declared.entry.Contradiction.TheVariants.{Gone}
use Rattle.fare_growth.specs.Growth.{first_contradiction_of}
use Rattle.fare_growth.proofs.Adding.{none_iff_adds}
use Rattle.fare_growth.proofs.growth.first_contradiction.Goals as goal

pub returns-in-Some-clause-none : goal.returns-in-Some-clause-none
returns-in-Some-clause-none c =
    let first : ◌≡◌ {A = Option Contradiction} (Some (Gone c.in-Some.entry)) (first_contradiction_of c.args.kept.now c.args.later.now) = search rules in
    none_iff_adds c.args.kept.now c.args.later.now (Some (Gone c.in-Some.entry)) first

pub returns-in-None-clause-none : goal.returns-in-None-clause-none
returns-in-None-clause-none c =
    let first : c.map.result ≡ first_contradiction_of c.args.kept.now c.args.later.now = search rules in
    none_iff_adds c.args.kept.now c.args.later.now c.map.result first
