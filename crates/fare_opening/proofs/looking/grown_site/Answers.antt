use Rattle.std.proofs.Common.{refl}
use Rattle.std.proofs.lemmas.Result.{IfOk-weaker}
use Rattle.fare_layout.specs.Growing.{GrowsBy}
use Rattle.fare_layout.proofs.Again.{same_grown}
use Rattle.fare_layout.proofs.Creation.{some_is}
use Rattle.fare_opening.proofs.looking.grown_site.Goals as goal

pub returns-in-Some-clause-lacks : goal.returns-in-Some-clause-lacks
returns-in-Some-clause-lacks g c =
    let here = some_is c.in_ok-grown.field-0 c.in-Some.grown (GrowsBy c.args.schema.now _) c.in-Some.is c.in_ok-grown.ensures.grows in
    IfOk-weaker c.site_in.result _ _ (λ found lacks none can w site grows. lacks none w site (same_grown _ c.args.schema.now c.args.schema.now c.in-Some.grown w.schema refl here grows)) c.site_in.ensures.lacks
