use Rattle.std.proofs.Common.{is_some, sym, ◌∙◌, ap}
use Rattle.fare_record.specs.Limits.{IsStationId}
use Rattle.fare_scheme.proofs.Adding.{absent}
use Rattle.fare_scheme.proofs.draft.Draft.registered_station.Goals as goal

pub returns-in_err-id-clause-found : goal.returns-in_err-id-clause-found
returns-in_err-id-clause-found c =
    let none : IsStationId c.args.station → ⊥ = λ valid. (let some = c.in_err-id.ensures.valid.1 valid in cc) in
    ap is_some c.from_residual.ensures ∙ sym (rw (← c.self.view_is) (absent IsStationId c.args.station c.self.inside.stations.entries none c.self.invariant.stations.ids))
