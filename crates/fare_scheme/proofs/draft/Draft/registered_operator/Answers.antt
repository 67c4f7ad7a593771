use Rattle.std.proofs.Common.{is_some, sym, ◌∙◌, ap}
use Rattle.fare_record.specs.Limits.{IsOperatorId}
use Rattle.fare_scheme.proofs.Adding.{absent_id}
use Rattle.fare_scheme.proofs.draft.Draft.registered_operator.Goals as goal

pub returns-in_err-id-clause-found : goal.returns-in_err-id-clause-found
returns-in_err-id-clause-found c =
    let none : IsOperatorId c.args.operator → ⊥ = λ valid. (let some = c.in_err-id.ensures.valid.1 valid in cc) in
    ap is_some c.from_residual.ensures ∙ sym (rw (← c.self.view_is) (absent_id IsOperatorId c.args.operator c.self.inside.operators.items none c.self.invariant.operators.ids))
