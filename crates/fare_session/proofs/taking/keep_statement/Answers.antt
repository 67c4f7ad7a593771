use Rattle.std.proofs.Common.{◌≡◌, ◌≢◌, ap, sym, ◌∙◌, subst, rules}
use Rattle.std.specs.Prelude.{Result, Err}
use Rattle.fare_owner.specs.declared.statement.StatementFault.{StatementFault}
use Rattle.fare_owner.specs.declared.statement.StatementFault.TheVariants.{Repeated}
use Rattle.fare_record.specs.declared.item.Item.TheVariants.{Stated}
use Rattle.fare_store.specs.declared.fault.Refused.{Refused}
use Rattle.fare_store.specs.declared.fault.Refused.TheVariants.{Because}
use Rattle.fare_store.specs.Standing.{Writes}
use Rattle.fare_store.specs.LedgerWords.{state_judged, with_statement}
use Rattle.fare_session.specs.declared.fault.SessionFault.TheVariants as session
use Rattle.fare_session.specs.Taking.{IsKept}
use Rattle.fare_session.proofs.Owns.{statement_foreign, statement_refused}
use Rattle.fare_session.proofs.taking.keep_statement.Goals as goal

pub returns-in-Err-Because-clause-kept : goal.returns-in-Err-Because-clause-kept
returns-in-Err-Because-clause-kept g c =
    let a = g.L.Ledger.standing c.args.ledger.now in
    let b = g.L.Ledger.standing c.state.new.self in
    let statement = c.args.statement.now in
    let why = c.in-Err-Because.field-0-0 in
    let is : c.state.result ≡ Err (Because why) = c.in-Err-Because.is ∙ ap {B = Result Unit (Refused StatementFault)} Err c.in-Err-Because.field-0-is in
    let other : why ≢ Repeated = search rules in
    statement_refused a b statement why other (λ foreign. subst (λ l. IsKept a (g.L.Ledger.standing l) (Stated statement) (Err session.Refused)) (sym (c.state.ensures.unasked (c.state.ensures.not_mine.1 foreign))) (statement_foreign a statement foreign))
    (λ own. subst (λ (r : Result Unit (Refused StatementFault)). Writes a b (state_judged a.value statement) (with_statement statement a.value) r) is (c.state.ensures.does own))
