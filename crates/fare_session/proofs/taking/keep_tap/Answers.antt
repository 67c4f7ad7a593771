use Rattle.std.proofs.Common.{◌≡◌, ap, sym, ◌∙◌, subst}
use Rattle.std.specs.Prelude.{Result, Err}
use Rattle.fare_owner.specs.declared.tap.TapFault.{TapFault}
use Rattle.fare_record.specs.declared.item.Item.TheVariants.{Tap}
use Rattle.fare_store.specs.declared.fault.Refused.{Refused}
use Rattle.fare_store.specs.declared.fault.Refused.TheVariants.{Because}
use Rattle.fare_store.specs.Standing.{Writes}
use Rattle.fare_store.specs.LedgerWords.{take_judged, took}
use Rattle.fare_session.specs.declared.fault.SessionFault.TheVariants as session
use Rattle.fare_session.specs.Taking.{IsKept}
use Rattle.fare_session.proofs.Owns.{tap_foreign, tap_refused}
use Rattle.fare_session.proofs.taking.keep_tap.Goals as goal

pub returns-in-Err-Because : goal.returns-in-Err-Because
returns-in-Err-Because g c =
    let a = g.L.Ledger.standing c.args.ledger.now in
    let b = g.L.Ledger.standing c.take.new.self in
    let row = c.args.row.now in
    let why = c.in-Err-Because.field-0-0 in
    let is : c.take.result ≡ Err (Because why) = c.in-Err-Because.is ∙ ap {B = Result Unit (Refused TapFault)} Err c.in-Err-Because.field-0-is in
    tap_refused a b row why (λ other. subst (λ l. IsKept a (g.L.Ledger.standing l) (Tap row) (Err session.Refused)) (sym (c.take.ensures.unasked (c.take.ensures.not_mine.1 other))) (tap_foreign a row other))
    (λ own. subst (λ (r : Result Unit (Refused TapFault)). Writes a b (take_judged a.value row) (took row a.value) r) is (c.take.ensures.does own))
