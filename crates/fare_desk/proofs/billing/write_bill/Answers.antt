use Rattle.std.proofs.Common.{◌≡◌, refl, sym, subst}
use Rattle.std.specs.Prelude.{is_some}
use Rattle.fare_cap.specs.Bills.{bill_of}
use Rattle.fare_side.specs.declared.bill_fault.BillFault.TheVariants as bill
use Rattle.fare_sessions.specs.declared.billing.BillingFault.TheVariants as billing
use Rattle.fare_sessions.specs.Billing.{IsBillRefusal}
use Rattle.fare_desk.specs.Faults.{is_refusal, name_of, of_bill}
use Rattle.fare_desk.proofs.Causes.{billed_ok, counted_basis, counted_bill, counted_reply, named_at_once, not_at_once}
use Rattle.fare_desk.proofs.Failing.{err_is, ok_of_none, refused_is, reply_named, reply_refused, store_kept}
use Rattle.fare_desk.proofs.Written.{bill_named, bill_written, fault_refused, made_of}
use Rattle.fare_desk.proofs.billing.write_bill.Goals as goal

pub returns-in_err-bill-clause-reads : goal.returns-in_err-bill-clause-reads
returns-in_err-bill-clause-reads g c = c.bill.ensures.reads

pub returns-in_err-bill-clause-written : goal.returns-in_err-bill-clause-written
returns-in_err-bill-clause-written g c = ok_of_none c.from_residual.result _ _ c.from_residual.ensures.1

pub returns-in_err-bill-clause-cause : goal.returns-in_err-bill-clause-cause
returns-in_err-bill-clause-cause g c =
    let said = c.bill.ensures in
    counted_bill _ _ c.bill.result c.from_residual.result c.in_err-bill.field-0.0 c.in_err-bill.was c.from_residual.ensures.1
    (counted_basis g.O.Outbox.standing g.L.Ledger.standing c.args.hub.now c.bill.new.self c.args.owner c.args.day c.bill.result said.reads.outbox_same said.unknown said.early said.cause)

pub returns-in_err-bill-clause-unknown : goal.returns-in_err-bill-clause-unknown
returns-in_err-bill-clause-unknown g c = λ none.
    let at_once = c.bill.ensures.unknown none in
    (at_once.0, named_at_once c.bill.result c.from_residual.result c.in_err-bill.field-0.0 (billing.Unbilled bill.UnknownOwner) c.in_err-bill.was c.from_residual.ensures.1 at_once.1)

pub returns-in_err-bill-clause-early : goal.returns-in_err-bill-clause-early
returns-in_err-bill-clause-early g c = λ known before.
    let at_once = c.bill.ensures.early known before in
    (at_once.0, named_at_once c.bill.result c.from_residual.result c.in_err-bill.field-0.0 (billing.Unbilled bill.BeforeStart) c.in_err-bill.was c.from_residual.ensures.1 at_once.1)

pub returns-in_err-bill-clause-refused : goal.returns-in_err-bill-clause-refused
returns-in_err-bill-clause-refused g c = λ clean sound.
    let why = c.in_err-bill.field-0.0 in
    let P = IsBillRefusal g.O.Outbox.standing g.L.Ledger.standing c.args.hub.now c.args.owner c.args.day in
    subst P (sym (refused_is c.from_residual.result (of_bill why) c.from_residual.ensures.1)) (fault_refused _ c.bill.result P why (of_bill why) refl (c.in_err-bill.ensures.refused clean sound))

pub returns-in_err-bill-clause-named : goal.returns-in_err-bill-clause-named
returns-in_err-bill-clause-named g c =
    let why = c.in_err-bill.field-0.0 in
    err_is c.from_residual.result (of_bill why) (λ q. is_refusal q ≡ is_some (name_of q)) c.from_residual.ensures.1 (bill_named (of_bill why) why refl)

pub returns-in_err-bill-clause-kept : goal.returns-in_err-bill-clause-kept
returns-in_err-bill-clause-kept g c = store_kept c.from_residual.result (g.W.Write.contents c.args.output.now)

pub returns-clause-reads : goal.returns-clause-reads
returns-clause-reads g c = c.bill.ensures.reads

pub returns-clause-written : goal.returns-clause-written
returns-clause-written g c =
    let told = c.in_ok-bill.ensures in
    let made = made_of g.O.Outbox.standing g.L.Ledger.standing c.args.hub.now c.bill.new.self c.args.owner c.args.day c.new.result bill_of c.in_ok-bill.bill c.in_ok-bill.short.items c.new.ensures told.closed told.held told.short told.taken told.value in
    bill_written g.O.Outbox.standing g.L.Ledger.standing c.args.hub.now c.bill.new.self c.args.owner c.args.day c.new.result (g.W.Write.contents c.args.output.now) (g.W.Write.contents c.write_reply.new.output) _ c.in_ok-bill.bill refl made c.write_reply.result c.write_reply.ensures.written

pub returns-clause-cause : goal.returns-clause-cause
returns-clause-cause g c =
    let said = c.bill.ensures in
    counted_reply _ _ c.write_reply.result c.write_reply.ensures.failed (billed_ok _ _ c.bill.result _ c.in_ok-bill.was
    (counted_basis g.O.Outbox.standing g.L.Ledger.standing c.args.hub.now c.bill.new.self c.args.owner c.args.day c.bill.result said.reads.outbox_same said.unknown said.early said.cause))

pub returns-clause-unknown : goal.returns-clause-unknown
returns-clause-unknown g c = λ none. absurd (not_at_once c.bill.result _ (billing.Unbilled bill.UnknownOwner) c.in_ok-bill.was (c.bill.ensures.unknown none).1)

pub returns-clause-early : goal.returns-clause-early
returns-clause-early g c = λ known before. absurd (not_at_once c.bill.result _ (billing.Unbilled bill.BeforeStart) c.in_ok-bill.was (c.bill.ensures.early known before).1)

pub returns-clause-refused : goal.returns-clause-refused
returns-clause-refused g c = λ clean sound. subst (IsBillRefusal g.O.Outbox.standing g.L.Ledger.standing c.args.hub.now c.args.owner c.args.day) (sym (reply_refused c.write_reply.result c.write_reply.ensures.failed)) (c.in_ok-bill.ensures.refused clean sound)

pub returns-clause-named : goal.returns-clause-named
returns-clause-named g c = reply_named c.write_reply.result c.write_reply.ensures.failed

pub returns-clause-kept : goal.returns-clause-kept
returns-clause-kept g c = c.write_reply.ensures.kept
