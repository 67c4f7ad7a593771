use Rattle.std.proofs.Common.{◌≡◌, None, sym, ◌∙◌, ap, subst}
use Rattle.std.specs.Prelude.{Vec, Result}
use Rattle.std.specs.Global.{Global}
use Rattle.fare_record.specs.Values.{RecordValue}
use Rattle.fare_sessions.specs.declared.billing.BillingFault.{BillingFault}
use Rattle.fare_side.specs.declared.week_taps.WeekTaps.{WeekTaps}
use Rattle.fare_store.specs.declared.fault.Refused.{Refused}
use Rattle.fare_store.specs.Standing.{fault_in}
use Rattle.fare_sessions.specs.Billing.{HasAsked}
use Rattle.fare_cap.specs.Bills.{bill_of}
use Rattle.fare_sessions.proofs.Billed.{bill_of_lists, fault_kept}
use Rattle.fare_sessions.proofs.hub.Hub.bill.Goals as goal

pub returns-clause-held : goal.returns-clause-held
returns-clause-held g c = λ clean sound h may. (c.in_ok-basis.ensures.basis clean sound h may).held

pub returns-clause-closed : goal.returns-clause-closed
returns-clause-closed g c = λ clean sound h may. (c.in_ok-basis.ensures.basis clean sound h may).closed

pub returns-clause-taken : goal.returns-clause-taken
returns-clause-taken g c =
    let rows = c.in_ok-basis.field-0.taps.items in
    let is : c.in_ok-bill.bill ≡ bill_of c.args.self.now.scheme rows c.args.day = c.in_ok-bill.ensures ∙ (λ i. bill_of (c.basis.ensures.reads.scheme i) (c.deref.ensures.value i) c.args.day) ∙ ap (λ (v : Vec RecordValue Global). bill_of c.args.self.now.scheme v.items c.args.day) c.into_parts-taps.ensures.taps in
    λ clean sound. (rows, λ h may. (c.in_ok-basis.ensures.basis clean sound h may).taps, is)

pub returns-clause-value : goal.returns-clause-value
returns-clause-value g c =
    let rows = c.in_ok-basis.field-0.taps.items in
    let is : c.in_ok-bill.bill ≡ bill_of c.args.self.now.scheme rows c.args.day = c.in_ok-bill.ensures ∙ (λ i. bill_of (c.basis.ensures.reads.scheme i) (c.deref.ensures.value i) c.args.day) ∙ ap (λ (v : Vec RecordValue Global). bill_of c.args.self.now.scheme v.items c.args.day) c.into_parts-taps.ensures.taps in
    λ clean sound lists h all may agrees. is ∙ bill_of_lists c.args.self.now.scheme lists all h agrees c.args.owner c.in_ok-basis.ensures.known c.args.day rows c.in_ok-basis.field-0.short.items (c.in_ok-basis.ensures.basis clean sound h may)

pub returns-clause-cause : goal.returns-clause-cause
returns-clause-cause g c = λ known late. subst (λ (r : Result WeekTaps (Refused BillingFault)). HasAsked g.L.Ledger.standing c.args.self.now c.basis.new.self c.args.owner (fault_in r)) c.in_ok-basis.was (c.basis.ensures.cause known late)

pub returns-in_err-bill-clause-cause : goal.returns-in_err-bill-clause-cause
returns-in_err-bill-clause-cause g c = λ known late.
    let asked : HasAsked g.L.Ledger.standing c.args.self.now c.basis.new.self c.args.owner None = subst (λ (r : Result WeekTaps (Refused BillingFault)). HasAsked g.L.Ledger.standing c.args.self.now c.basis.new.self c.args.owner (fault_in r)) c.in_ok-basis.was (c.basis.ensures.cause known late) in
    subst (λ z. HasAsked g.L.Ledger.standing c.args.self.now c.basis.new.self c.args.owner z) (sym (fault_kept WeekTaps c.from_residual-in_err-bill.result _ c.from_residual-in_err-bill.ensures.1)) (record { one = asked.one; cause = asked.cause })

pub returns-in_err-basis-clause-cause : goal.returns-in_err-basis-clause-cause
returns-in_err-basis-clause-cause g c = λ known late. subst (λ z. HasAsked g.L.Ledger.standing c.args.self.now c.basis.new.self c.args.owner z) (sym (fault_kept WeekTaps c.from_residual.result _ c.from_residual.ensures.1)) (c.in_err-basis.ensures.cause known late)
