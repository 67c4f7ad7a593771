use Rattle.std.proofs.Common.{◌≡◌, ℕ, List, refl, sym, ap, ◌∙◌}
use Rattle.std.specs.Prelude.{Result, Ok, Err}
use Rattle.fare_store.specs.declared.fault.Refused.{Refused}
use Rattle.fare_store.specs.declared.fault.Refused.TheVariants as refused
use Rattle.fare_event.specs.declared.event.Event.TheVariants as event
use Rattle.fare_event.specs.declared.reply.Reply.TheVariants as reply
use Rattle.fare_settle.specs.Values.{SettledValue}
use Rattle.fare_side.specs.declared.bill_fault.BillFault.{BillFault}
use Rattle.fare_world.specs.Billing.{told, bill_refusal}
use Rattle.fare_world.proofs.Asks.{asks_stepped, asks_failed}
use Rattle.fare_world.proofs.world.World.tell_settlement.Goals as goal

pub returns-in-Ok : goal.returns-in-Ok
returns-in-Ok g c =
    let owner = c.args.owner in
    let day = c.args.day in
    asks_stepped g.O.Outbox.standing g.L.Ledger.standing c.args.self.now c.settlement.new.self _ _ (Ok (c.in-Ok.settlement, c.in-Ok.short)) (event.Settle owner day) (reply.Settlement owner day c.in-Ok.settlement c.new.result) refl c.in-Ok.ensures
    (λ s is.
    ap (λ (r : Result (List SettledValue × List ℕ) BillFault). (s, told (λ v. reply.Settlement owner day v.0 v.1) r)) (sym is)
    ∙ (λ i. (s, reply.Settlement owner day c.in-Ok.settlement (sym c.new.ensures i))))
    (λ s. refl)

pub returns-in-Err-Because : goal.returns-in-Err-Because
returns-in-Err-Because g c =
    let owner = c.args.owner in
    let day = c.args.day in
    let why = c.in-Err-Because.why in
    let is_named : ◌≡◌ {A = Refused BillFault} _ (refused.Because why) = c.in-Err-Because.field-0-is in
    let asked = rw is_named at c.in-Err-Because.ensures in
    asks_stepped g.O.Outbox.standing g.L.Ledger.standing c.args.self.now c.settlement.new.self _ _ (Err (refused.Because why)) (event.Settle owner day) (reply.Refused c.bill_named.result) refl asked
    (λ s is.
    ap (λ (r : Result (List SettledValue × List ℕ) BillFault). (s, told (λ v. reply.Settlement owner day v.0 v.1) r)) (sym is)
    ∙ (λ i. (s, reply.Refused (sym (c.bill_named.ensures ∙ ap bill_refusal c.in-Err-Because.why-is) i))))
    (λ s. refl)

pub returns-in-Err-Failed : goal.returns-in-Err-Failed
returns-in-Err-Failed g c =
    let failed : ◌≡◌ {A = Refused BillFault} _ _ = c.in-Err-Failed.field-0-is ∙ ap refused.Failed (sym c.in-Err-Failed.fault-is) in
    let asked = rw failed at c.in-Err-Failed.ensures in
    asks_failed g.O.Outbox.standing g.L.Ledger.standing c.args.self.now c.settlement.new.self _ _ (event.Settle c.args.owner c.args.day) _ asked (λ s. refl)
