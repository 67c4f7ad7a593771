use Rattle.std.proofs.Common.{None, Some, sym, ap, ◌∙◌}
use Rattle.std.specs.Prelude.{Result, Ok, Err}
use Rattle.fare_store.specs.declared.fault.Refused.{Refused}
use Rattle.fare_store.specs.declared.fault.Refused.TheVariants.{Because}
use Rattle.fare_store.specs.Standing.{fault_in}
use Rattle.fare_sessions.specs.declared.closing.ClosingFault.{ClosingFault}
use Rattle.fare_desk.proofs.Caused.{close_counted}
use Rattle.fare_desk.proofs.Tried.{answered, was_ok, was_refused}
use Rattle.fare_desk.proofs.closing.try_close.Goals as goal

pub returns-in-Ok-clause-cause : goal.returns-in-Ok-clause-cause
returns-in-Ok-clause-cause g c =
    close_counted g.O.Outbox.standing g.L.Ledger.standing c.args.hub.now c.close.new.self c.args.owner c.args.device c.args.day c.close.result None (c.close.ensures.closes c.requires.known) (ap (λ (r : Result Unit (Refused ClosingFault)). fault_in r) c.in-Ok.is)

pub returns-in-Ok-clause-answered : goal.returns-in-Ok-clause-answered
returns-in-Ok-clause-answered g c =
    let h = c.close.ensures.closes c.requires.known in
    answered g.O.Outbox.standing g.L.Ledger.standing c.args.hub.now c.close.new.self c.args.owner c.args.device c.args.day c.close.result h (g.met.L.Ledger.sound h.one.own_new) (Ok tt) (was_ok h.did.answer (sym c.in-Ok.is ∙ h.did.told))

pub returns-in-Err-Because-Ledger-clause-cause : goal.returns-in-Err-Because-Ledger-clause-cause
returns-in-Err-Because-Ledger-clause-cause g c =
    close_counted g.O.Outbox.standing g.L.Ledger.standing c.args.hub.now c.close.new.self c.args.owner c.args.device c.args.day c.close.result None (c.close.ensures.closes c.requires.known)
    (ap (λ (r : Result Unit (Refused ClosingFault)). fault_in r) (c.in-Err-Because-Ledger.is ∙ ap Err c.in-Err-Because-Ledger.field-0-is))

pub returns-in-Err-Because-Ledger-clause-answered : goal.returns-in-Err-Because-Ledger-clause-answered
returns-in-Err-Because-Ledger-clause-answered g c =
    let h = c.close.ensures.closes c.requires.known in
    let why = c.in-Err-Because-Ledger.why in
    answered g.O.Outbox.standing g.L.Ledger.standing c.args.hub.now c.close.new.self c.args.owner c.args.device c.args.day c.close.result h (g.met.L.Ledger.sound h.one.own_new) (Err why) (was_refused h.did.answer why (sym (c.in-Err-Because-Ledger.is ∙ (ap Err c.in-Err-Because-Ledger.field-0-is ∙ ap (λ (w : ClosingFault). Err (Because w)) c.in-Err-Because-Ledger.field-0-0-is)) ∙ h.did.told))

pub returns-in-Err-Failed-clause-cause : goal.returns-in-Err-Failed-clause-cause
returns-in-Err-Failed-clause-cause g c =
    close_counted g.O.Outbox.standing g.L.Ledger.standing c.args.hub.now c.close.new.self c.args.owner c.args.device c.args.day c.close.result (Some c.in-Err-Failed.fault) (c.close.ensures.closes c.requires.known)
    (ap (λ (r : Result Unit (Refused ClosingFault)). fault_in r) (c.in-Err-Failed.is ∙ ap Err c.in-Err-Failed.field-0-is))
