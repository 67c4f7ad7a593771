use Rattle.std.proofs.Common.{None, Some, ap, ◌∙◌}
use Rattle.std.specs.Prelude.{Result, Err}
use Rattle.fare_store.specs.declared.fault.Refused.{Refused}
use Rattle.fare_store.specs.Standing.{fault_in}
use Rattle.fare_sessions.specs.declared.forgetting.ForgettingFault.{ForgettingFault}
use Rattle.fare_sessions.proofs.Follow.{clean_back}
use Rattle.fare_desk.proofs.Letting.{forget_counted, forgot_works, never_refused, still_may}
use Rattle.fare_desk.proofs.forgetting.let_go_once.Goals as goal

pub returns-in-Ok-clause-cause : goal.returns-in-Ok-clause-cause
returns-in-Ok-clause-cause g c = λ clean sound m. forget_counted g.O.Outbox.standing g.L.Ledger.standing c.args.owner c.args.device c.args.hub.now c.forget.new.self c.args.day c.forget.result (c.forget.ensures.forgets c.requires.known) None (ap (λ (r : Result Unit (Refused ForgettingFault)). fault_in r) c.in-Ok.is)

pub returns-in-Ok-clause-still : goal.returns-in-Ok-clause-still
returns-in-Ok-clause-still g c = λ sound later m.
    let r = c.forget.ensures in
    still_may g.O.Outbox.standing g.L.Ledger.standing c.args.owner c.args.device c.args.hub.now c.forget.new.self c.args.day later (record { scheme = r.scheme; follow = r.follow; sound = r.sound; agrees = r.agrees; stays = r.lasts }) c.in-Ok.ensures.gone (forgot_works g.O.Outbox.standing g.L.Ledger.standing c.args.owner c.args.device c.args.hub.now c.forget.new.self c.args.day c.forget.result (c.forget.ensures.forgets c.requires.known) c.in-Ok.is) sound m

-- the ledger refuses no days that are over
pub returns-in-Err-Because-clause-cause : goal.returns-in-Err-Because-clause-cause
returns-in-Err-Because-clause-cause g c = λ clean sound m. absurd (never_refused g.O.Outbox.standing g.L.Ledger.standing c.args.owner c.args.device c.args.hub.now c.forget.new.self c.args.day c.forget.result (c.forget.ensures.forgets c.requires.known) g.met.O.Outbox.sound g.met.L.Ledger.sound m (clean_back g.O.Outbox.standing g.L.Ledger.standing c.args.hub.now c.forget.new.self c.forget.ensures.follow clean) clean sound _ (c.in-Err-Because.is ∙ ap Err c.in-Err-Because.field-0-is))

pub returns-in-Err-Failed-clause-cause : goal.returns-in-Err-Failed-clause-cause
returns-in-Err-Failed-clause-cause g c = λ clean sound m. forget_counted g.O.Outbox.standing g.L.Ledger.standing c.args.owner c.args.device c.args.hub.now c.forget.new.self c.args.day c.forget.result (c.forget.ensures.forgets c.requires.known) (Some c.in-Err-Failed.fault) (ap (λ (r : Result Unit (Refused ForgettingFault)). fault_in r) (c.in-Err-Failed.is ∙ ap Err c.in-Err-Failed.field-0-is))
