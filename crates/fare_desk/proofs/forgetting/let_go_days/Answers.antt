use Rattle.std.proofs.Common.{◌∙◌, arith}
use Rattle.fare_store.specs.Standing.{fault_of}
use Rattle.fare_sessions.proofs.Follow.{clean_back}
use Rattle.fare_desk.proofs.Causes.{counted_ok, counted_passed, counted_then}
use Rattle.fare_desk.proofs.LetGo.{some_asked, some_then, some_once, days_gone}
use Rattle.fare_desk.proofs.Letting.{may_asked}
use Rattle.fare_desk.proofs.forgetting.let_go_days.Goals as goal

pub returns-in_err-held-clause-some : goal.returns-in_err-held-clause-some
returns-in_err-held-clause-some g c = some_asked g.O.Outbox.standing g.L.Ledger.standing c.args.day c.args.owner c.args.device c.args.hub.now c.ask_held_from.new.hub c.ask_held_from.ensures.asks

pub returns-in_err-held-clause-cause : goal.returns-in_err-held-clause-cause
returns-in_err-held-clause-cause g c = λ clean sound m. counted_passed _ _ c.ask_held_from.result c.from_residual.result c.in_err-held.field-0.0 c.in_err-held.was c.from_residual.ensures.1 c.ask_held_from.ensures.cause

pub returns-in_err-let_go_weeks-clause-some : goal.returns-in_err-let_go_weeks-clause-some
returns-in_err-let_go_weeks-clause-some g c = some_then g.O.Outbox.standing g.L.Ledger.standing c.args.day c.args.owner c.args.device c.args.hub.now c.ask_held_from.new.hub c.let_go_weeks.new.hub (some_asked g.O.Outbox.standing g.L.Ledger.standing c.args.day c.args.owner c.args.device c.args.hub.now c.ask_held_from.new.hub c.ask_held_from.ensures.asks) c.let_go_weeks.ensures.some

pub returns-in_err-let_go_weeks-clause-cause : goal.returns-in_err-let_go_weeks-clause-cause
returns-in_err-let_go_weeks-clause-cause g c = λ clean sound m.
    counted_then _ _ _ (fault_of c.from_residual-in_err-let_go_weeks.result) (counted_ok _ _ c.ask_held_from.result c.in_ok-held.held c.in_ok-held.was c.ask_held_from.ensures.cause)
    (counted_passed _ _ c.let_go_weeks.result c.from_residual-in_err-let_go_weeks.result c.in_err-let_go_weeks.field-0.0 c.in_err-let_go_weeks.was c.from_residual-in_err-let_go_weeks.ensures.1 (c.let_go_weeks.ensures.cause clean (c.ask_held_from.ensures.asks.sound sound) (may_asked g.O.Outbox.standing g.L.Ledger.standing c.args.owner c.args.device c.args.hub.now c.ask_held_from.new.hub c.args.day c.ask_held_from.ensures.asks c.in_ok-held.ensures.works sound m)))

pub returns-clause-some : goal.returns-clause-some
returns-clause-some g c =
    some_then g.O.Outbox.standing g.L.Ledger.standing c.args.day c.args.owner c.args.device c.args.hub.now c.let_go_weeks.new.hub c.let_go_once.new.hub
    (some_then g.O.Outbox.standing g.L.Ledger.standing c.args.day c.args.owner c.args.device c.args.hub.now c.ask_held_from.new.hub c.let_go_weeks.new.hub (some_asked g.O.Outbox.standing g.L.Ledger.standing c.args.day c.args.owner c.args.device c.args.hub.now c.ask_held_from.new.hub c.ask_held_from.ensures.asks) c.let_go_weeks.ensures.some)
    (some_once g.O.Outbox.standing g.L.Ledger.standing c.args.day c.args.owner c.args.device c.let_go_weeks.new.hub c.let_go_once.new.hub c.args.day (omega arith) c.let_go_once.ensures.goes c.let_go_once.ensures.left)

pub returns-clause-cause : goal.returns-clause-cause
returns-clause-cause g c = λ clean sound m.
    let held = counted_ok _ _ c.ask_held_from.result c.in_ok-held.held c.in_ok-held.was c.ask_held_from.ensures.cause in
    let sound_held = c.ask_held_from.ensures.asks.sound sound in
    let may_held = may_asked g.O.Outbox.standing g.L.Ledger.standing c.args.owner c.args.device c.args.hub.now c.ask_held_from.new.hub c.args.day c.ask_held_from.ensures.asks c.in_ok-held.ensures.works sound m in
    let before = clean_back g.O.Outbox.standing g.L.Ledger.standing c.let_go_weeks.new.hub c.let_go_once.new.hub c.let_go_once.ensures.goes.follow clean in
    let weeks = counted_ok _ _ c.let_go_weeks.result tt c.in_ok-let_go_weeks.was (c.let_go_weeks.ensures.cause before sound_held may_held) in
    counted_then _ _ _ (fault_of c.let_go_once.result) (weeks ∙ held) (c.let_go_once.ensures.cause clean (c.let_go_weeks.ensures.some.goes.sound sound_held) (c.in_ok-let_go_weeks.ensures.still sound_held may_held))

pub returns-clause-gone : goal.returns-clause-gone
returns-clause-gone g c =
    days_gone g.O.Outbox.standing g.L.Ledger.standing c.args.day c.args.owner c.args.device c.args.hub.now c.let_go_weeks.new.hub c.let_go_once.new.hub
    (some_then g.O.Outbox.standing g.L.Ledger.standing c.args.day c.args.owner c.args.device c.args.hub.now c.ask_held_from.new.hub c.let_go_weeks.new.hub (some_asked g.O.Outbox.standing g.L.Ledger.standing c.args.day c.args.owner c.args.device c.args.hub.now c.ask_held_from.new.hub c.ask_held_from.ensures.asks) c.let_go_weeks.ensures.some)
    c.let_go_once.ensures.goes c.let_go_once.result c.let_go_once.ensures.gone
