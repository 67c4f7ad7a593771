use Rattle.std.proofs.Common.{◌≡◌, None, ◌∙◌, ◌++◌, refl, sym, ap, subst, true}
use Rattle.std.specs.Prelude.{Result, is_some}
use Rattle.std.proofs.KnownBytes.{Keeps-refl}
use Rattle.fare_event.specs.declared.reply.Reply.TheVariants as reply
use Rattle.fare_lines.specs.Replies.{reply_text}
use Rattle.fare_scheme.specs.Values.{SchemeValue}
use Rattle.fare_scheme.specs.Words.{position_of_device, position_of_owner}
use Rattle.fare_store.specs.declared.fault.Fault.TheVariants as fault
use Rattle.fare_store.specs.declared.fault.Refused.{Refused}
use Rattle.fare_store.specs.Standing.{fault_in}
use Rattle.fare_sessions.specs.declared.retiring.RetiringFault.{RetiringFault}
use Rattle.fare_sessions.specs.Stores.{ComesOf}
use Rattle.fare_sessions.proofs.Follow.{clean_back}
use Rattle.fare_desk.specs.Causes.{store_named}
use Rattle.fare_desk.specs.Retiring.{LeavesLane}
use Rattle.fare_desk.specs.declared.fault.DeskFault.TheVariants as desk
use Rattle.fare_desk.proofs.Caused.{retire_counted, retire_refused}
use Rattle.fare_desk.proofs.Causes.{counted_fault, counted_memory, counted_ok, counted_then, counted_write}
use Rattle.fare_desk.proofs.Failing.{ok_of_none, store_kept, write_kept}
use Rattle.fare_desk.proofs.Going.{goes_asks, goes_join}
use Rattle.fare_desk.proofs.Retires.{asked_failed, comes_asked, comes_done, comes_refused, lane_retired, line_lost, refused_named, still_there, store_of_retire, write_of_retire}
use Rattle.fare_desk.proofs.retiring.retire_lane.Goals as goal

pub returns-in_err-retired-clause-goes : goal.returns-in_err-retired-clause-goes
returns-in_err-retired-clause-goes g c = goes_asks g.O.Outbox.standing g.L.Ledger.standing c.args.hub.now c.ask_retired.new.hub c.ask_retired.ensures.asks

pub returns-in_err-retired-clause-cause : goal.returns-in_err-retired-clause-cause
returns-in_err-retired-clause-cause g c = λ clean sound. counted_fault _ _ c.ask_retired.result c.from_residual.result c.in_err-retired.field-0.0 c.in_err-retired.was c.from_residual.ensures.1 c.ask_retired.ensures.cause

pub returns-in_err-retired-clause-failed : goal.returns-in_err-retired-clause-failed
returns-in_err-retired-clause-failed g c = asked_failed g.O.Outbox.standing g.L.Ledger.standing c.args.owner c.args.device c.args.hub.now c.ask_retired.new.hub c.ask_retired.ensures.asks c.in_err-retired.field-0.0 c.from_residual.result c.from_residual.ensures.1

pub returns-in_err-retired-clause-retired : goal.returns-in_err-retired-clause-retired
returns-in_err-retired-clause-retired g c = ok_of_none c.from_residual.result _ _ c.from_residual.ensures.1

pub returns-in_err-retired-clause-named : goal.returns-in_err-retired-clause-named
returns-in_err-retired-clause-named g c = store_of_retire c.from_residual.result c.in_err-retired.field-0.0 c.from_residual.ensures.1

pub returns-in_err-retired-clause-kept : goal.returns-in_err-retired-clause-kept
returns-in_err-retired-clause-kept g c = store_kept c.from_residual.result (g.W.Write.contents c.args.output.now)

pub returns-then-retired-clause-goes : goal.returns-then-retired-clause-goes
returns-then-retired-clause-goes g c = goes_asks g.O.Outbox.standing g.L.Ledger.standing c.args.hub.now c.ask_retired.new.hub c.ask_retired.ensures.asks

pub returns-then-retired-clause-cause : goal.returns-then-retired-clause-cause
returns-then-retired-clause-cause g c = λ clean sound. counted_ok _ _ c.ask_retired.result c.in_ok-retired.retired c.in_ok-retired.was c.ask_retired.ensures.cause

pub returns-then-retired-clause-failed : goal.returns-then-retired-clause-failed
returns-then-retired-clause-failed g c = comes_asked g.O.Outbox.standing g.L.Ledger.standing c.args.hub.now c.ask_retired.new.hub (LeavesLane c.args.owner c.args.device desk.Retired) c.ask_retired.ensures.asks (λ clean sound k may. (c.in_ok-retired.ensures.tells clean sound k may ∙ c.if-retired.true, refl))

pub returns-then-retired-clause-kept : goal.returns-then-retired-clause-kept
returns-then-retired-clause-kept g c = λ _. Keeps-refl (g.W.Write.contents c.args.output.now)

pub returns-in_err-print_reply-clause-goes : goal.returns-in_err-print_reply-clause-goes
returns-in_err-print_reply-clause-goes g c = goes_asks g.O.Outbox.standing g.L.Ledger.standing c.args.hub.now c.ask_retired.new.hub c.ask_retired.ensures.asks

pub returns-in_err-print_reply-clause-cause : goal.returns-in_err-print_reply-clause-cause
returns-in_err-print_reply-clause-cause g c = λ clean sound. counted_memory _ _ c.from_residual-in_err-print_reply.result c.from_residual-in_err-print_reply.ensures.1 (counted_ok _ _ c.ask_retired.result c.in_ok-retired.retired c.in_ok-retired.was c.ask_retired.ensures.cause)

pub returns-in_err-print_reply-clause-failed : goal.returns-in_err-print_reply-clause-failed
returns-in_err-print_reply-clause-failed g c = asked_failed g.O.Outbox.standing g.L.Ledger.standing c.args.owner c.args.device c.args.hub.now c.ask_retired.new.hub c.ask_retired.ensures.asks fault.Memory c.from_residual-in_err-print_reply.result c.from_residual-in_err-print_reply.ensures.1

pub returns-in_err-print_reply-clause-retired : goal.returns-in_err-print_reply-clause-retired
returns-in_err-print_reply-clause-retired g c = ok_of_none c.from_residual-in_err-print_reply.result _ _ c.from_residual-in_err-print_reply.ensures.1

pub returns-in_err-print_reply-clause-named : goal.returns-in_err-print_reply-clause-named
returns-in_err-print_reply-clause-named g c = store_of_retire c.from_residual-in_err-print_reply.result fault.Memory c.from_residual-in_err-print_reply.ensures.1

pub returns-in_err-print_reply-clause-kept : goal.returns-in_err-print_reply-clause-kept
returns-in_err-print_reply-clause-kept g c = store_kept c.from_residual-in_err-print_reply.result (g.W.Write.contents c.args.output.now)

pub returns-in-Ok-clause-goes : goal.returns-in-Ok-clause-goes
returns-in-Ok-clause-goes g c =
    let r = c.retire.ensures in
    goes_join g.O.Outbox.standing g.L.Ledger.standing c.args.hub.now c.ask_retired.new.hub c.retire.new.self (goes_asks g.O.Outbox.standing g.L.Ledger.standing c.args.hub.now c.ask_retired.new.hub c.ask_retired.ensures.asks) (record { scheme = r.scheme; follow = r.follow; sound = r.sound; agrees = r.agrees; stays = r.grows })

pub returns-in-Ok-clause-cause : goal.returns-in-Ok-clause-cause
returns-in-Ok-clause-cause g c =
    let known : is_some (position_of_owner c.args.hub.now.scheme c.args.owner) ≡ true = ap is_some (sym c.owner_position.ensures.value) ∙ c.if-is_none.ensures in
    let h = c.retire.ensures.retires (still_there g.O.Outbox.standing g.L.Ledger.standing c.args.hub.now c.ask_retired.new.hub c.args.owner c.ask_retired.ensures.asks known) in
    λ clean sound. counted_write _ _ c.write_text.result c.write_text.ensures.failed
    (retire_counted g.O.Outbox.standing g.L.Ledger.standing c.ask_retired.new.hub c.retire.new.self c.args.owner c.args.device c.retire.result h None (ap (λ (r : Result Unit (Refused RetiringFault)). fault_in r) c.in-Ok.is)
    ∙ counted_ok _ _ c.ask_retired.result c.in_ok-retired.retired c.in_ok-retired.was c.ask_retired.ensures.cause)

pub returns-in-Ok-clause-retired : goal.returns-in-Ok-clause-retired
returns-in-Ok-clause-retired g c =
    let known : is_some (position_of_owner c.args.hub.now.scheme c.args.owner) ≡ true = ap is_some (sym c.owner_position.ensures.value) ∙ c.if-is_none.ensures in
    let h = c.retire.ensures.retires (still_there g.O.Outbox.standing g.L.Ledger.standing c.args.hub.now c.ask_retired.new.hub c.args.owner c.ask_retired.ensures.asks known) in
    lane_retired g.O.Outbox.standing g.L.Ledger.standing c.args.owner c.args.device c.args.hub.now c.retire.new.self (g.W.Write.contents c.args.output.now) (g.W.Write.contents c.write_text.new.output) c.deref.result.now
    (c.deref.ensures.value ∙ (c.in_ok-print_reply.ensures.appended ∙ ap (λ l. l ++ reply_text (reply.Retired c.args.device)) c.new-text.ensures.items))
    (comes_done g.O.Outbox.standing g.L.Ledger.standing c.args.hub.now c.ask_retired.new.hub c.retire.new.self c.args.owner c.args.device c.retire.result c.ask_retired.ensures.asks c.retire.ensures.follow h (g.met.L.Ledger.sound h.one.own_old) (g.met.L.Ledger.sound h.one.own_new) c.in-Ok.is) c.write_text.result c.write_text.ensures.written

pub returns-in-Ok-clause-failed : goal.returns-in-Ok-clause-failed
returns-in-Ok-clause-failed g c =
    let known : is_some (position_of_owner c.args.hub.now.scheme c.args.owner) ≡ true = ap is_some (sym c.owner_position.ensures.value) ∙ c.if-is_none.ensures in
    let h = c.retire.ensures.retires (still_there g.O.Outbox.standing g.L.Ledger.standing c.args.hub.now c.ask_retired.new.hub c.args.owner c.ask_retired.ensures.asks known) in
    line_lost g.O.Outbox.standing g.L.Ledger.standing c.args.owner c.args.device c.args.hub.now c.retire.new.self (comes_done g.O.Outbox.standing g.L.Ledger.standing c.args.hub.now c.ask_retired.new.hub c.retire.new.self c.args.owner c.args.device c.retire.result c.ask_retired.ensures.asks c.retire.ensures.follow h (g.met.L.Ledger.sound h.one.own_old) (g.met.L.Ledger.sound h.one.own_new) c.in-Ok.is) c.write_text.result c.write_text.ensures.failed

pub returns-in-Ok-clause-named : goal.returns-in-Ok-clause-named
returns-in-Ok-clause-named g c = write_of_retire c.write_text.result c.write_text.ensures.failed

pub returns-in-Ok-clause-kept : goal.returns-in-Ok-clause-kept
returns-in-Ok-clause-kept g c = write_kept c.write_text.result (g.W.Write.contents c.args.output.now) (g.W.Write.contents c.write_text.new.output) c.write_text.ensures.failed

pub returns-clause-goes : goal.returns-clause-goes
returns-clause-goes g c =
    let r = c.retire.ensures in
    goes_join g.O.Outbox.standing g.L.Ledger.standing c.args.hub.now c.ask_retired.new.hub c.retire.new.self (goes_asks g.O.Outbox.standing g.L.Ledger.standing c.args.hub.now c.ask_retired.new.hub c.ask_retired.ensures.asks) (record { scheme = r.scheme; follow = r.follow; sound = r.sound; agrees = r.agrees; stays = r.grows })

pub returns-clause-cause : goal.returns-clause-cause
returns-clause-cause g c =
    let known : is_some (position_of_owner c.args.hub.now.scheme c.args.owner) ≡ true = ap is_some (sym c.owner_position.ensures.value) ∙ c.if-is_none.ensures in
    let h = c.retire.ensures.retires (still_there g.O.Outbox.standing g.L.Ledger.standing c.args.hub.now c.ask_retired.new.hub c.args.owner c.ask_retired.ensures.asks known) in
    λ clean sound.
    let before = clean_back g.O.Outbox.standing g.L.Ledger.standing c.ask_retired.new.hub c.retire.new.self c.retire.ensures.follow clean in
    let there : is_some (position_of_device c.ask_retired.new.hub.scheme c.args.device) ≡ true = ap (λ (sc : SchemeValue). is_some (position_of_device sc c.args.device)) c.ask_retired.ensures.asks.scheme ∙ (ap is_some (sym c.device_position.ensures.value) ∙ c.if-is_none-2.ensures) in
    counted_then _ _ _ (store_named c.from.result) (counted_ok _ _ c.ask_retired.result c.in_ok-retired.retired c.in_ok-retired.was c.ask_retired.ensures.cause)
    (retire_refused g.O.Outbox.standing g.L.Ledger.standing c.ask_retired.new.hub c.retire.new.self c.args.owner c.args.device c.retire.result h c.in_ok-retired.ensures.works before (c.ask_retired.ensures.asks.sound sound) there c.in-Err.refused c.from.result c.in-Err.is c.from.ensures)

pub returns-clause-failed : goal.returns-clause-failed
returns-clause-failed g c =
    let known : is_some (position_of_owner c.args.hub.now.scheme c.args.owner) ≡ true = ap is_some (sym c.owner_position.ensures.value) ∙ c.if-is_none.ensures in
    let h = c.retire.ensures.retires (still_there g.O.Outbox.standing g.L.Ledger.standing c.args.hub.now c.ask_retired.new.hub c.args.owner c.ask_retired.ensures.asks known) in
    subst (λ x. ComesOf g.O.Outbox.standing g.L.Ledger.standing c.args.hub.now c.retire.new.self (LeavesLane c.args.owner c.args.device x)) (sym c.from.ensures)
    (comes_refused g.O.Outbox.standing g.L.Ledger.standing c.args.hub.now c.ask_retired.new.hub c.retire.new.self c.args.owner c.args.device c.retire.result c.ask_retired.ensures.asks c.retire.ensures.follow h (g.met.L.Ledger.sound h.one.own_old) (g.met.L.Ledger.sound h.one.own_new) c.in-Err.refused c.in-Err.is)

pub returns-clause-named : goal.returns-clause-named
returns-clause-named g c = refused_named c.from.result c.in-Err.refused c.from.ensures

pub returns-clause-kept : goal.returns-clause-kept
returns-clause-kept g c = λ _. Keeps-refl (g.W.Write.contents c.args.output.now)
