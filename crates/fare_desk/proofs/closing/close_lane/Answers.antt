use Rattle.std.proofs.Common.{◌≡◌, ◌+◌, ℕ, suc, Some, true, false, sym, ap, ◌∙◌, subst, arith}
use Rattle.std.specs.Prelude.{Option}
use Rattle.std.proofs.Math.Logic.{∥∥₁_elim}
use Rattle.std.specs.Io.KnownBytes.{Appends}
use Rattle.fare_store.specs.declared.fault.Fault.TheVariants as fault
use Rattle.fare_store.specs.Standing.{fault_of}
use Rattle.fare_sessions.specs.Billing.{IsToClose}
use Rattle.fare_sessions.proofs.Somethings.{hub_holds}
use Rattle.fare_desk.specs.Causes.{store_fault}
use Rattle.fare_desk.specs.Closing.{HasAnswered, IsDayBehind, reply_of, try_line}
use Rattle.fare_desk.proofs.Caused.{asked_counted}
use Rattle.fare_desk.proofs.Causes.{counted_fault, counted_lost, counted_memory, counted_ok, counted_then}
use Rattle.fare_desk.proofs.Failing.{handed_unnamed, ok_of_none, store_unnamed}
use Rattle.fare_desk.proofs.Going.{goes_asks, goes_join}
use Rattle.fare_desk.proofs.Lane.{StandsLane, lane_begins, lane_passed, goes_mid, lane_ends, lane_closed, lane_refused, lane_spent, none_lost}
use Rattle.fare_desk.proofs.Lanes.{still_known, still_ledgers}
use Rattle.fare_desk.proofs.closing.close_lane.Goals as goal

pub loop-init : goal.loop-init
loop-init g c = (lane_begins g.O.Outbox.standing g.L.Ledger.standing c.args.owner c.args.device c.args.hub.now c.ask_retired.new.hub (g.W.Write.contents c.args.output.now) c.ask_retired.ensures.asks (λ clean sound h may. c.in_ok-retired.ensures.tells clean sound h may ∙ c.if-retired.false), counted_ok _ _ c.ask_retired.result c.in_ok-retired.retired c.in_ok-retired.was c.ask_retired.ensures.cause)

pub returns-in_err-retired-clause-goes : goal.returns-in_err-retired-clause-goes
returns-in_err-retired-clause-goes g c = goes_asks g.O.Outbox.standing g.L.Ledger.standing c.args.hub.now c.ask_retired.new.hub c.ask_retired.ensures.asks

pub returns-in_err-retired-clause-cause : goal.returns-in_err-retired-clause-cause
returns-in_err-retired-clause-cause g c = λ clean sound. counted_fault _ _ c.ask_retired.result c.from_residual.result c.in_err-retired.field-0.0 c.in_err-retired.was c.from_residual.ensures.1 c.ask_retired.ensures.cause

pub returns-in_err-retired-clause-closed : goal.returns-in_err-retired-clause-closed
returns-in_err-retired-clause-closed g c = ok_of_none c.from_residual.result _ _ c.from_residual.ensures.1

pub returns-in_err-retired-clause-unnamed : goal.returns-in_err-retired-clause-unnamed
returns-in_err-retired-clause-unnamed g c = store_unnamed c.from_residual.result c.in_err-retired.field-0.0 c.from_residual.ensures.1

pub returns-then-retired-clause-goes : goal.returns-then-retired-clause-goes
returns-then-retired-clause-goes g c = goes_asks g.O.Outbox.standing g.L.Ledger.standing c.args.hub.now c.ask_retired.new.hub c.ask_retired.ensures.asks

pub returns-then-retired-clause-cause : goal.returns-then-retired-clause-cause
returns-then-retired-clause-cause g c = λ clean sound. counted_ok _ _ c.ask_retired.result c.in_ok-retired.retired c.in_ok-retired.was c.ask_retired.ensures.cause

pub returns-then-retired-clause-closed : goal.returns-then-retired-clause-closed
returns-then-retired-clause-closed g c = lane_passed g.O.Outbox.standing g.L.Ledger.standing c.args.owner c.args.device c.args.hub.now c.ask_retired.new.hub (g.W.Write.contents c.args.output.now) c.ask_retired.ensures.asks (λ clean sound h may. c.in_ok-retired.ensures.tells clean sound h may ∙ c.if-retired.true)

pub next_close-requires : goal.next_close-requires
next_close-requires g c = record { ledgers = still_ledgers g.O.Outbox.standing g.L.Ledger.standing c.args.hub.now c.loop.hub c.loop.invariant.0.goes c.requires.ledgers }

pub returns-in_err-day-clause-goes : goal.returns-in_err-day-clause-goes
returns-in_err-day-clause-goes g c = goes_mid g.O.Outbox.standing g.L.Ledger.standing c.args.owner c.args.device c.args.hub.now c.loop.hub c.next_close.new.self (g.W.Write.contents c.args.output.now) (g.W.Write.contents c.loop.output) c.loop.last c.loop.counter c.loop.invariant.0 c.next_close.ensures.reads

pub returns-in_err-day-clause-cause : goal.returns-in_err-day-clause-cause
returns-in_err-day-clause-cause g c =
    let known = still_known g.O.Outbox.standing g.L.Ledger.standing c.args.hub.now c.loop.hub c.args.owner c.loop.invariant.0.goes c.requires.known in
    let asked = asked_counted g.O.Outbox.standing g.L.Ledger.standing c.loop.hub c.next_close.new.self c.args.owner (fault_of c.next_close.result) c.next_close.ensures.reads (c.next_close.ensures.cause known) in
    λ clean sound. counted_then _ _ _ (store_fault c.from_residual-in_err-day.result) c.loop.invariant.1 (counted_fault _ _ c.next_close.result c.from_residual-in_err-day.result c.in_err-day.field-0.0 c.in_err-day.was c.from_residual-in_err-day.ensures.1 asked)

pub returns-in_err-day-clause-closed : goal.returns-in_err-day-clause-closed
returns-in_err-day-clause-closed g c = ok_of_none c.from_residual-in_err-day.result _ _ c.from_residual-in_err-day.ensures.1

pub returns-in_err-day-clause-unnamed : goal.returns-in_err-day-clause-unnamed
returns-in_err-day-clause-unnamed g c = store_unnamed c.from_residual-in_err-day.result c.in_err-day.field-0.0 c.from_residual-in_err-day.ensures.1

pub returns-in_default-clause-goes : goal.returns-in_default-clause-goes
returns-in_default-clause-goes g c = goes_mid g.O.Outbox.standing g.L.Ledger.standing c.args.owner c.args.device c.args.hub.now c.loop.hub c.next_close.new.self (g.W.Write.contents c.args.output.now) (g.W.Write.contents c.loop.output) c.loop.last c.loop.counter c.loop.invariant.0 c.next_close.ensures.reads

pub returns-in_default-clause-cause : goal.returns-in_default-clause-cause
returns-in_default-clause-cause g c =
    let known = still_known g.O.Outbox.standing g.L.Ledger.standing c.args.hub.now c.loop.hub c.args.owner c.loop.invariant.0.goes c.requires.known in
    let asked = asked_counted g.O.Outbox.standing g.L.Ledger.standing c.loop.hub c.next_close.new.self c.args.owner (fault_of c.next_close.result) c.next_close.ensures.reads (c.next_close.ensures.cause known) in
    let mid = counted_ok _ _ c.next_close.result _ c.in_ok-day.was asked ∙ c.loop.invariant.1 in
    λ clean sound. mid

pub returns-in_default-clause-closed : goal.returns-in_default-clause-closed
returns-in_default-clause-closed g c =
    let known = still_known g.O.Outbox.standing g.L.Ledger.standing c.args.hub.now c.loop.hub c.args.owner c.loop.invariant.0.goes c.requires.known in
    lane_ends g.O.Outbox.standing g.L.Ledger.standing c.args.owner c.args.device c.args.hub.now c.loop.hub c.next_close.new.self (g.W.Write.contents c.args.output.now) (g.W.Write.contents c.loop.output) c.loop.last c.loop.counter c.loop.invariant.0 c.next_close.ensures.reads
    (λ clean sound h may. subst (λ (o : Option ℕ). IsToClose (h.ledgers c.args.owner) c.args.device o) c.in_default.is ((c.in_ok-day.ensures.answer clean sound known h may).1))

pub returns-then-not-is_behind-clause-goes : goal.returns-then-not-is_behind-clause-goes
returns-then-not-is_behind-clause-goes g c = goes_mid g.O.Outbox.standing g.L.Ledger.standing c.args.owner c.args.device c.args.hub.now c.loop.hub c.next_close.new.self (g.W.Write.contents c.args.output.now) (g.W.Write.contents c.loop.output) c.loop.last c.loop.counter c.loop.invariant.0 c.next_close.ensures.reads

-- no close was lost
pub returns-then-not-is_behind-clause-cause : goal.returns-then-not-is_behind-clause-cause
returns-then-not-is_behind-clause-cause g c = λ clean sound.
    let known = still_known g.O.Outbox.standing g.L.Ledger.standing c.args.hub.now c.loop.hub c.args.owner c.loop.invariant.0.goes c.requires.known in
    let lost : ⊥ =
    ∥∥₁_elim (hub_holds g.O.Outbox.standing g.L.Ledger.standing g.met.O.Outbox.sound g.met.L.Ledger.sound c.next_close.new.self clean) (λ a b. absurd a)
    (λ h. let on = c.is_behind.ensures.1 (none_lost g.O.Outbox.standing g.L.Ledger.standing c.args.owner c.args.device c.args.hub.now c.loop.hub c.next_close.new.self (g.W.Write.contents c.args.output.now) (g.W.Write.contents c.loop.output) c.loop.last c.loop.counter c.loop.invariant.0 c.next_close.ensures.reads c.in-Some.day (λ clean sound h may. subst (λ (o : Option ℕ). IsToClose (h.ledgers c.args.owner) c.args.device o) c.in-Some.is ((c.in_ok-day.ensures.answer clean sound known h may).1)) clean sound h.0 h.1) in let both : true ≡ false = sym on ∙ c.if-not-is_behind.true in absurd (cc)) in
    absurd lost

pub try_close-requires-clause-ledgers : goal.try_close-requires-clause-ledgers
try_close-requires-clause-ledgers g c = still_ledgers g.O.Outbox.standing g.L.Ledger.standing c.args.hub.now c.next_close.new.self (goes_mid g.O.Outbox.standing g.L.Ledger.standing c.args.owner c.args.device c.args.hub.now c.loop.hub c.next_close.new.self (g.W.Write.contents c.args.output.now) (g.W.Write.contents c.loop.output) c.loop.last c.loop.counter c.loop.invariant.0 c.next_close.ensures.reads) c.requires.ledgers

pub try_close-requires-clause-known : goal.try_close-requires-clause-known
try_close-requires-clause-known g c = still_known g.O.Outbox.standing g.L.Ledger.standing c.args.hub.now c.next_close.new.self c.args.owner (goes_mid g.O.Outbox.standing g.L.Ledger.standing c.args.owner c.args.device c.args.hub.now c.loop.hub c.next_close.new.self (g.W.Write.contents c.args.output.now) (g.W.Write.contents c.loop.output) c.loop.last c.loop.counter c.loop.invariant.0 c.next_close.ensures.reads) c.requires.known

pub returns-in_err-answer-clause-goes : goal.returns-in_err-answer-clause-goes
returns-in_err-answer-clause-goes g c =
    let mid = goes_mid g.O.Outbox.standing g.L.Ledger.standing c.args.owner c.args.device c.args.hub.now c.loop.hub c.next_close.new.self (g.W.Write.contents c.args.output.now) (g.W.Write.contents c.loop.output) c.loop.last c.loop.counter c.loop.invariant.0 c.next_close.ensures.reads in
    goes_join g.O.Outbox.standing g.L.Ledger.standing c.args.hub.now c.next_close.new.self c.try_close.new.hub mid c.try_close.ensures.goes

pub returns-in_err-answer-clause-cause : goal.returns-in_err-answer-clause-cause
returns-in_err-answer-clause-cause g c =
    let known = still_known g.O.Outbox.standing g.L.Ledger.standing c.args.hub.now c.loop.hub c.args.owner c.loop.invariant.0.goes c.requires.known in
    let asked = asked_counted g.O.Outbox.standing g.L.Ledger.standing c.loop.hub c.next_close.new.self c.args.owner (fault_of c.next_close.result) c.next_close.ensures.reads (c.next_close.ensures.cause known) in
    let mid = counted_ok _ _ c.next_close.result _ c.in_ok-day.was asked ∙ c.loop.invariant.1 in
    λ clean sound. counted_then _ _ _ (store_fault c.from_residual-in_err-answer.result) mid (counted_fault _ _ c.try_close.result c.from_residual-in_err-answer.result c.in_err-answer.field-0.0 c.in_err-answer.was c.from_residual-in_err-answer.ensures.1 c.try_close.ensures.cause)

pub returns-in_err-answer-clause-closed : goal.returns-in_err-answer-clause-closed
returns-in_err-answer-clause-closed g c = ok_of_none c.from_residual-in_err-answer.result _ _ c.from_residual-in_err-answer.ensures.1

pub returns-in_err-answer-clause-unnamed : goal.returns-in_err-answer-clause-unnamed
returns-in_err-answer-clause-unnamed g c = store_unnamed c.from_residual-in_err-answer.result c.in_err-answer.field-0.0 c.from_residual-in_err-answer.ensures.1

pub returns-in_err-line-clause-goes : goal.returns-in_err-line-clause-goes
returns-in_err-line-clause-goes g c =
    let mid = goes_mid g.O.Outbox.standing g.L.Ledger.standing c.args.owner c.args.device c.args.hub.now c.loop.hub c.next_close.new.self (g.W.Write.contents c.args.output.now) (g.W.Write.contents c.loop.output) c.loop.last c.loop.counter c.loop.invariant.0 c.next_close.ensures.reads in
    goes_join g.O.Outbox.standing g.L.Ledger.standing c.args.hub.now c.next_close.new.self c.try_close.new.hub mid c.try_close.ensures.goes

pub returns-in_err-line-clause-cause : goal.returns-in_err-line-clause-cause
returns-in_err-line-clause-cause g c =
    let known = still_known g.O.Outbox.standing g.L.Ledger.standing c.args.hub.now c.loop.hub c.args.owner c.loop.invariant.0.goes c.requires.known in
    let asked = asked_counted g.O.Outbox.standing g.L.Ledger.standing c.loop.hub c.next_close.new.self c.args.owner (fault_of c.next_close.result) c.next_close.ensures.reads (c.next_close.ensures.cause known) in
    let mid = counted_ok _ _ c.next_close.result _ c.in_ok-day.was asked ∙ c.loop.invariant.1 in
    let tried = counted_ok _ _ c.try_close.result _ c.in_ok-answer.was c.try_close.ensures.cause ∙ mid in
    λ clean sound. counted_memory _ _ c.from_residual-in_err-line.result c.from_residual-in_err-line.ensures.1 tried

pub returns-in_err-line-clause-closed : goal.returns-in_err-line-clause-closed
returns-in_err-line-clause-closed g c = ok_of_none c.from_residual-in_err-line.result _ _ c.from_residual-in_err-line.ensures.1

pub returns-in_err-line-clause-unnamed : goal.returns-in_err-line-clause-unnamed
returns-in_err-line-clause-unnamed g c = store_unnamed c.from_residual-in_err-line.result fault.Memory c.from_residual-in_err-line.ensures.1

pub returns-in_err-write_text-clause-goes : goal.returns-in_err-write_text-clause-goes
returns-in_err-write_text-clause-goes g c =
    let mid = goes_mid g.O.Outbox.standing g.L.Ledger.standing c.args.owner c.args.device c.args.hub.now c.loop.hub c.next_close.new.self (g.W.Write.contents c.args.output.now) (g.W.Write.contents c.loop.output) c.loop.last c.loop.counter c.loop.invariant.0 c.next_close.ensures.reads in
    goes_join g.O.Outbox.standing g.L.Ledger.standing c.args.hub.now c.next_close.new.self c.try_close.new.hub mid c.try_close.ensures.goes

pub returns-in_err-write_text-clause-cause : goal.returns-in_err-write_text-clause-cause
returns-in_err-write_text-clause-cause g c =
    let known = still_known g.O.Outbox.standing g.L.Ledger.standing c.args.hub.now c.loop.hub c.args.owner c.loop.invariant.0.goes c.requires.known in
    let asked = asked_counted g.O.Outbox.standing g.L.Ledger.standing c.loop.hub c.next_close.new.self c.args.owner (fault_of c.next_close.result) c.next_close.ensures.reads (c.next_close.ensures.cause known) in
    let mid = counted_ok _ _ c.next_close.result _ c.in_ok-day.was asked ∙ c.loop.invariant.1 in
    let tried = counted_ok _ _ c.try_close.result _ c.in_ok-answer.was c.try_close.ensures.cause ∙ mid in
    λ clean sound. counted_lost _ _ c.from_residual-in_err-write_text.result c.in_err-write_text.field-0.0 c.from_residual-in_err-write_text.ensures.1 c.in_err-write_text.ensures.failed tried

pub returns-in_err-write_text-clause-closed : goal.returns-in_err-write_text-clause-closed
returns-in_err-write_text-clause-closed g c = ok_of_none c.from_residual-in_err-write_text.result _ _ c.from_residual-in_err-write_text.ensures.1

pub returns-in_err-write_text-clause-unnamed : goal.returns-in_err-write_text-clause-unnamed
returns-in_err-write_text-clause-unnamed g c = handed_unnamed c.from_residual-in_err-write_text.result c.in_err-write_text.field-0.0 c.from_residual-in_err-write_text.ensures.1 c.in_err-write_text.ensures.failed

pub returns-in-Err-clause-goes : goal.returns-in-Err-clause-goes
returns-in-Err-clause-goes g c =
    let mid = goes_mid g.O.Outbox.standing g.L.Ledger.standing c.args.owner c.args.device c.args.hub.now c.loop.hub c.next_close.new.self (g.W.Write.contents c.args.output.now) (g.W.Write.contents c.loop.output) c.loop.last c.loop.counter c.loop.invariant.0 c.next_close.ensures.reads in
    goes_join g.O.Outbox.standing g.L.Ledger.standing c.args.hub.now c.next_close.new.self c.try_close.new.hub mid c.try_close.ensures.goes

pub returns-in-Err-clause-cause : goal.returns-in-Err-clause-cause
returns-in-Err-clause-cause g c =
    let known = still_known g.O.Outbox.standing g.L.Ledger.standing c.args.hub.now c.loop.hub c.args.owner c.loop.invariant.0.goes c.requires.known in
    let asked = asked_counted g.O.Outbox.standing g.L.Ledger.standing c.loop.hub c.next_close.new.self c.args.owner (fault_of c.next_close.result) c.next_close.ensures.reads (c.next_close.ensures.cause known) in
    let mid = counted_ok _ _ c.next_close.result _ c.in_ok-day.was asked ∙ c.loop.invariant.1 in
    let tried = counted_ok _ _ c.try_close.result _ c.in_ok-answer.was c.try_close.ensures.cause ∙ mid in
    λ clean sound. tried

pub returns-in-Err-clause-closed : goal.returns-in-Err-clause-closed
returns-in-Err-clause-closed g c =
    let known = still_known g.O.Outbox.standing g.L.Ledger.standing c.args.hub.now c.loop.hub c.args.owner c.loop.invariant.0.goes c.requires.known in
    let written = subst (Appends (g.W.Write.contents c.loop.output) (g.W.Write.contents c.write_text.new.output)) (c.deref.ensures.value ∙ (c.in_ok-line.ensures.line ∙ ap (λ a. try_line c.args.owner c.args.device c.in-Some.day (reply_of c.args.device c.in-Some.day a)) c.in-Err.is)) c.in_ok-write_text.ensures.written in
    let answered = subst (HasAnswered g.O.Outbox.standing g.L.Ledger.standing c.args.owner c.args.device c.in-Some.day c.next_close.new.self c.try_close.new.hub) c.in-Err.is c.in_ok-answer.ensures.answered in
    let behind : IsDayBehind c.loop.last c.in-Some.day = c.is_behind.ensures.0 c.if-not-is_behind.false in
    lane_refused g.O.Outbox.standing g.L.Ledger.standing c.args.owner c.args.device c.args.hub.now c.loop.hub c.next_close.new.self (g.W.Write.contents c.args.output.now) (g.W.Write.contents c.loop.output) c.loop.last c.loop.counter c.loop.invariant.0 c.next_close.ensures.reads c.try_close.new.hub c.in-Some.day behind c.in_ok-line.ensures.dated
    (λ clean sound h may. subst (λ (o : Option ℕ). IsToClose (h.ledgers c.args.owner) c.args.device o) c.in-Some.is ((c.in_ok-day.ensures.answer clean sound known h may).1))
    c.try_close.ensures.goes (g.W.Write.contents c.write_text.new.output) c.in-Err.field-0 answered written

pub loop-preserved : goal.loop-preserved
loop-preserved g c =
    let known = still_known g.O.Outbox.standing g.L.Ledger.standing c.args.hub.now c.loop.hub c.args.owner c.loop.invariant.0.goes c.requires.known in
    let asked = asked_counted g.O.Outbox.standing g.L.Ledger.standing c.loop.hub c.next_close.new.self c.args.owner (fault_of c.next_close.result) c.next_close.ensures.reads (c.next_close.ensures.cause known) in
    let mid = counted_ok _ _ c.next_close.result _ c.in_ok-day.was asked ∙ c.loop.invariant.1 in
    let tried = counted_ok _ _ c.try_close.result _ c.in_ok-answer.was c.try_close.ensures.cause ∙ mid in
    let written = subst (Appends (g.W.Write.contents c.loop.output) (g.W.Write.contents c.write_text.new.output)) (c.deref.ensures.value ∙ (c.in_ok-line.ensures.line ∙ ap (λ a. try_line c.args.owner c.args.device c.in-Some.day (reply_of c.args.device c.in-Some.day a)) c.in-Ok.is)) c.in_ok-write_text.ensures.written in
    let answered = subst (HasAnswered g.O.Outbox.standing g.L.Ledger.standing c.args.owner c.args.device c.in-Some.day c.next_close.new.self c.try_close.new.hub) c.in-Ok.is c.in_ok-answer.ensures.answered in
    let behind : IsDayBehind c.loop.last c.in-Some.day = c.is_behind.ensures.0 c.if-not-is_behind.false in
    let more : suc c.loop.counter ≡ c.loop.counter + 1 = omega arith in (
      subst (StandsLane g.O.Outbox.standing g.L.Ledger.standing c.args.owner c.args.device c.args.hub.now c.try_close.new.hub (g.W.Write.contents c.args.output.now) (g.W.Write.contents c.write_text.new.output) (Some c.in-Some.day)) more
          (lane_closed g.O.Outbox.standing g.L.Ledger.standing c.args.owner c.args.device c.args.hub.now c.loop.hub c.next_close.new.self (g.W.Write.contents c.args.output.now) (g.W.Write.contents c.loop.output) c.loop.last c.loop.counter c.loop.invariant.0 c.next_close.ensures.reads c.try_close.new.hub c.in-Some.day behind c.in_ok-line.ensures.dated
          (λ clean sound h may. subst (λ (o : Option ℕ). IsToClose (h.ledgers c.args.owner) c.args.device o) c.in-Some.is ((c.in_ok-day.ensures.answer clean sound known h may).1))
          c.try_close.ensures.goes (g.W.Write.contents c.write_text.new.output) answered written),
      tried,
    )

pub returns-clause-goes : goal.returns-clause-goes
returns-clause-goes g c = c.loop.invariant.0.goes

pub returns-clause-cause : goal.returns-clause-cause
returns-clause-cause g c = λ clean sound. c.loop.invariant.1

pub returns-clause-closed : goal.returns-clause-closed
returns-clause-closed g c =
    let past = c.loop-test.false in
    lane_spent g.O.Outbox.standing g.L.Ledger.standing c.args.owner c.args.device c.args.hub.now c.loop.hub (g.W.Write.contents c.args.output.now) (g.W.Write.contents c.loop.output) c.loop.last c.loop.counter (omega (arith, past)) c.loop.invariant.0
