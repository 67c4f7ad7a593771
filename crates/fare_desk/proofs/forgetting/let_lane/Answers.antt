use Rattle.std.proofs.Common.{◌≡◌, true, ap, ◌∙◌}
use Rattle.std.specs.Prelude.{is_some}
use Rattle.fare_scheme.specs.Values.{SchemeValue}
use Rattle.fare_scheme.specs.Words.{position_of_device}
use Rattle.fare_store.specs.Standing.{fault_of}
use Rattle.fare_sessions.proofs.Follow.{clean_back}
use Rattle.fare_desk.proofs.Causes.{counted_ok, counted_passed, counted_then}
use Rattle.fare_desk.proofs.LetGo.{lane_is_gone, some_asked, some_then}
use Rattle.fare_desk.proofs.forgetting.let_lane.Goals as goal

pub returns-in_err-before-clause-some : goal.returns-in_err-before-clause-some
returns-in_err-before-clause-some g c =
    some_asked g.O.Outbox.standing g.L.Ledger.standing c.args.day c.args.owner c.args.device c.args.hub.now c.ask_gone.new.hub c.ask_gone.ensures.asks

pub returns-in_err-before-clause-cause : goal.returns-in_err-before-clause-cause
returns-in_err-before-clause-cause g c = λ clean sound known. counted_passed _ _ c.ask_gone.result c.from_residual.result c.in_err-before.field-0.0 c.in_err-before.was c.from_residual.ensures.1 c.ask_gone.ensures.cause

pub returns-in_err-over-clause-some : goal.returns-in_err-over-clause-some
returns-in_err-over-clause-some g c =
    some_then g.O.Outbox.standing g.L.Ledger.standing c.args.day c.args.owner c.args.device c.args.hub.now c.ask_gone.new.hub c.let_go_over.new.hub (some_asked g.O.Outbox.standing g.L.Ledger.standing c.args.day c.args.owner c.args.device c.args.hub.now c.ask_gone.new.hub c.ask_gone.ensures.asks) c.let_go_over.ensures.some

pub returns-in_err-over-clause-cause : goal.returns-in_err-over-clause-cause
returns-in_err-over-clause-cause g c = λ clean sound known.
    let known_now : is_some (position_of_device c.ask_gone.new.hub.scheme c.args.device) ≡ true = ap (λ (sc : SchemeValue). is_some (position_of_device sc c.args.device)) c.ask_gone.ensures.asks.scheme ∙ known in
    let gone = c.let_go_over.ensures.cause clean (c.ask_gone.ensures.asks.sound sound) known_now in
    counted_then _ _ _ (fault_of c.from_residual-in_err-over.result) (counted_ok _ _ c.ask_gone.result c.in_ok-before.before c.in_ok-before.was c.ask_gone.ensures.cause) (counted_passed _ _ c.let_go_over.result c.from_residual-in_err-over.result c.in_err-over.field-0.0 c.in_err-over.was c.from_residual-in_err-over.ensures.1 gone)

pub returns-in_err-after-clause-some : goal.returns-in_err-after-clause-some
returns-in_err-after-clause-some g c =
    some_then g.O.Outbox.standing g.L.Ledger.standing c.args.day c.args.owner c.args.device c.args.hub.now c.let_go_over.new.hub c.ask_gone-2.new.hub (some_then g.O.Outbox.standing g.L.Ledger.standing c.args.day c.args.owner c.args.device c.args.hub.now c.ask_gone.new.hub c.let_go_over.new.hub (some_asked g.O.Outbox.standing g.L.Ledger.standing c.args.day c.args.owner c.args.device c.args.hub.now c.ask_gone.new.hub c.ask_gone.ensures.asks) c.let_go_over.ensures.some) (some_asked g.O.Outbox.standing g.L.Ledger.standing c.args.day c.args.owner c.args.device c.let_go_over.new.hub c.ask_gone-2.new.hub c.ask_gone-2.ensures.asks)

pub returns-in_err-after-clause-cause : goal.returns-in_err-after-clause-cause
returns-in_err-after-clause-cause g c = λ clean sound known.
    let clean_2 = clean_back g.O.Outbox.standing g.L.Ledger.standing c.let_go_over.new.hub c.ask_gone-2.new.hub c.ask_gone-2.ensures.asks.follow clean in
    let known_now : is_some (position_of_device c.ask_gone.new.hub.scheme c.args.device) ≡ true = ap (λ (sc : SchemeValue). is_some (position_of_device sc c.args.device)) c.ask_gone.ensures.asks.scheme ∙ known in
    let gone = c.let_go_over.ensures.cause clean_2 (c.ask_gone.ensures.asks.sound sound) known_now in
    let there = counted_ok _ _ c.let_go_over.result c.in_ok-over.over c.in_ok-over.was gone ∙ counted_ok _ _ c.ask_gone.result c.in_ok-before.before c.in_ok-before.was c.ask_gone.ensures.cause in
    counted_then _ _ _ (fault_of c.from_residual-in_err-after.result) there (counted_passed _ _ c.ask_gone-2.result c.from_residual-in_err-after.result c.in_err-after.field-0.0 c.in_err-after.was c.from_residual-in_err-after.ensures.1 c.ask_gone-2.ensures.cause)

pub returns-in_err-from-clause-some : goal.returns-in_err-from-clause-some
returns-in_err-from-clause-some g c =
    some_then g.O.Outbox.standing g.L.Ledger.standing c.args.day c.args.owner c.args.device c.args.hub.now c.ask_gone-2.new.hub c.ask_held_from.new.hub (some_then g.O.Outbox.standing g.L.Ledger.standing c.args.day c.args.owner c.args.device c.args.hub.now c.let_go_over.new.hub c.ask_gone-2.new.hub (some_then g.O.Outbox.standing g.L.Ledger.standing c.args.day c.args.owner c.args.device c.args.hub.now c.ask_gone.new.hub c.let_go_over.new.hub (some_asked g.O.Outbox.standing g.L.Ledger.standing c.args.day c.args.owner c.args.device c.args.hub.now c.ask_gone.new.hub c.ask_gone.ensures.asks) c.let_go_over.ensures.some) (some_asked g.O.Outbox.standing g.L.Ledger.standing c.args.day c.args.owner c.args.device c.let_go_over.new.hub c.ask_gone-2.new.hub c.ask_gone-2.ensures.asks)) (some_asked g.O.Outbox.standing g.L.Ledger.standing c.args.day c.args.owner c.args.device c.ask_gone-2.new.hub c.ask_held_from.new.hub c.ask_held_from.ensures.asks)

pub returns-in_err-from-clause-cause : goal.returns-in_err-from-clause-cause
returns-in_err-from-clause-cause g c = λ clean sound known.
    let clean_3 = clean_back g.O.Outbox.standing g.L.Ledger.standing c.ask_gone-2.new.hub c.ask_held_from.new.hub c.ask_held_from.ensures.asks.follow clean in
    let clean_2 = clean_back g.O.Outbox.standing g.L.Ledger.standing c.let_go_over.new.hub c.ask_gone-2.new.hub c.ask_gone-2.ensures.asks.follow clean_3 in
    let known_now : is_some (position_of_device c.ask_gone.new.hub.scheme c.args.device) ≡ true = ap (λ (sc : SchemeValue). is_some (position_of_device sc c.args.device)) c.ask_gone.ensures.asks.scheme ∙ known in
    let gone = c.let_go_over.ensures.cause clean_2 (c.ask_gone.ensures.asks.sound sound) known_now in
    let there = counted_ok _ _ c.let_go_over.result c.in_ok-over.over c.in_ok-over.was gone ∙ counted_ok _ _ c.ask_gone.result c.in_ok-before.before c.in_ok-before.was c.ask_gone.ensures.cause in
    let after = counted_ok _ _ c.ask_gone-2.result c.in_ok-after.after c.in_ok-after.was c.ask_gone-2.ensures.cause ∙ there in
    counted_then _ _ _ (fault_of c.from_residual-in_err-from.result) after (counted_passed _ _ c.ask_held_from.result c.from_residual-in_err-from.result c.in_err-from.field-0.0 c.in_err-from.was c.from_residual-in_err-from.ensures.1 c.ask_held_from.ensures.cause)

pub returns-clause-some : goal.returns-clause-some
returns-clause-some g c =
    some_then g.O.Outbox.standing g.L.Ledger.standing c.args.day c.args.owner c.args.device c.args.hub.now c.ask_gone-2.new.hub c.ask_held_from.new.hub (some_then g.O.Outbox.standing g.L.Ledger.standing c.args.day c.args.owner c.args.device c.args.hub.now c.let_go_over.new.hub c.ask_gone-2.new.hub (some_then g.O.Outbox.standing g.L.Ledger.standing c.args.day c.args.owner c.args.device c.args.hub.now c.ask_gone.new.hub c.let_go_over.new.hub (some_asked g.O.Outbox.standing g.L.Ledger.standing c.args.day c.args.owner c.args.device c.args.hub.now c.ask_gone.new.hub c.ask_gone.ensures.asks) c.let_go_over.ensures.some) (some_asked g.O.Outbox.standing g.L.Ledger.standing c.args.day c.args.owner c.args.device c.let_go_over.new.hub c.ask_gone-2.new.hub c.ask_gone-2.ensures.asks)) (some_asked g.O.Outbox.standing g.L.Ledger.standing c.args.day c.args.owner c.args.device c.ask_gone-2.new.hub c.ask_held_from.new.hub c.ask_held_from.ensures.asks)

pub returns-clause-cause : goal.returns-clause-cause
returns-clause-cause g c = λ clean sound known.
    let clean_3 = clean_back g.O.Outbox.standing g.L.Ledger.standing c.ask_gone-2.new.hub c.ask_held_from.new.hub c.ask_held_from.ensures.asks.follow clean in
    let clean_2 = clean_back g.O.Outbox.standing g.L.Ledger.standing c.let_go_over.new.hub c.ask_gone-2.new.hub c.ask_gone-2.ensures.asks.follow clean_3 in
    let known_now : is_some (position_of_device c.ask_gone.new.hub.scheme c.args.device) ≡ true = ap (λ (sc : SchemeValue). is_some (position_of_device sc c.args.device)) c.ask_gone.ensures.asks.scheme ∙ known in
    let gone = c.let_go_over.ensures.cause clean_2 (c.ask_gone.ensures.asks.sound sound) known_now in
    let there = counted_ok _ _ c.let_go_over.result c.in_ok-over.over c.in_ok-over.was gone ∙ counted_ok _ _ c.ask_gone.result c.in_ok-before.before c.in_ok-before.was c.ask_gone.ensures.cause in
    let after = counted_ok _ _ c.ask_gone-2.result c.in_ok-after.after c.in_ok-after.was c.ask_gone-2.ensures.cause ∙ there in
    counted_ok _ _ c.ask_held_from.result c.in_ok-from.from c.in_ok-from.was c.ask_held_from.ensures.cause ∙ after

pub returns-clause-gone : goal.returns-clause-gone
returns-clause-gone g c =
    lane_is_gone g.O.Outbox.standing g.L.Ledger.standing c.args.hub.now c.ask_gone.new.hub c.let_go_over.new.hub c.ask_gone-2.new.hub c.ask_held_from.new.hub c.args.day c.args.owner c.args.device c.in_ok-before.before c.in_ok-after.after c.in_ok-from.from c.in_ok-over.over
    c.ask_gone.ensures.asks c.let_go_over.ensures.some.goes c.ask_gone-2.ensures.asks c.ask_held_from.ensures.asks c.in_ok-before.ensures.tells c.in_ok-over.ensures.gone c.in_ok-after.ensures.tells c.in_ok-from.ensures.tells
    (record { taps = c.saturating_sub.result; from = c.in_ok-from.from; over = c.in_ok-over.over }) (λ i. record { taps = c.saturating_sub.ensures i; from = c.in_ok-from.from; over = c.in_ok-over.over })
