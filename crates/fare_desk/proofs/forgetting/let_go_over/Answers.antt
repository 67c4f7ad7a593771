use Rattle.std.proofs.Common.{◌≡◌, sym, ap, ◌∙◌, subst}
use Rattle.std.specs.Prelude.{is_some}
use Rattle.fare_scheme.specs.Values.{SchemeValue}
use Rattle.fare_scheme.specs.Words.{position_of_device}
use Rattle.fare_store.specs.Standing.{fault_of}
use Rattle.fare_sessions.specs.Stores.{ComesOf}
use Rattle.fare_desk.specs.Forgetting.{MayGo, is_over, let_lane_go}
use Rattle.fare_desk.proofs.Causes.{counted_ok, counted_passed, counted_then}
use Rattle.fare_desk.proofs.LetGo.{open_stays, over_gone, some_asked, some_then}
use Rattle.fare_desk.proofs.forgetting.let_go_over.Goals as goal

pub returns-in_err-over-clause-some : goal.returns-in_err-over-clause-some
returns-in_err-over-clause-some g c = some_asked g.O.Outbox.standing g.L.Ledger.standing c.args.day c.args.owner c.args.device c.args.hub.now c.ask_over.new.hub c.ask_over.ensures.asks

pub returns-in_err-over-clause-cause : goal.returns-in_err-over-clause-cause
returns-in_err-over-clause-cause g c = λ clean sound known. counted_passed _ _ c.ask_over.result c.from_residual.result c.in_err-over.field-0.0 c.in_err-over.was c.from_residual.ensures.1 c.ask_over.ensures.cause

pub returns-in_err-let_go_days-clause-some : goal.returns-in_err-let_go_days-clause-some
returns-in_err-let_go_days-clause-some g c = some_then g.O.Outbox.standing g.L.Ledger.standing c.args.day c.args.owner c.args.device c.args.hub.now c.ask_over.new.hub c.let_go_days.new.hub (some_asked g.O.Outbox.standing g.L.Ledger.standing c.args.day c.args.owner c.args.device c.args.hub.now c.ask_over.new.hub c.ask_over.ensures.asks) c.let_go_days.ensures.some

pub returns-in_err-let_go_days-clause-cause : goal.returns-in_err-let_go_days-clause-cause
returns-in_err-let_go_days-clause-cause g c = λ clean sound known.
    let m : MayGo g.O.Outbox.standing g.L.Ledger.standing c.args.day c.args.owner c.args.device c.ask_over.new.hub = record {
      known = ap (λ (sc : SchemeValue). is_some (position_of_device sc c.args.device)) c.ask_over.ensures.asks.scheme ∙ known;
      works = c.in_ok-over.ensures.works;
      over = λ clean h may. sym (c.in_ok-over.ensures.tells clean sound h may) ∙ c.if-over.true;
    } in
    counted_then _ _ _ (fault_of c.from_residual-in_err-let_go_days.result) (counted_ok _ _ c.ask_over.result c.in_ok-over.over c.in_ok-over.was c.ask_over.ensures.cause)
    (counted_passed _ _ c.let_go_days.result c.from_residual-in_err-let_go_days.result c.in_err-let_go_days.field-0.0 c.in_err-let_go_days.was c.from_residual-in_err-let_go_days.ensures.1 (c.let_go_days.ensures.cause clean (c.ask_over.ensures.asks.sound sound) m))

pub returns-in_ok-let_go_days-clause-some : goal.returns-in_ok-let_go_days-clause-some
returns-in_ok-let_go_days-clause-some g c = some_then g.O.Outbox.standing g.L.Ledger.standing c.args.day c.args.owner c.args.device c.args.hub.now c.ask_over.new.hub c.let_go_days.new.hub (some_asked g.O.Outbox.standing g.L.Ledger.standing c.args.day c.args.owner c.args.device c.args.hub.now c.ask_over.new.hub c.ask_over.ensures.asks) c.let_go_days.ensures.some

pub returns-in_ok-let_go_days-clause-cause : goal.returns-in_ok-let_go_days-clause-cause
returns-in_ok-let_go_days-clause-cause g c = λ clean sound known.
    let m : MayGo g.O.Outbox.standing g.L.Ledger.standing c.args.day c.args.owner c.args.device c.ask_over.new.hub = record {
      known = ap (λ (sc : SchemeValue). is_some (position_of_device sc c.args.device)) c.ask_over.ensures.asks.scheme ∙ known;
      works = c.in_ok-over.ensures.works;
      over = λ clean h may. sym (c.in_ok-over.ensures.tells clean sound h may) ∙ c.if-over.true;
    } in
    counted_ok _ _ c.let_go_days.result tt c.in_ok-let_go_days.was (c.let_go_days.ensures.cause clean (c.ask_over.ensures.asks.sound sound) m) ∙ counted_ok _ _ c.ask_over.result c.in_ok-over.over c.in_ok-over.was c.ask_over.ensures.cause

pub returns-in_ok-let_go_days-clause-gone : goal.returns-in_ok-let_go_days-clause-gone
returns-in_ok-let_go_days-clause-gone g c =
    subst (λ b. ComesOf g.O.Outbox.standing g.L.Ledger.standing c.args.hub.now c.let_go_days.new.hub (λ h k. (b ≡ is_over (h.ledgers c.args.owner) c.args.device c.args.day) × (k ≡ let_lane_go c.args.day c.args.owner c.args.device h))) (sym c.if-over.true)
    (over_gone g.O.Outbox.standing g.L.Ledger.standing c.args.hub.now c.ask_over.new.hub c.let_go_days.new.hub c.args.day c.args.owner c.args.device c.ask_over.ensures.asks c.let_go_days.ensures.some.goes (λ clean sound h may. sym c.if-over.true ∙ c.in_ok-over.ensures.tells clean sound h may) c.in_ok-let_go_days.ensures.gone)

pub returns-else-over-clause-some : goal.returns-else-over-clause-some
returns-else-over-clause-some g c = some_asked g.O.Outbox.standing g.L.Ledger.standing c.args.day c.args.owner c.args.device c.args.hub.now c.ask_over.new.hub c.ask_over.ensures.asks

pub returns-else-over-clause-cause : goal.returns-else-over-clause-cause
returns-else-over-clause-cause g c = λ clean sound known. counted_ok _ _ c.ask_over.result c.in_ok-over.over c.in_ok-over.was c.ask_over.ensures.cause

pub returns-else-over-clause-gone : goal.returns-else-over-clause-gone
returns-else-over-clause-gone g c =
    subst (λ b. ComesOf g.O.Outbox.standing g.L.Ledger.standing c.args.hub.now c.ask_over.new.hub (λ h k. (b ≡ is_over (h.ledgers c.args.owner) c.args.device c.args.day) × (k ≡ let_lane_go c.args.day c.args.owner c.args.device h))) (sym c.if-over.false)
    (open_stays g.O.Outbox.standing g.L.Ledger.standing c.args.hub.now c.ask_over.new.hub c.args.day c.args.owner c.args.device c.ask_over.ensures.asks (λ clean sound h may. sym c.if-over.false ∙ c.in_ok-over.ensures.tells clean sound h may))
