use Rattle.std.proofs.Common.{◌≤◌, refl, ◌∙◌, arith}
use Rattle.fare_store.specs.Standing.{fault_of}
use Rattle.fare_sessions.proofs.Follow.{clean_back}
use Rattle.fare_desk.proofs.Causes.{counted_ok, counted_passed, counted_then}
use Rattle.fare_desk.proofs.Failing.{ok_of_none}
use Rattle.fare_desk.proofs.LetGo.{some_self, some_then, some_once}
use Rattle.fare_desk.proofs.Letting.{may_earlier}
use Rattle.fare_desk.proofs.forgetting.let_go_weeks.Goals as goal

pub loop-week-init : goal.loop-week-init
loop-week-init g c = (some_self g.O.Outbox.standing g.L.Ledger.standing c.args.day c.args.owner c.args.device c.args.hub.now, (λ sound m. m), (λ clean sound m. refl))

pub loop-week-preserved : goal.loop-week-preserved
loop-week-preserved g c =
    let early = c.loop-week-test.true in
    let le : c.in-Some.next ≤ c.args.day = omega (arith, early, c.get.ensures.value, c.from.ensures, c.in-Some.ensures.value) in
    let once = some_then g.O.Outbox.standing g.L.Ledger.standing c.args.day c.args.owner c.args.device c.args.hub.now c.loop-week.hub c.let_go_once.new.hub c.loop-week.invariant.0 (some_once g.O.Outbox.standing g.L.Ledger.standing c.args.day c.args.owner c.args.device c.loop-week.hub c.let_go_once.new.hub c.in-Some.next le c.let_go_once.ensures.goes c.let_go_once.ensures.left) in (
      once,
      (λ sound m. c.in_ok-let_go_once.ensures.still (c.loop-week.invariant.0.goes.sound sound) c.args.day (c.loop-week.invariant.1 sound m)),
      (λ clean sound m. counted_ok _ _ c.let_go_once.result tt c.in_ok-let_go_once.was (c.let_go_once.ensures.cause clean (c.loop-week.invariant.0.goes.sound sound) (may_earlier g.O.Outbox.standing g.L.Ledger.standing c.args.owner c.args.device c.loop-week.hub c.in-Some.next c.args.day le (c.loop-week.invariant.1 sound m))) ∙ c.loop-week.invariant.2 (clean_back g.O.Outbox.standing g.L.Ledger.standing c.loop-week.hub c.let_go_once.new.hub c.let_go_once.ensures.goes.follow clean) sound m),
    )

pub returns-in_err-let_go_once-clause-some : goal.returns-in_err-let_go_once-clause-some
returns-in_err-let_go_once-clause-some g c =
    let early = c.loop-week-test.true in
    let le : c.in-Some.next ≤ c.args.day = omega (arith, early, c.get.ensures.value, c.from.ensures, c.in-Some.ensures.value) in
    some_then g.O.Outbox.standing g.L.Ledger.standing c.args.day c.args.owner c.args.device c.args.hub.now c.loop-week.hub c.let_go_once.new.hub c.loop-week.invariant.0 (some_once g.O.Outbox.standing g.L.Ledger.standing c.args.day c.args.owner c.args.device c.loop-week.hub c.let_go_once.new.hub c.in-Some.next le c.let_go_once.ensures.goes c.let_go_once.ensures.left)

pub returns-in_err-let_go_once-clause-cause : goal.returns-in_err-let_go_once-clause-cause
returns-in_err-let_go_once-clause-cause g c =
    let early = c.loop-week-test.true in
    let le : c.in-Some.next ≤ c.args.day = omega (arith, early, c.get.ensures.value, c.from.ensures, c.in-Some.ensures.value) in
    λ clean sound m.
    counted_then _ _ _ (fault_of c.from_residual.result) (c.loop-week.invariant.2 (clean_back g.O.Outbox.standing g.L.Ledger.standing c.loop-week.hub c.let_go_once.new.hub c.let_go_once.ensures.goes.follow clean) sound m)
    (counted_passed _ _ c.let_go_once.result c.from_residual.result c.in_err-let_go_once.field-0.0 c.in_err-let_go_once.was c.from_residual.ensures.1 (c.let_go_once.ensures.cause clean (c.loop-week.invariant.0.goes.sound sound) (may_earlier g.O.Outbox.standing g.L.Ledger.standing c.args.owner c.args.device c.loop-week.hub c.in-Some.next c.args.day le (c.loop-week.invariant.1 sound m))))

pub returns-in_err-let_go_once-clause-still : goal.returns-in_err-let_go_once-clause-still
returns-in_err-let_go_once-clause-still g c = ok_of_none c.from_residual.result _ _ c.from_residual.ensures.1

pub returns-clause-some : goal.returns-clause-some
returns-clause-some g c = c.loop-week.invariant.0

pub returns-clause-cause : goal.returns-clause-cause
returns-clause-cause g c = c.loop-week.invariant.2

pub returns-clause-still : goal.returns-clause-still
returns-clause-still g c = c.loop-week.invariant.1
