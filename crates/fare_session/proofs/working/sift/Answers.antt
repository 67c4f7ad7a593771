use Rattle.std.proofs.Common.{rules, ◌≡◌, ℕ, ◌+◌, ◌++◌, ◌∷◌, [], None, Some, List, refl, sym, ap, ◌∙◌, subst, arith, Err}
use Rattle.std.proofs.lemmas.Result.{err_from_is_err_and}
use Rattle.fare_session.specs.Asking.{AreSifted}
use Rattle.std.specs.Prelude.{slice_get, Option, Ok}
use Rattle.std.proofs.lemmas.Option.{slice_get-get_or}
use Rattle.fare_store.specs.Standing.{Reads}
use Rattle.fare_session.specs.Stores.{Stays}
use Rattle.fare_session.proofs.StoreCalls.{stays_read}
use Rattle.fare_session.proofs.Sifts.{InSift, sift_left, sift_more, sift_failed, sifted}
use Rattle.fare_session.proofs.working.sift.Goals.{else-not-retired-via-then-not-retired+else-is_err, else-not-retired-via-else-not-retired}
use Rattle.fare_session.proofs.working.sift.Goals as goal

pub returns-in_err-retired : goal.returns-in_err-retired
returns-in_err-retired g c =
    let lo = g.L.Ledger.standing c.args.ledger.now in
    let lm = g.L.Ledger.standing c.loop-lane.ledger in
    let ln = g.L.Ledger.standing c.retired.new.self in
    let is = err_from_is_err_and c.from_residual.result c.from_residual.ensures.1 in
    subst (AreSifted lo ln c.args.lanes.now c.loop-lane.working.items) (sym (is.1 ∙ ap Err is.2))
    (sift_failed lo lm ln c.args.lanes.now c.loop-lane.working.items c.in_err-retired.field-0.0 c.loop-lane.invariant.stays (stays_read lm ln (Some c.in_err-retired.field-0.0) (Unit {0}) (g.met.L.Ledger.sound c.loop-lane.ledger) c.in_err-retired.ensures))

pub loop-lane-preserved : goal.loop-lane-preserved
loop-lane-preserved g c =
    let lo = g.L.Ledger.standing c.args.ledger.now in
    let lm = g.L.Ledger.standing c.loop-lane.ledger in
    let ln = g.L.Ledger.standing c.retired.new.self in
    let lanes = c.args.lanes.now in
    let place = c.loop-lane.lane-index in
    let before = c.loop-lane.working.items in
    let lane : ℕ × ℕ = c.lane-item.result in
    let here : slice_get lanes place ≡ Some lane = slice_get-get_or lanes place lane (omega (arith, c.loop-lane-test.true)) ∙ ap {B = Option (ℕ × ℕ)} Some (sym c.lane-item.is) in
    let retired = c.in_ok-retired.retired in
    let call : Reads lm ln (λ r. r ≡ lm.value.retired lane.0) (Ok retired) = c.in_ok-retired.ensures in
    let read : Stays lm ln None = stays_read lm ln None (retired ≡ lm.value.retired lane.0) (g.met.L.Ledger.sound c.loop-lane.ledger) call in
    elim c.else-not-retired.branch [
      | else-not-retired-via-then-not-retired+else-is_err w ↦
          let more : w.push.new.self.items ≡ before ++ lane ∷ [] = search rules in
          let goes_on = sift_more lo lm ln lanes before place lane retired here c.requires.apart c.loop-lane.invariant read (λ keeps. (call.value (call.stays refl keeps.clean) keeps.lawful).1.1) w.if-not-retired.true in
          subst (λ (l : List (ℕ × ℕ)). InSift lo ln lanes l (place + 1)) (sym (ap (λ v. v.items) w.working-is ∙ more)) goes_on
      | else-not-retired-via-else-not-retired w ↦ subst (λ (l : List (ℕ × ℕ)). InSift lo ln lanes l (place + 1)) (sym (ap (λ v. v.items) w.working-is)) (sift_left lo lm ln lanes before place lane retired here c.requires.apart c.loop-lane.invariant read (λ keeps. (call.value (call.stays refl keeps.clean) keeps.lawful).1.1) w.if-not-retired.false)
    ]

pub returns : goal.returns
returns g c = sifted (g.L.Ledger.standing c.args.ledger.now) (g.L.Ledger.standing c.loop-lane.ledger) c.args.lanes.now c.loop-lane.working.items c.loop-lane.lane-index (omega (arith, c.loop-lane-test.false)) c.loop-lane.invariant
