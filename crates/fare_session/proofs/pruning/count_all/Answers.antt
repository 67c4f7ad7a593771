use Rattle.std.proofs.Common.{◌≡◌, ℕ, length, Some, None, refl, arith, Err, sym, ap, subst, ◌∙◌}
use Rattle.std.proofs.lemmas.Result.{err_from_is_err_and}
use Rattle.fare_session.specs.Resting.{AreCounted}
use Rattle.std.specs.Prelude.{slice_get, get_or, Ok}
use Rattle.std.proofs.lemmas.Option.{slice_get-get_or}
use Rattle.fare_store.specs.Standing.{Reads}
use Rattle.fare_session.specs.Stores.{Stays}
use Rattle.fare_session.proofs.StoreCalls.{stays_read}
use Rattle.fare_session.proofs.Prunes.{counted_none, counted_failed, counted_more, counted_all}
use Rattle.fare_session.proofs.pruning.count_all.Goals as goal

pub loop-place-init : goal.loop-place-init
loop-place-init g c = counted_none (g.L.Ledger.standing c.args.ledger.now) c.args.lanes.now (g.met.L.Ledger.sound c.args.ledger.now)

pub returns-in_err-taken : goal.returns-in_err-taken
returns-in_err-taken g c =
    let lo = g.L.Ledger.standing c.args.ledger.now in
    let lm = g.L.Ledger.standing c.loop-place.ledger in
    let ln = g.L.Ledger.standing c.count.new.self in
    let f = c.in_err-taken.field-0.0 in
    let read : Stays lm ln (Some f) = stays_read lm ln (Some f) (Unit {0}) (g.met.L.Ledger.sound c.loop-place.ledger) c.in_err-taken.ensures in
    let is = err_from_is_err_and c.from_residual.result c.from_residual.ensures.1 in
    subst (AreCounted lo ln c.args.lanes.now c.loop-place.lanes) (sym (is.1 ∙ ap Err is.2)) (counted_failed lo lm c.args.lanes.now c.loop-place.lanes c.loop-place.place c.loop-place.invariant ln f read)

pub loop-place-preserved : goal.loop-place-preserved
loop-place-preserved g c =
    let lanes = c.loop-place.lanes in
    let k = c.loop-place.place in
    let p : ℕ × ℕ = get_or lanes k c.index-lanes-place.result in
    let here : slice_get lanes k ≡ Some p = slice_get-get_or lanes k c.index-lanes-place.result (omega arith) in
    let lo = g.L.Ledger.standing c.args.ledger.now in
    let lm = g.L.Ledger.standing c.loop-place.ledger in
    let ln = g.L.Ledger.standing c.count.new.self in
    let n = c.in_ok-taken.taken in
    let call : Reads lm ln (λ m. m ≡ length (lm.value.taken p.0)) (Ok n) = c.in_ok-taken.ensures in
    let read : Stays lm ln None = stays_read lm ln None (n ≡ length (lm.value.taken p.0)) (g.met.L.Ledger.sound c.loop-place.ledger) call in
    counted_more lo lm c.args.lanes.now lanes k c.loop-place.invariant ln p n here read (λ keeps. (call.value (call.stays refl keeps.clean) keeps.lawful).1.1)

pub returns : goal.returns
returns g c = counted_all (g.L.Ledger.standing c.args.ledger.now) (g.L.Ledger.standing c.loop-place.ledger) c.args.lanes.now c.loop-place.lanes c.loop-place.place c.loop-place.invariant tt (omega arith)
