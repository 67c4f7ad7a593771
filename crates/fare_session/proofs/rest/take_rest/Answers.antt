use Rattle.std.proofs.Common.{◌≡◌, ◌≢◌, ◌++◌, [], ℕ, refl, None, Some, sym, ap, ◌∙◌, arith}
use Rattle.std.specs.Prelude.{slice_get}
use Rattle.std.specs.Result.{result_err}
use Rattle.std.proofs.lemmas.Option.{same_Some}
use Rattle.fare_scheme.proofs.Slices.{item_at}
use Rattle.fare_session.proofs.Forwards.{based_at, apart_at}
use Rattle.fare_session.specs.Resting.{IsRest}
use Rattle.fare_session.proofs.Takes.{handed}
use Rattle.fare_session.proofs.Devices.{knows}
use Rattle.fare_session.proofs.Rests.{rest_none, rest_stops, rest_held, rest_goes, rest_ended}
use Rattle.fare_session.proofs.rest.take_rest.Goals as goal

pub loop-base-init : goal.loop-base-init
loop-base-init g c = record {
  done = [];
  hand = c.requires.hand;
  now = rest_none c.args.bases.now (g.O.Outbox.standing c.args.outbox.now) (g.L.Ledger.standing c.args.ledger.now) c.args.forwarder.now c.args.taken.now (g.met.O.Outbox.sound c.args.outbox.now) (g.met.L.Ledger.sound c.args.ledger.now) c.requires.cursors;
}

pub take_device-requires-clause-cursors : goal.take_device-requires-clause-cursors
take_device-requires-clause-cursors g c =
    let bases = c.args.bases.now in
    let k = c.loop-base.base-index in
    let p : ℕ × ℕ = c.base-item.result in
    let at : slice_get bases k ≡ Some p = item_at bases k p c.loop-base-test.true c.base-item.is in
    knows bases (p.0, 0) c.loop-base.forwarder (based_at bases k p c.requires.apart at) c.loop-base.invariant.now.forwarded.cursors

pub returns-in_err-take_device : goal.returns-in_err-take_device
returns-in_err-take_device g c =
    let i = c.loop-base.invariant in
    let bases = c.args.bases.now in
    let k = c.loop-base.base-index in
    let p : ℕ × ℕ = c.base-item.result in
    let at : slice_get bases k ≡ Some p = item_at bases k p c.loop-base-test.true c.base-item.is in
    let xo = g.O.Outbox.standing c.args.outbox.now in
    let xn = g.O.Outbox.standing c.take_device.new.outbox in
    let lo = g.L.Ledger.standing c.args.ledger.now in
    let ln = g.L.Ledger.standing c.take_device.new.ledger in
    let f = c.in_err-take_device.field-0.0 in
    let some : Some f ≢ None = λ e. absurd (cc) in
    handed (λ z. IsRest bases xo xn lo ln c.args.forwarder.now c.take_device.new.forwarder (result_err z) c.args.taken.now c.take_device.new.taken c.take_device.new.hand) c.from_residual.result f c.from_residual.ensures.1
    (rest_stops bases xo (g.O.Outbox.standing c.loop-base.outbox) xn lo (g.L.Ledger.standing c.loop-base.ledger) ln c.args.forwarder.now c.loop-base.forwarder c.take_device.new.forwarder c.args.taken.now c.loop-base.taken c.take_device.new.taken k c.take_device.new.hand i.done p.0 (Some f) (based_at bases k p c.requires.apart at) i.now c.in_err-take_device.ensures some)

pub loop-base-preserved : goal.loop-base-preserved
loop-base-preserved g c =
    let i = c.loop-base.invariant in
    let bases = c.args.bases.now in
    let k = c.loop-base.base-index in
    let p : ℕ × ℕ = c.base-item.result in
    let at : slice_get bases k ≡ Some p = item_at bases k p c.loop-base-test.true c.base-item.is in
    let xo = g.O.Outbox.standing c.args.outbox.now in
    let xm = g.O.Outbox.standing c.loop-base.outbox in
    let xn = g.O.Outbox.standing c.take_device.new.outbox in
    let lo = g.L.Ledger.standing c.args.ledger.now in
    let lm = g.L.Ledger.standing c.loop-base.ledger in
    let ln = g.L.Ledger.standing c.take_device.new.ledger in
    let f = c.args.forwarder.now in
    let of = c.in_ok-take_device.ensures in
    record {
      done = i.done ++ of.rest.done;
      hand = rest_held bases xo xm xn lo lm ln f c.loop-base.forwarder c.take_device.new.forwarder c.args.taken.now c.loop-base.taken c.take_device.new.taken k c.take_device.new.hand i.done p.0 None (based_at bases k p c.requires.apart at) i.now of refl;
      now = rest_goes bases xo xm xn lo lm ln f c.loop-base.forwarder c.take_device.new.forwarder c.args.taken.now c.loop-base.taken c.take_device.new.taken k c.take_device.new.hand i.done p.0 None (based_at bases k p c.requires.apart at) i.now of refl
          (λ q there. ap (λ (z : ℕ × ℕ). z.0) (same_Some q p (sym there ∙ at))) (λ j q lt there e. apart_at bases j k q p c.requires.apart lt there at (sym e));
    }

pub returns : goal.returns
returns g c = rest_ended c.args.bases.now (g.O.Outbox.standing c.args.outbox.now) (g.O.Outbox.standing c.loop-base.outbox) (g.L.Ledger.standing c.args.ledger.now) (g.L.Ledger.standing c.loop-base.ledger) c.args.forwarder.now c.loop-base.forwarder c.args.taken.now c.loop-base.taken c.loop-base.base-index c.loop-base.hand
    c.loop-base.invariant.done (omega arith) c.loop-base.invariant.hand c.loop-base.invariant.now
