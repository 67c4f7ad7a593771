use Rattle.std.proofs.Common.{◌≡◌, ℕ, ◌+◌, length, List, None, Some, sym, ap, ◌∙◌, subst, arith}
use Rattle.std.specs.Prelude.{slice_get, Ok, Err}
use Rattle.std.specs.Result.{result_err}
use Rattle.fare_record.specs.declared.item.Item.{Item}
use Rattle.fare_lane_queue.specs.Lane.{base_of, lanes_of}
use Rattle.fare_lane_queue.specs.Passes.{sent_list}
use Rattle.fare_scheme.proofs.Slices.{item_at}
use Rattle.fare_session.specs.Forwarding.{AreBases, Forwarded}
use Rattle.fare_session.proofs.Forwards.{begun, based_at, apart_at, forwarded_none}
use Rattle.fare_session.proofs.Takes.{handed}
use Rattle.fare_session.proofs.Devices.{knows, thread_then, lanes_apart}
use Rattle.fare_session.proofs.forwarding.forward_devices.Goals as goal

pub loop-base-init : goal.loop-base-init
loop-base-init g c =
    let bases = c.args.bases.now in
    let x = g.O.Outbox.standing c.args.outbox.now in
    let f = c.args.forwarder.now in
    record {
      queue = c.requires.queue;
      bases = c.requires.fresh.1;
      forwarded = subst (λ (l : List Item). Forwarded bases x x f f l None) (sym c.requires.fresh.0) (forwarded_none (AreBases bases) bases x f (g.met.O.Outbox.sound c.args.outbox.now) c.requires.cursors);
      fresh = λ k p le at. ap (lanes_of p.0) c.requires.fresh.0;
    }

pub forward_device-requires-clause-reached : goal.forward_device-requires-clause-reached
forward_device-requires-clause-reached g c =
    let i = c.loop-base.invariant in
    let bases = c.args.bases.now in
    let k = c.loop-base.base-index in
    let p : ℕ × ℕ = c.base-item.result in
    let at : slice_get bases k ≡ Some p = item_at bases k p c.loop-base-test.true c.base-item.is in
    let sent = sent_list c.loop-base.pass in
    subst (λ (b : List (ℕ × ℕ)). p.1 ≡ base_of b p.0 + length (lanes_of p.0 sent)) (sym i.bases) (begun bases sent k p c.requires.apart at (i.fresh k p (omega arith) at))

pub forward_device-requires-clause-cursors : goal.forward_device-requires-clause-cursors
forward_device-requires-clause-cursors g c =
    let bases = c.args.bases.now in
    let p : ℕ × ℕ = c.base-item.result in
    let at : slice_get bases c.loop-base.base-index ≡ Some p = item_at bases c.loop-base.base-index p c.loop-base-test.true c.base-item.is in
    knows bases p c.loop-base.forwarder (based_at bases c.loop-base.base-index p c.requires.apart at) c.loop-base.invariant.forwarded.cursors

pub returns-then-not-branch-clause-forwarded : goal.returns-then-not-branch-clause-forwarded
returns-then-not-branch-clause-forwarded g c =
    let i = c.loop-base.invariant in
    let bases = c.args.bases.now in
    let k = c.loop-base.base-index in
    let p : ℕ × ℕ = c.base-item.result in
    let at : slice_get bases k ≡ Some p = item_at bases k p c.loop-base-test.true c.base-item.is in
    thread_then bases k p (g.O.Outbox.standing c.args.outbox.now) (g.O.Outbox.standing c.loop-base.outbox) (g.O.Outbox.standing c.forward_device.new.outbox) c.args.forwarder.now c.loop-base.forwarder c.forward_device.new.forwarder (sent_list c.loop-base.pass) (sent_list c.forward_device.new.pass) (Ok c.in_ok-forward_device.field-0) c.requires.apart at (i.fresh k p (omega arith) at) i.forwarded c.in_ok-forward_device.ensures.forwarded

pub returns-in_err-forward_device-clause-forwarded : goal.returns-in_err-forward_device-clause-forwarded
returns-in_err-forward_device-clause-forwarded g c =
    let i = c.loop-base.invariant in
    let bases = c.args.bases.now in
    let k = c.loop-base.base-index in
    let p : ℕ × ℕ = c.base-item.result in
    let at : slice_get bases k ≡ Some p = item_at bases k p c.loop-base-test.true c.base-item.is in
    let f = c.in_err-forward_device.field-0.0 in
    handed (λ z. Forwarded bases (g.O.Outbox.standing c.args.outbox.now) (g.O.Outbox.standing c.forward_device.new.outbox) c.args.forwarder.now c.forward_device.new.forwarder (sent_list c.forward_device.new.pass) (result_err z)) c.from_residual.result f c.from_residual.ensures.1
    (thread_then bases k p (g.O.Outbox.standing c.args.outbox.now) (g.O.Outbox.standing c.loop-base.outbox) (g.O.Outbox.standing c.forward_device.new.outbox) c.args.forwarder.now c.loop-base.forwarder c.forward_device.new.forwarder (sent_list c.loop-base.pass) (sent_list c.forward_device.new.pass) (Err f) c.requires.apart at (i.fresh k p (omega arith) at) i.forwarded c.in_err-forward_device.ensures.forwarded)

pub loop-base-preserved : goal.loop-base-preserved
loop-base-preserved g c =
    let i = c.loop-base.invariant in
    let bases = c.args.bases.now in
    let k = c.loop-base.base-index in
    let p : ℕ × ℕ = c.base-item.result in
    let at : slice_get bases k ≡ Some p = item_at bases k p c.loop-base-test.true c.base-item.is in
    let sent = sent_list c.loop-base.pass in
    let of = c.in_ok-forward_device.ensures.forwarded in
    record {
      queue = c.forward_device.ensures.queue.0;
      bases = c.forward_device.ensures.queue.1 ∙ i.bases;
      forwarded = thread_then bases k p (g.O.Outbox.standing c.args.outbox.now) (g.O.Outbox.standing c.loop-base.outbox) (g.O.Outbox.standing c.forward_device.new.outbox) c.args.forwarder.now c.loop-base.forwarder c.forward_device.new.forwarder sent (sent_list c.forward_device.new.pass) (Ok c.in_ok-forward_device.field-0) c.requires.apart at (i.fresh k p (omega arith) at) i.forwarded of;
      fresh = λ j z le held. ap (lanes_of z.0) of.sent ∙ lanes_apart p sent of.items z.0 (apart_at bases k j p z c.requires.apart (omega (arith, le)) at held) of.forwarded.known ∙ i.fresh j z (omega (arith, le)) held;
    }

pub returns : goal.returns
returns g c = record { queue = c.loop-base.invariant.queue; forwarded = c.loop-base.invariant.forwarded }
