use Rattle.std.proofs.Common.{◌≡◌, ◌++◌, ◌∷◌, [], length, None, Some, refl, sym, subst}
use Rattle.std.specs.Prelude.{Option, Ok}
use Rattle.std.specs.Result.{result_err}
use Rattle.fare_record.specs.declared.item.Item.{Item}
use Rattle.fare_store.specs.Standing.{Reads}
use Rattle.fare_session.specs.Resting.{IsDeviceRest}
use Rattle.fare_session.specs.Stores.{session_fault, stored_fault, Stays}
use Rattle.fare_session.specs.Forwarding.{IsNextDue}
use Rattle.fare_session.specs.Taking.{IsTaken}
use Rattle.fare_session.proofs.StoreCalls.{stays_read, leaves_fault}
use Rattle.fare_session.proofs.Takes.{stored_as, failed_owners, not_refused, handed}
use Rattle.fare_session.proofs.Devices.{alone}
use Rattle.fare_session.proofs.Rests.{by_itself, ReachedAt, device_none, device_unread, reached_none, device_idle, device_stopped, device_more, reached_more, device_refused}
use Rattle.fare_session.proofs.rest.take_device.Goals as goal

pub returns-in_err-reached : goal.returns-in_err-reached
returns-in_err-reached g c =
    let x = g.O.Outbox.standing c.args.outbox.now in
    let lo = g.L.Ledger.standing c.args.ledger.now in
    let ln = g.L.Ledger.standing c.count.new.self in
    let h = c.args.forwarder.now in
    let n = c.args.taken.now in
    let sound = g.met.L.Ledger.sound c.args.ledger.now in
    let f = c.in_err-reached.field-0.0 in
    let s = session_fault f in
    let read : Stays lo ln (Some f) = stays_read lo ln (Some f) (Unit {0}) sound c.in_err-reached.ensures in
    handed (λ z. IsDeviceRest c.args.device x x lo ln h h (result_err z) n n c.args.hand.now) c.from_residual.result s c.from_residual.ensures.1
    (device_unread c.args.device x lo ln h n (g.met.O.Outbox.sound c.args.outbox.now) sound c.requires.cursors s c.args.hand.now c.requires.hand (λ e. not_refused f s refl e) (failed_owners f s refl)
    (leaves_fault lo ln (Some f) (stored_fault (Some s)) lo.value (λ w. w ≡ lo.value) (stored_as f s refl) read))

pub loop-init : goal.loop-init
loop-init g c =
    let device = c.args.device in
    let x = g.O.Outbox.standing c.args.outbox.now in
    let lo = g.L.Ledger.standing c.args.ledger.now in
    let ln = g.L.Ledger.standing c.count.new.self in
    let f = c.args.forwarder.now in
    let sound = g.met.L.Ledger.sound c.args.ledger.now in
    let n = c.in_ok-reached.reached in
    let call : Reads lo ln (λ m. m ≡ length (lo.value.taken device)) (Ok n) = c.in_ok-reached.ensures in
    record {
      done = [];
      hand = c.requires.hand;
      now = device_none device x lo ln f c.args.taken.now (g.met.O.Outbox.sound c.args.outbox.now) sound c.requires.cursors (stays_read lo ln None (n ≡ length (lo.value.taken device)) sound call);
      at = reached_none device x lo ln f n (λ keeps. (call.value (call.stays refl keeps.clean) keeps.lawful).1.1);
    }

pub next_due-requires : goal.next_due-requires
next_due-requires g c = c.loop.invariant.now.forwarded.cursors c.args.device (alone (c.args.device, 0))

pub returns-in_default : goal.returns-in_default
returns-in_default g c =
    let i = c.loop.invariant in
    let device = c.args.device in
    let xm = g.O.Outbox.standing c.loop.outbox in
    let xn = g.O.Outbox.standing c.next_due.new.outbox in
    let lo = g.L.Ledger.standing c.args.ledger.now in
    let lm = g.L.Ledger.standing c.loop.ledger in
    let nd : IsNextDue xm xn c.loop.forwarder c.next_due.new.forwarder device c.loop.reached (Ok None) = subst (λ (z : Option Item). IsNextDue xm xn c.loop.forwarder c.next_due.new.forwarder device c.loop.reached (Ok z)) c.in_default.is c.in_ok-item.ensures in
    device_idle (g.O.Outbox.standing c.args.outbox.now) xm xn lo lm lm c.args.forwarder.now c.loop.forwarder c.next_due.new.forwarder c.args.taken.now c.loop.taken c.loop.taken i.done device c.loop.reached i.now i.at c.loop.hand i.hand nd

pub returns-in_err-item : goal.returns-in_err-item
returns-in_err-item g c =
    let i = c.loop.invariant in
    let xo = g.O.Outbox.standing c.args.outbox.now in
    let xn = g.O.Outbox.standing c.next_due.new.outbox in
    let lo = g.L.Ledger.standing c.args.ledger.now in
    let lm = g.L.Ledger.standing c.loop.ledger in
    let f = c.in_err-item.field-0.0 in
    handed (λ z. IsDeviceRest c.args.device xo xn lo lm c.args.forwarder.now c.next_due.new.forwarder (result_err z) c.args.taken.now c.loop.taken c.loop.hand) c.from_residual-in_err-item.result f c.from_residual-in_err-item.ensures.1
    (device_stopped xo (g.O.Outbox.standing c.loop.outbox) xn lo lm lm c.args.forwarder.now c.loop.forwarder c.next_due.new.forwarder c.args.taken.now c.loop.taken c.loop.taken i.done c.args.device c.loop.reached i.now i.at f c.loop.hand i.hand c.in_err-item.ensures)

pub returns-in_err-keep_item : goal.returns-in_err-keep_item
returns-in_err-keep_item g c =
    let i = c.loop.invariant in
    let device = c.args.device in
    let x : Item = c.in-Some-2.item in
    let xo = g.O.Outbox.standing c.args.outbox.now in
    let xm = g.O.Outbox.standing c.loop.outbox in
    let xn = g.O.Outbox.standing c.next_due.new.outbox in
    let lo = g.L.Ledger.standing c.args.ledger.now in
    let ln = g.L.Ledger.standing c.keep_item.new.ledger in
    let f = c.in_err-keep_item.field-0.0 in
    let nd : IsNextDue xm xn c.loop.forwarder c.next_due.new.forwarder device c.loop.reached (Ok (Some x)) = subst (λ (z : Option Item). IsNextDue xm xn c.loop.forwarder c.next_due.new.forwarder device c.loop.reached (Ok z)) c.in-Some-2.is c.in_ok-item.ensures in
    handed (λ z. IsDeviceRest device xo xn lo ln c.args.forwarder.now c.next_due.new.forwarder (result_err z) c.args.taken.now c.keep_item.new.taken 1) c.from_residual-in_err-keep_item.result f c.from_residual-in_err-keep_item.ensures.1
    (device_refused xo xm xn lo (g.L.Ledger.standing c.loop.ledger) ln c.args.forwarder.now c.loop.forwarder c.next_due.new.forwarder c.args.taken.now c.loop.taken c.keep_item.new.taken i.done device c.loop.reached i.now i.at
    x nd f c.in_err-keep_item.ensures)

pub loop-preserved : goal.loop-preserved
loop-preserved g c =
    let i = c.loop.invariant in
    let device = c.args.device in
    let x : Item = c.in-Some-2.item in
    let xo = g.O.Outbox.standing c.args.outbox.now in
    let xm = g.O.Outbox.standing c.loop.outbox in
    let xn = g.O.Outbox.standing c.next_due.new.outbox in
    let lo = g.L.Ledger.standing c.args.ledger.now in
    let lm = g.L.Ledger.standing c.loop.ledger in
    let ln = g.L.Ledger.standing c.keep_item.new.ledger in
    let f = c.args.forwarder.now in
    let nd : IsNextDue xm xn c.loop.forwarder c.next_due.new.forwarder device c.loop.reached (Ok (Some x)) = subst (λ (z : Option Item). IsNextDue xm xn c.loop.forwarder c.next_due.new.forwarder device c.loop.reached (Ok z)) c.in-Some-2.is c.in_ok-item.ensures in
    let took : IsTaken lm ln (x ∷ []) None [] None c.loop.taken c.keep_item.new.taken = c.in_ok-keep_item.ensures in
    record {
      done = i.done ++ x ∷ [];
      hand = refl;
      now = device_more xo xm xn lo lm ln f c.loop.forwarder c.next_due.new.forwarder c.args.taken.now c.loop.taken c.keep_item.new.taken i.done device c.loop.reached i.now i.at x nd took;
      at = subst (ReachedAt (by_itself device) xo xn lo ln f (i.done ++ x ∷ []) device) (sym c.lane_after-reached.ensures)
          (reached_more xo xm xn lo lm ln f c.loop.forwarder c.next_due.new.forwarder c.args.taken.now c.loop.taken c.keep_item.new.taken i.done device c.loop.reached i.now i.at x nd took);
    }
