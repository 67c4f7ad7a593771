use Rattle.std.proofs.Common.{rules, ◌≡◌, ℕ, ◌+◌, [], ◌∷◌, ◌++◌, List, length, None, Some, refl, sym, ap, ◌∙◌, subst}
use Rattle.std.specs.Prelude.{Bool, Option, Result, Ok, Err}
use Rattle.std.proofs.lemmas.List.{append-nil, append_assoc}
use Rattle.std.proofs.lemmas.Result.{err_from_is_err_and}
use Rattle.fare_record.specs.declared.item.Item.{Item}
use Rattle.fare_lane_queue.specs.Lane.{base_of, lanes_of}
use Rattle.fare_lane_queue.specs.Passes.{sent_list, forward_bases}
use Rattle.fare_session.specs.declared.fault.SessionFault.{SessionFault}
use Rattle.fare_session.specs.Forwarding.{lane_after, AreBases, IsNextDue, IsDeviceForwarded}
use Rattle.fare_session.proofs.Forwards.{lane_more, far_more, forwarded_none, forwarded_more, forwarded_idle, forwarded_back, forwarded_failed, idle_behind, next_behind, due_device}
use Rattle.fare_session.proofs.Devices.{alone, base_alone, moves_none, moves_more, moves_idle, moves_back, moves_failed}
use Rattle.fare_session.proofs.forwarding.forward_device.Goals as goal

pub loop-init : goal.loop-init
loop-init g c =
    let p : ℕ × ℕ = c.args.base in
    let f = c.args.forwarder.now in
    record {
      queue = c.requires.queue;
      bases = refl;
      items = [];
      sent = sym (append-nil (sent_list c.args.pass.now));
      forwarded = forwarded_none (AreBases (p ∷ [])) (p ∷ []) (g.O.Outbox.standing c.args.outbox.now) f (g.met.O.Outbox.sound c.args.outbox.now) c.requires.cursors;
      moves = moves_none f;
      reached = c.requires.reached;
      far = λ d based. based.base p.0 (alone p) ∙ base_alone p;
    }

pub next_due-requires : goal.next_due-requires
next_due-requires g c = c.loop.invariant.forwarded.cursors c.args.base.0 (alone c.args.base)

pub returns-in_err-item-clause-queue : goal.returns-in_err-item-clause-queue
returns-in_err-item-clause-queue g c = (c.loop.invariant.queue, c.loop.invariant.bases)

pub returns-in_err-item-clause-forwarded : goal.returns-in_err-item-clause-forwarded
returns-in_err-item-clause-forwarded g c =
    let i = c.loop.invariant in
    let p : ℕ × ℕ = c.args.base in
    let xo = g.O.Outbox.standing c.args.outbox.now in
    let xm = g.O.Outbox.standing c.loop.outbox in
    let xn = g.O.Outbox.standing c.next_due.new.outbox in
    let f = c.args.forwarder.now in
    let e = c.in_err-item.field-0.0 in
    let nd : IsNextDue xm xn c.loop.forwarder c.next_due.new.forwarder p.0 c.loop.reached (Err e) = c.in_err-item.ensures in
    let is = err_from_is_err_and c.from_residual.result c.from_residual.ensures.1 in
    subst (λ (r : Result Bool SessionFault). IsDeviceForwarded p xo xn f c.next_due.new.forwarder (sent_list c.args.pass.now) (sent_list c.loop.pass) r) (sym (is.1 ∙ ap Err is.2)) (record {
      items = i.items;
      sent = i.sent;
      forwarded = forwarded_failed (AreBases (p ∷ [])) (p ∷ []) xo xm xn f c.loop.forwarder c.next_due.new.forwarder i.items p.0 c.loop.reached (alone p) (λ d far bs k. i.far d bs) i.forwarded e nd;
      moves = moves_failed xm xn f c.loop.forwarder c.next_due.new.forwarder i.items p.0 c.loop.reached i.moves e nd.cursors;
      idle = λ is. absurd (cc);
      left = λ is. absurd (cc);
    })

pub returns-in_default-clause-queue : goal.returns-in_default-clause-queue
returns-in_default-clause-queue g c = (c.loop.invariant.queue, c.loop.invariant.bases)

pub returns-in_default-clause-forwarded : goal.returns-in_default-clause-forwarded
returns-in_default-clause-forwarded g c =
    let i = c.loop.invariant in
    let p : ℕ × ℕ = c.args.base in
    let xm = g.O.Outbox.standing c.loop.outbox in
    let xn = g.O.Outbox.standing c.next_due.new.outbox in
    let f = c.args.forwarder.now in
    let nd : IsNextDue xm xn c.loop.forwarder c.next_due.new.forwarder p.0 c.loop.reached (Ok None) = subst (λ (o : Option Item). IsNextDue xm xn c.loop.forwarder c.next_due.new.forwarder p.0 c.loop.reached (Ok o)) c.in_default.is c.in_ok-item.ensures in
    record {
      items = i.items;
      sent = i.sent;
      forwarded = forwarded_idle (AreBases (p ∷ [])) (p ∷ []) (g.O.Outbox.standing c.args.outbox.now) xm xn f c.loop.forwarder c.next_due.new.forwarder i.items p.0 c.loop.reached (alone p) (λ d far bs k. i.far d bs) i.forwarded nd;
      moves = moves_idle xm xn f c.loop.forwarder c.next_due.new.forwarder i.items p.0 c.loop.reached i.moves nd;
      idle = λ is. idle_behind (AreBases (p ∷ [])) (p ∷ []) (g.O.Outbox.standing c.args.outbox.now) xm xn f c.loop.forwarder c.next_due.new.forwarder i.items p.0 c.loop.reached (alone p) (λ d far bs k. i.far d bs) i.forwarded nd;
      left = λ is. absurd (cc);
    }

pub returns-then-not-put_item-clause-queue : goal.returns-then-not-put_item-clause-queue
returns-then-not-put_item-clause-queue g c = (c.put_item.ensures.queue.0, c.put_item.ensures.queue.1 ∙ c.loop.invariant.bases)

pub returns-then-not-put_item-clause-forwarded : goal.returns-then-not-put_item-clause-forwarded
returns-then-not-put_item-clause-forwarded g c =
    let i = c.loop.invariant in
    let p : ℕ × ℕ = c.args.base in
    let x : Item = c.in-Some-2.item in
    let xm = g.O.Outbox.standing c.loop.outbox in
    let xn = g.O.Outbox.standing c.next_due.new.outbox in
    let f = c.args.forwarder.now in
    let h = c.next_due.new.forwarder in
    let z = c.put_back.new.self in
    let nd : IsNextDue xm xn c.loop.forwarder h p.0 c.loop.reached (Ok (Some x)) = subst (λ (o : Option Item). IsNextDue xm xn c.loop.forwarder h p.0 c.loop.reached (Ok o)) c.in-Some-2.is c.in_ok-item.ensures in
    let same : sent_list c.put_item.new.pass ≡ sent_list c.loop.pass = c.put_item.ensures.not_put (search rules) in
    record {
      items = i.items;
      sent = same ∙ i.sent;
      forwarded = forwarded_back (AreBases (p ∷ [])) (p ∷ []) (g.O.Outbox.standing c.args.outbox.now) xm xn f c.loop.forwarder h i.items p.0 c.loop.reached (alone p) (λ d far bs k. i.far d bs) i.forwarded x z nd c.put_back.ensures.cursors c.put_back.ensures.owner;
      moves = moves_back xm xn f c.loop.forwarder h i.items p.0 c.loop.reached i.moves x z nd c.put_back.ensures.cursors;
      idle = λ is. absurd (cc);
      left = λ is d far bs k. (x, due_device x p.0 c.loop.reached nd.found.1, next_behind (AreBases (p ∷ [])) (p ∷ []) (g.O.Outbox.standing c.args.outbox.now) xm xn f c.loop.forwarder h i.items p.0 c.loop.reached (alone p) (λ d far bs k. i.far d bs) i.forwarded x nd d far bs k);
    }

pub loop-preserved : goal.loop-preserved
loop-preserved g c =
    let i = c.loop.invariant in
    let p : ℕ × ℕ = c.args.base in
    let x : Item = c.in-Some-2.item in
    let xm = g.O.Outbox.standing c.loop.outbox in
    let xn = g.O.Outbox.standing c.next_due.new.outbox in
    let f = c.args.forwarder.now in
    let h = c.next_due.new.forwarder in
    let nd : IsNextDue xm xn c.loop.forwarder h p.0 c.loop.reached (Ok (Some x)) = subst (λ (o : Option Item). IsNextDue xm xn c.loop.forwarder h p.0 c.loop.reached (Ok o)) c.in-Some-2.is c.in_ok-item.ensures in
    let before = sent_list c.args.pass.now in
    let sent = sent_list c.loop.pass in
    let put : sent_list c.put_item.new.pass ≡ sent ++ x ∷ [] = c.put_item.ensures.put (search rules) in
    let after : c.lane_after-reached.result ≡ lane_after x c.loop.reached = c.lane_after-reached.ensures in
    let base = base_of (forward_bases c.args.pass.now) p.0 in
    record {
      queue = c.put_item.ensures.queue.0;
      bases = c.put_item.ensures.queue.1 ∙ i.bases;
      items = i.items ++ x ∷ [];
      sent = put ∙ ap (λ (l : List Item). l ++ x ∷ []) i.sent ∙ append_assoc before i.items (x ∷ []);
      forwarded = forwarded_more (AreBases (p ∷ [])) (p ∷ []) (g.O.Outbox.standing c.args.outbox.now) xm xn f c.loop.forwarder h i.items p.0 c.loop.reached (alone p) (λ d far bs k. i.far d bs) i.forwarded x nd;
      moves = moves_more xm xn f c.loop.forwarder h i.items p.0 c.loop.reached i.moves x nd;
      reached = after ∙ lane_more sent x p.0 c.loop.reached base nd.found.1 i.reached ∙ ap (λ (l : List Item). base + length (lanes_of p.0 l)) (sym put);
      far = λ d based. far_more i.items x d p.0 c.loop.reached nd.found.1 (i.far d based) ∙ sym after;
    }
