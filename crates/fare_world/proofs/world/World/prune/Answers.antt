use Rattle.std.proofs.Common.{◌≡◌, ◌<◌, Some, ℕ, true, false, length, refl, sym, ap, ◌∙◌, subst, arith, inl, inr}
use Rattle.std.specs.Prelude.{◌&&◌, Result, Ok, Err, is_some, slice_get}
use Rattle.fare_scheme.specs.Words.{position_of_device, position_of_owner}
use Rattle.fare_route.specs.declared.forwarder.Forwarder.{Forwarder}
use Rattle.fare_route.specs.Routing.{cursor_of}
use Rattle.fare_store.specs.declared.fault.Fault.{Fault}
use Rattle.fare_store.specs.OutboxWords.{pruned, rows_upto}
use Rattle.fare_store.specs.Standing.{Reads}
use Rattle.fare_event.specs.declared.reply.Reply.TheVariants as reply
use Rattle.fare_side.specs.Resuming.{place_of_cursor}
use Rattle.fare_world.specs.Owning as owning
use Rattle.fare_world.specs.Whole.{seen, owner_seen, shape}
use Rattle.fare_world.proofs.Forwarding.{side_kept}
use Rattle.fare_world.proofs.OwnersSeen.{owner_at, within_seen, owners_kept, owner_here, shape_of, over}
use Rattle.fare_world.proofs.RoomLemmas.{rooms_of_owner}
use Rattle.fare_world.proofs.ShowForward.{shown_prune, owner_read, shown_prune_unknown_owner, shown_prune_unknown}
use Rattle.fare_world.proofs.Showing.{Answers}
use Rattle.fare_world.proofs.Stores.{steps, same_stores, ledger_failed, both_failed, both_stepped, applied_err}
use Rattle.fare_world.proofs.world.World.prune.Goals as goal

pub returns-in_default : goal.returns-in_default
returns-in_default g c =
    let w = seen g.O.Outbox.standing g.L.Ledger.standing c.args.self.now in
    steps g.O.Outbox.standing g.L.Ledger.standing c.args.self.now _ _ _ refl (same_stores _ _ refl refl) (λ s sh. shown_prune_unknown_owner w.scheme (shape w) s c.args.owner c.args.device sh (sym c.owner_position.ensures.value ∙ c.in_default.is))

pub returns-then-is_none : goal.returns-then-is_none
returns-then-is_none g c =
    let w = seen g.O.Outbox.standing g.L.Ledger.standing c.args.self.now in
    let owner : position_of_owner w.scheme c.args.owner ≡ Some c.in-Some.at = sym c.owner_position.ensures.value ∙ c.in-Some.is in
    let none : is_some (position_of_device w.scheme c.args.device) ≡ false = ap is_some (sym c.device_position.ensures.value) ∙ c.if-is_none.ensures in
    steps g.O.Outbox.standing g.L.Ledger.standing c.args.self.now _ _ _ refl (same_stores _ _ refl refl) (λ s sh. shown_prune_unknown w.scheme (shape w) s c.args.owner c.args.device c.in-Some.at sh owner none)

pub invariant_of-self-2 : goal.invariant_of-self-2
invariant_of-self-2 g c =
    let y = c.index_mut.result.now in
    let z = c.prune.new.self in
    let within : c.in-Some.at < length c.args.self.now.owners.items = omega (arith, c.in-Some.ensures.within, c.args.self.now.rooms.owner_count) in
    record { rooms = rooms_of_owner c.args.self.now c.in-Some.at y z within c.index_mut.ensures.value (side_kept c.args.self.now.scheme c.in-Some.at y z (λ d. ap (λ (f : Forwarder). is_some (cursor_of f d)) c.prune.ensures.forwarder) (ap (λ (f : Forwarder). f.owner) c.prune.ensures.forwarder) (ap (λ b. b.capacity) c.prune.ensures.queue) c.prune.ensures.standings) }

pub returns-in_err-rows : goal.returns-in_err-rows
returns-in_err-rows g c =
    let w = seen g.O.Outbox.standing g.L.Ledger.standing c.args.self.now in
    let at = c.in-Some.at in
    let y = c.index_mut.result.now in
    let z = c.prune.new.self in
    let xs = c.args.self.now.owners.items in
    let owner : position_of_owner w.scheme c.args.owner ≡ Some at = sym c.owner_position.ensures.value ∙ c.in-Some.is in
    let device : is_some (position_of_device w.scheme c.args.device) ≡ true = ap is_some (sym c.device_position.ensures.value) ∙ c.if-is_none.ensures in
    let within : at < length xs = omega (arith, c.in-Some.ensures.within, c.args.self.now.rooms.owner_count) in
    let here : slice_get xs at ≡ Some y = owner_here g.L.Ledger.standing xs at y within c.index_mut.ensures.value in
    let is = c.in_err-rows.ensures in
    let queue : z.queue ≡ y.queue = is.queue in
    let hand : z.hand ≡ y.hand = is.hand in
    let forwarder : z.forwarder ≡ y.forwarder = is.forwarder in
    applied_err g.O.Outbox.standing g.L.Ledger.standing c.args.self.now _ _ c.from_residual.result _ c.from_residual.ensures.1 (elim is.pruned [
      | inl untold ↦
          let read : Reads (g.L.Ledger.standing y.ledger) (g.L.Ledger.standing z.ledger) (λ n. n ≡ length ((g.L.Ledger.standing y.ledger).value.taken c.args.device)) (Err c.in_err-rows.field-0.0) = subst (λ (r : Result ℕ Fault). Reads (g.L.Ledger.standing y.ledger) (g.L.Ledger.standing z.ledger) (λ n. n ≡ length ((g.L.Ledger.standing y.ledger).value.taken c.args.device)) r) (sym untold.failed) untold.read in
          ledger_failed g.O.Outbox.standing g.L.Ledger.standing c.args.self.now _ _ _ at y z _ _ refl untold.unasked here refl read
          (λ first i. shape_of w (g.O.Outbox.standing (untold.unasked i)).value (owners_kept g.L.Ledger.standing xs at y z c.index_mut.ensures.value (λ k. record { ledger = first.0 k; queue = (queue k).items; hand = hand k; cursors = place_of_cursor (forwarder k) }) i))
          (λ s sh i. is_some (owner i) && device i)
      | inr upto ↦
          both_failed g.O.Outbox.standing g.L.Ledger.standing c.args.self.now _ _ _ at y z _ _ _ _ refl here refl upto.read upto.removed
          (λ first removed i. shape_of w (removed i) (owners_kept g.L.Ledger.standing xs at y z c.index_mut.ensures.value (λ k. record { ledger = first.0 k; queue = (queue k).items; hand = hand k; cursors = place_of_cursor (forwarder k) }) i))
          (λ s sh i. is_some (owner i) && device i)
    ])

pub returns : goal.returns
returns g c =
    let w = seen g.O.Outbox.standing g.L.Ledger.standing c.args.self.now in
    let at = c.in-Some.at in
    let y = c.index_mut.result.now in
    let z = c.prune.new.self in
    let xs = c.args.self.now.owners.items in
    let owner : position_of_owner w.scheme c.args.owner ≡ Some at = sym c.owner_position.ensures.value ∙ c.in-Some.is in
    let device : is_some (position_of_device w.scheme c.args.device) ≡ true = ap is_some (sym c.device_position.ensures.value) ∙ c.if-is_none.ensures in
    let within : at < length xs = omega (arith, c.in-Some.ensures.within, c.args.self.now.rooms.owner_count) in
    let here : slice_get xs at ≡ Some y = owner_here g.L.Ledger.standing xs at y within c.index_mut.ensures.value in
    let is = c.in_ok-rows.ensures in
    let queue : z.queue ≡ y.queue = is.queue in
    let hand : z.hand ≡ y.hand = is.hand in
    let forwarder : z.forwarder ≡ y.forwarder = is.forwarder in
    elim is.pruned [
      | inl untold ↦ let both : ◌≡◌ {A = Result ℕ Fault} (Ok c.in_ok-rows.rows) (Err untold.fault) = untold.failed in absurd (cc)
      | inr upto ↦
          both_stepped g.O.Outbox.standing g.L.Ledger.standing c.args.self.now _ _ _ at y z _ _ _ _ refl here refl upto.read upto.removed (λ s first removed sh.
          subst (Answers w.scheme (shape_of w (g.O.Outbox.standing c.prune.new.outbox).value _) (owning.prune w.scheme s c.args.owner c.args.device)) (ap reply.Pruned (sym removed.0))
          (over w (pruned c.args.owner c.args.device upto.taken w.outbox) (g.O.Outbox.standing c.prune.new.outbox).value w.owners _ (owning.prune w.scheme s c.args.owner c.args.device) (reply.Pruned (rows_upto upto.taken (w.outbox.rows c.args.owner c.args.device))) removed.1
          (owners_kept g.L.Ledger.standing xs at y z c.index_mut.ensures.value (λ k. record { ledger = first.0 k; queue = (queue k).items; hand = hand k; cursors = place_of_cursor (forwarder k) }))
          (shown_prune w.scheme (shape w) s c.args.owner c.args.device at (owner_seen g.L.Ledger.standing y) upto.taken sh owner device (owner_read w c.args.owner at (owner_seen g.L.Ledger.standing y) owner (within_seen g.L.Ledger.standing xs at within) (owner_at g.L.Ledger.standing xs at y within c.index_mut.ensures.value)) first.1)))
    ]
