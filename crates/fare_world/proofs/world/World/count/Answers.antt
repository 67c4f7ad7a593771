use Rattle.std.proofs.Common.{◌≡◌, ◌<◌, Some, true, false, length, refl, sym, ap, ◌∙◌, arith}
use Rattle.std.specs.Prelude.{◌&&◌, Ok, Err, is_some, slice_get}
use Rattle.fare_scheme.specs.Words.{position_of_device, position_of_owner}
use Rattle.fare_store.specs.Standing.{Reads}
use Rattle.fare_event.specs.declared.reply.Reply.TheVariants as reply
use Rattle.fare_world.specs.Whole.{seen, owner_seen, shape}
use Rattle.fare_world.proofs.OwnersSeen.{owner_at, within_seen, owners_kept, owner_here, over}
use Rattle.fare_world.proofs.RoomLemmas.{rooms_of_owner}
use Rattle.fare_world.proofs.Stores.{steps, same_stores, ledger_stepped, ledger_failed, applied_err}
use Rattle.fare_world.specs.Shown.{entry}
use Rattle.fare_world.proofs.ShowForward.{shown_count, owner_read, shown_count_unknown_owner, shown_count_unknown}
use Rattle.fare_world.specs.Steps as step
use Rattle.fare_world.proofs.world.World.count.Goals as goal

pub returns-in_default : goal.returns-in_default
returns-in_default g c =
    let w = seen g.O.Outbox.standing g.L.Ledger.standing c.args.self.now in
    steps g.O.Outbox.standing g.L.Ledger.standing c.args.self.now _ _ _ refl (same_stores _ _ refl refl) (λ s sh. shown_count_unknown_owner w.scheme (shape w) s c.args.owner c.args.device sh (sym c.owner_position.ensures.value ∙ c.in_default.is))

pub returns-then-is_none : goal.returns-then-is_none
returns-then-is_none g c =
    let w = seen g.O.Outbox.standing g.L.Ledger.standing c.args.self.now in
    let owner : position_of_owner w.scheme c.args.owner ≡ Some c.in-Some.at = sym c.owner_position.ensures.value ∙ c.in-Some.is in
    let none : is_some (position_of_device w.scheme c.args.device) ≡ false = ap is_some (sym c.device_position.ensures.value) ∙ c.if-is_none.ensures in
    steps g.O.Outbox.standing g.L.Ledger.standing c.args.self.now _ _ _ refl (same_stores _ _ refl refl) (λ s sh. shown_count_unknown w.scheme (shape w) s c.args.owner c.args.device c.in-Some.at sh owner none)

pub invariant_of-self : goal.invariant_of-self
invariant_of-self g c =
    let y = c.index_mut.result.now in
    let within : c.in-Some.at < length c.args.self.now.owners.items = omega (arith, c.in-Some.ensures.within, c.args.self.now.rooms.owner_count) in
    record { rooms = rooms_of_owner c.args.self.now c.in-Some.at y (record y { ledger = c.count.new.self }) within c.index_mut.ensures.value (λ h. record { forwarder = h.forwarder; queue = h.queue; standings = h.standings }) }

pub returns-in_err-count : goal.returns-in_err-count
returns-in_err-count g c =
    let w = seen g.O.Outbox.standing g.L.Ledger.standing c.args.self.now in
    let y = c.index_mut.result.now in
    let xs = c.args.self.now.owners.items in
    let owner : position_of_owner w.scheme c.args.owner ≡ Some c.in-Some.at = sym c.owner_position.ensures.value ∙ c.in-Some.is in
    let within : c.in-Some.at < length xs = omega (arith, c.in-Some.ensures.within, c.args.self.now.rooms.owner_count) in
    let here : slice_get xs c.in-Some.at ≡ Some y = owner_here g.L.Ledger.standing xs c.in-Some.at y within c.index_mut.ensures.value in
    let did : Reads (g.L.Ledger.standing y.ledger) (g.L.Ledger.standing c.count.new.self) (λ n. n ≡ length ((g.L.Ledger.standing y.ledger).value.taken c.args.device)) (Err c.in_err-count.field-0.0) = c.in_err-count.ensures in
    let device : is_some (position_of_device w.scheme c.args.device) ≡ true = ap is_some (sym c.device_position.ensures.value) ∙ c.if-is_none.ensures in
    applied_err g.O.Outbox.standing g.L.Ledger.standing c.args.self.now _ _ c.from_residual.result _ c.from_residual.ensures.1 (ledger_failed g.O.Outbox.standing g.L.Ledger.standing c.args.self.now _ _ _ c.in-Some.at y (record y { ledger = c.count.new.self }) _ _ refl refl here refl did
    (λ is i. record (shape w) { owners = λ j. entry (position_of_owner w.scheme j) (owners_kept g.L.Ledger.standing xs c.in-Some.at y (record y { ledger = c.count.new.self }) c.index_mut.ensures.value (λ k. record (owner_seen g.L.Ledger.standing y) { ledger = is.0 k }) i) })
    (λ s sh i. is_some (owner i) && device i))

pub returns : goal.returns
returns g c =
    let w = seen g.O.Outbox.standing g.L.Ledger.standing c.args.self.now in
    let y = c.index_mut.result.now in
    let xs = c.args.self.now.owners.items in
    let owner : position_of_owner w.scheme c.args.owner ≡ Some c.in-Some.at = sym c.owner_position.ensures.value ∙ c.in-Some.is in
    let within : c.in-Some.at < length xs = omega (arith, c.in-Some.ensures.within, c.args.self.now.rooms.owner_count) in
    let device : is_some (position_of_device w.scheme c.args.device) ≡ true = ap is_some (sym c.device_position.ensures.value) ∙ c.if-is_none.ensures in
    let did : Reads (g.L.Ledger.standing y.ledger) (g.L.Ledger.standing c.count.new.self) (λ n. n ≡ length ((g.L.Ledger.standing y.ledger).value.taken c.args.device)) (Ok c.in_ok-count.count) = c.in_ok-count.ensures in
    ledger_stepped g.O.Outbox.standing g.L.Ledger.standing c.args.self.now _ _ _ c.in-Some.at y (record y { ledger = c.count.new.self }) _ _ refl refl (owner_here g.L.Ledger.standing xs c.in-Some.at y within c.index_mut.ensures.value) refl did (λ s is sh.
    over w w.outbox _ w.owners _ (step.count w.scheme s c.args.owner c.args.device) (reply.Count c.in_ok-count.count) refl (owners_kept g.L.Ledger.standing xs c.in-Some.at y (record y { ledger = c.count.new.self }) c.index_mut.ensures.value (λ i. record (owner_seen g.L.Ledger.standing y) { ledger = is.0 i }))
    (shown_count w.scheme (shape w) s c.args.owner c.args.device c.in-Some.at (owner_seen g.L.Ledger.standing y) c.in_ok-count.count sh owner device (owner_read w c.args.owner c.in-Some.at (owner_seen g.L.Ledger.standing y) owner (within_seen g.L.Ledger.standing xs c.in-Some.at within) (owner_at g.L.Ledger.standing xs c.in-Some.at y within c.index_mut.ensures.value)) is.1))
