use Rattle.std.proofs.Common.{◌≡◌, ◌≤◌, ◌<◌, ℕ, Some, None, true, false, length, set, refl, sym, ap, ◌∙◌, subst, arith}
use Rattle.std.specs.Prelude.{◌&&◌, Ok, Err, Option, is_some, option_map, slice_get}
use Rattle.circular_buffer.specs.Buffer.{Buffer}
use Rattle.fare_record.specs.declared.item.Item.{Item}
use Rattle.fare_scheme.specs.Words.{position_of_device, position_of_owner}
use Rattle.fare_route.specs.Cursors.{moved, undone}
use Rattle.fare_route.specs.Routing.{cursor_of, Asks, IsNextOf, changed}
use Rattle.fare_route.specs.declared.fault.UnknownDevice.{UnknownDevice}
use Rattle.fare_store.specs.declared.fault.Refused.{Refused}
use Rattle.fare_store.specs.declared.fault.Refused.TheVariants as refused
use Rattle.fare_side.specs.declared.owner.Owner.{Owner}
use Rattle.fare_event.specs.declared.reply.Reply.TheVariants as reply
use Rattle.fare_world.specs.Whole.{seen, owner_seen, shape}
use Rattle.fare_world.proofs.OwnersSeen.{shape_of, owner_at, within_seen, owners_set, owners_kept, owner_here, over}
use Rattle.fare_world.proofs.RoomLemmas.{rooms_of_owner, side_of_owner}
use Rattle.fare_world.proofs.ShowForward.{shown_unknown_owner, shown_forward_unknown, shown_idle, next_found, shown_forward_busy, cursor_stands, world_forwarded, owner_read, shown_forward_retired, retired_there}
use Rattle.fare_world.specs.System.{System}
use Rattle.fare_world.specs.Shown.{Shows}
use Rattle.fare_world.proofs.Showing.{some_of}
use Rattle.fare_side.proofs.Queues.{pushed}
use Rattle.fare_side.proofs.Queues as queues
use Rattle.fare_world.proofs.Forwarding.{some_changed, some_after, side_kept, its_owner, its_room, next_for, places_stay, places_undone, places_moved}
use Rattle.fare_event.specs.declared.reply.Refusal.TheVariants.{Busy, Retired}
use Rattle.fare_world.specs.Owning.{lane_room}
use Rattle.fare_route.specs.declared.cursor.Cursor.{Cursor}
use Rattle.fare_store.specs.Standing.{Reads}
use Rattle.fare_world.specs.Shown.{entry}
use Rattle.fare_world.proofs.Stores.{steps, same_stores, ledger_failed, ledger_stepped, both_failed, both_stepped, applied_err}
use Rattle.fare_world.specs.Owning as owning
use Rattle.fare_world.proofs.world.World.forward.Goals as goal

pub returns-in_default : goal.returns-in_default
returns-in_default g c =
    let w = seen g.O.Outbox.standing g.L.Ledger.standing c.args.self.now in
    steps g.O.Outbox.standing g.L.Ledger.standing c.args.self.now _ _ _ refl (same_stores _ _ refl refl) (λ s sh. shown_unknown_owner w.scheme (shape w) s c.args.owner c.args.device sh (sym c.owner_position.ensures.value ∙ c.in_default.is))

pub returns-then-is_none : goal.returns-then-is_none
returns-then-is_none g c =
    let w = seen g.O.Outbox.standing g.L.Ledger.standing c.args.self.now in
    let owner : position_of_owner w.scheme c.args.owner ≡ Some c.in-Some.at = sym c.owner_position.ensures.value ∙ c.in-Some.is in
    let none : is_some (position_of_device w.scheme c.args.device) ≡ false = ap is_some (sym c.device_position.ensures.value) ∙ c.if-is_none.ensures in
    steps g.O.Outbox.standing g.L.Ledger.standing c.args.self.now _ _ _ refl (same_stores _ _ refl refl) (λ s sh. shown_forward_unknown w.scheme (shape w) s c.args.owner c.args.device c.in-Some.at sh owner none)

pub unreachable-requires : goal.unreachable-requires
unreachable-requires g c =
    let w = seen g.O.Outbox.standing g.L.Ledger.standing c.args.self.now in
    let o = c.args.owner in
    let d = c.args.device in
    let a = c.in-Some.at in
    let y = c.index_mut-side.result.now in
    let xs = c.args.self.now.owners.items in
    let owner : position_of_owner w.scheme o ≡ Some a = sym c.owner_position.ensures.value ∙ c.in-Some.is in
    let within : a < length xs = omega (arith, c.in-Some.ensures.within, c.args.self.now.rooms.owner_count) in
    let here : slice_get xs a ≡ Some y = owner_here g.L.Ledger.standing xs a y within c.index_mut-side.ensures.value in
    let known : is_some (position_of_device w.scheme d) ≡ true = ap is_some (sym c.device_position.ensures.value) ∙ c.if-is_none.ensures in
    let has = side_of_owner c.args.self.now a y within c.index_mut-side.ensures.value in
    let cursor = some_of (cursor_of y.forwarder d) (has.forwarder.each d known) in
    let device = some_of (position_of_device w.scheme d) known in
    let none : cursor_of y.forwarder d ≡ None = c.next.ensures.unknown.0 (c.in-Err-Because.is ∙ ap Err c.in-Err-Because.field-0-is) in
    let both : None ≡ Some cursor.0 = sym none ∙ cursor.1 in
    absurd (cc)

pub invariant_of-self-in-Break-1 : goal.invariant_of-self-in-Break-1
invariant_of-self-in-Break-1 g c =
    let y = c.index_mut-side.result.now in
    let within : c.in-Some.at < length c.args.self.now.owners.items = omega (arith, c.in-Some.ensures.within, c.args.self.now.rooms.owner_count) in
    record { rooms = rooms_of_owner c.args.self.now c.in-Some.at y (record y { ledger = c.retired.new.self }) within c.index_mut-side.ensures.value (λ h. record { forwarder = h.forwarder; queue = h.queue; standings = h.standings }) }

pub returns-in_err-retired : goal.returns-in_err-retired
returns-in_err-retired g c =
    let w = seen g.O.Outbox.standing g.L.Ledger.standing c.args.self.now in
    let y = c.index_mut-side.result.now in
    let xs = c.args.self.now.owners.items in
    let owner : position_of_owner w.scheme c.args.owner ≡ Some c.in-Some.at = sym c.owner_position.ensures.value ∙ c.in-Some.is in
    let within : c.in-Some.at < length xs = omega (arith, c.in-Some.ensures.within, c.args.self.now.rooms.owner_count) in
    let here : slice_get xs c.in-Some.at ≡ Some y = owner_here g.L.Ledger.standing xs c.in-Some.at y within c.index_mut-side.ensures.value in
    let did : Reads (g.L.Ledger.standing y.ledger) (g.L.Ledger.standing c.retired.new.self) (λ b. b ≡ (g.L.Ledger.standing y.ledger).value.retired c.args.device) (Err c.in_err-retired.field-0.0) = c.in_err-retired.ensures in
    let device : is_some (position_of_device w.scheme c.args.device) ≡ true = ap is_some (sym c.device_position.ensures.value) ∙ c.if-is_none.ensures in
    applied_err g.O.Outbox.standing g.L.Ledger.standing c.args.self.now _ _ c.from_residual.result _ c.from_residual.ensures.1 (ledger_failed g.O.Outbox.standing g.L.Ledger.standing c.args.self.now _ _ _ c.in-Some.at y (record y { ledger = c.retired.new.self }) _ _ refl refl here refl did
    (λ is i. record (shape w) { owners = λ j. entry (position_of_owner w.scheme j) (owners_kept g.L.Ledger.standing xs c.in-Some.at y (record y { ledger = c.retired.new.self }) c.index_mut-side.ensures.value (λ k. record (owner_seen g.L.Ledger.standing y) { ledger = is.0 k }) i) })
    (λ s sh i. is_some (owner i) && device i))

pub invariant_of-self-then-branch : goal.invariant_of-self-then-branch
invariant_of-self-then-branch g c =
    let y = c.index_mut-side.result.now in
    let within : c.in-Some.at < length c.args.self.now.owners.items = omega (arith, c.in-Some.ensures.within, c.args.self.now.rooms.owner_count) in
    record { rooms = rooms_of_owner c.args.self.now c.in-Some.at y (record y { ledger = c.retired.new.self }) within c.index_mut-side.ensures.value (λ h. record { forwarder = h.forwarder; queue = h.queue; standings = h.standings }) }

pub returns-then-branch : goal.returns-then-branch
returns-then-branch g c =
    let w = seen g.O.Outbox.standing g.L.Ledger.standing c.args.self.now in
    let o = c.args.owner in
    let d = c.args.device in
    let a = c.in-Some.at in
    let y = c.index_mut-side.result.now in
    let xs = c.args.self.now.owners.items in
    let owner : position_of_owner w.scheme o ≡ Some a = sym c.owner_position.ensures.value ∙ c.in-Some.is in
    let within : a < length xs = omega (arith, c.in-Some.ensures.within, c.args.self.now.rooms.owner_count) in
    let here : slice_get xs a ≡ Some y = owner_here g.L.Ledger.standing xs a y within c.index_mut-side.ensures.value in
    let known : is_some (position_of_device w.scheme d) ≡ true = ap is_some (sym c.device_position.ensures.value) ∙ c.if-is_none.ensures in
    let device = some_of (position_of_device w.scheme d) known in
    let new : Owner g.row.L.Denot = record y { ledger = c.retired.new.self } in
    let first : Reads (g.L.Ledger.standing y.ledger) (g.L.Ledger.standing c.retired.new.self) (λ b. b ≡ (g.L.Ledger.standing y.ledger).value.retired d) (Ok c.in_ok-retired.field-0) = c.in_ok-retired.ensures in
    ledger_stepped g.O.Outbox.standing g.L.Ledger.standing c.args.self.now _ _ _ a y new _ _ refl refl here refl first (λ s is sh.
    over w w.outbox _ w.owners _ (owning.forward w.scheme s o d) (reply.Refused Retired) refl (owners_kept g.L.Ledger.standing xs a y new c.index_mut-side.ensures.value (λ i. record (owner_seen g.L.Ledger.standing y) { ledger = is.0 i }))
    (shown_forward_retired w.scheme (shape w) s o d a device.0 sh owner device.1
    (retired_there w.scheme (shape w) s o d (owner_seen g.L.Ledger.standing y) true sh (owner_read w o a (owner_seen g.L.Ledger.standing y) owner (within_seen g.L.Ledger.standing xs a within) (owner_at g.L.Ledger.standing xs a y within c.index_mut-side.ensures.value)) (sym is.1 ∙ c.if-branch.true))))

pub invariant_of-self-in-Err-1 : goal.invariant_of-self-in-Err-1
invariant_of-self-in-Err-1 g c =
    let y = c.index_mut-side.result.now in
    let within : c.in-Some.at < length c.args.self.now.owners.items = omega (arith, c.in-Some.ensures.within, c.args.self.now.rooms.owner_count) in
    record { rooms = rooms_of_owner c.args.self.now c.in-Some.at y (record y { ledger = c.retired.new.self; forwarder = c.next.new.self }) within c.index_mut-side.ensures.value (side_kept c.args.self.now.scheme c.in-Some.at y (record y { ledger = c.retired.new.self; forwarder = c.next.new.self }) (some_after c.next.result (cursor_of y.forwarder) (cursor_of c.next.new.self) c.args.device c.next.ensures.moved c.next.ensures.unmoved) c.next.ensures.owner refl refl) }

pub returns-in-Err-Failed : goal.returns-in-Err-Failed
returns-in-Err-Failed g c =
    let w = seen g.O.Outbox.standing g.L.Ledger.standing c.args.self.now in
    let o = c.args.owner in
    let d = c.args.device in
    let a = c.in-Some.at in
    let y = c.index_mut-side.result.now in
    let xs = c.args.self.now.owners.items in
    let owner : position_of_owner w.scheme o ≡ Some a = sym c.owner_position.ensures.value ∙ c.in-Some.is in
    let within : a < length xs = omega (arith, c.in-Some.ensures.within, c.args.self.now.rooms.owner_count) in
    let here : slice_get xs a ≡ Some y = owner_here g.L.Ledger.standing xs a y within c.index_mut-side.ensures.value in
    let known : is_some (position_of_device w.scheme d) ≡ true = ap is_some (sym c.device_position.ensures.value) ∙ c.if-is_none.ensures in
    let has = side_of_owner c.args.self.now a y within c.index_mut-side.ensures.value in
    let cursor = some_of (cursor_of y.forwarder d) (has.forwarder.each d known) in
    let device = some_of (position_of_device w.scheme d) known in
    let new : Owner g.row.L.Denot = record y { ledger = c.retired.new.self; forwarder = c.next.new.self } in
    let did = subst (λ (v : Refused UnknownDevice). Asks {R = UnknownDevice} (g.O.Outbox.standing c.args.self.now.outbox) (g.O.Outbox.standing c.next.new.outbox) (IsNextOf w.outbox y.forwarder.owner d (cursor_of y.forwarder d)) (Err v)) (c.in-Err-Failed.field-0-is ∙ ap refused.Failed (sym c.in-Err-Failed.fault-is)) c.in-Err-Failed.ensures.read in
    let first : Reads (g.L.Ledger.standing y.ledger) (g.L.Ledger.standing c.retired.new.self) (λ b. b ≡ (g.L.Ledger.standing y.ledger).value.retired d) (Ok c.in_ok-retired.field-0) = c.in_ok-retired.ensures in
    both_failed g.O.Outbox.standing g.L.Ledger.standing c.args.self.now _ _ _ a y new _ _ _ _ refl here refl first did
    (λ read is i. shape_of w (is.0 i) (owners_kept g.L.Ledger.standing xs a y new c.index_mut-side.ensures.value (λ k. record (owner_seen g.L.Ledger.standing y) { ledger = read.0 k; cursors = λ e. ap (option_map (λ (z : Cursor). (z.lane, z.day))) (c.in-Err-Failed.ensures.unmoved e) k }) i))
    (λ s sh i. is_some (owner i) && known i)

pub invariant_of-self-in_default-item : goal.invariant_of-self-in_default-item
invariant_of-self-in_default-item g c =
    let y = c.index_mut-side.result.now in
    let within : c.in-Some.at < length c.args.self.now.owners.items = omega (arith, c.in-Some.ensures.within, c.args.self.now.rooms.owner_count) in
    record { rooms = rooms_of_owner c.args.self.now c.in-Some.at y (record y { ledger = c.retired.new.self; forwarder = c.next.new.self }) within c.index_mut-side.ensures.value (side_kept c.args.self.now.scheme c.in-Some.at y (record y { ledger = c.retired.new.self; forwarder = c.next.new.self }) (some_after c.next.result (cursor_of y.forwarder) (cursor_of c.next.new.self) c.args.device c.next.ensures.moved c.next.ensures.unmoved) c.next.ensures.owner refl refl) }

pub returns-in_default-item : goal.returns-in_default-item
returns-in_default-item g c =
    let w = seen g.O.Outbox.standing g.L.Ledger.standing c.args.self.now in
    let o = c.args.owner in
    let d = c.args.device in
    let a = c.in-Some.at in
    let y = c.index_mut-side.result.now in
    let xs = c.args.self.now.owners.items in
    let owner : position_of_owner w.scheme o ≡ Some a = sym c.owner_position.ensures.value ∙ c.in-Some.is in
    let within : a < length xs = omega (arith, c.in-Some.ensures.within, c.args.self.now.rooms.owner_count) in
    let here : slice_get xs a ≡ Some y = owner_here g.L.Ledger.standing xs a y within c.index_mut-side.ensures.value in
    let known : is_some (position_of_device w.scheme d) ≡ true = ap is_some (sym c.device_position.ensures.value) ∙ c.if-is_none.ensures in
    let has = side_of_owner c.args.self.now a y within c.index_mut-side.ensures.value in
    let cursor = some_of (cursor_of y.forwarder d) (has.forwarder.each d known) in
    let device = some_of (position_of_device w.scheme d) known in
    let new : Owner g.row.L.Denot = record y { ledger = c.retired.new.self; forwarder = c.next.new.self } in
    let did : Asks {R = UnknownDevice} (g.O.Outbox.standing c.args.self.now.outbox) (g.O.Outbox.standing c.next.new.outbox) (IsNextOf w.outbox y.forwarder.owner d (cursor_of y.forwarder d)) (Ok None) = subst (λ (v : Option Item). Asks {R = UnknownDevice} (g.O.Outbox.standing c.args.self.now.outbox) (g.O.Outbox.standing c.next.new.outbox) (IsNextOf w.outbox y.forwarder.owner d (cursor_of y.forwarder d)) (Ok v)) c.in_default-item.is c.in-Ok.ensures.read in
    let moves = subst (λ (v : Option Item). (e : ℕ) → cursor_of c.next.new.self e ≡ changed (moved v) (cursor_of y.forwarder) d e) c.in_default-item.is c.in-Ok.ensures.moved in
    let stands = λ (s : System) (sh : Shows w.scheme (shape w) s). cursor_stands w.scheme (shape w) s o d a (owner_seen g.L.Ledger.standing y) (cursor.0.lane, cursor.0.day) sh owner known (owner_read w o a (owner_seen g.L.Ledger.standing y) owner (within_seen g.L.Ledger.standing xs a within) (owner_at g.L.Ledger.standing xs a y within c.index_mut-side.ensures.value)) (ap (option_map (λ (z : Cursor). (z.lane, z.day))) cursor.1) in
    let first : Reads (g.L.Ledger.standing y.ledger) (g.L.Ledger.standing c.retired.new.self) (λ b. b ≡ (g.L.Ledger.standing y.ledger).value.retired d) (Ok c.in_ok-retired.field-0) = c.in_ok-retired.ensures in
    let works = λ (s : System) (sh : Shows w.scheme (shape w) s) (is : c.in_ok-retired.field-0 ≡ (g.L.Ledger.standing y.ledger).value.retired d). retired_there w.scheme (shape w) s o d (owner_seen g.L.Ledger.standing y) false sh (owner_read w o a (owner_seen g.L.Ledger.standing y) owner (within_seen g.L.Ledger.standing xs a within) (owner_at g.L.Ledger.standing xs a y within c.index_mut-side.ensures.value)) (sym is ∙ c.if-branch.false) in
    both_stepped g.O.Outbox.standing g.L.Ledger.standing c.args.self.now _ _ _ a y new _ _ _ _ refl here refl first did (λ s read is sh.
    over w w.outbox _ w.owners _ (owning.forward w.scheme s o d) reply.Idle is.0
    (owners_kept g.L.Ledger.standing xs a y new c.index_mut-side.ensures.value (λ k. record (owner_seen g.L.Ledger.standing y) { ledger = read.0 k; cursors = λ e. places_stay (cursor_of y.forwarder) (cursor_of c.next.new.self) d moves e k }))
    (shown_idle w.scheme (shape w) s o d a device.0 sh owner device.1 (works s sh read.1)
    (next_found w.scheme (shape w) s o d cursor.0 None c.args.self.now.rooms.start sh (stands s sh).0 (stands s sh).1 (next_for w.outbox y.forwarder.owner o d (cursor_of y.forwarder d) cursor.0 None (its_owner w.scheme a o y owner has) cursor.1 is.1))))

pub invariant_of-self-then-is_err : goal.invariant_of-self-then-is_err
invariant_of-self-then-is_err g c =
    let y = c.index_mut-side.result.now in
    let within : c.in-Some.at < length c.args.self.now.owners.items = omega (arith, c.in-Some.ensures.within, c.args.self.now.rooms.owner_count) in
    let left = queues.refused c.try_push_back.result y.queue c.try_push_back.new.self c.in-Some-item.item (sym c.is_err.ensures.value ∙ c.if-is_err.true) c.try_push_back.ensures.variant c.try_push_back.ensures.err in
    let new = record y { ledger = c.retired.new.self; queue = c.try_push_back.new.self; forwarder = c.put_back.new.self } in
    record {
      rooms = rooms_of_owner c.args.self.now c.in-Some.at y new within c.index_mut-side.ensures.value (side_kept c.args.self.now.scheme c.in-Some.at y new
          (λ e. ap is_some (c.put_back.ensures.cursors e) ∙ some_changed undone (cursor_of c.next.new.self) c.args.device e ∙ (some_after c.next.result (cursor_of y.forwarder) (cursor_of c.next.new.self) c.args.device c.next.ensures.moved c.next.ensures.unmoved) e) (c.put_back.ensures.owner ∙ c.next.ensures.owner) (ap (λ (b : Buffer Item). b.capacity) left.1) refl);
    }

pub returns-then-is_err : goal.returns-then-is_err
returns-then-is_err g c =
    let w = seen g.O.Outbox.standing g.L.Ledger.standing c.args.self.now in
    let o = c.args.owner in
    let d = c.args.device in
    let a = c.in-Some.at in
    let y = c.index_mut-side.result.now in
    let xs = c.args.self.now.owners.items in
    let owner : position_of_owner w.scheme o ≡ Some a = sym c.owner_position.ensures.value ∙ c.in-Some.is in
    let within : a < length xs = omega (arith, c.in-Some.ensures.within, c.args.self.now.rooms.owner_count) in
    let here : slice_get xs a ≡ Some y = owner_here g.L.Ledger.standing xs a y within c.index_mut-side.ensures.value in
    let known : is_some (position_of_device w.scheme d) ≡ true = ap is_some (sym c.device_position.ensures.value) ∙ c.if-is_none.ensures in
    let has = side_of_owner c.args.self.now a y within c.index_mut-side.ensures.value in
    let cursor = some_of (cursor_of y.forwarder d) (has.forwarder.each d known) in
    let device = some_of (position_of_device w.scheme d) known in
    let new : Owner g.row.L.Denot = record y { ledger = c.retired.new.self; queue = c.try_push_back.new.self; forwarder = c.put_back.new.self } in
    let item = c.in-Some-item.item in
    let did : Asks {R = UnknownDevice} (g.O.Outbox.standing c.args.self.now.outbox) (g.O.Outbox.standing c.next.new.outbox) (IsNextOf w.outbox y.forwarder.owner d (cursor_of y.forwarder d)) (Ok (Some item)) = subst (λ (v : Option Item). Asks {R = UnknownDevice} (g.O.Outbox.standing c.args.self.now.outbox) (g.O.Outbox.standing c.next.new.outbox) (IsNextOf w.outbox y.forwarder.owner d (cursor_of y.forwarder d)) (Ok v)) c.in-Some-item.is c.in-Ok.ensures.read in
    let moves = subst (λ (v : Option Item). (e : ℕ) → cursor_of c.next.new.self e ≡ changed (moved v) (cursor_of y.forwarder) d e) c.in-Some-item.is c.in-Ok.ensures.moved in
    let left = queues.refused c.try_push_back.result y.queue c.try_push_back.new.self item (sym c.is_err.ensures.value ∙ c.if-is_err.true) c.try_push_back.ensures.variant c.try_push_back.ensures.err in
    let full : lane_room w.scheme o ≤ length y.queue.items = omega (arith, left.0, its_room w.scheme a o y owner has) in
    let stands = λ (s : System) (sh : Shows w.scheme (shape w) s). cursor_stands w.scheme (shape w) s o d a (owner_seen g.L.Ledger.standing y) (cursor.0.lane, cursor.0.day) sh owner known (owner_read w o a (owner_seen g.L.Ledger.standing y) owner (within_seen g.L.Ledger.standing xs a within) (owner_at g.L.Ledger.standing xs a y within c.index_mut-side.ensures.value)) (ap (option_map (λ (z : Cursor). (z.lane, z.day))) cursor.1) in
    let first : Reads (g.L.Ledger.standing y.ledger) (g.L.Ledger.standing c.retired.new.self) (λ b. b ≡ (g.L.Ledger.standing y.ledger).value.retired d) (Ok c.in_ok-retired.field-0) = c.in_ok-retired.ensures in
    let works = λ (s : System) (sh : Shows w.scheme (shape w) s) (is : c.in_ok-retired.field-0 ≡ (g.L.Ledger.standing y.ledger).value.retired d). retired_there w.scheme (shape w) s o d (owner_seen g.L.Ledger.standing y) false sh (owner_read w o a (owner_seen g.L.Ledger.standing y) owner (within_seen g.L.Ledger.standing xs a within) (owner_at g.L.Ledger.standing xs a y within c.index_mut-side.ensures.value)) (sym is ∙ c.if-branch.false) in
    both_stepped g.O.Outbox.standing g.L.Ledger.standing c.args.self.now _ _ _ a y new _ _ _ _ refl here refl first did (λ s read is sh.
    over w w.outbox _ w.owners _ (owning.forward w.scheme s o d) (reply.Refused Busy) is.0
    (owners_kept g.L.Ledger.standing xs a y new c.index_mut-side.ensures.value (λ k. record (owner_seen g.L.Ledger.standing y) { ledger = read.0 k; queue = (left.1 k).items; cursors = λ e. places_undone (cursor_of y.forwarder) (cursor_of c.next.new.self) (cursor_of c.put_back.new.self) d item moves c.put_back.ensures.cursors e k }))
    (shown_forward_busy w.scheme (shape w) s o d a device.0 (owner_seen g.L.Ledger.standing y) item sh owner device.1 (owner_read w o a (owner_seen g.L.Ledger.standing y) owner (within_seen g.L.Ledger.standing xs a within) (owner_at g.L.Ledger.standing xs a y within c.index_mut-side.ensures.value)) (works s sh read.1)
    (next_found w.scheme (shape w) s o d cursor.0 (Some item) c.args.self.now.rooms.start sh (stands s sh).0 (stands s sh).1 (next_for w.outbox y.forwarder.owner o d (cursor_of y.forwarder d) cursor.0 (Some item) (its_owner w.scheme a o y owner has) cursor.1 is.1)) full))

pub invariant_of-self-else-is_err : goal.invariant_of-self-else-is_err
invariant_of-self-else-is_err g c =
    let y = c.index_mut-side.result.now in
    let within : c.in-Some.at < length c.args.self.now.owners.items = omega (arith, c.in-Some.ensures.within, c.args.self.now.rooms.owner_count) in
    let put = pushed c.try_push_back.result y.queue c.try_push_back.new.self c.in-Some-item.item (sym c.is_err.ensures.value ∙ c.if-is_err.false) c.try_push_back.ensures.variant c.try_push_back.ensures.ok in
    let new = record y { ledger = c.retired.new.self; queue = c.try_push_back.new.self; forwarder = c.next.new.self } in
    record { rooms = rooms_of_owner c.args.self.now c.in-Some.at y new within c.index_mut-side.ensures.value (side_kept c.args.self.now.scheme c.in-Some.at y new (some_after c.next.result (cursor_of y.forwarder) (cursor_of c.next.new.self) c.args.device c.next.ensures.moved c.next.ensures.unmoved) c.next.ensures.owner (ap (λ (b : Buffer Item). b.capacity) put.1) refl) }

pub returns : goal.returns
returns g c =
    let w = seen g.O.Outbox.standing g.L.Ledger.standing c.args.self.now in
    let o = c.args.owner in
    let d = c.args.device in
    let a = c.in-Some.at in
    let y = c.index_mut-side.result.now in
    let xs = c.args.self.now.owners.items in
    let owner : position_of_owner w.scheme o ≡ Some a = sym c.owner_position.ensures.value ∙ c.in-Some.is in
    let within : a < length xs = omega (arith, c.in-Some.ensures.within, c.args.self.now.rooms.owner_count) in
    let here : slice_get xs a ≡ Some y = owner_here g.L.Ledger.standing xs a y within c.index_mut-side.ensures.value in
    let known : is_some (position_of_device w.scheme d) ≡ true = ap is_some (sym c.device_position.ensures.value) ∙ c.if-is_none.ensures in
    let has = side_of_owner c.args.self.now a y within c.index_mut-side.ensures.value in
    let cursor = some_of (cursor_of y.forwarder d) (has.forwarder.each d known) in
    let device = some_of (position_of_device w.scheme d) known in
    let new : Owner g.row.L.Denot = record y { ledger = c.retired.new.self; queue = c.try_push_back.new.self; forwarder = c.next.new.self } in
    let item = c.in-Some-item.item in
    let did : Asks {R = UnknownDevice} (g.O.Outbox.standing c.args.self.now.outbox) (g.O.Outbox.standing c.next.new.outbox) (IsNextOf w.outbox y.forwarder.owner d (cursor_of y.forwarder d)) (Ok (Some item)) = subst (λ (v : Option Item). Asks {R = UnknownDevice} (g.O.Outbox.standing c.args.self.now.outbox) (g.O.Outbox.standing c.next.new.outbox) (IsNextOf w.outbox y.forwarder.owner d (cursor_of y.forwarder d)) (Ok v)) c.in-Some-item.is c.in-Ok.ensures.read in
    let moves = subst (λ (v : Option Item). (e : ℕ) → cursor_of c.next.new.self e ≡ changed (moved v) (cursor_of y.forwarder) d e) c.in-Some-item.is c.in-Ok.ensures.moved in
    let put = pushed c.try_push_back.result y.queue c.try_push_back.new.self item (sym c.is_err.ensures.value ∙ c.if-is_err.false) c.try_push_back.ensures.variant c.try_push_back.ensures.ok in
    let room : length y.queue.items < lane_room w.scheme o = omega (arith, put.0, its_room w.scheme a o y owner has) in
    let stands = λ (s : System) (sh : Shows w.scheme (shape w) s). cursor_stands w.scheme (shape w) s o d a (owner_seen g.L.Ledger.standing y) (cursor.0.lane, cursor.0.day) sh owner known (owner_read w o a (owner_seen g.L.Ledger.standing y) owner (within_seen g.L.Ledger.standing xs a within) (owner_at g.L.Ledger.standing xs a y within c.index_mut-side.ensures.value)) (ap (option_map (λ (z : Cursor). (z.lane, z.day))) cursor.1) in
    let first : Reads (g.L.Ledger.standing y.ledger) (g.L.Ledger.standing c.retired.new.self) (λ b. b ≡ (g.L.Ledger.standing y.ledger).value.retired d) (Ok c.in_ok-retired.field-0) = c.in_ok-retired.ensures in
    let works = λ (s : System) (sh : Shows w.scheme (shape w) s) (is : c.in_ok-retired.field-0 ≡ (g.L.Ledger.standing y.ledger).value.retired d). retired_there w.scheme (shape w) s o d (owner_seen g.L.Ledger.standing y) false sh (owner_read w o a (owner_seen g.L.Ledger.standing y) owner (within_seen g.L.Ledger.standing xs a within) (owner_at g.L.Ledger.standing xs a y within c.index_mut-side.ensures.value)) (sym is ∙ c.if-branch.false) in
    both_stepped g.O.Outbox.standing g.L.Ledger.standing c.args.self.now _ _ _ a y new _ _ _ _ refl here refl first did (λ s read is sh.
    over w w.outbox _ (set w.owners a (owner_seen g.L.Ledger.standing new)) _ (owning.forward w.scheme s o d) c.forwarded.result is.0 (owners_set g.L.Ledger.standing xs a new)
    (world_forwarded w s o d a device.0 (owner_seen g.L.Ledger.standing y) (owner_seen g.L.Ledger.standing new) item (cursor.0.lane, cursor.0.day) c.forwarded.result sh owner device.1 (within_seen g.L.Ledger.standing xs a within) (owner_at g.L.Ledger.standing xs a y within c.index_mut-side.ensures.value) (ap (option_map (λ (z : Cursor). (z.lane, z.day))) cursor.1) (works s sh read.1)
    (next_found w.scheme (shape w) s o d cursor.0 (Some item) c.args.self.now.rooms.start sh (stands s sh).0 (stands s sh).1 (next_for w.outbox y.forwarder.owner o d (cursor_of y.forwarder d) cursor.0 (Some item) (its_owner w.scheme a o y owner has) cursor.1 is.1)) room
    (λ k. record (owner_seen g.L.Ledger.standing y) { ledger = read.0 k; queue = (put.1 k).items; cursors = λ e. places_moved (cursor_of y.forwarder) (cursor_of c.next.new.self) d cursor.0 item cursor.1 moves e k }) c.forwarded.ensures))
