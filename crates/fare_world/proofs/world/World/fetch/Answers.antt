use Rattle.circular_buffer.specs.Buffer.{Buffer}
use Rattle.fare_record.specs.declared.item.Item.{Item}
use Rattle.fare_world.proofs.Lists.{none_left, front_and_rest}
use Rattle.std.proofs.Common.{drop}
use Rattle.std.proofs.Common.{◌≡◌, ◌<◌, Some, None, length, refl, sym, ap, ◌∙◌, subst, arith}
use Rattle.std.specs.Prelude.{slice_get}
use Rattle.fare_scheme.specs.Words.{position_of_owner}
use Rattle.fare_side.specs.declared.owner.Owner.{Owner}
use Rattle.fare_event.specs.declared.reply.Reply.TheVariants as reply
use Rattle.fare_world.specs.Whole.{seen, owner_seen, shape}
use Rattle.fare_world.proofs.OwnersSeen.{owner_at, within_seen, owners_set, owners_kept, owner_here, over}
use Rattle.fare_world.proofs.RoomLemmas.{rooms_of_owner}
use Rattle.fare_world.proofs.Stores.{steps, same_stores}
use Rattle.std.proofs.Common.{set, []}
use Rattle.std.proofs.lemmas.Option.{same_Some}
use Rattle.fare_world.proofs.Showing.{none_of, some_of}
use Rattle.fare_world.proofs.ShowForward.{shown_fetch_full, shown_fetch_empty, shown_fetch_unknown, world_fetched, owner_read}
use Rattle.fare_world.proofs.Stores.{same_ledgers}
use Rattle.fare_world.specs.Owning as owning
use Rattle.fare_world.proofs.world.World.fetch.Goals as goal

pub returns-in_default : goal.returns-in_default
returns-in_default g c =
    let w = seen g.O.Outbox.standing g.L.Ledger.standing c.args.self.now in
    steps g.O.Outbox.standing g.L.Ledger.standing c.args.self.now _ _ _ refl (same_stores _ _ refl refl) (λ s sh. shown_fetch_unknown w.scheme (shape w) s c.args.owner sh (sym c.owner_position.ensures.value ∙ c.in_default.is))

pub returns-then-is_some : goal.returns-then-is_some
returns-then-is_some g c =
    let w = seen g.O.Outbox.standing g.L.Ledger.standing c.args.self.now in
    let y = c.index.result.now in
    let xs = c.args.self.now.owners.items in
    let owner : position_of_owner w.scheme c.args.owner ≡ Some c.in-Some.at = sym c.owner_position.ensures.value ∙ c.in-Some.is in
    let within : c.in-Some.at < length xs = omega (arith, c.in-Some.ensures.within, c.args.self.now.rooms.owner_count) in
    let here : slice_get xs c.in-Some.at ≡ Some y = owner_here g.L.Ledger.standing xs c.in-Some.at y within c.index.ensures in
    let held = some_of y.hand (sym c.is_some.ensures ∙ c.if-is_some.true) in
    steps g.O.Outbox.standing g.L.Ledger.standing c.args.self.now _ _ _ refl (same_stores _ _ refl refl) (λ s sh. shown_fetch_full w.scheme (shape w) s c.args.owner c.in-Some.at (owner_seen g.L.Ledger.standing y) held.0 sh owner (owner_read w c.args.owner c.in-Some.at (owner_seen g.L.Ledger.standing y) owner (within_seen g.L.Ledger.standing xs c.in-Some.at within) (owner_at g.L.Ledger.standing xs c.in-Some.at y within c.index.ensures)) held.1)

pub invariant_of-self : goal.invariant_of-self
invariant_of-self g c =
    let y = c.index_mut-side.result.now in
    let within : c.in-Some.at < length c.args.self.now.owners.items = omega (arith, c.in-Some.ensures.within, c.args.self.now.rooms.owner_count) in
    record { rooms = rooms_of_owner c.args.self.now c.in-Some.at y (record y { queue = c.pop_front.new.self }) within c.index_mut-side.ensures.value (λ h. record { forwarder = h.forwarder; queue = h.queue ∙ ap Some (sym (ap (λ (b : Buffer Item). b.capacity) c.pop_front.ensures.items)); standings = h.standings }) }

pub invariant_of-self-2 : goal.invariant_of-self-2
invariant_of-self-2 g c =
    let y = c.index_mut-side.result.now in
    let within : c.in-Some.at < length c.args.self.now.owners.items = omega (arith, c.in-Some.ensures.within, c.args.self.now.rooms.owner_count) in
    record { rooms = rooms_of_owner c.args.self.now c.in-Some.at y (record y { queue = c.pop_front.new.self; hand = Some c.in-Some-pop_front.item }) within c.index_mut-side.ensures.value (λ h. record { forwarder = h.forwarder; queue = h.queue ∙ ap Some (sym (ap (λ (b : Buffer Item). b.capacity) c.pop_front.ensures.items)); standings = h.standings }) }

pub returns-in_default-pop_front : goal.returns-in_default-pop_front
returns-in_default-pop_front g c =
    let w = seen g.O.Outbox.standing g.L.Ledger.standing c.args.self.now in
    let y = c.index_mut-side.result.now in
    let xs = c.args.self.now.owners.items in
    let owner : position_of_owner w.scheme c.args.owner ≡ Some c.in-Some.at = sym c.owner_position.ensures.value ∙ c.in-Some.is in
    let within : c.in-Some.at < length xs = omega (arith, c.in-Some.ensures.within, c.args.self.now.rooms.owner_count) in
    let here : slice_get xs c.in-Some.at ≡ Some y = owner_here g.L.Ledger.standing xs c.in-Some.at y within c.index_mut-side.ensures.value in
    let one : c.index.result.now ≡ y = same_Some c.index.result.now y (sym (owner_here g.L.Ledger.standing xs c.in-Some.at c.index.result.now within c.index.ensures) ∙ here) in
    let hand : y.hand ≡ None = subst (λ (z : Owner g.row.L.Denot). z.hand ≡ None) one (none_of c.index.result.now.hand (sym c.is_some.ensures ∙ c.if-is_some.false)) in
    let empty : y.queue.items ≡ [] = none_left y.queue.items (sym c.pop_front.ensures.value ∙ c.in_default-pop_front.is) in
    let rest : c.pop_front.new.self.items ≡ [] = ap (λ (b : Buffer Item). b.items) c.pop_front.ensures.items ∙ ap (drop 1) empty in
    let new : Owner g.row.L.Denot = record y { queue = c.pop_front.new.self } in
    let kept = owners_kept g.L.Ledger.standing xs c.in-Some.at y new c.index_mut-side.ensures.value (λ i. record (owner_seen g.L.Ledger.standing y) { queue = (rest ∙ sym empty) i }) in
    steps g.O.Outbox.standing g.L.Ledger.standing c.args.self.now _ _ _ refl (same_ledgers g.O.Outbox.standing g.L.Ledger.standing _ _ c.in-Some.at y new refl refl here refl) (λ s sh. over w w.outbox w.outbox w.owners _ (owning.fetch w.scheme s c.args.owner) reply.Empty refl kept
    (shown_fetch_empty w.scheme (shape w) s c.args.owner c.in-Some.at (owner_seen g.L.Ledger.standing y) sh owner (owner_read w c.args.owner c.in-Some.at (owner_seen g.L.Ledger.standing y) owner (within_seen g.L.Ledger.standing xs c.in-Some.at within) (owner_at g.L.Ledger.standing xs c.in-Some.at y within c.index_mut-side.ensures.value)) hand empty))

pub returns : goal.returns
returns g c =
    let w = seen g.O.Outbox.standing g.L.Ledger.standing c.args.self.now in
    let y = c.index_mut-side.result.now in
    let xs = c.args.self.now.owners.items in
    let owner : position_of_owner w.scheme c.args.owner ≡ Some c.in-Some.at = sym c.owner_position.ensures.value ∙ c.in-Some.is in
    let within : c.in-Some.at < length xs = omega (arith, c.in-Some.ensures.within, c.args.self.now.rooms.owner_count) in
    let here : slice_get xs c.in-Some.at ≡ Some y = owner_here g.L.Ledger.standing xs c.in-Some.at y within c.index_mut-side.ensures.value in
    let one : c.index.result.now ≡ y = same_Some c.index.result.now y (sym (owner_here g.L.Ledger.standing xs c.in-Some.at c.index.result.now within c.index.ensures) ∙ here) in
    let hand : y.hand ≡ None = subst (λ (z : Owner g.row.L.Denot). z.hand ≡ None) one (none_of c.index.result.now.hand (sym c.is_some.ensures ∙ c.if-is_some.false)) in
    let row = c.in-Some-pop_front.item in
    let new : Owner g.row.L.Denot = record y { queue = c.pop_front.new.self; hand = Some row } in
    steps g.O.Outbox.standing g.L.Ledger.standing c.args.self.now _ _ _ refl (same_ledgers g.O.Outbox.standing g.L.Ledger.standing _ _ c.in-Some.at y new refl refl here refl) (λ s sh. over w w.outbox w.outbox (set w.owners c.in-Some.at (owner_seen g.L.Ledger.standing new)) _ (owning.fetch w.scheme s c.args.owner) c.fetched.result refl (owners_set g.L.Ledger.standing xs c.in-Some.at new)
    (world_fetched w s c.args.owner c.in-Some.at (owner_seen g.L.Ledger.standing y) (owner_seen g.L.Ledger.standing new) row c.fetched.result sh owner (within_seen g.L.Ledger.standing xs c.in-Some.at within) (owner_at g.L.Ledger.standing xs c.in-Some.at y within c.index_mut-side.ensures.value) hand (front_and_rest y.queue.items c.pop_front.new.self.items row (sym c.pop_front.ensures.value ∙ c.in-Some-pop_front.is) (ap (λ (b : Buffer Item). b.items) c.pop_front.ensures.items)) refl refl refl c.fetched.ensures))
