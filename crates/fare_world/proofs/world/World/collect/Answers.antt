use Rattle.std.proofs.Common.{◌≤◌, Some, ap, ◌∙◌}
use Rattle.std.specs.Prelude.{IfSome}
use Rattle.circular_buffer.specs.Buffer.{Buffer}
use Rattle.fare_record.specs.declared.item.Item.{Item}
use Rattle.fare_record.specs.declared.item.Item.TheVariants as item
use Rattle.fare_scheme.specs.Words.{station_of}
use Rattle.fare_collector.specs.Collecting.{next_in, changed, one_back}
use Rattle.fare_collector.proofs.Changing.{undone_at}
use Rattle.fare_side.proofs.Queues.{pushed, refused}
use Rattle.fare_world.proofs.RoomLemmas.{rooms_of_station, rooms_of_inbox}
use Rattle.fare_world.proofs.ShowLink.{shown_stranger}
use Rattle.std.proofs.Common.{◌≡◌, ◌<◌, ◌++◌, ◌∷◌, [], length, refl, sym, subst, arith}
use Rattle.fare_world.specs.Rooms.{HasStation}
use Rattle.fare_world.specs.Whole.{seen, shape}
use Rattle.fare_world.proofs.WorldLink.{world_refused_tap, world_busy, world_accepted}
use Rattle.fare_world.proofs.Stores.{does, same_stores}
use Rattle.fare_world.proofs.world.World.collect.Goals as goal

pub returns-in-Err : goal.returns-in-Err
returns-in-Err g c =
    let w = seen g.O.Outbox.standing g.L.Ledger.standing c.args.self.now in
    let r = c.args.tapped in
    let k = c.in-Some.place in
    let x = c.index_mut.result.now in
    let has : HasStation w.scheme r.device k = subst (λ d. HasStation w.scheme d k) c.device.ensures c.in-Some.ensures.some in
    let within : k < length w.stations = c.in-Some.ensures.within in
    does g.O.Outbox.standing g.L.Ledger.standing c.args.self.now _ _ _ _ refl (same_stores _ _ refl refl) (λ s sh met. world_refused_tap w s k x c.accept.new.self w.inbox r c.in-Err.refusal c.named.result sh met has within c.index_mut.ensures.value (sym c.in-Err.ensures.judged) c.in-Err.ensures.unchanged refl c.named.ensures)

pub returns : goal.returns
returns g c =
    let w = seen g.O.Outbox.standing g.L.Ledger.standing c.args.self.now in
    let r = c.args.tapped in
    let k = c.in-Some.place in
    let x = c.index_mut.result.now in
    let e = c.in_default-accept.ensures in
    let has : HasStation w.scheme r.device k = subst (λ d. HasStation w.scheme d k) c.device.ensures c.in-Some.ensures.some in
    let within : k < length w.stations = c.in-Some.ensures.within in
    let put = pushed c.try_push_back.result c.args.self.now.inbox c.try_push_back.new.self (item.Tap r) (sym c.is_err.ensures.value ∙ c.if-is_err.false) c.try_push_back.ensures.variant c.try_push_back.ensures.ok in
    let room : length w.inbox < w.scheme.inbox_capacity = omega (arith, put.0, c.args.self.now.rooms.inbox_room) in
    let pushed : c.try_push_back.new.self.items ≡ w.inbox ++ item.Tap r ∷ [] = ap (λ (b : Buffer Item). b.items) put.1 in
    does g.O.Outbox.standing g.L.Ledger.standing c.args.self.now _ _ _ _ refl (same_stores _ _ refl refl) (λ s sh met. world_accepted w s k x c.accept.new.self c.try_push_back.new.self.items r sh met has within c.index_mut.ensures.value (sym e.judged) (e.ok.0 refl).0 e.advanced pushed room)

pub returns-then-is_err : goal.returns-then-is_err
returns-then-is_err g c =
    let w = seen g.O.Outbox.standing g.L.Ledger.standing c.args.self.now in
    let r = c.args.tapped in
    let k = c.in-Some.place in
    let x = c.index_mut.result.now in
    let e = c.in_default-accept.ensures in
    let has : HasStation w.scheme r.device k = subst (λ d. HasStation w.scheme d k) c.device.ensures c.in-Some.ensures.some in
    let within : k < length w.stations = c.in-Some.ensures.within in
    let left = refused c.try_push_back.result c.args.self.now.inbox c.try_push_back.new.self (item.Tap r) (sym c.is_err.ensures.value ∙ c.if-is_err.true) c.try_push_back.ensures.variant c.try_push_back.ensures.err in
    let full : w.scheme.inbox_capacity ≤ length w.inbox = omega (arith, left.0, c.args.self.now.rooms.inbox_room) in
    let due : next_in x.collector r.device ≡ Some r.link = (e.ok.0 refl).0 in
    does g.O.Outbox.standing g.L.Ledger.standing c.args.self.now _ _ _ _ refl (same_stores _ _ refl refl) (λ s sh met. world_busy w s k x c.unaccept.new.self c.try_push_back.new.self.items r sh met has within c.index_mut.ensures.value (sym e.judged)
    (λ d. c.unaccept.ensures.next d ∙ (λ i. changed one_back (λ j. e.advanced j i) (c.device-then-is_err.ensures i) d) ∙ undone_at (next_in x.collector) r.device (subst (λ o. IfSome o (λ n. 1 ≤ n)) (sym due) met.positive) d)
    (ap (λ (b : Buffer Item). b.items) left.1) full)

pub returns-in_default : goal.returns-in_default
returns-in_default g c =
    let w = seen g.O.Outbox.standing g.L.Ledger.standing c.args.self.now in
    let r = c.args.tapped in
    does g.O.Outbox.standing g.L.Ledger.standing c.args.self.now _ _ _ _ refl (same_stores _ _ refl refl) (λ s sh met. shown_stranger w.scheme (shape w) s r sh (ap (station_of w.scheme) (sym c.device.ensures) ∙ c.in_default.ensures.none))

pub invariant_of-self : goal.invariant_of-self
invariant_of-self g c =
    let x = c.index_mut.result.now in
    record { rooms = rooms_of_station c.args.self.now c.in-Some.place x (record x { collector = c.accept.new.self }) c.in-Some.ensures.within c.index_mut.ensures.value refl }

pub invariant_of-self-then-is_err : goal.invariant_of-self-then-is_err
invariant_of-self-then-is_err g c =
    let x = c.index_mut.result.now in
    let left = refused c.try_push_back.result c.args.self.now.inbox c.try_push_back.new.self (item.Tap c.args.tapped) (sym c.is_err.ensures.value ∙ c.if-is_err.true) c.try_push_back.ensures.variant c.try_push_back.ensures.err in
    record { rooms = rooms_of_inbox c.args.self.now _ c.try_push_back.new.self.capacity (ap (λ (b : Buffer Item). b.capacity) left.1) (rooms_of_station c.args.self.now c.in-Some.place x (record x { collector = c.unaccept.new.self }) c.in-Some.ensures.within c.index_mut.ensures.value refl) }

pub invariant_of-self-else-is_err : goal.invariant_of-self-else-is_err
invariant_of-self-else-is_err g c =
    let x = c.index_mut.result.now in
    let put = pushed c.try_push_back.result c.args.self.now.inbox c.try_push_back.new.self (item.Tap c.args.tapped) (sym c.is_err.ensures.value ∙ c.if-is_err.false) c.try_push_back.ensures.variant c.try_push_back.ensures.ok in
    record { rooms = rooms_of_inbox c.args.self.now _ c.try_push_back.new.self.capacity (ap (λ (b : Buffer Item). b.capacity) put.1) (rooms_of_station c.args.self.now c.in-Some.place x (record x { collector = c.accept.new.self }) c.in-Some.ensures.within c.index_mut.ensures.value refl) }
