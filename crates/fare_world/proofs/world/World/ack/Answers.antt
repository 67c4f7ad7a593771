use Rattle.std.proofs.Common.{◌≡◌, ◌<◌, ◌≤◌, ◌++◌, ◌∷◌, [], Some, None, ℕ, length, refl, sym, ap, ◌∙◌, subst, arith}
use Rattle.std.specs.Prelude.{Option, Result, Ok, Err}
use Rattle.std.proofs.lemmas.Option.{same_Some}
use Rattle.circular_buffer.specs.Buffer.{Buffer}
use Rattle.fare_record.specs.declared.ack_item.AckItem.{AckItem}
use Rattle.fare_record.specs.declared.ack_item.AckItem.TheVariants as ack_item
use Rattle.fare_collector.specs.Collecting.{next_in}
use Rattle.fare_store.specs.declared.fault.Fault.{Fault}
use Rattle.fare_store.specs.Standing.{Reads}
use Rattle.fare_event.specs.declared.reply.Refusal.TheVariants as refusal
use Rattle.fare_event.specs.declared.reply.Reply.TheVariants as reply
use Rattle.fare_side.specs.Acknowledging.{line_after}
use Rattle.fare_world.specs.Rooms.{HasStation}
use Rattle.fare_world.specs.Shown.{Shape}
use Rattle.fare_world.specs.Storing as storing
use Rattle.fare_world.specs.Whole.{seen, station_shape, shape}
use Rattle.fare_world.proofs.RoomLemmas.{line_room, line_after_room, line_has_room, rooms_of_station}
use Rattle.fare_world.proofs.ShowLink.{shown_ack_unknown, shown_ack_busy, ack_may_fail}
use Rattle.fare_world.proofs.Showing.{Answers}
use Rattle.fare_world.proofs.ShowStation.{station_read, station_same}
use Rattle.fare_world.proofs.Stores.{steps, same_stores, outbox_stepped, outbox_failed, applied_err}
use Rattle.fare_world.proofs.WorldLink.{with_station, world_acked}
use Rattle.fare_world.proofs.world.World.ack.Goals as goal

pub returns-in_default : goal.returns-in_default
returns-in_default g c =
    let w = seen g.O.Outbox.standing g.L.Ledger.standing c.args.self.now in
    steps g.O.Outbox.standing g.L.Ledger.standing c.args.self.now _ _ _ refl (same_stores _ _ refl refl) (λ s sh. shown_ack_unknown w.scheme (shape w) s c.args.device sh c.in_default.ensures.none)

pub invariant_of-self : goal.invariant_of-self
invariant_of-self g c =
    let x = c.index_mut.result.now in
    record { rooms = rooms_of_station c.args.self.now c.in-Some.place x c.ack.new.self c.in-Some.ensures.within c.index_mut.ensures.value (ap (λ (b : Buffer AckItem). b.capacity) c.ack.ensures.line ∙ line_after_room x.line c.args.device c.ack.result) }

pub returns-in_err-upto : goal.returns-in_err-upto
returns-in_err-upto g c =
    let w = seen g.O.Outbox.standing g.L.Ledger.standing c.args.self.now in
    let k = c.in-Some.place in
    let x = c.index_mut.result.now in
    let y = c.ack.new.self in
    let has : HasStation w.scheme c.args.device k = c.in-Some.ensures.some in
    let is = c.in_err-upto.ensures in
    let here : length x.line.items < x.line.capacity = line_has_room (length x.line.items) x.line.capacity (λ full. let both : ◌≡◌ {A = Result (Option ℕ) Fault} (Err c.in_err-upto.field-0.0) (Ok None) = is.full.1 full in absurd (cc)) in
    let room = line_room c.args.self.now k x c.in-Some.ensures.within c.index_mut.ensures.value in
    let free : length x.line.items < w.scheme.inbox_capacity = omega (arith, room, here) in
    let did : Reads (g.O.Outbox.standing c.args.self.now.outbox) (g.O.Outbox.standing c.ack.new.outbox) (λ u. u ≡ Some (w.outbox.upto c.args.device)) (Err c.in_err-upto.field-0.0) = is.asked here in
    let collector : y.collector ≡ x.collector = is.collector in
    let line : y.line ≡ x.line = is.line in
    let same : station_shape y ≡ station_shape x = λ i. record { nexts = next_in (collector i); line = (line i).items } in
    applied_err g.O.Outbox.standing g.L.Ledger.standing c.args.self.now _ _ c.from_residual.result _ c.from_residual.ensures.1 (outbox_failed g.O.Outbox.standing g.L.Ledger.standing c.args.self.now _ _ _ _ _ refl refl did
    (λ kept i. record (shape w) { outbox = kept.0 i; stations = station_same w has.station k x y has.at c.in-Some.ensures.within c.index_mut.ensures.value same i })
    (λ s sh. ack_may_fail w.scheme (shape w) s c.args.device has.station (station_shape x) sh has.of (station_read w has.station k x has.at c.in-Some.ensures.within c.index_mut.ensures.value) free))

pub returns-in-Some-2 : goal.returns-in-Some-2
returns-in-Some-2 g c =
    let w = seen g.O.Outbox.standing g.L.Ledger.standing c.args.self.now in
    let d = c.args.device in
    let k = c.in-Some.place in
    let u = c.in-Some-2.upto in
    let x = c.index_mut.result.now in
    let y = c.ack.new.self in
    let is = c.in_ok-upto.ensures in
    let here : length x.line.items < x.line.capacity = line_has_room (length x.line.items) x.line.capacity (λ full. let both : ◌≡◌ {A = Result (Option ℕ) Fault} (Ok (Some u)) (Ok None) = ap Ok (sym c.in-Some-2.is) ∙ is.full.1 full in absurd (cc)) in
    let room = line_room c.args.self.now k x c.in-Some.ensures.within c.index_mut.ensures.value in
    let free : length x.line.items < w.scheme.inbox_capacity = omega (arith, room, here) in
    let did : Reads (g.O.Outbox.standing c.args.self.now.outbox) (g.O.Outbox.standing c.ack.new.outbox) (λ told. told ≡ Some (w.outbox.upto d)) (Ok c.in_ok-upto.field-0) = is.asked here in
    let gained : y.line.items ≡ x.line.items ++ ack_item.Upto (record { device = d; upto = u }) ∷ [] = ap (λ (b : Buffer AckItem). b.items) (is.line ∙ ap (λ (o : Option ℕ). line_after x.line d (Ok o)) c.in-Some-2.is) in
    outbox_stepped g.O.Outbox.standing g.L.Ledger.standing c.args.self.now _ _ _ _ _ refl refl did (λ s told sh.
    subst (λ o. Answers w.scheme (record (shape w) { outbox = o; stations = with_station w k y }) (storing.ack w.scheme s d) (reply.Acknowledged u)) (sym told.0)
    (world_acked w s d k u x y sh c.in-Some.ensures.some c.in-Some.ensures.within c.index_mut.ensures.value (same_Some u (w.outbox.upto d) (sym c.in-Some-2.is ∙ told.1)) is.collector gained free))

pub returns-in-None : goal.returns-in-None
returns-in-None g c =
    let w = seen g.O.Outbox.standing g.L.Ledger.standing c.args.self.now in
    let k = c.in-Some.place in
    let x = c.index_mut.result.now in
    let y = c.ack.new.self in
    let has : HasStation w.scheme c.args.device k = c.in-Some.ensures.some in
    let is = c.in_ok-upto.ensures in
    let room = line_room c.args.self.now k x c.in-Some.ensures.within c.index_mut.ensures.value in
    let here : x.line.capacity ≤ length x.line.items = is.full.0 (ap Ok c.in-None.is) in
    let full : w.scheme.inbox_capacity ≤ length x.line.items = omega (arith, room, here) in
    let outbox : c.ack.new.outbox ≡ c.args.self.now.outbox = is.unasked here in
    let collector : y.collector ≡ x.collector = is.collector in
    let line : y.line ≡ x.line = is.line ∙ ap (λ (o : Option ℕ). line_after x.line c.args.device (Ok o)) c.in-None.is in
    let same : station_shape y ≡ station_shape x = λ i. record { nexts = next_in (collector i); line = (line i).items } in
    let stays : ◌≡◌ {A = Shape} _ (shape w) = λ i. record (shape w) { outbox = (g.O.Outbox.standing (outbox i)).value; stations = station_same w has.station k x y has.at c.in-Some.ensures.within c.index_mut.ensures.value same i } in
    steps g.O.Outbox.standing g.L.Ledger.standing c.args.self.now _ _ _ refl (same_stores _ _ outbox refl) (λ s sh.
    subst (λ h. Answers w.scheme h (storing.ack w.scheme s c.args.device) (reply.Refused refusal.Busy)) (sym stays)
    (shown_ack_busy w.scheme (shape w) s c.args.device has.station (station_shape x) sh has.of (station_read w has.station k x has.at c.in-Some.ensures.within c.index_mut.ensures.value) full))
