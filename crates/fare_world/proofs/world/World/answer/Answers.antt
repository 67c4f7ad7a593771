use Rattle.fare_world.proofs.Lists.{none_left, front_and_rest}
use Rattle.std.proofs.lemmas.Option.{slice_get_within}
use Rattle.std.proofs.Common.{Some}
use Rattle.std.specs.Prelude.{slice_get}
use Rattle.fare_world.proofs.RoomLemmas.{rooms_of_station}
use Rattle.fare_record.specs.declared.ack_item.AckItem.{AckItem}
use Rattle.fare_frame.specs.Grammar.{frame_of}
use Rattle.circular_buffer.specs.Buffer.{Buffer}
use Rattle.fare_world.proofs.ShowLink.{shown_answer_unknown}
use Rattle.std.proofs.Common.{◌≡◌, ◌<◌, ◌++◌, ◌∷◌, [], length, refl, sym, ap, ◌∙◌, subst, arith}
use Rattle.std.proofs.lemmas.Grind.{common_steps}
use Rattle.fare_frame.specs.Grammar.{frame_bytes, IsFrame}
use Rattle.fare_world.specs.Whole.{seen, station_shape, shape}
use Rattle.fare_world.proofs.ShowLink.{shown_no_answer}
use Rattle.fare_side.specs.declared.station.Station.{Station}
use Rattle.fare_world.proofs.ShowStation.{station_read, same_station}
use Rattle.fare_world.proofs.WorldLink.{world_answered}
use Rattle.fare_world.proofs.Stores.{steps, applied_err, unchanged, same_stores}
use Rattle.fare_world.proofs.MayFail.{answer_may_fail}
use Rattle.fare_world.proofs.world.World.answer.Goals as goal

pub returns-in_default-copied : goal.returns-in_default-copied
returns-in_default-copied g c =
    let w = seen g.O.Outbox.standing g.L.Ledger.standing c.args.self.now in
    let k = c.in-Some.place in
    let x = c.index.result.now in
    let at = sym c.station_position.ensures.value ∙ c.in-Some.is in
    let within : k < length w.stations = omega (arith, c.in-Some.ensures.within, c.args.self.now.rooms.station_count) in
    let none : x.line.items ≡ [] = none_left x.line.items (sym c.front.ensures ∙ sym c.copied.ensures ∙ c.in_default-copied.is) in
    steps g.O.Outbox.standing g.L.Ledger.standing c.args.self.now _ _ _ refl (same_stores _ _ refl refl) (λ s sh. shown_no_answer w.scheme (shape w) s c.args.station k (station_shape x) sh at (station_read w c.args.station k x at within c.index.ensures) none)

pub returns-in_err-push : goal.returns-in_err-push
returns-in_err-push g c =
    let a = c.in-Some-copied.answer in
    let w = seen g.O.Outbox.standing g.L.Ledger.standing c.args.self.now in
    let k = c.in-Some.place in
    let x = c.index.result.now in
    let at = sym c.station_position.ensures.value ∙ c.in-Some.is in
    let within : k < length w.stations = omega (arith, c.in-Some.ensures.within, c.args.self.now.rooms.station_count) in
    let front : slice_get x.line.items 0 ≡ Some a = sym c.front.ensures ∙ sym c.copied.ensures ∙ c.in-Some-copied.is in
    let some : 0 < length x.line.items = slice_get_within x.line.items 0 a front in
    applied_err g.O.Outbox.standing g.L.Ledger.standing c.args.self.now _ _ c.from_residual.result _ c.from_residual.ensures.1 (unchanged g.O.Outbox.standing g.L.Ledger.standing _ _ _ refl (same_stores _ _ refl refl) (λ i. record (shape (seen g.O.Outbox.standing g.L.Ledger.standing c.args.self.now)) { air = c.in_err-push.ensures.items i }) (λ s sh. answer_may_fail w.scheme (shape w) s c.args.station k (station_shape x) sh at (station_read w c.args.station k x at within c.index.ensures) some))

pub returns : goal.returns
returns g c =
    let w = seen g.O.Outbox.standing g.L.Ledger.standing c.args.self.now in
    let k = c.in-Some.place in
    let x = c.index_mut.result.now in
    let a = c.in-Some-copied.answer in
    let at = sym c.station_position.ensures.value ∙ c.in-Some.is in
    let within : k < length w.stations = omega (arith, c.in-Some.ensures.within, c.args.self.now.rooms.station_count) in
    let pushed : c.push.new.self.items ≡ w.air ++ frame_bytes (frame_of a) ∷ [] = c.in_ok-push.ensures.items ∙ ap (λ b. w.air ++ b ∷ []) (c.of.ensures.bytes ∙ ap frame_bytes c.acknowledging.ensures) in
    let count : c.len.result ≡ length c.push.new.self.items = grind (arith, common_steps) in
    let read : c.index.result.now ≡ x = same_station w k c.index.result.now x within c.index.ensures c.index_mut.ensures.value in
    let first : slice_get x.line.items 0 ≡ Some a = ap (λ (z : Station). slice_get z.line.items 0) (sym read) ∙ sym c.front.ensures ∙ sym c.copied.ensures ∙ c.in-Some-copied.is in
    let front : x.line.items ≡ a ∷ c.pop_front.new.self.items = front_and_rest x.line.items c.pop_front.new.self.items a first (ap (λ (b : Buffer AckItem). b.items) c.pop_front.ensures.items) in
    steps g.O.Outbox.standing g.L.Ledger.standing c.args.self.now _ _ _ refl (same_stores _ _ refl refl) (λ s sh. world_answered w s c.args.station k c.len.result x (record x { line = c.pop_front.new.self }) a c.push.new.self.items c.answered.result sh at within c.index_mut.ensures.value front refl (subst IsFrame c.acknowledging.ensures c.of.ensures.lawful) pushed count c.answered.ensures)

pub returns-in_default : goal.returns-in_default
returns-in_default g c =
    let w = seen g.O.Outbox.standing g.L.Ledger.standing c.args.self.now in
    steps g.O.Outbox.standing g.L.Ledger.standing c.args.self.now _ _ _ refl (same_stores _ _ refl refl) (λ s sh. shown_answer_unknown w.scheme (shape w) s c.args.station sh (sym c.station_position.ensures.value ∙ c.in_default.is))

pub invariant_of-self-2 : goal.invariant_of-self-2
invariant_of-self-2 g c =
    let w = seen g.O.Outbox.standing g.L.Ledger.standing c.args.self.now in
    let x = c.index_mut.result.now in
    let within : c.in-Some.place < length w.stations = omega (arith, c.in-Some.ensures.within, c.args.self.now.rooms.station_count) in
    record { rooms = rooms_of_station c.args.self.now c.in-Some.place x (record x { line = c.pop_front.new.self }) within c.index_mut.ensures.value (ap (λ (b : Buffer AckItem). b.capacity) c.pop_front.ensures.items) }
