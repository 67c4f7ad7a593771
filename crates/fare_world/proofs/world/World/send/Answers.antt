use Rattle.fare_world.proofs.ShowTap.{shown_send_unknown}
use Rattle.std.proofs.Common.{◌≡◌, ◌<◌, ◌+◌, ◌++◌, ◌∷◌, [], length, refl, sym, ap, ◌∙◌, arith}
use Rattle.std.proofs.lemmas.Grind.{common_steps}
use Rattle.fare_world.proofs.ShowTap.{device_read, shown_idle, world_sent}
use Rattle.fare_world.proofs.ShowStation.{same_device}
use Rattle.fare_world.proofs.MayFail.{send_may_fail, unsent, all_sent}
use Rattle.fare_device.specs.DeviceWords.{last_link}
use Rattle.std.proofs.Common.{◌≢◌}
use Rattle.fare_world.proofs.RoomLemmas.{rooms_of_device}
use Rattle.fare_world.proofs.Stores.{steps, applied_err, unchanged, same_stores}
use Rattle.fare_frame.specs.Grammar.{frame_bytes}
use Rattle.fare_device.specs.DeviceWords.{DeviceValue}
use Rattle.fare_world.specs.Whole.{seen, shape}
use Rattle.fare_world.proofs.world.World.send.Goals as goal

pub returns-in_err-reserve : goal.returns-in_err-reserve
returns-in_err-reserve g c =
    let w = seen g.O.Outbox.standing g.L.Ledger.standing c.args.self.now in
    let k = c.in-Some.place in
    let x = c.index.result.now in
    let at = sym c.device_position.ensures.value ∙ c.in-Some.is in
    let within : k < length w.devices = omega (arith, c.in-Some.ensures.within, c.args.self.now.rooms.device_count) in
    let one : x ≡ c.index-2.result.now = same_device w k x c.index-2.result.now within c.index.ensures c.index-2.ensures in
    let more : x.cursor ≢ last_link x = unsent x c.index-2.result.now c.sent.result c.last.result one c.sent.ensures c.last.ensures.value c.if-sent-last.false in
    applied_err g.O.Outbox.standing g.L.Ledger.standing c.args.self.now _ _ c.from_residual.result _ c.from_residual.ensures.1
    (unchanged g.O.Outbox.standing g.L.Ledger.standing c.args.self.now _ _ refl (same_stores _ _ refl refl) (λ i. record (shape w) { air = c.in_err-reserve.ensures.items i })
    (λ s sh. send_may_fail w.scheme (shape w) s c.args.device k x sh at (device_read w c.args.device k x at within c.index.ensures) more))

pub invariant_of-self-2 : goal.invariant_of-self-2
invariant_of-self-2 g c =
    let w = seen g.O.Outbox.standing g.L.Ledger.standing c.args.self.now in
    let within : c.in-Some.place < length w.devices = omega (arith, c.in-Some.ensures.within, c.args.self.now.rooms.device_count) in
    record { rooms = rooms_of_device c.args.self.now c.in-Some.place c.index_mut-device.result.now c.next_frame.new.self within c.index_mut-device.ensures.value c.next_frame.ensures.lanes }

pub returns-in_default : goal.returns-in_default
returns-in_default g c =
    let w = seen g.O.Outbox.standing g.L.Ledger.standing c.args.self.now in
    steps g.O.Outbox.standing g.L.Ledger.standing c.args.self.now _ _ _ refl (same_stores _ _ refl refl) (λ s sh. shown_send_unknown w.scheme (shape w) s c.args.device sh (sym c.device_position.ensures.value ∙ c.in_default.is))

pub returns-then-sent-last : goal.returns-then-sent-last
returns-then-sent-last g c =
    let w = seen g.O.Outbox.standing g.L.Ledger.standing c.args.self.now in
    let k = c.in-Some.place in
    let x = c.index.result.now in
    let at = sym c.device_position.ensures.value ∙ c.in-Some.is in
    let within : k < length w.devices = omega (arith, c.in-Some.ensures.within, c.args.self.now.rooms.device_count) in
    let one : x ≡ c.index-2.result.now = same_device w k x c.index-2.result.now within c.index.ensures c.index-2.ensures in
    let all : x.cursor ≡ last_link x = all_sent x c.index-2.result.now c.sent.result c.last.result one c.sent.ensures c.last.ensures.value c.if-sent-last.true in
    steps g.O.Outbox.standing g.L.Ledger.standing c.args.self.now _ _ _ refl (same_stores _ _ refl refl) (λ s sh. shown_idle w.scheme (shape w) s c.args.device k x sh at (device_read w c.args.device k x at within c.index.ensures) all)

pub returns : goal.returns
returns g c =
    let w = seen g.O.Outbox.standing g.L.Ledger.standing c.args.self.now in
    let within : c.in-Some.place < length w.devices = omega (arith, c.in-Some.ensures.within, c.args.self.now.rooms.device_count) in
    let f = c.in-Some-next_frame.frame in
    let pushed : c.push.new.self.items ≡ w.air ++ frame_bytes f ∷ [] = grind (arith, common_steps) in
    let count : c.len.result ≡ length c.push.new.self.items = grind (arith, common_steps) in
    let link : c.sent-link.result ≡ c.index_mut-device.result.now.cursor + 1 = c.sent-link.ensures ∙ ap (λ (y : DeviceValue). y.cursor) (c.in-Some-next_frame.ensures.moves refl) in
    steps g.O.Outbox.standing g.L.Ledger.standing c.args.self.now _ _ _ refl (same_stores _ _ refl refl) (λ s sh. world_sent w s c.args.device c.in-Some.place c.index_mut-device.result.now c.next_frame.new.self f c.push.new.self.items c.len.result c.sent-link.result sh (sym c.device_position.ensures.value ∙ c.in-Some.is) within c.index_mut-device.ensures.value (sym c.next_frame.ensures.value ∙ c.in-Some-next_frame.is) c.of.ensures.lawful (c.in-Some-next_frame.ensures.moves refl) pushed count link)
