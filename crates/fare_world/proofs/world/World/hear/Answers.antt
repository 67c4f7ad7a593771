use Rattle.std.proofs.Common.{◌≡◌, ◌<◌, Some, None, length, refl, sym, ap, ◌∙◌, arith}
use Rattle.fare_scheme.specs.Words.{position_of_device}
use Rattle.fare_device.specs.DeviceWords.{last_link}
use Rattle.fare_device.specs.DeviceWords as device
use Rattle.fare_event.specs.declared.reply.Reply.TheVariants.{Dropped}
use Rattle.fare_world.specs.System.{Acked}
use Rattle.fare_world.specs.Arriving.{comes}
use Rattle.fare_world.proofs.ShowLink.{shown_heard, never_ahead, never_unknown}
use Rattle.fare_world.proofs.ShowStation.{device_written}
use Rattle.fare_world.proofs.ShowTap.{device_read}
use Rattle.fare_world.proofs.RoomLemmas.{rooms_of_device}
use Rattle.fare_world.proofs.Stores.{does, same_stores}
use Rattle.fare_world.specs.Whole.{seen, shape}
use Rattle.fare_world.proofs.world.World.hear.Goals as goal

pub returns-in_default : goal.returns-in_default
returns-in_default g c =
    let w = seen g.O.Outbox.standing g.L.Ledger.standing c.args.self.now in
    let a = c.args.ack in
    let none : position_of_device w.scheme a.device ≡ None = ap (position_of_device w.scheme) (sym c.device.ensures) ∙ sym c.device_position.ensures.value ∙ c.in_default.is in
    does g.O.Outbox.standing g.L.Ledger.standing c.args.self.now _ _ _ _ refl (same_stores _ _ refl refl) (λ s sh met. absurd (never_unknown w.scheme s a.device a.upto met none))

pub returns-in-Ok : goal.returns-in-Ok
returns-in-Ok g c =
    let w = seen g.O.Outbox.standing g.L.Ledger.standing c.args.self.now in
    let a = c.args.ack in
    let k = c.in-Some.place in
    let x = c.index_mut.result.now in
    let new = c.hear_ack.new.self in
    let at : position_of_device w.scheme a.device ≡ Some k = ap (position_of_device w.scheme) (sym c.device.ensures) ∙ sym c.device_position.ensures.value ∙ c.in-Some.is in
    let within : k < length w.devices = omega (arith, c.in-Some.ensures.within, c.args.self.now.rooms.device_count) in
    let heard : new ≡ device.acknowledged x a.upto = c.in-Ok.ensures.ok ∙ ap (device.acknowledged x) c.upto.ensures.value in
    does g.O.Outbox.standing g.L.Ledger.standing c.args.self.now _ _ _ _ refl (same_stores _ _ refl refl) (λ s sh met. device_written w a.device k new (comes w.scheme s (Some (Acked a.device a.upto))) (Dropped c.in-Ok.dropped) at within
    (shown_heard w.scheme (shape w) s a.device a.upto c.in-Ok.dropped x new sh met (device_read w a.device k x at within c.index_mut.ensures.value) heard (omega (arith, c.in-Ok.ensures.dropped, c.upto.ensures.value))))

pub returns-in-Err : goal.returns-in-Err
returns-in-Err g c =
    let w = seen g.O.Outbox.standing g.L.Ledger.standing c.args.self.now in
    let a = c.args.ack in
    let k = c.in-Some.place in
    let x = c.index_mut.result.now in
    let at : position_of_device w.scheme a.device ≡ Some k = ap (position_of_device w.scheme) (sym c.device.ensures) ∙ sym c.device_position.ensures.value ∙ c.in-Some.is in
    let within : k < length w.devices = omega (arith, c.in-Some.ensures.within, c.args.self.now.rooms.device_count) in
    let past : last_link x < a.upto = omega (arith, (c.in-Err.ensures.ahead.0 refl).1, c.upto.ensures.value) in
    does g.O.Outbox.standing g.L.Ledger.standing c.args.self.now _ _ _ _ refl (same_stores _ _ refl refl) (λ s sh met. absurd (never_ahead w.scheme (shape w) s a.device a.upto x sh met (device_read w a.device k x at within c.index_mut.ensures.value) past))

pub invariant_of-self : goal.invariant_of-self
invariant_of-self g c =
    let w = seen g.O.Outbox.standing g.L.Ledger.standing c.args.self.now in
    let within : c.in-Some.place < length w.devices = omega (arith, c.in-Some.ensures.within, c.args.self.now.rooms.device_count) in
    record { rooms = rooms_of_device c.args.self.now c.in-Some.place c.index_mut.result.now c.hear_ack.new.self within c.index_mut.ensures.value c.hear_ack.ensures.lanes }
