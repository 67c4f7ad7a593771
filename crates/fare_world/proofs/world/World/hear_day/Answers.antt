use Rattle.fare_world.proofs.Showing.{Answers}
use Rattle.fare_event.specs.declared.reply.Reply.TheVariants.{DroppedDay}
use Rattle.fare_world.specs.Shown.{entry}
use Rattle.fare_world.specs.System.{DayAcked}
use Rattle.std.proofs.Common.{◌≡◌, ◌<◌, Some, None, length, refl, sym, ap, ◌∙◌, arith, true, false, subst, set}
use Rattle.fare_scheme.specs.Words.{position_of_device}
use Rattle.fare_device.specs.Turning as device
use Rattle.fare_world.specs.Arriving.{comes}
use Rattle.fare_world.proofs.ShowDays.{never_unheard}
use Rattle.fare_world.proofs.WorldDays.{world_heard_day, world_heard_before}
use Rattle.fare_world.proofs.RoomLemmas.{rooms_of_device}
use Rattle.fare_world.proofs.Stores.{does, same_stores}
use Rattle.fare_world.specs.Whole.{seen, shape}
use Rattle.fare_world.proofs.world.World.hear_day.Goals as goal

pub returns-in_default : goal.returns-in_default
returns-in_default g c =
    let w = seen g.O.Outbox.standing g.L.Ledger.standing c.args.self.now in
    let a = c.args.ack in
    let none : position_of_device w.scheme a.device ≡ None = ap (position_of_device w.scheme) (sym c.device.ensures) ∙ sym c.device_position.ensures.value ∙ c.in_default.is in
    does g.O.Outbox.standing g.L.Ledger.standing c.args.self.now _ _ _ _ refl (same_stores _ _ refl refl) (λ s sh met. absurd (never_unheard w.scheme s a.device a.day met none))

pub returns-then-hear_day_ack : goal.returns-then-hear_day_ack
returns-then-hear_day_ack g c =
    let w = seen g.O.Outbox.standing g.L.Ledger.standing c.args.self.now in
    let a = c.args.ack in
    let k = c.in-Some.place in
    let x = c.index_mut.result.now in
    let at : position_of_device w.scheme a.device ≡ Some k = ap (position_of_device w.scheme) (sym c.device.ensures) ∙ sym c.device_position.ensures.value ∙ c.in-Some.is in
    let within : k < length w.devices = omega (arith, c.in-Some.ensures.within, c.args.self.now.rooms.device_count) in
    let waits : device.is_waiting x.days a.day ≡ true = ap (device.is_waiting x.days) (sym c.day.ensures) ∙ sym c.hear_day_ack.ensures.value ∙ c.if-hear_day_ack.true in
    let heard : c.hear_day_ack.new.self ≡ device.day_acknowledged x a.day = c.hear_day_ack.ensures.heard ∙ ap (device.day_acknowledged x) c.day.ensures in
    does g.O.Outbox.standing g.L.Ledger.standing c.args.self.now _ _ _ _ refl (same_stores _ _ refl refl) (λ s sh met. subst (λ n. Answers w.scheme (record (shape w) { devices = λ e. entry (position_of_device w.scheme e) (set w.devices k c.hear_day_ack.new.self) }) (comes w.scheme s (Some (DayAcked a.device a.day))) (DroppedDay n)) (sym c.day-then-hear_day_ack.ensures) (world_heard_day w s a.device a.day k x c.hear_day_ack.new.self sh met at within c.index_mut.ensures.value waits heard))

pub returns-else-hear_day_ack : goal.returns-else-hear_day_ack
returns-else-hear_day_ack g c =
    let w = seen g.O.Outbox.standing g.L.Ledger.standing c.args.self.now in
    let a = c.args.ack in
    let k = c.in-Some.place in
    let x = c.index_mut.result.now in
    let at : position_of_device w.scheme a.device ≡ Some k = ap (position_of_device w.scheme) (sym c.device.ensures) ∙ sym c.device_position.ensures.value ∙ c.in-Some.is in
    let within : k < length w.devices = omega (arith, c.in-Some.ensures.within, c.args.self.now.rooms.device_count) in
    let gone : device.is_waiting x.days a.day ≡ false = ap (device.is_waiting x.days) (sym c.day.ensures) ∙ sym c.hear_day_ack.ensures.value ∙ c.if-hear_day_ack.false in
    does g.O.Outbox.standing g.L.Ledger.standing c.args.self.now _ _ _ _ refl (same_stores _ _ refl refl) (λ s sh met. world_heard_before w s a.device a.day k x c.hear_day_ack.new.self sh at within c.index_mut.ensures.value gone (c.hear_day_ack.ensures.stays c.if-hear_day_ack.false))

pub invariant_of-self : goal.invariant_of-self
invariant_of-self g c =
    let w = seen g.O.Outbox.standing g.L.Ledger.standing c.args.self.now in
    let within : c.in-Some.place < length w.devices = omega (arith, c.in-Some.ensures.within, c.args.self.now.rooms.device_count) in
    record { rooms = rooms_of_device c.args.self.now c.in-Some.place c.index_mut.result.now c.hear_day_ack.new.self within c.index_mut.ensures.value c.hear_day_ack.ensures.lanes }
