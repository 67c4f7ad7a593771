use Rattle.std.proofs.Common.{◌≡◌, ◌<◌, Some, Err, length, refl, sym, ap, ◌∙◌, arith}
use Rattle.fare_scheme.specs.Words.{position_of_device}
use Rattle.fare_device.specs.declared.device.TurnRefusal.TheVariants as turn_refusal
use Rattle.fare_world.specs.Tapping.{turn}
use Rattle.fare_event.specs.declared.reply.Refusal.TheVariants.{LastDay, StatementsFull}
use Rattle.fare_event.specs.declared.reply.Reply.TheVariants.{Refused}
use Rattle.fare_world.specs.Whole.{seen, shape}
use Rattle.fare_world.proofs.RoomLemmas.{rooms_of_device}
use Rattle.fare_world.proofs.ShowDays.{shown_turn_unknown}
use Rattle.fare_world.proofs.WorldDays.{device_kept, world_turn, world_turned}
use Rattle.fare_world.proofs.Stores.{steps, same_stores}
use Rattle.fare_world.proofs.world.World.turn.Goals as goal

pub returns-in_default : goal.returns-in_default
returns-in_default g c =
    let w = seen g.O.Outbox.standing g.L.Ledger.standing c.args.self.now in
    steps g.O.Outbox.standing g.L.Ledger.standing c.args.self.now _ _ _ refl (same_stores _ _ refl refl) (λ s sh. shown_turn_unknown w.scheme (shape w) s c.args.device sh (sym c.device_position.ensures.value ∙ c.in_default.is))

pub invariant_of-self : goal.invariant_of-self
invariant_of-self g c =
    let w = seen g.O.Outbox.standing g.L.Ledger.standing c.args.self.now in
    let within : c.in-Some.place < length w.devices = omega (arith, c.in-Some.ensures.within, c.args.self.now.rooms.device_count) in
    record { rooms = rooms_of_device c.args.self.now c.in-Some.place c.index_mut.result.now c.turn_day.new.self within c.index_mut.ensures.value c.turn_day.ensures.lanes }

pub returns-in-Ok : goal.returns-in-Ok
returns-in-Ok g c =
    let w = seen g.O.Outbox.standing g.L.Ledger.standing c.args.self.now in
    let k = c.in-Some.place in
    let at : position_of_device w.scheme c.args.device ≡ Some k = sym c.device_position.ensures.value ∙ c.in-Some.is in
    let within : k < length w.devices = omega (arith, c.in-Some.ensures.within, c.args.self.now.rooms.device_count) in
    steps g.O.Outbox.standing g.L.Ledger.standing c.args.self.now _ _ _ refl (same_stores _ _ refl refl) (λ s sh. world_turned w s c.args.device k c.in-Ok.day c.index_mut.result.now c.turn_day.new.self sh at within c.index_mut.ensures.value c.in-Ok.ensures.judged c.in-Ok.ensures.ok)

pub returns-in-Err-LastDay : goal.returns-in-Err-LastDay
returns-in-Err-LastDay g c =
    let w = seen g.O.Outbox.standing g.L.Ledger.standing c.args.self.now in
    let k = c.in-Some.place in
    let x = c.index_mut.result.now in
    let e = c.in-Err-LastDay in
    let at : position_of_device w.scheme c.args.device ≡ Some k = sym c.device_position.ensures.value ∙ c.in-Some.is in
    let within : k < length w.devices = omega (arith, c.in-Some.ensures.within, c.args.self.now.rooms.device_count) in
    steps g.O.Outbox.standing g.L.Ledger.standing c.args.self.now _ _ _ refl (same_stores _ _ refl refl) (λ s sh. device_kept w k x c.turn_day.new.self (turn w.scheme s c.args.device) (Refused LastDay) c.index_mut.ensures.value e.ensures.err
    (world_turn w s c.args.device k x (Err turn_refusal.LastDay) sh at within c.index_mut.ensures.value (sym (ap Err e.field-0-is) ∙ e.ensures.judged)))

pub returns-in-Err-StatementsFull : goal.returns-in-Err-StatementsFull
returns-in-Err-StatementsFull g c =
    let w = seen g.O.Outbox.standing g.L.Ledger.standing c.args.self.now in
    let k = c.in-Some.place in
    let x = c.index_mut.result.now in
    let e = c.in-Err-StatementsFull in
    let at : position_of_device w.scheme c.args.device ≡ Some k = sym c.device_position.ensures.value ∙ c.in-Some.is in
    let within : k < length w.devices = omega (arith, c.in-Some.ensures.within, c.args.self.now.rooms.device_count) in
    steps g.O.Outbox.standing g.L.Ledger.standing c.args.self.now _ _ _ refl (same_stores _ _ refl refl) (λ s sh. device_kept w k x c.turn_day.new.self (turn w.scheme s c.args.device) (Refused StatementsFull) c.index_mut.ensures.value e.ensures.err
    (world_turn w s c.args.device k x (Err turn_refusal.StatementsFull) sh at within c.index_mut.ensures.value (sym (ap Err e.field-0-is) ∙ e.ensures.judged)))
