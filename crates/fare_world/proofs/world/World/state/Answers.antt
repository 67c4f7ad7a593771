use Rattle.std.proofs.Common.{◌≡◌, ◌<◌, ◌++◌, ◌∷◌, [], Some, None, true, length, refl, sym, ap, ◌∙◌, arith}
use Rattle.std.specs.Prelude.{is_some}
use Rattle.std.proofs.lemmas.Grind.{common_steps}
use Rattle.fare_scheme.specs.Words.{position_of_device, position_of_owner}
use Rattle.fare_device.specs.Turning as device
use Rattle.fare_frame.specs.Grammar.{frame_bytes}
use Rattle.fare_world.specs.Whole.{seen, shape}
use Rattle.fare_world.proofs.Showing.{none_of, some_of}
use Rattle.fare_world.proofs.ShowTap.{device_read}
use Rattle.fare_world.proofs.ShowDays.{shown_state_unknown, shown_state_nobody, shown_not_waiting, never_stated}
use Rattle.fare_world.proofs.WorldDays.{world_stated}
use Rattle.fare_world.proofs.MayFail.{state_may_fail}
use Rattle.fare_world.proofs.Stores.{steps, applied_err, unchanged, same_stores}
use Rattle.fare_world.proofs.world.World.state.Goals as goal

pub returns-in_default : goal.returns-in_default
returns-in_default g c =
    let w = seen g.O.Outbox.standing g.L.Ledger.standing c.args.self.now in
    steps g.O.Outbox.standing g.L.Ledger.standing c.args.self.now _ _ _ refl (same_stores _ _ refl refl) (λ s sh. shown_state_unknown w.scheme (shape w) s c.args.device c.args.day c.args.owner sh (sym c.device_position.ensures.value ∙ c.in_default.is))

pub returns-then-is_none : goal.returns-then-is_none
returns-then-is_none g c =
    let w = seen g.O.Outbox.standing g.L.Ledger.standing c.args.self.now in
    let none : position_of_owner w.scheme c.args.owner ≡ None = none_of (position_of_owner w.scheme c.args.owner) (ap is_some (sym c.owner_position.ensures.value) ∙ c.if-is_none.ensures) in
    steps g.O.Outbox.standing g.L.Ledger.standing c.args.self.now _ _ _ refl (same_stores _ _ refl refl) (λ s sh. shown_state_nobody w.scheme (shape w) s c.args.device c.in-Some.place c.args.day c.args.owner sh (sym c.device_position.ensures.value ∙ c.in-Some.is) none)

pub returns-in_default-statement : goal.returns-in_default-statement
returns-in_default-statement g c =
    let w = seen g.O.Outbox.standing g.L.Ledger.standing c.args.self.now in
    let d = c.args.device in
    let day = c.args.day in
    let o = c.args.owner in
    let k = c.in-Some.place in
    let x = c.index.result.now in
    let at : position_of_device w.scheme d ≡ Some k = sym c.device_position.ensures.value ∙ c.in-Some.is in
    let owner = some_of (position_of_owner w.scheme o) (ap is_some (sym c.owner_position.ensures.value) ∙ c.if-is_none.ensures) in
    let within : k < length w.devices = omega (arith, c.in-Some.ensures.within, c.args.self.now.rooms.device_count) in
    steps g.O.Outbox.standing g.L.Ledger.standing c.args.self.now _ _ _ refl (same_stores _ _ refl refl) (λ s sh.
    let here = device_read w d k x at within c.index.ensures in
    shown_not_waiting w.scheme (shape w) s d k day o owner.0 x sh at owner.1 here (never_stated w.scheme (shape w) s d day o owner.0 x sh owner.1 here c.in_default-statement.ensures.ok.1))

pub returns-in_err-push : goal.returns-in_err-push
returns-in_err-push g c =
    let w = seen g.O.Outbox.standing g.L.Ledger.standing c.args.self.now in
    let d = c.args.device in
    let day = c.args.day in
    let o = c.args.owner in
    let k = c.in-Some.place in
    let x = c.index.result.now in
    let at : position_of_device w.scheme d ≡ Some k = sym c.device_position.ensures.value ∙ c.in-Some.is in
    let owner = some_of (position_of_owner w.scheme o) (ap is_some (sym c.owner_position.ensures.value) ∙ c.if-is_none.ensures) in
    let within : k < length w.devices = omega (arith, c.in-Some.ensures.within, c.args.self.now.rooms.device_count) in
    let waits : device.is_waiting x.days day ≡ true = (c.in-Ok.ensures.ok.0 refl).0 in
    applied_err g.O.Outbox.standing g.L.Ledger.standing c.args.self.now _ _ c.from_residual.result _ c.from_residual.ensures.1
    (unchanged g.O.Outbox.standing g.L.Ledger.standing c.args.self.now _ _ refl (same_stores _ _ refl refl) (λ i. record (shape w) { air = c.in_err-push.ensures.items i })
    (λ s sh. state_may_fail w.scheme (shape w) s d k day o owner.0 x sh at owner.1 (device_read w d k x at within c.index.ensures) waits))

pub returns : goal.returns
returns g c =
    let w = seen g.O.Outbox.standing g.L.Ledger.standing c.args.self.now in
    let d = c.args.device in
    let day = c.args.day in
    let o = c.args.owner in
    let k = c.in-Some.place in
    let x = c.index.result.now in
    let at : position_of_device w.scheme d ≡ Some k = sym c.device_position.ensures.value ∙ c.in-Some.is in
    let owner = some_of (position_of_owner w.scheme o) (ap is_some (sym c.owner_position.ensures.value) ∙ c.if-is_none.ensures) in
    let within : k < length w.devices = omega (arith, c.in-Some.ensures.within, c.args.self.now.rooms.device_count) in
    let f = c.in-Ok.frame in
    let waits : device.is_waiting x.days day ≡ true = (c.in-Ok.ensures.ok.0 refl).0 in
    let stated : device.stated x day o ≡ Some f = c.in-Ok.ensures.value in
    let pushed : c.push.new.self.items ≡ w.air ++ frame_bytes f ∷ [] = grind (arith, common_steps) in
    let count : c.len.result ≡ length c.push.new.self.items = grind (arith, common_steps) in
    steps g.O.Outbox.standing g.L.Ledger.standing c.args.self.now _ _ _ refl (same_stores _ _ refl refl) (λ s sh. world_stated w s d k day o owner.0 c.len.result x f c.push.new.self.items sh at owner.1 within c.index.ensures waits stated c.of.ensures.lawful pushed count)
