use Rattle.std.proofs.Common.{◌≡◌, ◌<◌, length, refl, sym, ap, subst, ◌∙◌, arith}
use Rattle.std.specs.Prelude.{unwrap_or}
use Rattle.std.proofs.lemmas.Option.{slice_get_read}
use Rattle.fare_day.specs.TrafficDay.{traffic_day_in_range}
use Rattle.fare_device.specs.Tapping.{IsTapped}
use Rattle.fare_world.specs.System.{day_of}
use Rattle.fare_world.proofs.ShowTap.{shown_unknown, shown_bad_moment, world_tapped, world_refused}
use Rattle.fare_world.proofs.RoomLemmas.{rooms_of_device}
use Rattle.fare_world.proofs.Stores.{steps, same_stores}
use Rattle.fare_world.specs.Whole.{seen, shape}
use Rattle.fare_world.proofs.world.World.tap.Goals as goal

pub returns-in_default : goal.returns-in_default
returns-in_default g c =
    let w = seen g.O.Outbox.standing g.L.Ledger.standing c.args.self.now in
    steps g.O.Outbox.standing g.L.Ledger.standing c.args.self.now _ _ _ refl (same_stores _ _ refl refl) (λ s sh. shown_unknown w.scheme (shape w) s c.args.device c.args.product c.args.token c.args.moment (unwrap_or c.args.route 0) sh (sym c.device_position.ensures.value ∙ c.in_default.is))

pub returns-in_default-traffic_day : goal.returns-in_default-traffic_day
returns-in_default-traffic_day g c =
    let w = seen g.O.Outbox.standing g.L.Ledger.standing c.args.self.now in
    let dated : day_of w.scheme c.args.moment ≡ traffic_day_in_range c.zone.result.now c.args.moment = ap (λ z. traffic_day_in_range z c.args.moment) (sym c.zone.ensures.value) in
    steps g.O.Outbox.standing g.L.Ledger.standing c.args.self.now _ _ _ refl (same_stores _ _ refl refl) (λ s sh. shown_bad_moment w.scheme (shape w) s c.args.device c.in-Some.place c.args.product c.args.token c.args.moment (unwrap_or c.args.route 0) sh (sym c.device_position.ensures.value ∙ c.in-Some.is) (dated ∙ c.in_default-traffic_day.ensures.answer))

pub tap-requires : goal.tap-requires
tap-requires g c =
    let w = seen g.O.Outbox.standing g.L.Ledger.standing c.args.self.now in
    let within : c.in-Some.place < length w.devices = omega (arith, c.in-Some.ensures.within, c.args.self.now.rooms.device_count) in
    record { made_with = c.args.self.now.rooms.lanes c.in-Some.place c.index_mut.result.now (slice_get_read w.devices (length w.devices) c.in-Some.place c.index_mut.result.now refl within c.index_mut.ensures.value) }

pub invariant_of-self-2 : goal.invariant_of-self-2
invariant_of-self-2 g c =
    let w = seen g.O.Outbox.standing g.L.Ledger.standing c.args.self.now in
    let within : c.in-Some.place < length w.devices = omega (arith, c.in-Some.ensures.within, c.args.self.now.rooms.device_count) in
    record { rooms = rooms_of_device c.args.self.now c.in-Some.place c.index_mut.result.now c.tap.new.self within c.index_mut.ensures.value c.tap.ensures.lanes }

pub returns-in-Ok-tap : goal.returns-in-Ok-tap
returns-in-Ok-tap g c =
    let w = seen g.O.Outbox.standing g.L.Ledger.standing c.args.self.now in
    let tapped =
    subst (λ n. IsTapped w.scheme c.index_mut.result.now c.args.product c.args.token c.args.moment c.in-Ok.day n c.in-Ok-tap.row c.tap.new.self) c.unwrap_or-route.ensures c.in-Ok-tap.ensures.ok in
    let dated : day_of w.scheme c.args.moment ≡ traffic_day_in_range c.zone.result.now c.args.moment = ap (λ z. traffic_day_in_range z c.args.moment) (sym c.zone.ensures.value) in
    let within : c.in-Some.place < length w.devices = omega (arith, c.in-Some.ensures.within, c.args.self.now.rooms.device_count) in
    steps g.O.Outbox.standing g.L.Ledger.standing c.args.self.now _ _ _ refl (same_stores _ _ refl refl) (λ s sh. world_tapped w s c.args.device c.in-Some.place c.args.product c.args.token c.args.moment (unwrap_or c.args.route 0) c.in-Ok.day c.index_mut.result.now c.tap.new.self c.in-Ok-tap.row c.link.result c.lane.result c.args.self.now.rooms.lanes sh
    (sym c.device_position.ensures.value ∙ c.in-Some.is) within c.index_mut.ensures.value (dated ∙ c.in-Ok.ensures.answer) tapped c.link.ensures.value c.lane.ensures.value)

pub returns-in-Err-UnknownProduct : goal.returns-in-Err-UnknownProduct
returns-in-Err-UnknownProduct g c =
    let w = seen g.O.Outbox.standing g.L.Ledger.standing c.args.self.now in
    let dated : day_of w.scheme c.args.moment ≡ traffic_day_in_range c.zone.result.now c.args.moment = ap (λ z. traffic_day_in_range z c.args.moment) (sym c.zone.ensures.value) in
    let within : c.in-Some.place < length w.devices = omega (arith, c.in-Some.ensures.within, c.args.self.now.rooms.device_count) in
    let e = c.in-Err-UnknownProduct in
    steps g.O.Outbox.standing g.L.Ledger.standing c.args.self.now _ _ _ refl (same_stores _ _ refl refl) (λ s sh. world_refused w s c.args.device c.in-Some.place c.args.product c.args.token c.args.moment (unwrap_or c.args.route 0) c.in-Ok.day c.index_mut.result.now c.tap.new.self e.field-0 _ sh
    (sym c.device_position.ensures.value ∙ c.in-Some.is) within c.index_mut.ensures.value (dated ∙ c.in-Ok.ensures.answer) e.ensures.err e.ensures.cause e.field-0-is)

pub returns-in-Err-DayClosed : goal.returns-in-Err-DayClosed
returns-in-Err-DayClosed g c =
    let w = seen g.O.Outbox.standing g.L.Ledger.standing c.args.self.now in
    let dated : day_of w.scheme c.args.moment ≡ traffic_day_in_range c.zone.result.now c.args.moment = ap (λ z. traffic_day_in_range z c.args.moment) (sym c.zone.ensures.value) in
    let within : c.in-Some.place < length w.devices = omega (arith, c.in-Some.ensures.within, c.args.self.now.rooms.device_count) in
    let e = c.in-Err-DayClosed in
    steps g.O.Outbox.standing g.L.Ledger.standing c.args.self.now _ _ _ refl (same_stores _ _ refl refl) (λ s sh. world_refused w s c.args.device c.in-Some.place c.args.product c.args.token c.args.moment (unwrap_or c.args.route 0) c.in-Ok.day c.index_mut.result.now c.tap.new.self e.field-0 _ sh
    (sym c.device_position.ensures.value ∙ c.in-Some.is) within c.index_mut.ensures.value (dated ∙ c.in-Ok.ensures.answer) e.ensures.err e.ensures.cause e.field-0-is)

pub returns-in-Err-DayAhead : goal.returns-in-Err-DayAhead
returns-in-Err-DayAhead g c =
    let w = seen g.O.Outbox.standing g.L.Ledger.standing c.args.self.now in
    let dated : day_of w.scheme c.args.moment ≡ traffic_day_in_range c.zone.result.now c.args.moment = ap (λ z. traffic_day_in_range z c.args.moment) (sym c.zone.ensures.value) in
    let within : c.in-Some.place < length w.devices = omega (arith, c.in-Some.ensures.within, c.args.self.now.rooms.device_count) in
    let e = c.in-Err-DayAhead in
    steps g.O.Outbox.standing g.L.Ledger.standing c.args.self.now _ _ _ refl (same_stores _ _ refl refl) (λ s sh. world_refused w s c.args.device c.in-Some.place c.args.product c.args.token c.args.moment (unwrap_or c.args.route 0) c.in-Ok.day c.index_mut.result.now c.tap.new.self e.field-0 _ sh
    (sym c.device_position.ensures.value ∙ c.in-Some.is) within c.index_mut.ensures.value (dated ∙ c.in-Ok.ensures.answer) e.ensures.err e.ensures.cause e.field-0-is)

pub returns-in-Err-NumbersSpent : goal.returns-in-Err-NumbersSpent
returns-in-Err-NumbersSpent g c =
    let w = seen g.O.Outbox.standing g.L.Ledger.standing c.args.self.now in
    let dated : day_of w.scheme c.args.moment ≡ traffic_day_in_range c.zone.result.now c.args.moment = ap (λ z. traffic_day_in_range z c.args.moment) (sym c.zone.ensures.value) in
    let within : c.in-Some.place < length w.devices = omega (arith, c.in-Some.ensures.within, c.args.self.now.rooms.device_count) in
    let e = c.in-Err-NumbersSpent in
    steps g.O.Outbox.standing g.L.Ledger.standing c.args.self.now _ _ _ refl (same_stores _ _ refl refl) (λ s sh. world_refused w s c.args.device c.in-Some.place c.args.product c.args.token c.args.moment (unwrap_or c.args.route 0) c.in-Ok.day c.index_mut.result.now c.tap.new.self e.field-0 _ sh
    (sym c.device_position.ensures.value ∙ c.in-Some.is) within c.index_mut.ensures.value (dated ∙ c.in-Ok.ensures.answer) e.ensures.err e.ensures.cause e.field-0-is)

pub returns-in-Err-BufferFull : goal.returns-in-Err-BufferFull
returns-in-Err-BufferFull g c =
    let w = seen g.O.Outbox.standing g.L.Ledger.standing c.args.self.now in
    let dated : day_of w.scheme c.args.moment ≡ traffic_day_in_range c.zone.result.now c.args.moment = ap (λ z. traffic_day_in_range z c.args.moment) (sym c.zone.ensures.value) in
    let within : c.in-Some.place < length w.devices = omega (arith, c.in-Some.ensures.within, c.args.self.now.rooms.device_count) in
    let e = c.in-Err-BufferFull in
    steps g.O.Outbox.standing g.L.Ledger.standing c.args.self.now _ _ _ refl (same_stores _ _ refl refl) (λ s sh. world_refused w s c.args.device c.in-Some.place c.args.product c.args.token c.args.moment (unwrap_or c.args.route 0) c.in-Ok.day c.index_mut.result.now c.tap.new.self e.field-0 _ sh
    (sym c.device_position.ensures.value ∙ c.in-Some.is) within c.index_mut.ensures.value (dated ∙ c.in-Ok.ensures.answer) e.ensures.err e.ensures.cause e.field-0-is)
