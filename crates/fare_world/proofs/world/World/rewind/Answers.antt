use Rattle.std.proofs.Common.{◌<◌, length, refl, sym, ◌∙◌, arith}
use Rattle.fare_world.specs.Tapping.{rewind}
use Rattle.fare_event.specs.declared.reply.Reply.TheVariants.{Rewound}
use Rattle.fare_world.proofs.ShowLink.{shown_rewind_unknown, shown_rewind}
use Rattle.fare_world.proofs.ShowStation.{device_written}
use Rattle.fare_world.proofs.ShowTap.{device_read}
use Rattle.fare_world.proofs.Stores.{steps, same_stores}
use Rattle.fare_world.specs.Whole.{seen, shape}
use Rattle.fare_world.proofs.world.World.rewind.Goals as goal

pub returns-in_default : goal.returns-in_default
returns-in_default g c =
    let w = seen g.O.Outbox.standing g.L.Ledger.standing c.args.self.now in
    steps g.O.Outbox.standing g.L.Ledger.standing c.args.self.now _ _ _ refl (same_stores _ _ refl refl) (λ s sh. shown_rewind_unknown w.scheme (shape w) s c.args.device sh (sym c.device_position.ensures.value ∙ c.in_default.is))

pub returns : goal.returns
returns g c =
    let w = seen g.O.Outbox.standing g.L.Ledger.standing c.args.self.now in
    let at = sym c.device_position.ensures.value ∙ c.in-Some.is in
    let within : c.in-Some.place < length w.devices = omega (arith, c.in-Some.ensures.within, c.args.self.now.rooms.device_count) in
    steps g.O.Outbox.standing g.L.Ledger.standing c.args.self.now _ _ _ refl (same_stores _ _ refl refl) (λ s sh. device_written w c.args.device c.in-Some.place c.rewind.new.self (rewind w.scheme s c.args.device) Rewound at within
    (shown_rewind w.scheme (shape w) s c.args.device c.in-Some.place c.index_mut.result.now c.rewind.new.self sh at (device_read w c.args.device c.in-Some.place c.index_mut.result.now at within c.index_mut.ensures.value) c.rewind.ensures.value))
