use Rattle.std.proofs.Common.{◌<◌, ◌≤◌, length, refl, sym, ap, ◌∙◌, subst, arith}
use Rattle.circular_buffer.specs.Buffer.{Buffer}
use Rattle.fare_record.specs.declared.item.Item.{Item}
use Rattle.fare_record.specs.declared.item.Item.TheVariants as item
use Rattle.fare_scheme.specs.Words.{station_of}
use Rattle.fare_world.specs.Rooms.{HasStation}
use Rattle.fare_world.specs.Whole.{seen, shape}
use Rattle.fare_side.proofs.Queues.{pushed, refused, same_room}
use Rattle.fare_world.proofs.RoomLemmas.{rooms_of_inbox}
use Rattle.fare_world.proofs.ShowDays.{shown_statement_stranger}
use Rattle.fare_world.proofs.WorldDays.{world_statement_refused, world_statement_busy, world_statement_accepted}
use Rattle.fare_world.proofs.Stores.{does, same_stores}
use Rattle.fare_world.proofs.world.World.collect_statement.Goals as goal

pub returns-in_default : goal.returns-in_default
returns-in_default g c =
    let w = seen g.O.Outbox.standing g.L.Ledger.standing c.args.self.now in
    does g.O.Outbox.standing g.L.Ledger.standing c.args.self.now _ _ _ _ refl (same_stores _ _ refl refl) (λ s sh met. shown_statement_stranger w.scheme (shape w) s c.args.statement sh (ap (station_of w.scheme) (sym c.device.ensures) ∙ c.in_default.ensures.none))

pub returns-in-Err : goal.returns-in-Err
returns-in-Err g c =
    let w = seen g.O.Outbox.standing g.L.Ledger.standing c.args.self.now in
    let r = c.args.statement in
    let k = c.in-Some.place in
    let has : HasStation w.scheme r.device k = subst (λ d. HasStation w.scheme d k) c.device.ensures c.in-Some.ensures.some in
    does g.O.Outbox.standing g.L.Ledger.standing c.args.self.now _ _ _ _ refl (same_stores _ _ refl refl) (λ s sh met. world_statement_refused w s k c.index.result.now r c.in-Err.refusal c.statement_named.result sh has c.in-Some.ensures.within c.index.ensures (sym c.in-Err.ensures.judged) c.statement_named.ensures)

pub returns-then-is_err : goal.returns-then-is_err
returns-then-is_err g c =
    let w = seen g.O.Outbox.standing g.L.Ledger.standing c.args.self.now in
    let r = c.args.statement in
    let k = c.in-Some.place in
    let has : HasStation w.scheme r.device k = subst (λ d. HasStation w.scheme d k) c.device.ensures c.in-Some.ensures.some in
    let left = refused c.try_push_back.result c.args.self.now.inbox c.try_push_back.new.self (item.Stated r) (sym c.is_err.ensures.value ∙ c.if-is_err.true) c.try_push_back.ensures.variant c.try_push_back.ensures.err in
    let full : w.scheme.inbox_capacity ≤ length w.inbox = omega (arith, left.0, c.args.self.now.rooms.inbox_room) in
    does g.O.Outbox.standing g.L.Ledger.standing c.args.self.now _ _ _ _ refl (same_stores _ _ refl refl) (λ s sh met. world_statement_busy w s k c.index.result.now r c.try_push_back.new.self.items sh has c.in-Some.ensures.within c.index.ensures (sym c.in_default-accept_statement.ensures.judged) full (ap (λ (b : Buffer Item). b.items) left.1))

pub returns : goal.returns
returns g c =
    let w = seen g.O.Outbox.standing g.L.Ledger.standing c.args.self.now in
    let r = c.args.statement in
    let k = c.in-Some.place in
    let has : HasStation w.scheme r.device k = subst (λ d. HasStation w.scheme d k) c.device.ensures c.in-Some.ensures.some in
    let put = pushed c.try_push_back.result c.args.self.now.inbox c.try_push_back.new.self (item.Stated r) (sym c.is_err.ensures.value ∙ c.if-is_err.false) c.try_push_back.ensures.variant c.try_push_back.ensures.ok in
    let room : length w.inbox < w.scheme.inbox_capacity = omega (arith, put.0, c.args.self.now.rooms.inbox_room) in
    does g.O.Outbox.standing g.L.Ledger.standing c.args.self.now _ _ _ _ refl (same_stores _ _ refl refl) (λ s sh met. world_statement_accepted w s k c.index.result.now r c.try_push_back.new.self.items sh met.0 met.1 has c.in-Some.ensures.within c.index.ensures (sym c.in_default-accept_statement.ensures.judged) room (ap (λ (b : Buffer Item). b.items) put.1))

pub invariant_of-self-2 : goal.invariant_of-self-2
invariant_of-self-2 g c =
    let b = c.try_push_back in
    record { rooms = rooms_of_inbox c.args.self.now _ b.new.self.capacity (same_room b.result c.args.self.now.inbox b.new.self (item.Stated c.args.statement) b.ensures.variant b.ensures.ok b.ensures.err) c.args.self.now.rooms }
