use Rattle.std.proofs.Common.{◌≡◌, ◌<◌, ◌≤◌, ◌++◌, ◌∷◌, [], length, true, false, refl, sym, ap, ◌∙◌, subst, arith}
use Rattle.std.specs.Prelude.{Ok, Err, is_some}
use Rattle.std.proofs.lemmas.Grind.{common_steps}
use Rattle.circular_buffer.specs.Buffer.{Buffer}
use Rattle.fare_store.specs.Standing.{Reads}
use Rattle.fare_record.specs.declared.ack_item.AckItem.{AckItem}
use Rattle.fare_record.specs.declared.ack_item.AckItem.TheVariants as ack_item
use Rattle.fare_event.specs.declared.reply.Refusal.TheVariants as refusal
use Rattle.fare_event.specs.declared.reply.Reply.TheVariants as reply
use Rattle.fare_route.specs.Stating.{are_all_stated}
use Rattle.fare_world.specs.Rooms.{HasStation}
use Rattle.fare_world.specs.Whole.{seen, shape}
use Rattle.fare_side.proofs.Queues.{pushed, refused, same_room}
use Rattle.fare_world.proofs.RoomLemmas.{line_room, rooms_of_station}
use Rattle.fare_world.proofs.Showing.{Answers}
use Rattle.fare_world.proofs.ShowDays.{shown_day_ack_unknown, shown_unstated}
use Rattle.fare_world.proofs.WorldLink.{with_station, world_day_busy, world_day_acked}
use Rattle.fare_world.proofs.Stores.{steps, same_stores, outbox_stepped, outbox_failed, applied_err}
use Rattle.fare_world.specs.Storing as storing
use Rattle.fare_world.proofs.world.World.day_ack.Goals as goal

pub returns-in_default : goal.returns-in_default
returns-in_default g c =
    let w = seen g.O.Outbox.standing g.L.Ledger.standing c.args.self.now in
    steps g.O.Outbox.standing g.L.Ledger.standing c.args.self.now _ _ _ refl (same_stores _ _ refl refl) (λ s sh. shown_day_ack_unknown w.scheme (shape w) s c.args.device c.args.day sh c.in_default.ensures.none)

pub returns-in_err-are_stated : goal.returns-in_err-are_stated
returns-in_err-are_stated g c =
    let w = seen g.O.Outbox.standing g.L.Ledger.standing c.args.self.now in
    let has : HasStation w.scheme c.args.device c.in-Some.place = c.in-Some.ensures.some in
    let did : Reads (g.O.Outbox.standing c.args.self.now.outbox) (g.O.Outbox.standing c.are_stated.new.outbox) (λ all. all ≡ are_all_stated w.scheme w.outbox c.args.device c.args.day) (Err c.in_err-are_stated.field-0.0) = c.in_err-are_stated.ensures in
    applied_err g.O.Outbox.standing g.L.Ledger.standing c.args.self.now _ _ c.from_residual.result _ c.from_residual.ensures.1 (outbox_failed g.O.Outbox.standing g.L.Ledger.standing c.args.self.now _ _ _ _ _ refl refl did (λ is i. record (shape w) { outbox = is.0 i })
    (λ s sh. ap is_some has.of))

pub returns-then-not-branch : goal.returns-then-not-branch
returns-then-not-branch g c =
    let w = seen g.O.Outbox.standing g.L.Ledger.standing c.args.self.now in
    let has : HasStation w.scheme c.args.device c.in-Some.place = c.in-Some.ensures.some in
    let no : c.in_ok-are_stated.field-0 ≡ false = grind (arith, common_steps) in
    let did : Reads (g.O.Outbox.standing c.args.self.now.outbox) (g.O.Outbox.standing c.are_stated.new.outbox) (λ all. all ≡ are_all_stated w.scheme w.outbox c.args.device c.args.day) (Ok c.in_ok-are_stated.field-0) = c.in_ok-are_stated.ensures in
    outbox_stepped g.O.Outbox.standing g.L.Ledger.standing c.args.self.now _ _ _ _ _ refl refl did (λ s is sh.
    subst (λ o. Answers w.scheme (record (shape w) { outbox = o }) (storing.day_ack w.scheme s c.args.device c.args.day) (reply.Refused refusal.Unstated)) (sym is.0)
    (shown_unstated w.scheme (shape w) s c.args.device c.args.day has.station sh has.of (sym is.1 ∙ no)))

pub invariant_of-self-2 : goal.invariant_of-self-2
invariant_of-self-2 g c =
    let x = c.index_mut.result.now in
    let b = c.try_push_back-pushed in
    record { rooms = rooms_of_station c.args.self.now c.in-Some.place x (record x { line = b.new.self }) c.in-Some.ensures.within c.index_mut.ensures.value (same_room b.result x.line b.new.self (ack_item.Day c.new.result) b.ensures.variant b.ensures.ok b.ensures.err) }

pub returns-then-is_err : goal.returns-then-is_err
returns-then-is_err g c =
    let w = seen g.O.Outbox.standing g.L.Ledger.standing c.args.self.now in
    let d = c.args.device in
    let day = c.args.day in
    let k = c.in-Some.place in
    let x = c.index_mut.result.now in
    let yes : c.in_ok-are_stated.field-0 ≡ true = grind (arith, common_steps) in
    let left = refused c.try_push_back-pushed.result x.line c.try_push_back-pushed.new.self (ack_item.Day c.new.result) (sym c.is_err.ensures.value ∙ c.if-is_err.true) c.try_push_back-pushed.ensures.variant c.try_push_back-pushed.ensures.err in
    let room = line_room c.args.self.now k x c.in-Some.ensures.within c.index_mut.ensures.value in
    let full : w.scheme.inbox_capacity ≤ length x.line.items = omega (arith, left.0, room) in
    let did : Reads (g.O.Outbox.standing c.args.self.now.outbox) (g.O.Outbox.standing c.are_stated.new.outbox) (λ all. all ≡ are_all_stated w.scheme w.outbox d day) (Ok c.in_ok-are_stated.field-0) = c.in_ok-are_stated.ensures in
    outbox_stepped g.O.Outbox.standing g.L.Ledger.standing c.args.self.now _ _ _ _ _ refl refl did (λ s is sh.
    subst (λ o. Answers w.scheme (record (shape w) { outbox = o; stations = with_station w k (record x { line = c.try_push_back-pushed.new.self }) }) (storing.day_ack w.scheme s d day) (reply.Refused refusal.Busy)) (sym is.0)
    (world_day_busy w s d day k x (record x { line = c.try_push_back-pushed.new.self }) sh c.in-Some.ensures.some c.in-Some.ensures.within c.index_mut.ensures.value (sym is.1 ∙ yes) refl (ap (λ (b : Buffer AckItem). b.items) left.1) full))

pub returns : goal.returns
returns g c =
    let w = seen g.O.Outbox.standing g.L.Ledger.standing c.args.self.now in
    let d = c.args.device in
    let day = c.args.day in
    let k = c.in-Some.place in
    let x = c.index_mut.result.now in
    let yes : c.in_ok-are_stated.field-0 ≡ true = grind (arith, common_steps) in
    let put = pushed c.try_push_back-pushed.result x.line c.try_push_back-pushed.new.self (ack_item.Day c.new.result) (sym c.is_err.ensures.value ∙ c.if-is_err.false) c.try_push_back-pushed.ensures.variant c.try_push_back-pushed.ensures.ok in
    let room = line_room c.args.self.now k x c.in-Some.ensures.within c.index_mut.ensures.value in
    let free : length x.line.items < w.scheme.inbox_capacity = omega (arith, put.0, room) in
    let gained : c.try_push_back-pushed.new.self.items ≡ x.line.items ++ ack_item.Day (record { device = d; day = day }) ∷ [] = ap (λ (b : Buffer AckItem). b.items) put.1 ∙ (λ i. x.line.items ++ ack_item.Day (c.new.ensures i) ∷ []) in
    let did : Reads (g.O.Outbox.standing c.args.self.now.outbox) (g.O.Outbox.standing c.are_stated.new.outbox) (λ all. all ≡ are_all_stated w.scheme w.outbox d day) (Ok c.in_ok-are_stated.field-0) = c.in_ok-are_stated.ensures in
    outbox_stepped g.O.Outbox.standing g.L.Ledger.standing c.args.self.now _ _ _ _ _ refl refl did (λ s is sh.
    subst (λ o. Answers w.scheme (record (shape w) { outbox = o; stations = with_station w k (record x { line = c.try_push_back-pushed.new.self }) }) (storing.day_ack w.scheme s d day) (reply.AcknowledgedDay day)) (sym is.0)
    (world_day_acked w s d day k x (record x { line = c.try_push_back-pushed.new.self }) sh c.in-Some.ensures.some c.in-Some.ensures.within c.index_mut.ensures.value (sym is.1 ∙ yes) refl gained free))
