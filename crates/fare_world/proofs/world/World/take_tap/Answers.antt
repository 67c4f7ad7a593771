use Rattle.std.proofs.Common.{◌≡◌, ◌<◌, Some, None, length, refl, sym, ap, ◌∙◌, subst, arith}
use Rattle.std.specs.Prelude.{◌↔◌, Ok, Err, Result, true, false, slice_get}
use Rattle.fare_scheme.specs.Words.{position_of_owner}
use Rattle.fare_store.specs.Standing.{Writes}
use Rattle.fare_event.specs.declared.reply.Reply.TheVariants as reply
use Rattle.fare_world.specs.Whole.{seen, owner_seen, shape}
use Rattle.fare_world.proofs.Showing.{Answers}
use Rattle.fare_world.proofs.OwnersSeen.{owner_at, within_seen, owners_set, owners_kept, owner_here, over}
use Rattle.fare_world.proofs.RoomLemmas.{rooms_of_owner}
use Rattle.fare_world.proofs.Stores.{ledger_stepped, ledger_refused, ledger_failed}
use Rattle.fare_world.proofs.Foreign.{own_done, own_failed, tap_of_another}
use Rattle.fare_owner.specs.declared.tap.TapFault.TheVariants as tap_fault
use Rattle.std.proofs.Common.{set}
use Rattle.fare_world.specs.Shown.{entry}
use Rattle.fare_owner.specs.declared.tap.TapFault.{TapFault}
use Rattle.fare_store.specs.declared.fault.Refused.{Refused}
use Rattle.fare_store.specs.declared.fault.Refused.TheVariants as refused
use Rattle.fare_store.specs.LedgerWords.{is_mine, take_judged, took}
use Rattle.fare_store.specs.Tables.{put}
use Rattle.fare_world.proofs.ShowForward.{TakeSeen, owner_read, owner_written, world_take}
use Rattle.fare_world.proofs.MayFail.{take_may_fail}
use Rattle.fare_world.specs.Owning as owning
use Rattle.fare_record.specs.declared.item.Item.TheVariants as item
use Rattle.fare_world.proofs.TableLemmas.{owner_within}
use Rattle.fare_world.specs.Owning.{tap_refusal, statement_refusal}
use Rattle.fare_world.proofs.world.World.take_tap.Goals as goal

pub invariant_of-self : goal.invariant_of-self
invariant_of-self g c =
    let y = c.index_mut-side.result.now in
    let within : c.args.at < length c.args.self.now.owners.items = omega (arith, owner_within c.args.self.now.scheme c.args.owner c.args.at c.requires.at, c.args.self.now.rooms.owner_count) in
    record { rooms = rooms_of_owner c.args.self.now c.args.at y (record y { ledger = c.take.new.self; hand = None }) within c.index_mut-side.ensures.value (λ h. record { forwarder = h.forwarder; queue = h.queue; standings = h.standings }) }

pub returns-in-Ok : goal.returns-in-Ok
returns-in-Ok g c =
    let w = seen g.O.Outbox.standing g.L.Ledger.standing c.args.self.now in
    let y = c.index_mut-side.result.now in
    let xs = c.args.self.now.owners.items in
    let owner : position_of_owner w.scheme c.args.owner ≡ Some c.args.at = c.requires.at in
    let within : c.args.at < length xs = omega (arith, owner_within c.args.self.now.scheme c.args.owner c.args.at c.requires.at, c.args.self.now.rooms.owner_count) in
    let here : slice_get xs c.args.at ≡ Some y = owner_here g.L.Ledger.standing xs c.args.at y within c.index_mut-side.ensures.value in
    let row = c.args.row in
    let held : y.hand ≡ Some (item.Tap row) = c.requires.hand y here in
    let did : Writes (g.L.Ledger.standing y.ledger) (g.L.Ledger.standing c.take.new.self) (take_judged (g.L.Ledger.standing y.ledger).value row) (took row (g.L.Ledger.standing y.ledger).value) (Ok tt) = c.in-Ok.ensures.does (own_done (is_mine (g.L.Ledger.standing y.ledger).value row.owner row.device) tap_fault.NotMine c.in-Ok.ensures.not_mine) in
    let new = record y { ledger = c.take.new.self; hand = None } in
    ledger_stepped g.O.Outbox.standing g.L.Ledger.standing c.args.self.now _ _ _ c.args.at y new _ _ refl refl here refl did (λ s is sh.
    let by : TakeSeen w.scheme (shape w) s c.args.owner (owner_seen g.L.Ledger.standing y) row (Ok tt) = world_take w s c.args.owner c.args.at (owner_seen g.L.Ledger.standing y) row (Ok tt) sh owner (within_seen g.L.Ledger.standing xs c.args.at within) (owner_at g.L.Ledger.standing xs c.args.at y within c.index_mut-side.ensures.value) held is.0 in
    over w w.outbox _ (set w.owners c.args.at (owner_seen g.L.Ledger.standing new)) _ (owning.take_event w.scheme s c.args.owner) (reply.Taken c.device.result c.lane.result) refl (owners_set g.L.Ledger.standing xs c.args.at new)
    (owner_written w c.args.owner c.args.at (owner_seen g.L.Ledger.standing new) (record (owner_seen g.L.Ledger.standing y) { ledger = took row (g.L.Ledger.standing y.ledger).value; hand = None }) (owning.take_event w.scheme s c.args.owner) (reply.Taken c.device.result c.lane.result) owner (within_seen g.L.Ledger.standing xs c.args.at within)
    (λ i. record (owner_seen g.L.Ledger.standing y) { ledger = is.1 i; hand = None })
    (subst (Answers w.scheme (record (shape w) { owners = put (shape w).owners c.args.owner (Some (record (owner_seen g.L.Ledger.standing y) { ledger = took row (g.L.Ledger.standing y.ledger).value; hand = None })) }) (owning.take_event w.scheme s c.args.owner)) (λ i. reply.Taken (sym c.device.ensures i) (sym c.lane.ensures.value i)) by)))

pub returns-in-Err-Failed : goal.returns-in-Err-Failed
returns-in-Err-Failed g c =
    let w = seen g.O.Outbox.standing g.L.Ledger.standing c.args.self.now in
    let y = c.index_mut-side.result.now in
    let xs = c.args.self.now.owners.items in
    let owner : position_of_owner w.scheme c.args.owner ≡ Some c.args.at = c.requires.at in
    let within : c.args.at < length xs = omega (arith, owner_within c.args.self.now.scheme c.args.owner c.args.at c.requires.at, c.args.self.now.rooms.owner_count) in
    let here : slice_get xs c.args.at ≡ Some y = owner_here g.L.Ledger.standing xs c.args.at y within c.index_mut-side.ensures.value in
    let row = c.args.row in
    let new = record y { ledger = c.take.new.self } in
    let failed : ◌≡◌ {A = Refused TapFault} _ _ = c.in-Err-Failed.field-0-is ∙ ap refused.Failed (sym c.in-Err-Failed.fault-is) in
    let mine : is_mine (g.L.Ledger.standing y.ledger).value row.owner row.device ≡ true = own_failed _ tap_fault.NotMine _ (subst (λ (v : Refused TapFault). (◌≡◌ {A = Result Unit (Refused TapFault)} (Err v) (Err (refused.Because tap_fault.NotMine))) ↔ (is_mine (g.L.Ledger.standing y.ledger).value row.owner row.device ≡ false)) failed c.in-Err-Failed.ensures.not_mine) in
    let did = subst (λ (v : Refused TapFault). Writes (g.L.Ledger.standing y.ledger) (g.L.Ledger.standing c.take.new.self) (take_judged (g.L.Ledger.standing y.ledger).value row) (took row (g.L.Ledger.standing y.ledger).value) (Err v)) failed (c.in-Err-Failed.ensures.does mine) in
    let held : y.hand ≡ Some (item.Tap row) = c.requires.hand y here in
    ledger_failed g.O.Outbox.standing g.L.Ledger.standing c.args.self.now _ _ _ c.args.at y new _ _ refl refl here refl did
    (λ is i. record (shape w) { owners = λ j. entry (position_of_owner w.scheme j) (owners_kept g.L.Ledger.standing xs c.args.at y new c.index_mut-side.ensures.value (λ k. record (owner_seen g.L.Ledger.standing y) { ledger = is k }) i) })
    (λ s sh. take_may_fail w.scheme (shape w) s c.args.owner c.args.at (owner_seen g.L.Ledger.standing y) (item.Tap row) sh owner (owner_read w c.args.owner c.args.at (owner_seen g.L.Ledger.standing y) owner (within_seen g.L.Ledger.standing xs c.args.at within) (owner_at g.L.Ledger.standing xs c.args.at y within c.index_mut-side.ensures.value)) held)

pub returns : goal.returns
returns g c =
    let w = seen g.O.Outbox.standing g.L.Ledger.standing c.args.self.now in
    let y = c.index_mut-side.result.now in
    let xs = c.args.self.now.owners.items in
    let owner : position_of_owner w.scheme c.args.owner ≡ Some c.args.at = c.requires.at in
    let within : c.args.at < length xs = omega (arith, owner_within c.args.self.now.scheme c.args.owner c.args.at c.requires.at, c.args.self.now.rooms.owner_count) in
    let here : slice_get xs c.args.at ≡ Some y = owner_here g.L.Ledger.standing xs c.args.at y within c.index_mut-side.ensures.value in
    let row = c.args.row in
    let held : y.hand ≡ Some (item.Tap row) = c.requires.hand y here in
    let asked : is_mine (g.L.Ledger.standing y.ledger).value row.owner row.device ≡ true → Writes (g.L.Ledger.standing y.ledger) (g.L.Ledger.standing c.take.new.self) (take_judged (g.L.Ledger.standing y.ledger).value row) (took row (g.L.Ledger.standing y.ledger).value) (Err (refused.Because c.in-Err-Because.why)) = λ mine. subst (λ (v : Refused TapFault). Writes (g.L.Ledger.standing y.ledger) (g.L.Ledger.standing c.take.new.self) (take_judged (g.L.Ledger.standing y.ledger).value row) (took row (g.L.Ledger.standing y.ledger).value) (Err v)) c.in-Err-Because.field-0-is (c.in-Err-Because.ensures.does mine) in
    let foreign : is_mine (g.L.Ledger.standing y.ledger).value row.owner row.device ≡ false → ◌≡◌ {A = Result Unit (Refused TapFault)} _ (Err (refused.Because tap_fault.NotMine)) = c.in-Err-Because.ensures.not_mine.1 in
    let unasked : is_mine (g.L.Ledger.standing y.ledger).value row.owner row.device ≡ false → c.take.new.self ≡ y.ledger = λ other. c.in-Err-Because.ensures.unasked (foreign other) in
    let judged : is_mine (g.L.Ledger.standing y.ledger).value row.owner row.device ≡ false → take_judged (g.L.Ledger.standing y.ledger).value row ≡ Err c.in-Err-Because.why = λ other. tap_of_another (g.L.Ledger.standing y.ledger).value row c.in-Err-Because.why other (ap Err (sym c.in-Err-Because.field-0-is) ∙ foreign other) in
    let new = record y { ledger = c.take.new.self; hand = None } in
    ledger_refused g.O.Outbox.standing g.L.Ledger.standing c.args.self.now _ _ _ c.args.at y new (is_mine (g.L.Ledger.standing y.ledger).value row.owner row.device) _ _ refl refl here refl asked (λ other. (unasked other, (judged other, ap (λ l. (g.L.Ledger.standing l).value) (unasked other)))) (λ s is sh.
    let by : TakeSeen w.scheme (shape w) s c.args.owner (owner_seen g.L.Ledger.standing y) row (Err c.in-Err-Because.why) = world_take w s c.args.owner c.args.at (owner_seen g.L.Ledger.standing y) row (Err c.in-Err-Because.why) sh owner (within_seen g.L.Ledger.standing xs c.args.at within) (owner_at g.L.Ledger.standing xs c.args.at y within c.index_mut-side.ensures.value) held is.0 in
    over w w.outbox _ (set w.owners c.args.at (owner_seen g.L.Ledger.standing new)) _ (owning.take_event w.scheme s c.args.owner) (reply.Refused c.tap_named.result) refl (owners_set g.L.Ledger.standing xs c.args.at new)
    (owner_written w c.args.owner c.args.at (owner_seen g.L.Ledger.standing new) (record (owner_seen g.L.Ledger.standing y) { hand = None }) (owning.take_event w.scheme s c.args.owner) (reply.Refused c.tap_named.result) owner (within_seen g.L.Ledger.standing xs c.args.at within)
    (λ i. record (owner_seen g.L.Ledger.standing y) { ledger = is.1 i; hand = None })
    (subst (Answers w.scheme (record (shape w) { owners = put (shape w).owners c.args.owner (Some (record (owner_seen g.L.Ledger.standing y) { hand = None })) }) (owning.take_event w.scheme s c.args.owner)) (ap reply.Refused (sym (c.tap_named.ensures ∙ ap tap_refusal c.in-Err-Because.why-is))) by)))

pub invariant_of-self-in-Failed-1 : goal.invariant_of-self-in-Failed-1
invariant_of-self-in-Failed-1 g c =
    let y = c.index_mut-side.result.now in
    let within : c.args.at < length c.args.self.now.owners.items = omega (arith, owner_within c.args.self.now.scheme c.args.owner c.args.at c.requires.at, c.args.self.now.rooms.owner_count) in
    record { rooms = rooms_of_owner c.args.self.now c.args.at y (record y { ledger = c.take.new.self }) within c.index_mut-side.ensures.value (λ h. record { forwarder = h.forwarder; queue = h.queue; standings = h.standings }) }

pub invariant_of-self-2 : goal.invariant_of-self-2
invariant_of-self-2 g c =
    let y = c.index_mut-side.result.now in
    let within : c.args.at < length c.args.self.now.owners.items = omega (arith, owner_within c.args.self.now.scheme c.args.owner c.args.at c.requires.at, c.args.self.now.rooms.owner_count) in
    record { rooms = rooms_of_owner c.args.self.now c.args.at y (record y { ledger = c.take.new.self; hand = None }) within c.index_mut-side.ensures.value (λ h. record { forwarder = h.forwarder; queue = h.queue; standings = h.standings }) }
