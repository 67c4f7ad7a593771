use Rattle.std.proofs.Common.{◌≡◌, ◌<◌, Some, true, false, length, set, refl, sym, ap, ◌∙◌, subst, arith}
use Rattle.std.specs.Prelude.{◌&&◌, ◌↔◌, Ok, Err, Result, is_some, slice_get}
use Rattle.fare_scheme.specs.Words.{position_of_device, position_of_owner}
use Rattle.fare_owner.specs.declared.retiring.RetireFault.{RetireFault}
use Rattle.fare_store.specs.Standing.{Writes}
use Rattle.fare_store.specs.LedgerWords.{retire_of, with_retired}
use Rattle.fare_store.specs.declared.fault.Refused.{Refused}
use Rattle.fare_store.specs.declared.fault.Refused.TheVariants as refused
use Rattle.fare_event.specs.declared.reply.Reply.TheVariants as reply
use Rattle.fare_world.specs.Owning.{retire, retire_refusal}
use Rattle.fare_world.specs.Shown.{entry}
use Rattle.fare_world.specs.Whole.{seen, owner_seen, shape}
use Rattle.fare_world.proofs.Showing.{Answers}
use Rattle.fare_world.proofs.OwnersSeen.{owner_at, within_seen, owners_set, owners_kept, owner_here, over}
use Rattle.fare_world.proofs.RoomLemmas.{rooms_of_owner}
use Rattle.fare_world.proofs.ShowForward.{RetireSeen, world_retire, owner_written, shown_retire_unknown_owner, shown_retire_unknown}
use Rattle.fare_world.proofs.Foreign.{own_done, own_failed, retire_of_another}
use Rattle.fare_owner.specs.declared.retiring.RetireFault.TheVariants as retiring
use Rattle.fare_world.proofs.Stores.{steps, same_stores, ledger_stepped, ledger_refused, ledger_failed}
use Rattle.fare_world.proofs.world.World.retire.Goals as goal

pub returns-in_default : goal.returns-in_default
returns-in_default g c =
    let w = seen g.O.Outbox.standing g.L.Ledger.standing c.args.self.now in
    steps g.O.Outbox.standing g.L.Ledger.standing c.args.self.now _ _ _ refl (same_stores _ _ refl refl) (λ s sh. shown_retire_unknown_owner w.scheme (shape w) s c.args.owner c.args.device sh (sym c.owner_position.ensures.value ∙ c.in_default.is))

pub returns-then-is_none : goal.returns-then-is_none
returns-then-is_none g c =
    let w = seen g.O.Outbox.standing g.L.Ledger.standing c.args.self.now in
    let owner : position_of_owner w.scheme c.args.owner ≡ Some c.in-Some.at = sym c.owner_position.ensures.value ∙ c.in-Some.is in
    let none : is_some (position_of_device w.scheme c.args.device) ≡ false = ap is_some (sym c.device_position.ensures.value) ∙ c.if-is_none.ensures in
    steps g.O.Outbox.standing g.L.Ledger.standing c.args.self.now _ _ _ refl (same_stores _ _ refl refl) (λ s sh. shown_retire_unknown w.scheme (shape w) s c.args.owner c.args.device c.in-Some.at sh owner none)

pub invariant_of-self : goal.invariant_of-self
invariant_of-self g c =
    let y = c.index_mut.result.now in
    let within : c.in-Some.at < length c.args.self.now.owners.items = omega (arith, c.in-Some.ensures.within, c.args.self.now.rooms.owner_count) in
    record { rooms = rooms_of_owner c.args.self.now c.in-Some.at y (record y { ledger = c.retire.new.self }) within c.index_mut.ensures.value (λ h. record { forwarder = h.forwarder; queue = h.queue; standings = h.standings }) }

pub returns-in-Ok : goal.returns-in-Ok
returns-in-Ok g c =
    let w = seen g.O.Outbox.standing g.L.Ledger.standing c.args.self.now in
    let o = c.args.owner in
    let d = c.args.device in
    let a = c.in-Some.at in
    let y = c.index_mut.result.now in
    let xs = c.args.self.now.owners.items in
    let owner : position_of_owner w.scheme o ≡ Some a = sym c.owner_position.ensures.value ∙ c.in-Some.is in
    let within : a < length xs = omega (arith, c.in-Some.ensures.within, c.args.self.now.rooms.owner_count) in
    let here : slice_get xs a ≡ Some y = owner_here g.L.Ledger.standing xs a y within c.index_mut.ensures.value in
    let known : is_some (position_of_device w.scheme d) ≡ true = ap is_some (sym c.device_position.ensures.value) ∙ c.if-is_none.ensures in
    let did : Writes (g.L.Ledger.standing y.ledger) (g.L.Ledger.standing c.retire.new.self) (retire_of (g.L.Ledger.standing y.ledger).value d) (with_retired d (g.L.Ledger.standing y.ledger).value) (Ok tt) = c.in-Ok.ensures.does (own_done ((g.L.Ledger.standing y.ledger).value.knows d) retiring.NotMine c.in-Ok.ensures.not_mine) in
    let new = record y { ledger = c.retire.new.self } in
    ledger_stepped g.O.Outbox.standing g.L.Ledger.standing c.args.self.now _ _ _ a y new _ _ refl refl here refl did (λ s is sh.
    let by : RetireSeen w.scheme (shape w) s o d (owner_seen g.L.Ledger.standing y) (Ok tt) = world_retire w s o d a (owner_seen g.L.Ledger.standing y) (Ok tt) sh owner known (within_seen g.L.Ledger.standing xs a within) (owner_at g.L.Ledger.standing xs a y within c.index_mut.ensures.value) is.0 in
    over w w.outbox _ (set w.owners a (owner_seen g.L.Ledger.standing new)) _ (retire w.scheme s o d) (reply.Retired d) refl (owners_set g.L.Ledger.standing xs a new)
    (owner_written w o a (owner_seen g.L.Ledger.standing new) (record (owner_seen g.L.Ledger.standing y) { ledger = with_retired d (g.L.Ledger.standing y.ledger).value }) (retire w.scheme s o d) (reply.Retired d) owner (within_seen g.L.Ledger.standing xs a within)
    (λ i. record (owner_seen g.L.Ledger.standing y) { ledger = is.1 i }) by))

pub returns-in-Err-Failed : goal.returns-in-Err-Failed
returns-in-Err-Failed g c =
    let w = seen g.O.Outbox.standing g.L.Ledger.standing c.args.self.now in
    let o = c.args.owner in
    let d = c.args.device in
    let a = c.in-Some.at in
    let y = c.index_mut.result.now in
    let xs = c.args.self.now.owners.items in
    let owner : position_of_owner w.scheme o ≡ Some a = sym c.owner_position.ensures.value ∙ c.in-Some.is in
    let within : a < length xs = omega (arith, c.in-Some.ensures.within, c.args.self.now.rooms.owner_count) in
    let here : slice_get xs a ≡ Some y = owner_here g.L.Ledger.standing xs a y within c.index_mut.ensures.value in
    let known : is_some (position_of_device w.scheme d) ≡ true = ap is_some (sym c.device_position.ensures.value) ∙ c.if-is_none.ensures in
    let failed : ◌≡◌ {A = Refused RetireFault} _ _ = c.in-Err-Failed.field-0-is ∙ ap refused.Failed (sym c.in-Err-Failed.fault-is) in
    let mine : (g.L.Ledger.standing y.ledger).value.knows d ≡ true = own_failed _ retiring.NotMine _ (subst (λ (v : Refused RetireFault). (◌≡◌ {A = Result Unit (Refused RetireFault)} (Err v) (Err (refused.Because retiring.NotMine))) ↔ ((g.L.Ledger.standing y.ledger).value.knows d ≡ false)) failed c.in-Err-Failed.ensures.not_mine) in
    let did = subst (λ (v : Refused RetireFault). Writes (g.L.Ledger.standing y.ledger) (g.L.Ledger.standing c.retire.new.self) (retire_of (g.L.Ledger.standing y.ledger).value d) (with_retired d (g.L.Ledger.standing y.ledger).value) (Err v)) failed (c.in-Err-Failed.ensures.does mine) in
    let new = record y { ledger = c.retire.new.self } in
    ledger_failed g.O.Outbox.standing g.L.Ledger.standing c.args.self.now _ _ _ a y new _ _ refl refl here refl did
    (λ is i. record (shape w) { owners = λ j. entry (position_of_owner w.scheme j) (owners_kept g.L.Ledger.standing xs a y new c.index_mut.ensures.value (λ k. record (owner_seen g.L.Ledger.standing y) { ledger = is k }) i) })
    (λ s sh i. is_some (owner i) && known i)

pub returns-in-Err-Because : goal.returns-in-Err-Because
returns-in-Err-Because g c =
    let w = seen g.O.Outbox.standing g.L.Ledger.standing c.args.self.now in
    let o = c.args.owner in
    let d = c.args.device in
    let a = c.in-Some.at in
    let y = c.index_mut.result.now in
    let v = (g.L.Ledger.standing y.ledger).value in
    let xs = c.args.self.now.owners.items in
    let why = c.in-Err-Because.why in
    let owner : position_of_owner w.scheme o ≡ Some a = sym c.owner_position.ensures.value ∙ c.in-Some.is in
    let within : a < length xs = omega (arith, c.in-Some.ensures.within, c.args.self.now.rooms.owner_count) in
    let here : slice_get xs a ≡ Some y = owner_here g.L.Ledger.standing xs a y within c.index_mut.ensures.value in
    let known : is_some (position_of_device w.scheme d) ≡ true = ap is_some (sym c.device_position.ensures.value) ∙ c.if-is_none.ensures in
    let asked : v.knows d ≡ true → Writes (g.L.Ledger.standing y.ledger) (g.L.Ledger.standing c.retire.new.self) (retire_of v d) (with_retired d v) (Err (refused.Because why)) = λ mine. subst (λ (q : Refused RetireFault). Writes (g.L.Ledger.standing y.ledger) (g.L.Ledger.standing c.retire.new.self) (retire_of v d) (with_retired d v) (Err q)) c.in-Err-Because.field-0-is (c.in-Err-Because.ensures.does mine) in
    let foreign : v.knows d ≡ false → ◌≡◌ {A = Result Unit (Refused RetireFault)} _ (Err (refused.Because retiring.NotMine)) = c.in-Err-Because.ensures.not_mine.1 in
    let unasked : v.knows d ≡ false → c.retire.new.self ≡ y.ledger = λ other. c.in-Err-Because.ensures.unasked (foreign other) in
    let judged : v.knows d ≡ false → retire_of v d ≡ Err why = λ other. retire_of_another v d why other (ap Err (sym c.in-Err-Because.field-0-is) ∙ foreign other) in
    let new = record y { ledger = c.retire.new.self } in
    ledger_refused g.O.Outbox.standing g.L.Ledger.standing c.args.self.now _ _ _ a y new (v.knows d) _ _ refl refl here refl asked (λ other. (unasked other, (judged other, ap (λ l. (g.L.Ledger.standing l).value) (unasked other)))) (λ s is sh.
    let by : RetireSeen w.scheme (shape w) s o d (owner_seen g.L.Ledger.standing y) (Err why) = world_retire w s o d a (owner_seen g.L.Ledger.standing y) (Err why) sh owner known (within_seen g.L.Ledger.standing xs a within) (owner_at g.L.Ledger.standing xs a y within c.index_mut.ensures.value) is.0 in
    over w w.outbox _ w.owners _ (retire w.scheme s o d) (reply.Refused c.retire_named.result) refl (owners_kept g.L.Ledger.standing xs a y new c.index_mut.ensures.value (λ i. record (owner_seen g.L.Ledger.standing y) { ledger = is.1 i }))
    (subst (Answers w.scheme (shape w) (retire w.scheme s o d)) (ap reply.Refused (sym (c.retire_named.ensures ∙ ap retire_refusal c.in-Err-Because.why-is))) by))
