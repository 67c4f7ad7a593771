use Rattle.std.proofs.Common.{◌≡◌, ◌<◌, Some, length, set, refl, sym, ap, ◌∙◌, subst, arith}
use Rattle.std.specs.Prelude.{Ok, Err, is_some, slice_get}
use Rattle.fare_scheme.specs.Words.{position_of_owner}
use Rattle.fare_store.specs.Standing.{Reads}
use Rattle.fare_event.specs.declared.reply.Reply.TheVariants as reply
use Rattle.fare_side.specs.Resuming.{place_of_cursor, AreStandings}
use Rattle.fare_world.specs.Restarts.{IsOwnerAgain}
use Rattle.fare_world.specs.Whole.{seen, owner_seen, shape}
use Rattle.fare_world.proofs.Again.{asked_rooms, again_rooms, seen_again}
use Rattle.fare_world.proofs.OwnersSeen.{shape_of, owner_at, within_seen, owners_set, owners_kept, owner_here, over}
use Rattle.fare_world.proofs.RoomLemmas.{rooms_of_owner, side_of_owner}
use Rattle.fare_world.proofs.ShowAgain.{shown_restart_owner_unknown, shown_restart_owner}
use Rattle.fare_world.proofs.ShowForward.{owner_read, owner_written}
use Rattle.fare_world.proofs.Stores.{steps, same_stores, ledger_stepped, ledger_failed, applied_err}
use Rattle.fare_world.specs.Restarting as restarting
use Rattle.fare_world.proofs.world.World.restart_owner.Goals as goal

pub returns-in_default : goal.returns-in_default
returns-in_default g c =
    let w = seen g.O.Outbox.standing g.L.Ledger.standing c.args.self.now in
    steps g.O.Outbox.standing g.L.Ledger.standing c.args.self.now _ _ _ refl (same_stores _ _ refl refl) (λ s sh. shown_restart_owner_unknown w.scheme (shape w) s c.args.owner sh (sym c.owner_position.ensures.value ∙ c.in_default.is))

pub ask-requires : goal.ask-requires
ask-requires g c =
    let y = c.index_mut-side.result.now in
    let within : c.in-Some.at < length c.args.self.now.owners.items = omega (arith, c.in-Some.ensures.within, c.args.self.now.rooms.owner_count) in
    (side_of_owner c.args.self.now c.in-Some.at y within c.index_mut-side.ensures.value).standings

pub invariant_of-self-in-Break-1 : goal.invariant_of-self-in-Break-1
invariant_of-self-in-Break-1 g c =
    let y = c.index_mut-side.result.now in
    let within : c.in-Some.at < length c.args.self.now.owners.items = omega (arith, c.in-Some.ensures.within, c.args.self.now.rooms.owner_count) in
    record { rooms = rooms_of_owner c.args.self.now c.in-Some.at y c.ask.new.self within c.index_mut-side.ensures.value (asked_rooms c.args.self.now.scheme c.in-Some.at y c.ask.new.self c.ask.ensures.count c.ask.ensures.queue c.ask.ensures.forwarder) }

pub returns-in_err-ask : goal.returns-in_err-ask
returns-in_err-ask g c =
    let w = seen g.O.Outbox.standing g.L.Ledger.standing c.args.self.now in
    let a = c.in-Some.at in
    let x = c.index_mut-side.result.now in
    let y = c.ask.new.self in
    let e = c.in_err-ask.ensures in
    let xs = c.args.self.now.owners.items in
    let owner : position_of_owner w.scheme c.args.owner ≡ Some a = sym c.owner_position.ensures.value ∙ c.in-Some.is in
    let within : a < length xs = omega (arith, c.in-Some.ensures.within, c.args.self.now.rooms.owner_count) in
    let here : slice_get xs a ≡ Some x = owner_here g.L.Ledger.standing xs a x within c.index_mut-side.ensures.value in
    let did : Reads (g.L.Ledger.standing x.ledger) (g.L.Ledger.standing y.ledger) (λ (_ : Unit {0}). AreStandings w.scheme (g.L.Ledger.standing x.ledger).value y.standings.items) (Err c.in_err-ask.field-0.0) = e.read in
    applied_err g.O.Outbox.standing g.L.Ledger.standing c.args.self.now _ _ c.from_residual.result _ c.from_residual.ensures.1 (ledger_failed g.O.Outbox.standing g.L.Ledger.standing c.args.self.now _ _ _ a x y _ _ refl refl here refl did
    (λ is i. shape_of w w.outbox (owners_kept g.L.Ledger.standing xs a x y c.index_mut-side.ensures.value (λ k. record { ledger = is.0 k; queue = (e.queue k).items; hand = e.hand k; cursors = place_of_cursor (e.forwarder k) }) i))
    (λ s sh. ap is_some owner))

pub restart-requires : goal.restart-requires
restart-requires g c =
    let y = c.index_mut-side.result.now in
    let within : c.in-Some.at < length c.args.self.now.owners.items = omega (arith, c.in-Some.ensures.within, c.args.self.now.rooms.owner_count) in
    c.in_ok-ask.ensures.count ∙ (side_of_owner c.args.self.now c.in-Some.at y within c.index_mut-side.ensures.value).standings

pub invariant_of-self-2 : goal.invariant_of-self-2
invariant_of-self-2 g c =
    let sc = c.args.self.now.scheme in
    let a = c.in-Some.at in
    let x = c.index_mut-side.result.now in
    let y = c.ask.new.self in
    let z = c.restart.new.self in
    let e = c.restart.ensures in
    let within : a < length c.args.self.now.owners.items = omega (arith, c.in-Some.ensures.within, c.args.self.now.rooms.owner_count) in
    let again : IsOwnerAgain sc y z = record { ledger = e.ledger; standings = e.standings; queue = e.queue; hand = e.hand; owner = e.owner; resumed = e.resumed; others = e.others } in
    record { rooms = rooms_of_owner c.args.self.now a x z within c.index_mut-side.ensures.value (λ h. again_rooms sc a y z again (asked_rooms sc a x y c.in_ok-ask.ensures.count c.in_ok-ask.ensures.queue c.in_ok-ask.ensures.forwarder h)) }

pub returns : goal.returns
returns g c =
    let w = seen g.O.Outbox.standing g.L.Ledger.standing c.args.self.now in
    let sc = c.args.self.now.scheme in
    let o = c.args.owner in
    let a = c.in-Some.at in
    let x = c.index_mut-side.result.now in
    let y = c.ask.new.self in
    let z = c.restart.new.self in
    let e = c.restart.ensures in
    let xs = c.args.self.now.owners.items in
    let owner : position_of_owner w.scheme o ≡ Some a = sym c.owner_position.ensures.value ∙ c.in-Some.is in
    let within : a < length xs = omega (arith, c.in-Some.ensures.within, c.args.self.now.rooms.owner_count) in
    let here : slice_get xs a ≡ Some x = owner_here g.L.Ledger.standing xs a x within c.index_mut-side.ensures.value in
    let again : IsOwnerAgain sc y z = record { ledger = e.ledger; standings = e.standings; queue = e.queue; hand = e.hand; owner = e.owner; resumed = e.resumed; others = e.others } in
    let did : Reads (g.L.Ledger.standing x.ledger) (g.L.Ledger.standing y.ledger) (λ (_ : Unit {0}). AreStandings sc (g.L.Ledger.standing x.ledger).value y.standings.items) (Ok tt) = c.in_ok-ask.ensures.read in
    let done : Reads (g.L.Ledger.standing x.ledger) (g.L.Ledger.standing z.ledger) (λ (_ : Unit {0}). AreStandings sc (g.L.Ledger.standing x.ledger).value y.standings.items) (Ok tt) = subst (λ l. Reads (g.L.Ledger.standing x.ledger) (g.L.Ledger.standing l) (λ (_ : Unit {0}). AreStandings sc (g.L.Ledger.standing x.ledger).value y.standings.items) (Ok tt)) (sym e.ledger) did in
    ledger_stepped g.O.Outbox.standing g.L.Ledger.standing c.args.self.now _ _ _ a x z _ _ refl refl here refl done (λ s is sh.
    over w w.outbox w.outbox (set w.owners a (owner_seen g.L.Ledger.standing z)) _ (restarting.restart_owner sc s o) reply.Restarted refl (owners_set g.L.Ledger.standing xs a z)
    (owner_written w o a (owner_seen g.L.Ledger.standing z) (owner_seen g.L.Ledger.standing z) (restarting.restart_owner sc s o) reply.Restarted owner (within_seen g.L.Ledger.standing xs a within) refl
    (shown_restart_owner sc (shape w) s o a (owner_seen g.L.Ledger.standing x) (owner_seen g.L.Ledger.standing z) sh owner (owner_read w o a (owner_seen g.L.Ledger.standing x) owner (within_seen g.L.Ledger.standing xs a within) (owner_at g.L.Ledger.standing xs a x within c.index_mut-side.ensures.value))
    (seen_again g.L.Ledger.standing sc x y z c.in_ok-ask.ensures.forwarder is.1 (ap (λ l. (g.L.Ledger.standing l).value) (sym e.ledger) ∙ is.0) again))))
