use Rattle.fare_world.proofs.RoomLemmas.{rooms_of_station}
use Rattle.fare_world.proofs.Stores.{steps, same_stores}
use Rattle.fare_world.proofs.ShowLink.{shown_resume_unknown}
use Rattle.std.proofs.Common.{◌≡◌, refl, sym, subst}
use Rattle.std.specs.Prelude.{Ok, Err}
use Rattle.fare_store.specs.Standing.{Reads}
use Rattle.fare_event.specs.declared.reply.Reply.TheVariants as reply
use Rattle.fare_world.specs.Whole.{seen, shape}
use Rattle.fare_world.proofs.WorldLink.{with_station, world_resumed}
use Rattle.fare_world.proofs.Known.{placed}
use Rattle.fare_world.proofs.Showing.{Answers}
use Rattle.fare_world.proofs.Stores.{outbox_stepped, outbox_failed, applied_err}
use Rattle.fare_world.specs.Restarting as restarting
use Rattle.fare_world.proofs.world.World.resume.Goals as goal

pub returns-in_err-upto : goal.returns-in_err-upto
returns-in_err-upto g c =
    let w = seen g.O.Outbox.standing g.L.Ledger.standing c.args.self.now in
    let did : Reads (g.O.Outbox.standing c.args.self.now.outbox) (g.O.Outbox.standing c.upto.new.self) (λ u. u ≡ w.outbox.upto c.args.device) (Err c.in_err-upto.field-0.0) = c.in_err-upto.ensures.read in
    applied_err g.O.Outbox.standing g.L.Ledger.standing c.args.self.now _ _ c.from_residual.result _ c.from_residual.ensures.1 (outbox_failed g.O.Outbox.standing g.L.Ledger.standing c.args.self.now _ _ _ _ _ refl refl did (λ is i. record (shape w) { outbox = is.0 i }) (λ s sh. placed w.scheme c.args.device c.in-Some.ensures.some.station c.in-Some.ensures.some.of))

pub returns : goal.returns
returns g c =
    let w = seen g.O.Outbox.standing g.L.Ledger.standing c.args.self.now in
    let d = c.args.device in
    let x = c.index_mut.result.now in
    let did : Reads (g.O.Outbox.standing c.args.self.now.outbox) (g.O.Outbox.standing c.upto.new.self) (λ u. u ≡ w.outbox.upto c.args.device) (Ok c.in_ok-upto.upto) = c.in_ok-upto.ensures.read in
    outbox_stepped g.O.Outbox.standing g.L.Ledger.standing c.args.self.now _ _ _ _ _ refl refl did (λ s is sh.
    subst (λ o. Answers w.scheme (record (shape w) { outbox = o; stations = with_station w c.in-Some.place (record x { collector = c.resume.new.self }) }) (restarting.resume w.scheme s d) (reply.Resumed c.in_ok-upto.upto)) (sym is.0)
    (world_resumed w s d c.in-Some.place c.in_ok-upto.upto x c.resume.new.self sh c.in-Some.ensures.some c.in-Some.ensures.within c.index_mut.ensures.value is.1 c.resume.ensures.next))

pub returns-in_default : goal.returns-in_default
returns-in_default g c =
    let w = seen g.O.Outbox.standing g.L.Ledger.standing c.args.self.now in
    steps g.O.Outbox.standing g.L.Ledger.standing c.args.self.now _ _ _ refl (same_stores _ _ refl refl) (λ s sh. shown_resume_unknown w.scheme (shape w) s c.args.device sh c.in_default.ensures.none)

pub invariant_of-self-2 : goal.invariant_of-self-2
invariant_of-self-2 g c =
    let x = c.index_mut.result.now in
    record { rooms = rooms_of_station c.args.self.now c.in-Some.place x (record x { collector = c.resume.new.self }) c.in-Some.ensures.within c.index_mut.ensures.value refl }
