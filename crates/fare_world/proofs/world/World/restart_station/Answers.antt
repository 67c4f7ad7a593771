use Rattle.fare_record.specs.declared.ack_item.AckItem.{AckItem}
use Rattle.fare_world.proofs.RoomLemmas.{rooms_of_station, rooms_of_uptos}
use Rattle.fare_world.proofs.Hub.{written}
use Rattle.circular_buffer.specs.Buffer.{Buffer}
use Rattle.std.proofs.Common.{◌≡◌, ◌<◌, ℕ, length, set, refl, sym, ap, ◌∙◌, subst, arith, ◌+◌}
use Rattle.std.specs.Prelude.{Ok, Err, IsSome, option_map, is_some}
use Rattle.std.proofs.lemmas.Grind.{common_steps}
use Rattle.fare_collector.specs.Collecting.{next_in}
use Rattle.fare_scheme.specs.Words.{position_of_device, position_of_station}
use Rattle.fare_world.specs.Shown.{entry}
use Rattle.fare_store.specs.Standing.{Reads}
use Rattle.fare_event.specs.declared.reply.Reply.TheVariants.{Restarted}
use Rattle.fare_side.specs.Resuming.{AreUptos, upto_at}
use Rattle.fare_world.specs.Restarting.{restart_station}
use Rattle.fare_world.specs.Whole.{seen, station_shape, shape}
use Rattle.fare_side.proofs.Resuming.{uptos_at}
use Rattle.fare_world.proofs.ShowRestart.{shown_restart_unknown, shown_restart_station}
use Rattle.fare_world.proofs.ShowStation.{station_read, station_written}
use Rattle.fare_world.proofs.Showing.{Answers}
use Rattle.fare_world.proofs.Stores.{steps, same_stores, outbox_stepped, outbox_failed, applied_err}
use Rattle.fare_world.proofs.world.World.restart_station.Goals as goal

pub returns-in_default : goal.returns-in_default
returns-in_default g c =
    let w = seen g.O.Outbox.standing g.L.Ledger.standing c.args.self.now in
    steps g.O.Outbox.standing g.L.Ledger.standing c.args.self.now _ _ _ refl (same_stores _ _ refl refl) (λ s sh. shown_restart_unknown w.scheme (shape w) s c.args.station sh (sym c.station_position.ensures.value ∙ c.in_default.is))

pub returns-in_err-ask_uptos : goal.returns-in_err-ask_uptos
returns-in_err-ask_uptos g c =
    let w = seen g.O.Outbox.standing g.L.Ledger.standing c.args.self.now in
    let at = sym c.station_position.ensures.value ∙ c.in-Some.is in
    let did : Reads (g.O.Outbox.standing c.args.self.now.outbox) (g.O.Outbox.standing c.ask_uptos.new.outbox) (λ (_ : Unit {0}). AreUptos w.scheme w.outbox.upto c.ask_uptos.new.uptos) (Err c.in_err-ask_uptos.field-0.0) = c.in_err-ask_uptos.ensures.read in
    applied_err g.O.Outbox.standing g.L.Ledger.standing c.args.self.now _ _ c.from_residual.result _ c.from_residual.ensures.1 (outbox_failed g.O.Outbox.standing g.L.Ledger.standing c.args.self.now _ _ _ _ _ refl refl did (λ is i. record (shape w) { outbox = is.0 i }) (λ s sh. ap is_some at))

pub returns : goal.returns
returns g c =
    let w = seen g.O.Outbox.standing g.L.Ledger.standing c.args.self.now in
    let station = c.args.station in
    let k = c.in-Some.place in
    let x = c.index_mut.result.now in
    let new = c.resume_all.new.self in
    let at = sym c.station_position.ensures.value ∙ c.in-Some.is in
    let within : k < length w.stations = omega (arith, c.in-Some.ensures.within, c.args.self.now.rooms.station_count) in
    let did : Reads (g.O.Outbox.standing c.args.self.now.outbox) (g.O.Outbox.standing c.ask_uptos.new.outbox) (λ (_ : Unit {0}). AreUptos w.scheme w.outbox.upto c.ask_uptos.new.uptos) (Ok tt) = c.in_ok-ask_uptos.ensures.read in
    let same : c.deref.result.now ≡ c.ask_uptos.new.uptos = grind (arith, common_steps) in
    let resumed : (d : ℕ) → IsSome (position_of_device w.scheme d) → next_in new.collector d ≡ option_map (λ _. upto_at w.scheme c.deref.result.now d + 1) (next_in x.collector d) = λ d known. c.resume_all.ensures.resumed d known in
    outbox_stepped g.O.Outbox.standing g.L.Ledger.standing c.args.self.now _ _ _ _ _ refl refl did (λ s is sh.
    subst (λ o. Answers w.scheme (record (shape w) { outbox = o; stations = λ j. option_map station_shape (entry (position_of_station w.scheme j) (set w.stations k new)) }) (restart_station w.scheme s station) Restarted) (sym is.0)
    (station_written w station k new (restart_station w.scheme s station) Restarted at within
    (shown_restart_station w.scheme (shape w) s station k (station_shape x) (station_shape new) sh at (station_read w station k x at within c.index_mut.ensures.value)
    (λ d known. resumed d known ∙ ap (λ l. option_map (λ _. upto_at w.scheme l d + 1) (next_in x.collector d)) same ∙ ap (λ n. option_map (λ _. n + 1) (next_in x.collector d)) (uptos_at w.scheme w.outbox.upto c.ask_uptos.new.uptos d is.1 known)) c.resume_all.ensures.others (ap (λ (l : Buffer AckItem). l.items) c.resume_all.ensures.line))))

pub invariant_of-self-2 : goal.invariant_of-self-2
invariant_of-self-2 g c =
    let old = c.args.self.now in
    let x = c.index_mut.result.now in
    let within : c.in-Some.place < length old.stations.items = omega (arith, c.in-Some.ensures.within, old.rooms.station_count) in
    let long = c.ask_uptos.auto.uptos ∙ ap length c.deref_mut.ensures.value in
    record { rooms = rooms_of_uptos old _ _ (ap length (written old.uptos c.ask_uptos.new.uptos long) ∙ long) (rooms_of_station old c.in-Some.place x c.resume_all.new.self within c.index_mut.ensures.value (ap (λ (b : Buffer AckItem). b.capacity) c.resume_all.ensures.line)) }
