use Rattle.std.proofs.Common.{ℕ, Some, sym, subst}
use Rattle.std.specs.Prelude.{Option, Ok}
use Rattle.std.specs.Result.{result_err}
use Rattle.fare_writer.specs.declared.fault.WriterFault.{WriterFault}
use Rattle.fare_writer.specs.declared.fault.WriterFault.TheVariants.{Memory}
use Rattle.fare_collect.specs.Collected.{IsCollected}
use Rattle.fare_collect.proofs.Opens.{begun_stations, opened, opened_stations, unread, no_memory}
use Rattle.fare_collect.proofs.Collects.{ran}
use Rattle.fare_collect.proofs.collecting.session.Goals as goal

pub resume-requires : goal.resume-requires
resume-requires g c = begun_stations c.args.scheme.now c.args.stations.now c.begin.new.stations c.requires.order c.begin.ensures

pub returns-in-Err : goal.returns-in-Err
returns-in-Err g c =
    let sc = c.args.scheme.now in
    let talks = g.S.Source.talk in
    let a = g.O.Outbox.standing c.args.outbox.now in
    let b = g.O.Outbox.standing c.resume.new.outbox in
    let P : ℕ × WriterFault → Type 0 = λ q. IsCollected sc talks a b c.args.stations.now c.resume.new.stations q.0 0 (Some q.1) in
    subst P (λ i. (sym c.requires.none i, sym c.from.ensures i)) (unread sc talks a b c.args.stations.now c.begin.new.stations c.resume.new.stations c.in-Err.fault c.begin.ensures c.in-Err.ensures)

pub returns-in-Err-open : goal.returns-in-Err-open
returns-in-Err-open g c =
    let sc = c.args.scheme.now in
    let talks = g.S.Source.talk in
    let a = g.O.Outbox.standing c.args.outbox.now in
    let b = g.O.Outbox.standing c.resume.new.outbox in
    subst (λ (n : ℕ). IsCollected sc talks a b c.args.stations.now c.resume.new.stations n 0 (Some Memory)) (sym c.requires.none) (no_memory sc talks a b c.args.stations.now c.begin.new.stations c.resume.new.stations c.begin.ensures c.in_default.ensures)

pub returns-in-Ok : goal.returns-in-Ok
returns-in-Ok g c =
    let sc = c.args.scheme.now in
    let talks = g.S.Source.talk in
    let a = g.O.Outbox.standing c.args.outbox.now in
    let b = g.O.Outbox.standing c.resume.new.outbox in
    let d = g.O.Outbox.standing c.run-left.new.outbox in
    let r = c.run-left in
    subst (λ (w : Option WriterFault). IsCollected sc talks a d c.args.stations.now r.new.stations r.new.tally.stored r.result.0 w) (sym c.fault_in.ensures)
    (ran sc talks a b d c.args.tally.now r.new.tally c.requires.none c.requires.unnoted c.args.stations.now c.begin.new.stations c.resume.new.stations r.new.stations r.result.0 (result_err r.result.1) c.have_law.ensures c.requires.order c.requires.devices c.begin.ensures c.in_default.ensures
    r.ensures)

pub run-left-requires-clause-order : goal.run-left-requires-clause-order
run-left-requires-clause-order g c κs within =
    let sc = c.args.scheme.now in
    let a = g.O.Outbox.standing c.args.outbox.now in
    let b = g.O.Outbox.standing c.resume.new.outbox in
    opened_stations sc a b c.args.stations.now c.resume.new.stations c.requires.order (opened sc a b c.args.stations.now c.begin.new.stations c.resume.new.stations (Ok tt) c.begin.ensures c.in_default.ensures)
