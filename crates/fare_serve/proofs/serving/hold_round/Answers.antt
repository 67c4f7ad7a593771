use Rattle.std.proofs.Common.{◌≡◌, ◌∙◌, ap, sym, subst, length, List, arith, rules}
use Rattle.std.proofs.lemmas.List.{length-map}
use Rattle.fare_collect.specs.Collected.{source_of}
use Rattle.fare_sessions.specs.declared.report.SessionsReport.{SessionsReport}
use Rattle.fare_serve.specs.Calls.{stations_in}
use Rattle.fare_serve.specs.Lending.{AreBack, AreLent}
use Rattle.fare_serve.specs.Serving.{AreWhole, HasFailedHeld}
use Rattle.fare_serve.specs.declared.seats.Seat.{Seat}
use Rattle.fare_serve.specs.declared.fault.ServeFault.TheVariants.{Memory}
use Rattle.fare_serve.proofs.Coming.{back_over, failed_held, held_outside, over_lines}
use Rattle.fare_serve.proofs.Seated.{written_over}
use Rattle.fare_serve.proofs.serving.hold_round.Goals as goal

pub serve_round-requires-clause-few : goal.serve_round-requires-clause-few
serve_round-requires-clause-few g c κs within =
    let made : length c.in-Ok.stations.items ≡ length c.in_ok-shifts.shifts.items = sym (length-map c.in-Ok.stations.items source_of) ∙ ap length c.in-Ok.ensures.sources in
    let each = c.in_ok-shifts.ensures.each in
    let few = c.requires.few in
    let value = ap length c.deref_mut.ensures.value in
    let ok = c.in_ok-shifts.shifts.ok.0 in
    let seats = c.args.lines.now.seats.ok.0 in
    omega (arith, made, each, few, value, ok, seats)

pub serve_round-requires-clause-all : goal.serve_round-requires-clause-all
serve_round-requires-clause-all g c κs within =
    let made : length c.in-Ok.stations.items ≡ length c.in_ok-shifts.shifts.items = sym (length-map c.in-Ok.stations.items source_of) ∙ ap length c.in-Ok.ensures.sources in
    let each = c.in_ok-shifts.ensures.each in
    let all = c.requires.seats in
    let value = ap length c.deref_mut.ensures.value in
    let ok = c.in_ok-shifts.shifts.ok.0 in
    let seats = c.args.lines.now.seats.ok.0 in
    omega (arith, made, each, all, value, ok, seats)

pub returns-clause-held : goal.returns-clause-held
returns-clause-held g c =
    let served = c.in_ok-report.ensures.served in
    let before = c.args.lines.now.seats in
    let lent = c.lend_all.new.seats in
    let after = c.take_all_back.new.seats in
    let stations = c.in_ok-report.stations.items in
    let lends : AreLent c.args.whole before.items lent c.in_ok-shifts.shifts.items = subst (λ (l : List Seat). AreLent c.args.whole l lent c.in_ok-shifts.shifts.items) c.deref_mut.ensures.value c.in_ok-shifts.ensures.lent in
    let ok = before.ok.0 in
    let len = lends.len in
    let many : before.len ≡ length lent = omega (arith, ok, len) in
    let back : AreBack c.deref.result.now stations lent after = subst (λ (l : List Seat). AreBack c.deref.result.now stations l after) (c.deref_mut-2.ensures.value ∙ written_over lent before.items before.len many) c.take_all_back.ensures in
    let all = back.len in
    let as_many : before.len ≡ length after = omega (arith, many, all) in
    let over = over_lines g.O.Outbox.standing g.L.Ledger.standing c.args.hub.now served.held.0 c.args.whole before.items lent c.in_ok-shifts.shifts.items c.in-Ok.stations.items served.round.stations lends c.in-Ok.ensures.sources served.held.1 served.is.sessions served.is.collects served.is.stations_are in
    let told = ap (λ (r : SessionsReport). r.faults.items) served.told ∙ sym c.deref.ensures.value in
    record {
      before = c.in-Ok.stations.items;
      report = c.in_ok-report.report;
      after = stations;
      served = served;
      to_ends = λ whole. subst AreWhole (sym c.in-Ok.ensures.sources) (c.in_ok-shifts.ensures.whole whole);
      over = over.0;
      back = subst (AreBack served.round.stations.report.faults.items (stations_in served.round.stations.news) over.0.lent) (sym (written_over after _ before.len as_many)) (back_over before.items lent after served.round.stations c.deref.result.now stations over told served.gave back);
    }

pub returns-in_err-report-clause-failed : goal.returns-in_err-report-clause-failed
returns-in_err-report-clause-failed g c =
    let fault = c.in_err-report.field-0.0 in
    let lent : AreLent c.args.whole c.args.lines.now.seats.items c.lend_all.new.seats c.in_ok-shifts.shifts.items = subst (λ (l : List Seat). AreLent c.args.whole l c.lend_all.new.seats c.in_ok-shifts.shifts.items) c.deref_mut.ensures.value c.in_ok-shifts.ensures.lent in
    let failed : HasFailedHeld g.O.Outbox.standing g.L.Ledger.standing c.args.hub.now c.serve_round.new.hub c.args.lines.now.seats.items fault =
    failed_held g.O.Outbox.standing g.L.Ledger.standing c.args.hub.now c.serve_round.new.hub c.args.whole c.args.lines.now.seats.items c.lend_all.new.seats c.in_ok-shifts.shifts.items c.in-Ok.stations.items fault
    lent c.in-Ok.ensures.sources c.in_err-report.ensures.failed in
    search (rules, failed)

pub returns-in_err-shifts-clause-failed : goal.returns-in_err-shifts-clause-failed
returns-in_err-shifts-clause-failed g c =
    let failed : HasFailedHeld g.O.Outbox.standing g.L.Ledger.standing c.args.hub.now c.args.hub.now c.args.lines.now.seats.items Memory = held_outside g.O.Outbox.standing g.L.Ledger.standing c.args.hub.now c.args.lines.now.seats.items Memory tt in
    search (rules, failed)

pub returns-in-Err-Memory-clause-failed : goal.returns-in-Err-Memory-clause-failed
returns-in-Err-Memory-clause-failed g c = held_outside g.O.Outbox.standing g.L.Ledger.standing c.args.hub.now c.args.lines.now.seats.items Memory tt
