use Rattle.std.proofs.Common.{◌∙◌, refl, subst, sym, rules}
use Rattle.fare_sessions.specs.Running.{AreRunnable}
use Rattle.fare_serve.specs.Rounds.{HasFailedRound}
use Rattle.fare_serve.proofs.Counted.{left_by_one}
use Rattle.fare_serve.proofs.Failed.{stations_failed}
use Rattle.fare_serve.proofs.sessions.collect_once.Goals as goal

pub hold-requires-clause-can : goal.hold-requires-clause-can
hold-requires-clause-can g c κs within =
    subst (AreRunnable c.args.hub.now.scheme) (sym c.from_mut.ensures.value) ((c.requires.few, c.requires.order, c.requires.devices), tt)

pub returns-in_err-report-clause-failed : goal.returns-in_err-report-clause-failed
returns-in_err-report-clause-failed g c =
    let fault = c.in_err-report.field-0.0 in
    let failed : HasFailedRound g.S.Source.talk g.O.Outbox.standing g.L.Ledger.standing c.args.hub.now c.hold.new.hub c.args.stations.items fault =
    stations_failed g.S.Source.talk g.O.Outbox.standing g.L.Ledger.standing c.args.hub.now c.hold.new.hub c.args.stations c.from_mut.result.now c.hold.new.sessions fault c.in_err-report.ensures.ended c.from_mut.ensures.value c.requires.order c.requires.all in
    search (rules, failed)

pub returns-clause-held : goal.returns-clause-held
returns-clause-held g c = record {
  call = record { olds = c.from_mut.result.now; news = c.hold.new.sessions; report = c.in_ok-report.report };
  olds = c.from_mut.ensures.value;
  gave = left_by_one c.hold.new.sessions _ (c.in_ok-report.ensures.held.untouched.len ∙ c.from_mut.ensures.len) ∙ sym c.stations_in.ensures;
  told = refl;
  held = c.in_ok-report.ensures.held;
  unended = c.in_ok-report.ensures.unended;
}
