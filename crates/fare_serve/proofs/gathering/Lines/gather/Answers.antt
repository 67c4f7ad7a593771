use Rattle.std.proofs.Common.{◌∙◌, ◌+◌, ap, arith, refl, subst, sym}
use Rattle.fare_sessions.specs.declared.hub.Hub.{Hub}
use Rattle.fare_serve.specs.Pausing.{HasPaused, HasPausedSome}
use Rattle.fare_serve.specs.Seats.{AreSeatsAfter, AreSeatsGathered}
use Rattle.fare_serve.specs.declared.gathering.Lines.{Lines}
use Rattle.fare_serve.specs.declared.progress.Progress.{Progress}
use Rattle.fare_serve.proofs.Rested.{rested_goes, rested_ledgers, times_more, times_none, times_some}
use Rattle.fare_serve.proofs.Seated.{gathered_none, gathered_then}
use Rattle.fare_serve.proofs.gathering.Lines.gather.Goals as goal
use Rattle.fare_serve.proofs.gathering.Lines.gather.Goals.{else-loop-test, then-loop-test+then-are_enough}

pub loop-init : goal.loop-init
loop-init g c = record {
  len = refl;
  gathered = λ first. gathered_none c.args.hub.now.scheme c.args.self.now.seats.items;
  paused = times_none g.P.Pause.does g.O.Outbox.standing g.L.Ledger.standing c.args.hub.now;
  ledgers = c.requires.ledgers;
  counts = refl;
}

pub loop-preserved : goal.loop-preserved
loop-preserved g c =
    let inv = c.loop.invariant in
    let hub = c.args.hub.now in
    let sc = hub.scheme in
    let same = (rested_goes g.P.Pause.does g.O.Outbox.standing g.L.Ledger.standing hub c.loop.hub inv.paused.0).scheme in
    let after : AreSeatsAfter sc c.args.rule c.loop.self.seats.items c.attempt.new.self.seats.items = subst (λ s. AreSeatsAfter s c.args.rule c.loop.self.seats.items c.attempt.new.self.seats.items) same c.attempt.ensures.after in
    let one : HasPaused g.P.Pause.does g.O.Outbox.standing g.L.Ledger.standing c.loop.hub c.pause.new.hub = record { progress = _; did = c.pause.ensures.does; goes = c.pause.ensures.goes } in
    let paused = times_more g.P.Pause.does g.O.Outbox.standing g.L.Ledger.standing c.loop.counter hub c.loop.hub c.pause.new.hub inv.paused one in
    record {
      len = c.attempt.ensures.len ∙ inv.len;
      gathered = λ first. gathered_then sc c.args.rule c.args.self.now.seats.items c.loop.self.seats.items c.attempt.new.self.seats.items first (inv.gathered first) after;
      paused = paused;
      ledgers = rested_ledgers g.P.Pause.does g.O.Outbox.standing g.L.Ledger.standing hub c.pause.new.hub paused.0 c.requires.ledgers;
      counts = inv.counts;
    }

pub returns-then-eq-clause-gathered : goal.returns-then-eq-clause-gathered
returns-then-eq-clause-gathered g c =
    let inv = c.loop.invariant in
    let hub = c.args.hub.now in
    let sc = hub.scheme in
    let olds = c.args.self.now.seats.items in
    let same = (rested_goes g.P.Pause.does g.O.Outbox.standing g.L.Ledger.standing hub c.loop.hub inv.paused.0).scheme in
    elim c.loop-test.branch [
      | else-loop-test w ↦ λ first. subst (λ (l : Lines). AreSeatsGathered sc olds l.seats.items) (sym w.self-is) (inv.gathered first)
      | then-loop-test+then-are_enough w ↦
          λ first.
          let after : AreSeatsAfter sc c.args.rule c.loop.self.seats.items w.attempt.new.self.seats.items = subst (λ s. AreSeatsAfter s c.args.rule c.loop.self.seats.items w.attempt.new.self.seats.items) same w.attempt.ensures.after in
          subst (λ (l : Lines). AreSeatsGathered sc olds l.seats.items) (sym w.self-is) (gathered_then sc c.args.rule olds c.loop.self.seats.items w.attempt.new.self.seats.items first (inv.gathered first) after)
    ]

pub returns-then-eq-clause-paused : goal.returns-then-eq-clause-paused
returns-then-eq-clause-paused g c =
    let inv = c.loop.invariant in
    let hub = c.args.hub.now in
    elim c.loop-test.branch [
      | else-loop-test w ↦
          let past = w.loop-test.false in
          let some = c.attempts_of-end.ensures in
          subst (λ (h : Hub g.row.O.Denot g.row.L.Denot). HasPausedSome g.P.Pause.does g.O.Outbox.standing g.L.Ledger.standing hub h) (sym w.hub-is) (times_some g.P.Pause.does g.O.Outbox.standing g.L.Ledger.standing c.loop.counter hub c.loop.hub inv.paused (omega (arith, past, some)))
      | then-loop-test+then-are_enough w ↦
          let one : HasPaused g.P.Pause.does g.O.Outbox.standing g.L.Ledger.standing c.loop.hub w.pause.new.hub = record { progress = _; did = w.pause.ensures.does; goes = w.pause.ensures.goes } in
          subst (λ (h : Hub g.row.O.Denot g.row.L.Denot). HasPausedSome g.P.Pause.does g.O.Outbox.standing g.L.Ledger.standing hub h) (sym w.hub-is) (times_some g.P.Pause.does g.O.Outbox.standing g.L.Ledger.standing (c.loop.counter + 1) hub w.pause.new.hub (times_more g.P.Pause.does g.O.Outbox.standing g.L.Ledger.standing c.loop.counter hub c.loop.hub w.pause.new.hub inv.paused one) (omega arith))
    ]

pub returns-then-eq-clause-counts : goal.returns-then-eq-clause-counts
returns-then-eq-clause-counts g c =
    let inv = c.loop.invariant in
    elim c.loop-test.branch [
      | else-loop-test w ↦ ap (λ (p : Progress). p.counts) w.progress-is ∙ inv.counts
      | then-loop-test+then-are_enough w ↦ ap (λ (p : Progress). p.counts) w.progress-is ∙ inv.counts
    ]

pub returns-else-eq-clause-gathered : goal.returns-else-eq-clause-gathered
returns-else-eq-clause-gathered g c =
    let inv = c.loop.invariant in
    let hub = c.args.hub.now in
    let sc = hub.scheme in
    let olds = c.args.self.now.seats.items in
    let same = (rested_goes g.P.Pause.does g.O.Outbox.standing g.L.Ledger.standing hub c.loop.hub inv.paused.0).scheme in
    elim c.loop-test.branch [
      | else-loop-test w ↦ λ first. subst (λ (l : Lines). AreSeatsGathered sc olds l.seats.items) (sym w.self-is) (inv.gathered first)
      | then-loop-test+then-are_enough w ↦
          λ first.
          let after : AreSeatsAfter sc c.args.rule c.loop.self.seats.items w.attempt.new.self.seats.items = subst (λ s. AreSeatsAfter s c.args.rule c.loop.self.seats.items w.attempt.new.self.seats.items) same w.attempt.ensures.after in
          subst (λ (l : Lines). AreSeatsGathered sc olds l.seats.items) (sym w.self-is) (gathered_then sc c.args.rule olds c.loop.self.seats.items w.attempt.new.self.seats.items first (inv.gathered first) after)
    ]

pub returns-else-eq-clause-paused : goal.returns-else-eq-clause-paused
returns-else-eq-clause-paused g c =
    let inv = c.loop.invariant in
    let hub = c.args.hub.now in
    elim c.loop-test.branch [
      | else-loop-test w ↦
          let past = w.loop-test.false in
          let some = c.attempts_of-end.ensures in
          subst (λ (h : Hub g.row.O.Denot g.row.L.Denot). HasPausedSome g.P.Pause.does g.O.Outbox.standing g.L.Ledger.standing hub h) (sym w.hub-is) (times_some g.P.Pause.does g.O.Outbox.standing g.L.Ledger.standing c.loop.counter hub c.loop.hub inv.paused (omega (arith, past, some)))
      | then-loop-test+then-are_enough w ↦
          let one : HasPaused g.P.Pause.does g.O.Outbox.standing g.L.Ledger.standing c.loop.hub w.pause.new.hub = record { progress = _; did = w.pause.ensures.does; goes = w.pause.ensures.goes } in
          subst (λ (h : Hub g.row.O.Denot g.row.L.Denot). HasPausedSome g.P.Pause.does g.O.Outbox.standing g.L.Ledger.standing hub h) (sym w.hub-is) (times_some g.P.Pause.does g.O.Outbox.standing g.L.Ledger.standing (c.loop.counter + 1) hub w.pause.new.hub (times_more g.P.Pause.does g.O.Outbox.standing g.L.Ledger.standing c.loop.counter hub c.loop.hub w.pause.new.hub inv.paused one) (omega arith))
    ]

pub returns-else-eq-clause-counts : goal.returns-else-eq-clause-counts
returns-else-eq-clause-counts g c =
    let inv = c.loop.invariant in
    elim c.loop-test.branch [
      | else-loop-test w ↦ ap (λ (p : Progress). p.counts) w.progress-is ∙ inv.counts
      | then-loop-test+then-are_enough w ↦ ap (λ (p : Progress). p.counts) w.progress-is ∙ inv.counts
    ]
