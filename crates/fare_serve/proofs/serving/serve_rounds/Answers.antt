use Rattle.fare_serve.specs.Serving.{HasFailedLines}
use Rattle.fare_serve.specs.declared.fault.ServeFault.TheVariants.{Memory}
use Rattle.fare_serve.proofs.Held.{handed_on, lines_failed, none_failed, rounds_failed_behind, rounds_keep}
use Rattle.fare_serve.proofs.serving.serve_rounds.Goals as goal

pub returns-clause-served : goal.returns-clause-served
returns-clause-served g c =
    let held = c.in_ok-hold_rounds.ensures.held in
    record {
      counts = c.hold_rounds.new.progress.counts;
      held = held;
      written = c.in_ok-write_counts.ensures.written;
      keeps = rounds_keep g.P.Pause.does g.O.Outbox.standing g.L.Ledger.standing c.args.hub.now c.hold_rounds.new.hub held.held.rounds held.held.served held.held.come;
    }

pub returns-in_err-progress-clause-failed : goal.returns-in_err-progress-clause-failed
returns-in_err-progress-clause-failed g c =
    let failed : HasFailedLines g.P.Pause.does g.O.Outbox.standing g.L.Ledger.standing c.args.hub.now c.args.hub.now Memory = lines_failed g.P.Pause.does g.O.Outbox.standing g.L.Ledger.standing c.args.hub.now c.args.hub.now Memory (none_failed g.P.Pause.does g.O.Outbox.standing g.L.Ledger.standing c.args.hub.now Memory tt) in
    handed_on (HasFailedLines g.P.Pause.does g.O.Outbox.standing g.L.Ledger.standing c.args.hub.now c.args.hub.now) c.from_residual.result Memory c.from_residual.ensures.1 failed

pub returns-in_err-hold_rounds-clause-failed : goal.returns-in_err-hold_rounds-clause-failed
returns-in_err-hold_rounds-clause-failed g c =
    let fault = c.in_err-hold_rounds.field-0.0 in
    let failed : HasFailedLines g.P.Pause.does g.O.Outbox.standing g.L.Ledger.standing c.args.hub.now c.hold_rounds.new.hub fault = lines_failed g.P.Pause.does g.O.Outbox.standing g.L.Ledger.standing c.args.hub.now c.hold_rounds.new.hub fault c.in_err-hold_rounds.ensures.failed in
    handed_on (HasFailedLines g.P.Pause.does g.O.Outbox.standing g.L.Ledger.standing c.args.hub.now c.hold_rounds.new.hub) c.from_residual-in_err-hold_rounds.result fault c.from_residual-in_err-hold_rounds.ensures.1 failed

pub returns-in_err-write_counts-clause-failed : goal.returns-in_err-write_counts-clause-failed
returns-in_err-write_counts-clause-failed g c =
    let rounds = c.in_ok-hold_rounds.ensures.held in
    let fault = c.in_err-write_counts.field-0.0 in
    let failed : HasFailedLines g.P.Pause.does g.O.Outbox.standing g.L.Ledger.standing c.args.hub.now c.hold_rounds.new.hub fault =
    lines_failed g.P.Pause.does g.O.Outbox.standing g.L.Ledger.standing c.args.hub.now c.hold_rounds.new.hub fault
    (rounds_failed_behind g.P.Pause.does g.O.Outbox.standing g.L.Ledger.standing c.args.hub.now c.hold_rounds.new.hub _ rounds.count c.hold_rounds.new.progress.counts fault rounds.held c.in_err-write_counts.ensures.outside) in
    handed_on (HasFailedLines g.P.Pause.does g.O.Outbox.standing g.L.Ledger.standing c.args.hub.now c.hold_rounds.new.hub) c.from_residual-in_err-write_counts.result fault c.from_residual-in_err-write_counts.ensures.1 failed
