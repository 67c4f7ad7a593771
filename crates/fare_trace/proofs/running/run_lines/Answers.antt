use Rattle.std.proofs.Common.{None, Some, refl, rules}
use Rattle.fare_world.specs.System.{start}
use Rattle.fare_trace.specs.Answers.{Running}
use Rattle.fare_trace.specs.Faults.{run_fault}
use Rattle.fare_lines.specs.Unread.{IsNext}
use Rattle.fare_trace.specs.Progress.{Breaks}
use Rattle.fare_trace.specs.declared.running.RunFault.TheVariants.{Text}
use Rattle.fare_lines.proofs.Unread.{reads_stops}
use Rattle.fare_trace.proofs.Progress.{breaks_at, breaks_cause, goes_end, runs_line, runs_nothing}
use Rattle.fare_trace.proofs.running.run_lines.Goals as goal

pub loop-line-init : goal.loop-line-init
loop-line-init g c = runs_nothing g.O.Outbox.standing g.L.Ledger.standing c.args.world.now c.args.lines.now c.args.out.now.items c.requires

pub returns-in_err-line-clause-fault : goal.returns-in_err-line-clause-fault
returns-in_err-line-clause-fault g c =
    let fault = c.in_err-line.field-0.0 in
    let runs = c.loop-line.invariant in
    let breaks : Breaks c.args.lines.now c.next.new.self (Text fault) = reads_stops c.args.lines.now c.loop-line.lines runs.lines fault runs.read c.in_err-line.ensures.fault in
    search (rules, breaks)

pub returns-in_err-answer_sealed-clause-fault : goal.returns-in_err-answer_sealed-clause-fault
returns-in_err-answer_sealed-clause-fault g c =
    let fault = c.in_err-answer_sealed.field-0.0 in
    let next : IsNext c.loop-line.lines c.next.new.self (Some c.in-Some.line) = rw c.in-Some.is at c.in_ok-line.ensures.line in
    let breaks : Breaks c.args.lines.now c.next.new.self (run_fault fault) = breaks_at g.O.Outbox.standing g.L.Ledger.standing c.args.world.now c.loop-line.world c.args.lines.now c.loop-line.lines c.next.new.self c.args.out.now.items c.loop-line.out.items c.in-Some.line fault c.loop-line.invariant next in
    search (rules, breaks)

pub returns-in_err-answer_sealed-clause-cause : goal.returns-in_err-answer_sealed-clause-cause
returns-in_err-answer_sealed-clause-cause g c =
    let fault = c.in_err-answer_sealed.field-0.0 in
    let cause = breaks_cause g.O.Outbox.standing g.L.Ledger.standing c.args.world.now c.loop-line.world c.answer_sealed.new.world c.args.lines.now c.loop-line.lines c.args.out.now.items c.loop-line.out.items fault c.loop-line.invariant c.in_err-answer_sealed.ensures.cause in
    search (rules, cause)

pub loop-line-preserved : goal.loop-line-preserved
loop-line-preserved g c =
    let next : IsNext c.loop-line.lines c.next.new.self (Some c.in-Some.line) = rw c.in-Some.is at c.in_ok-line.ensures.line in
    runs_line g.O.Outbox.standing g.L.Ledger.standing c.args.world.now c.loop-line.world c.answer_sealed.new.world c.args.lines.now c.loop-line.lines c.next.new.self c.args.out.now.items c.loop-line.out.items c.answer_sealed.new.out.items c.in-Some.line c.loop-line.invariant next c.in_ok-answer_sealed.ensures.answered

pub returns-clause-ok : goal.returns-clause-ok
returns-clause-ok g c = λ live.
    let sc = c.args.world.now.scheme in
    let runs = c.loop-line.invariant in
    let last : IsNext c.loop-line.lines c.next.new.self None = rw c.in_default.is at c.in_ok-line.ensures.line in
    goes_end (Running sc (start sc)) (Running sc runs.system) c.args.lines.now c.loop-line.lines c.next.new.self c.args.out.now.items c.loop-line.out.items (runs.goes live) last

pub returns-clause-stays : goal.returns-clause-stays
returns-clause-stays g c = λ live clean. c.loop-line.invariant.stores.stays refl live clean
