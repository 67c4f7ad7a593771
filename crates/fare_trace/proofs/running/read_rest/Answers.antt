use Rattle.std.proofs.Common.{rules}
use Rattle.fare_lines.specs.Unread.{StopsIn}
use Rattle.fare_lines.proofs.Unread.{reads_stops}
use Rattle.fare_trace.proofs.Progress.{reads_more}
use Rattle.fare_trace.proofs.running.read_rest.Goals as goal

pub returns-in_err-next-clause-fault : goal.returns-in_err-next-clause-fault
returns-in_err-next-clause-fault c =
    let fault = c.in_err-next.field-0.0 in
    let stops : StopsIn c.args.lines.now fault = reads_stops c.args.lines.now c.loop.lines c.loop.invariant.0 fault c.loop.invariant.1 c.in_err-next.ensures.fault in
    search (rules, stops)

pub loop-preserved : goal.loop-preserved
loop-preserved c = reads_more c.args.lines.now c.loop.lines c.next.new.self c.loop.invariant.0 c.in_ok-next.field-0 c.loop.invariant.1 c.in_ok-next.ensures.line
