use Rattle.std.proofs.Common.{rules}
use Rattle.fare_lines.specs.Faults.{Refuses}
use Rattle.fare_lines.proofs.Unread.{reads_stops, stops_text}
use Rattle.fare_lines.proofs.text.parse.Goals as goal

pub returns-in_err-line : goal.returns-in_err-line
returns-in_err-line c =
    let fault = c.in_err-line.field-0.0 in
    let refused : Refuses c.args.text.now fault = stops_text c.args.text.now fault (reads_stops _ c.loop-lines.lines c.loop-lines.read.items fault c.loop-lines.invariant c.in_err-line.ensures.fault) in
    search (rules, refused)
