use Rattle.std.proofs.Common.{rules}
use Rattle.fare_trace.specs.Progress.{Breaks, Ends}
use Rattle.fare_trace.specs.declared.running.RunFault.TheVariants.{Store, Text}
use Rattle.fare_lines.proofs.Unread.{reads_stops}
use Rattle.fare_trace.proofs.Progress.{rest_behind}
use Rattle.fare_trace.proofs.sql_run.run_sql.Goals as goal

pub returns-in_err-read_rest-in-Err-Store-clause-fault : goal.returns-in_err-read_rest-in-Err-Store-clause-fault
returns-in_err-read_rest-in-Err-Store-clause-fault c =
    let fault = c.in_err-read_rest-in-Err-Store.field-0.0 in
    let broke : Breaks c.args.lines.now c.run_in_tables.new.lines Store = rw c.in-Err-Store.field-0-is at c.in-Err-Store.ensures.fault in
    let ends : Ends c.args.lines.now (Text fault) = reads_stops c.args.lines.now c.run_in_tables.new.lines broke.0 fault broke.1 c.in_err-read_rest-in-Err-Store.ensures.fault in
    search (rules, ends)

pub returns-in_ok-read_rest-in-Err-Store-clause-fault : goal.returns-in_ok-read_rest-in-Err-Store-clause-fault
returns-in_ok-read_rest-in-Err-Store-clause-fault c =
    let broke : Breaks c.args.lines.now c.run_in_tables.new.lines Store = rw c.in-Err-Store.field-0-is at c.in-Err-Store.ensures.fault in
    rest_behind c.args.lines.now c.run_in_tables.new.lines broke.0 broke.1 c.in_ok-read_rest-in-Err-Store.ensures.ok
