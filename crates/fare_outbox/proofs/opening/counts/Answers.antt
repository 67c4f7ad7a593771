use Rattle.sqlite.specs.Held.{state}
use Rattle.fare_outbox_rows.specs.Layouts.{schema_in}
use Rattle.fare_outbox.proofs.Opened.{asks_up, asks_again}
use Rattle.fare_outbox.proofs.opening.counts.Goals as goal

pub returns-in_err-rows-clause-crash : goal.returns-in_err-rows-clause-crash
returns-in_err-rows-clause-crash g c = asks_up (schema_in c.args.layout.now) (state g.S.Store c.args.conn.now) (state g.S.Store c.count_rows.new.conn) c.requires.up c.requires.settled c.count_rows.ensures.crash

pub returns-in_err-statements-clause-crash : goal.returns-in_err-statements-clause-crash
returns-in_err-statements-clause-crash g c =
    let schema = schema_in c.args.layout.now in
    let a = state g.S.Store c.args.conn.now in
    let b = state g.S.Store c.count_rows.new.conn in
    asks_again schema a b (state g.S.Store c.count_statements.new.conn) c.requires.settled c.count_rows.ensures.live c.in_ok-rows.ensures.stays c.count_rows.ensures.same (asks_up schema a b c.requires.up c.requires.settled c.count_rows.ensures.crash)
    c.count_statements.ensures.crash

pub returns-clause-crash : goal.returns-clause-crash
returns-clause-crash g c =
    let schema = schema_in c.args.layout.now in
    let a = state g.S.Store c.args.conn.now in
    let b = state g.S.Store c.count_rows.new.conn in
    asks_again schema a b (state g.S.Store c.count_statements.new.conn) c.requires.settled c.count_rows.ensures.live c.in_ok-rows.ensures.stays c.count_rows.ensures.same (asks_up schema a b c.requires.up c.requires.settled c.count_rows.ensures.crash)
    c.count_statements.ensures.crash
