use Rattle.fare_desk.proofs.Asked.{asks_join}
use Rattle.fare_desk.proofs.Shown.{lane_is}
use Rattle.fare_desk.proofs.standing.lane_of.Goals as goal

pub returns-in_err-rows-clause-asks : goal.returns-in_err-rows-clause-asks
returns-in_err-rows-clause-asks g c = asks_join g.O.Outbox.standing g.L.Ledger.standing c.args.hub.now c.ask_ledger.new.hub c.ask_rows.new.hub c.ask_ledger.ensures.asks c.ask_rows.ensures.asks

pub returns-in_err-statements-clause-asks : goal.returns-in_err-statements-clause-asks
returns-in_err-statements-clause-asks g c =
    asks_join g.O.Outbox.standing g.L.Ledger.standing c.args.hub.now c.ask_rows.new.hub c.ask_statements.new.hub
    (asks_join g.O.Outbox.standing g.L.Ledger.standing c.args.hub.now c.ask_ledger.new.hub c.ask_rows.new.hub c.ask_ledger.ensures.asks c.ask_rows.ensures.asks)
    c.ask_statements.ensures.asks

pub returns-in_err-from-clause-asks : goal.returns-in_err-from-clause-asks
returns-in_err-from-clause-asks g c =
    asks_join g.O.Outbox.standing g.L.Ledger.standing c.args.hub.now c.ask_statements.new.hub c.ask_held_from.new.hub
    (asks_join g.O.Outbox.standing g.L.Ledger.standing c.args.hub.now c.ask_rows.new.hub c.ask_statements.new.hub
    (asks_join g.O.Outbox.standing g.L.Ledger.standing c.args.hub.now c.ask_ledger.new.hub c.ask_rows.new.hub c.ask_ledger.ensures.asks c.ask_rows.ensures.asks)
    c.ask_statements.ensures.asks)
    c.ask_held_from.ensures.asks

pub returns-in_err-retired-clause-asks : goal.returns-in_err-retired-clause-asks
returns-in_err-retired-clause-asks g c =
    asks_join g.O.Outbox.standing g.L.Ledger.standing c.args.hub.now c.ask_held_from.new.hub c.ask_retired.new.hub
    (asks_join g.O.Outbox.standing g.L.Ledger.standing c.args.hub.now c.ask_statements.new.hub c.ask_held_from.new.hub
    (asks_join g.O.Outbox.standing g.L.Ledger.standing c.args.hub.now c.ask_rows.new.hub c.ask_statements.new.hub
    (asks_join g.O.Outbox.standing g.L.Ledger.standing c.args.hub.now c.ask_ledger.new.hub c.ask_rows.new.hub c.ask_ledger.ensures.asks c.ask_rows.ensures.asks)
    c.ask_statements.ensures.asks)
    c.ask_held_from.ensures.asks)
    c.ask_retired.ensures.asks

pub returns-clause-asks : goal.returns-clause-asks
returns-clause-asks g c =
    asks_join g.O.Outbox.standing g.L.Ledger.standing c.args.hub.now c.ask_held_from.new.hub c.ask_retired.new.hub
    (asks_join g.O.Outbox.standing g.L.Ledger.standing c.args.hub.now c.ask_statements.new.hub c.ask_held_from.new.hub
    (asks_join g.O.Outbox.standing g.L.Ledger.standing c.args.hub.now c.ask_rows.new.hub c.ask_statements.new.hub
    (asks_join g.O.Outbox.standing g.L.Ledger.standing c.args.hub.now c.ask_ledger.new.hub c.ask_rows.new.hub c.ask_ledger.ensures.asks c.ask_rows.ensures.asks)
    c.ask_statements.ensures.asks)
    c.ask_held_from.ensures.asks)
    c.ask_retired.ensures.asks

pub returns-clause-tells : goal.returns-clause-tells
returns-clause-tells g c =
    lane_is g.O.Outbox.standing g.L.Ledger.standing c.args.hub.now c.ask_ledger.new.hub c.ask_rows.new.hub c.ask_statements.new.hub c.ask_held_from.new.hub c.ask_retired.new.hub c.args.owner c.args.device c.in_ok-told.told.0 c.in_ok-rows.rows c.in_ok-statements.statements c.in_ok-from.from c.in_ok-told.told.1 c.in_ok-retired.retired
    c.ask_ledger.ensures.asks c.ask_rows.ensures.asks c.ask_statements.ensures.asks c.ask_held_from.ensures.asks c.ask_retired.ensures.asks c.in_ok-told.ensures.tells c.in_ok-rows.ensures.tells c.in_ok-statements.ensures.tells c.in_ok-from.ensures.tells c.in_ok-retired.ensures.tells
