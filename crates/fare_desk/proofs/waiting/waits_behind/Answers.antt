use Rattle.fare_desk.proofs.Asked.{asks_join}
use Rattle.fare_desk.proofs.Waits.{behind_is}
use Rattle.fare_desk.proofs.waiting.waits_behind.Goals as goal

pub returns-in_err-last-clause-asks : goal.returns-in_err-last-clause-asks
returns-in_err-last-clause-asks g c = asks_join g.O.Outbox.standing g.L.Ledger.standing c.args.hub.now c.ask_ledger.new.hub c.ask_last.new.hub c.ask_ledger.ensures.asks c.ask_last.ensures.asks

pub returns-in_err-oldest-clause-asks : goal.returns-in_err-oldest-clause-asks
returns-in_err-oldest-clause-asks g c =
    asks_join g.O.Outbox.standing g.L.Ledger.standing c.args.hub.now c.ask_last.new.hub c.ask_oldest.new.hub
    (asks_join g.O.Outbox.standing g.L.Ledger.standing c.args.hub.now c.ask_ledger.new.hub c.ask_last.new.hub c.ask_ledger.ensures.asks c.ask_last.ensures.asks)
    c.ask_oldest.ensures.asks

pub returns-in_err-statements-clause-asks : goal.returns-in_err-statements-clause-asks
returns-in_err-statements-clause-asks g c =
    asks_join g.O.Outbox.standing g.L.Ledger.standing c.args.hub.now c.ask_oldest.new.hub c.ask_statements.new.hub
    (asks_join g.O.Outbox.standing g.L.Ledger.standing c.args.hub.now c.ask_last.new.hub c.ask_oldest.new.hub
    (asks_join g.O.Outbox.standing g.L.Ledger.standing c.args.hub.now c.ask_ledger.new.hub c.ask_last.new.hub c.ask_ledger.ensures.asks c.ask_last.ensures.asks)
    c.ask_oldest.ensures.asks)
    c.ask_statements.ensures.asks

pub returns-clause-asks : goal.returns-clause-asks
returns-clause-asks g c =
    asks_join g.O.Outbox.standing g.L.Ledger.standing c.args.hub.now c.ask_oldest.new.hub c.ask_statements.new.hub
    (asks_join g.O.Outbox.standing g.L.Ledger.standing c.args.hub.now c.ask_last.new.hub c.ask_oldest.new.hub
    (asks_join g.O.Outbox.standing g.L.Ledger.standing c.args.hub.now c.ask_ledger.new.hub c.ask_last.new.hub c.ask_ledger.ensures.asks c.ask_last.ensures.asks)
    c.ask_oldest.ensures.asks)
    c.ask_statements.ensures.asks

pub returns-clause-tells : goal.returns-clause-tells
returns-clause-tells g c =
    behind_is g.O.Outbox.standing g.L.Ledger.standing c.args.hub.now c.ask_ledger.new.hub c.ask_last.new.hub c.ask_oldest.new.hub c.ask_statements.new.hub c.args.owner c.args.device c.in_ok-told.told.0 c.in_ok-last.last c.saturating_sub.result c.in_ok-statements.statements c.in_ok-told.told.1 c.in_ok-oldest.oldest c.saturating_sub.ensures
    c.ask_ledger.ensures.asks c.ask_last.ensures.asks c.ask_oldest.ensures.asks c.ask_statements.ensures.asks c.in_ok-told.ensures.tells c.in_ok-last.ensures.tells c.in_ok-oldest.ensures.tells c.in_ok-statements.ensures.tells
