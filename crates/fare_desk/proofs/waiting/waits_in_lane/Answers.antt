use Rattle.std.proofs.Common.{sym, ◌∙◌, subst}
use Rattle.fare_desk.specs.Waiting.{WaitsInLane}
use Rattle.fare_desk.proofs.Asked.{asked_known, asked_ledgers, asks_join}
use Rattle.fare_desk.proofs.Failing.{told_of_none}
use Rattle.fare_desk.proofs.Waits.{lane_retired, lane_working}
use Rattle.fare_desk.proofs.waiting.waits_in_lane.Goals as goal

pub returns-in_err-retired-clause-asks : goal.returns-in_err-retired-clause-asks
returns-in_err-retired-clause-asks g c = c.ask_retired.ensures.asks

pub returns-in_err-retired-clause-tells : goal.returns-in_err-retired-clause-tells
returns-in_err-retired-clause-tells g c = λ clean sound. told_of_none c.from_residual.result _ _ c.from_residual.ensures.1

pub returns-then-retired-clause-asks : goal.returns-then-retired-clause-asks
returns-then-retired-clause-asks g c = c.ask_retired.ensures.asks

pub returns-then-retired-clause-tells : goal.returns-then-retired-clause-tells
returns-then-retired-clause-tells g c = λ clean sound h may. subst (WaitsInLane h c.args.owner c.args.device) (sym c.none.ensures) (lane_retired g.O.Outbox.standing g.L.Ledger.standing c.args.hub.now c.ask_retired.new.hub c.args.owner c.args.device c.ask_retired.ensures.asks (λ clean sound h may. c.in_ok-retired.ensures.tells clean sound h may ∙ c.if-retired.true) clean sound h may)

pub waits_behind-requires-clause-ledgers : goal.waits_behind-requires-clause-ledgers
waits_behind-requires-clause-ledgers g c = asked_ledgers g.O.Outbox.standing g.L.Ledger.standing c.args.hub.now c.ask_retired.new.hub c.ask_retired.ensures.asks c.requires.ledgers

pub waits_behind-requires-clause-known : goal.waits_behind-requires-clause-known
waits_behind-requires-clause-known g c = asked_known g.O.Outbox.standing g.L.Ledger.standing c.args.hub.now c.ask_retired.new.hub c.args.owner c.ask_retired.ensures.asks c.requires.known

pub returns-else-retired-clause-asks : goal.returns-else-retired-clause-asks
returns-else-retired-clause-asks g c = asks_join g.O.Outbox.standing g.L.Ledger.standing c.args.hub.now c.ask_retired.new.hub c.waits_behind.new.hub c.ask_retired.ensures.asks c.waits_behind.ensures.asks

pub returns-else-retired-clause-tells : goal.returns-else-retired-clause-tells
returns-else-retired-clause-tells g c = lane_working g.O.Outbox.standing g.L.Ledger.standing c.args.hub.now c.ask_retired.new.hub c.waits_behind.new.hub c.args.owner c.args.device c.ask_retired.ensures.asks c.waits_behind.ensures.asks c.in_ok-retired.retired c.if-retired.false c.in_ok-retired.ensures.tells c.waits_behind.result c.waits_behind.ensures.tells
