use Rattle.std.proofs.Common.{◌∙◌, ap}
use Rattle.std.specs.Prelude.{◌||◌, nat_le}
use Rattle.fare_sessions.specs.Billing.{day_behind}
use Rattle.fare_desk.proofs.Asked.{asks_join}
use Rattle.fare_desk.proofs.LetGo.{over_told}
use Rattle.fare_desk.proofs.forgetting.ask_over.Goals as goal

pub returns-in_err-retired-clause-asks : goal.returns-in_err-retired-clause-asks
returns-in_err-retired-clause-asks g c = asks_join g.O.Outbox.standing g.L.Ledger.standing c.args.hub.now c.ask_ledger.new.hub c.ask_retired.new.hub c.ask_ledger.ensures.asks c.ask_retired.ensures.asks

pub returns-clause-asks : goal.returns-clause-asks
returns-clause-asks g c = asks_join g.O.Outbox.standing g.L.Ledger.standing c.args.hub.now c.ask_ledger.new.hub c.ask_retired.new.hub c.ask_ledger.ensures.asks c.ask_retired.ensures.asks

pub returns-clause-tells : goal.returns-clause-tells
returns-clause-tells g c clean sound =
    let tells = over_told g.O.Outbox.standing g.L.Ledger.standing c.args.hub.now c.ask_ledger.new.hub c.ask_retired.new.hub c.args.day c.args.owner c.args.device c.in_ok-told.told.1 c.in_ok-retired.retired c.are_over.result c.in_ok-told.told.0
    c.ask_ledger.ensures.asks c.ask_retired.ensures.asks c.in_ok-told.ensures.tells c.in_ok-retired.ensures.tells (c.are_over.ensures ∙ ap (λ s. c.in_ok-retired.retired || nat_le c.args.day (day_behind c.in_ok-told.told.1 s)) c.start.ensures.value) clean sound in
    λ h may. tells h may
