use Rattle.std.proofs.Common.{subst}
use Rattle.fare_desk.specs.Causes.{store_fault}
use Rattle.fare_desk.proofs.Going.{goes_asks, goes_read}
use Rattle.fare_page.specs.Answering.{IsQuestion}
use Rattle.fare_page.proofs.Tells.{line_close, mistake_not, ordered, page_not, still_stores, tells_bill, tells_close, tells_retire, tells_settlement, tells_standing, told_alone, told_stores}
use Rattle.fare_page.proofs.answering.answer.Goals as goal

pub returns-in-Metrics-clause-goes : goal.returns-in-Metrics-clause-goes
returns-in-Metrics-clause-goes g c = goes_asks g.O.Outbox.standing g.L.Ledger.standing c.args.hub.now c.tell_metrics.new.hub c.tell_metrics.ensures.asks

pub returns-in-Stand-clause-goes : goal.returns-in-Stand-clause-goes
returns-in-Stand-clause-goes g c = goes_asks g.O.Outbox.standing g.L.Ledger.standing c.args.hub.now c.write_standing-ended.new.hub c.write_standing-ended.ensures.asks

pub returns-in-Bill-clause-goes : goal.returns-in-Bill-clause-goes
returns-in-Bill-clause-goes g c = goes_read g.O.Outbox.standing g.L.Ledger.standing c.args.hub.now c.write_bill-ended.new.hub c.write_bill-ended.ensures.reads

pub returns-in-Bill-clause-tells : goal.returns-in-Bill-clause-tells
returns-in-Bill-clause-tells g c =
    tells_bill g.O.Outbox.standing g.L.Ledger.standing c.args.progress.now c.args.ask c.args.hub.now c.write_bill-ended.new.hub c.in-Bill.owner c.in-Bill.day c.args.body.now.items c.write_bill-ended.new.output.items c.tell-in-Bill.new.body.items c.tell-in-Bill.result c.write_bill-ended.result c.in-Bill.is c.requires.empty
    c.write_bill-ended.ensures.written c.write_bill-ended.ensures.refused c.write_bill-ended.ensures.named c.write_bill-ended.ensures.kept c.tell-in-Bill.ensures.told

pub returns-in-Settle-clause-goes : goal.returns-in-Settle-clause-goes
returns-in-Settle-clause-goes g c = goes_read g.O.Outbox.standing g.L.Ledger.standing c.args.hub.now c.write_settlement-ended.new.hub c.write_settlement-ended.ensures.reads

pub returns-in-Settle-clause-tells : goal.returns-in-Settle-clause-tells
returns-in-Settle-clause-tells g c =
    tells_settlement g.O.Outbox.standing g.L.Ledger.standing c.args.progress.now c.args.ask c.args.hub.now c.write_settlement-ended.new.hub c.in-Settle.owner c.in-Settle.day c.args.body.now.items c.write_settlement-ended.new.output.items c.tell-in-Settle.new.body.items c.tell-in-Settle.result c.write_settlement-ended.result c.in-Settle.is c.requires.empty
    c.write_settlement-ended.ensures.written c.write_settlement-ended.ensures.refused c.write_settlement-ended.ensures.named c.write_settlement-ended.ensures.kept c.tell-in-Settle.ensures.told

pub returns-in-Close-clause-tells : goal.returns-in-Close-clause-tells
returns-in-Close-clause-tells g c =
    tells_close g.O.Outbox.standing g.L.Ledger.standing c.args.progress.now c.args.ask c.args.hub.now c.close_days-ended.new.hub c.args.body.now.items c.close_days-ended.new.output.items c.tell-in-Close.new.body.items c.tell-in-Close.result c.close_days-ended.result c.in-Close.is c.requires.empty
    c.close_days-ended.ensures.closed c.close_days-ended.ensures.unnamed c.tell-in-Close.ensures.told

pub returns-in-Stand-clause-tells : goal.returns-in-Stand-clause-tells
returns-in-Stand-clause-tells g c =
    tells_standing g.O.Outbox.standing g.L.Ledger.standing c.args.progress.now c.args.ask c.args.hub.now c.write_standing-ended.new.hub c.args.body.now.items c.write_standing-ended.new.output.items c.tell.new.body.items c.tell.result c.write_standing-ended.result c.in-Stand.is c.requires.empty
    c.write_standing-ended.ensures.written c.write_standing-ended.ensures.unnamed c.tell.ensures.told

pub returns-in-Retire-clause-tells : goal.returns-in-Retire-clause-tells
returns-in-Retire-clause-tells g c =
    tells_retire g.O.Outbox.standing g.L.Ledger.standing c.args.progress.now c.args.ask c.args.hub.now c.retire_lane-ended.new.hub c.in-Retire.owner c.in-Retire.device c.args.body.now.items c.retire_lane-ended.new.output.items c.tell-in-Retire.new.body.items c.tell-in-Retire.result c.retire_lane-ended.result c.in-Retire.is c.requires.empty
    c.retire_lane-ended.ensures.unknown_owner c.retire_lane-ended.ensures.unknown_device c.retire_lane-ended.ensures.retired c.retire_lane-ended.ensures.failed c.retire_lane-ended.ensures.named c.retire_lane-ended.ensures.kept c.tell-in-Retire.ensures.told

pub returns-in-Stand-clause-stores : goal.returns-in-Stand-clause-stores
returns-in-Stand-clause-stores g c = λ trusted.
    told_stores g.O.Outbox.standing g.L.Ledger.standing c.args.hub.now c.write_standing-ended.new.hub (store_fault c.write_standing-ended.result) c.write_standing-ended.new.output.items c.tell.new.body.items c.tell.result c.tell.ensures.stores c.write_standing-ended.ensures.cause

pub returns-in-Stand-clause-line : goal.returns-in-Stand-clause-line
returns-in-Stand-clause-line g c = rw c.in-Stand.is (told_alone c.write_standing-ended.result c.args.body.now.items c.write_standing-ended.new.output.items c.tell.new.body.items c.tell.result c.requires.empty c.write_standing-ended.ensures.kept c.tell.ensures.stores)

pub returns-in-Bill-clause-stores : goal.returns-in-Bill-clause-stores
returns-in-Bill-clause-stores g c = λ trusted.
    told_stores g.O.Outbox.standing g.L.Ledger.standing c.args.hub.now c.write_bill-ended.new.hub (store_fault c.write_bill-ended.result) c.write_bill-ended.new.output.items c.tell-in-Bill.new.body.items c.tell-in-Bill.result c.tell-in-Bill.ensures.stores c.write_bill-ended.ensures.cause

pub returns-in-Bill-clause-line : goal.returns-in-Bill-clause-line
returns-in-Bill-clause-line g c = rw c.in-Bill.is (told_alone c.write_bill-ended.result c.args.body.now.items c.write_bill-ended.new.output.items c.tell-in-Bill.new.body.items c.tell-in-Bill.result c.requires.empty c.write_bill-ended.ensures.kept c.tell-in-Bill.ensures.stores)

pub returns-in-Settle-clause-stores : goal.returns-in-Settle-clause-stores
returns-in-Settle-clause-stores g c = λ trusted.
    told_stores g.O.Outbox.standing g.L.Ledger.standing c.args.hub.now c.write_settlement-ended.new.hub (store_fault c.write_settlement-ended.result) c.write_settlement-ended.new.output.items c.tell-in-Settle.new.body.items c.tell-in-Settle.result c.tell-in-Settle.ensures.stores c.write_settlement-ended.ensures.cause

pub returns-in-Settle-clause-line : goal.returns-in-Settle-clause-line
returns-in-Settle-clause-line g c = rw c.in-Settle.is (told_alone c.write_settlement-ended.result c.args.body.now.items c.write_settlement-ended.new.output.items c.tell-in-Settle.new.body.items c.tell-in-Settle.result c.requires.empty c.write_settlement-ended.ensures.kept c.tell-in-Settle.ensures.stores)

pub returns-in-Close-clause-stores : goal.returns-in-Close-clause-stores
returns-in-Close-clause-stores g c = λ trusted.
    told_stores g.O.Outbox.standing g.L.Ledger.standing c.args.hub.now c.close_days-ended.new.hub (store_fault c.close_days-ended.result) c.close_days-ended.new.output.items c.tell-in-Close.new.body.items c.tell-in-Close.result c.tell-in-Close.ensures.stores (let kept = ordered g.O.Outbox.standing g.L.Ledger.standing c.args.ask c.args.hub.now c.close_days-ended.new.hub (λ question. subst IsQuestion c.in-Close.is question) trusted in c.close_days-ended.ensures.cause kept.0 kept.1)

pub returns-in-Close-clause-line : goal.returns-in-Close-clause-line
returns-in-Close-clause-line g c = rw c.in-Close.is (line_close (store_fault c.close_days-ended.result) c.close_days-ended.new.output.items c.tell-in-Close.new.body.items c.tell-in-Close.result c.tell-in-Close.ensures.stores)

pub returns-in-Retire-clause-stores : goal.returns-in-Retire-clause-stores
returns-in-Retire-clause-stores g c = λ trusted.
    told_stores g.O.Outbox.standing g.L.Ledger.standing c.args.hub.now c.retire_lane-ended.new.hub (store_fault c.retire_lane-ended.result) c.retire_lane-ended.new.output.items c.tell-in-Retire.new.body.items c.tell-in-Retire.result c.tell-in-Retire.ensures.stores (let kept = ordered g.O.Outbox.standing g.L.Ledger.standing c.args.ask c.args.hub.now c.retire_lane-ended.new.hub (λ question. subst IsQuestion c.in-Retire.is question) trusted in c.retire_lane-ended.ensures.cause kept.0 kept.1)

pub returns-in-Retire-clause-line : goal.returns-in-Retire-clause-line
returns-in-Retire-clause-line g c = rw c.in-Retire.is (told_alone c.retire_lane-ended.result c.args.body.now.items c.retire_lane-ended.new.output.items c.tell-in-Retire.new.body.items c.tell-in-Retire.result c.requires.empty c.retire_lane-ended.ensures.kept c.tell-in-Retire.ensures.stores)

pub returns-in-Metrics-clause-stores : goal.returns-in-Metrics-clause-stores
returns-in-Metrics-clause-stores g c = λ trusted. c.tell_metrics.ensures.stores

pub returns-in-Page-clause-stores : goal.returns-in-Page-clause-stores
returns-in-Page-clause-stores g c = λ trusted. still_stores g.O.Outbox.standing g.L.Ledger.standing c.args.hub.now c.tell_page.result (page_not c.tell_page.result c.tell_page.ensures)

pub returns-in-Page-clause-line : goal.returns-in-Page-clause-line
returns-in-Page-clause-line g c = λ broken. absurd (page_not c.tell_page.result c.tell_page.ensures broken)

pub returns-in-Nothing-clause-stores : goal.returns-in-Nothing-clause-stores
returns-in-Nothing-clause-stores g c = λ trusted. still_stores g.O.Outbox.standing g.L.Ledger.standing c.args.hub.now c.tell_mistake.result (mistake_not c.in-Nothing.why c.tell_mistake.result c.tell_mistake.new.body.items c.tell_mistake.ensures)

pub returns-in-Nothing-clause-line : goal.returns-in-Nothing-clause-line
returns-in-Nothing-clause-line g c = λ broken. absurd (mistake_not c.in-Nothing.why c.tell_mistake.result c.tell_mistake.new.body.items c.tell_mistake.ensures broken)

pub returns-in-Metrics-clause-line : goal.returns-in-Metrics-clause-line
returns-in-Metrics-clause-line g c = rw c.in-Metrics.is c.tell_metrics.ensures.line
