use Rattle.std.proofs.Common.{◌≡◌}
use Rattle.std.specs.Prelude.{Err}
use Rattle.fare_desk.proofs.Going.{goes_asks, goes_read}
use Rattle.fare_run.proofs.Asked.{ordered, retire_fails}
use Rattle.fare_run.proofs.Unasked.{unasked_bill, unasked_retire}
use Rattle.fare_run.proofs.asking.answer_over.Goals as goal

pub returns-in-Close-clause-goes : goal.returns-in-Close-clause-goes
returns-in-Close-clause-goes g c = rw c.in-Close.is c.close_days.ensures.goes

pub returns-in-Bill-clause-goes : goal.returns-in-Bill-clause-goes
returns-in-Bill-clause-goes g c = rw c.in-Bill.is (goes_read g.Ob.Outbox.standing g.L.Ledger.standing c.args.hub.now c.write_bill.new.hub c.write_bill.ensures.reads)

pub returns-in-Settle-clause-goes : goal.returns-in-Settle-clause-goes
returns-in-Settle-clause-goes g c = rw c.in-Settle.is (goes_read g.Ob.Outbox.standing g.L.Ledger.standing c.args.hub.now c.write_settlement.new.hub c.write_settlement.ensures.reads)

pub returns-in-Stand-clause-goes : goal.returns-in-Stand-clause-goes
returns-in-Stand-clause-goes g c = rw c.in-Stand.is (goes_asks g.Ob.Outbox.standing g.L.Ledger.standing c.args.hub.now c.write_standing.new.hub c.write_standing.ensures.asks)

pub returns-in-Retire-clause-goes : goal.returns-in-Retire-clause-goes
returns-in-Retire-clause-goes g c = rw c.in-Retire.is c.retire_lane.ensures.goes

pub returns-in-Retire-clause-fails : goal.returns-in-Retire-clause-fails
returns-in-Retire-clause-fails g c =
    let r = c.retire_lane.ensures in
    rw c.in-Retire.is (retire_fails g.Ob.Outbox.standing g.L.Ledger.standing c.in-Retire.owner c.in-Retire.device c.args.hub.now c.retire_lane.new.hub c.retire_lane.result r.unknown_owner r.unknown_device r.failed r.named)

pub returns-in-Forget-clause-goes : goal.returns-in-Forget-clause-goes
returns-in-Forget-clause-goes g c = rw c.in-Forget.is c.forget_days.ensures.goes

pub returns-in-Close-clause-cause : goal.returns-in-Close-clause-cause
returns-in-Close-clause-cause g c = rw c.in-Close.is (λ trusted. let kept = ordered trusted in c.close_days.ensures.cause kept.0 kept.1)

pub returns-in-Stand-clause-cause : goal.returns-in-Stand-clause-cause
returns-in-Stand-clause-cause g c = λ trusted. c.write_standing.ensures.cause

pub returns-in-Retire-clause-cause : goal.returns-in-Retire-clause-cause
returns-in-Retire-clause-cause g c = rw c.in-Retire.is (λ trusted. let kept = ordered trusted in c.retire_lane.ensures.cause kept.0 kept.1)

pub returns-in-Forget-clause-cause : goal.returns-in-Forget-clause-cause
returns-in-Forget-clause-cause g c = rw c.in-Forget.is (λ trusted. let kept = ordered trusted in c.forget_days.ensures.cause kept.0 kept.1)

pub returns-in-Bill-clause-cause : goal.returns-in-Bill-clause-cause
returns-in-Bill-clause-cause g c = λ trusted. c.write_bill.ensures.cause

pub returns-in-Settle-clause-cause : goal.returns-in-Settle-clause-cause
returns-in-Settle-clause-cause g c = λ trusted. c.write_settlement.ensures.cause

pub returns-in-Bill-clause-unasked : goal.returns-in-Bill-clause-unasked
returns-in-Bill-clause-unasked g c = rw c.in-Bill.is (λ why is. unasked_bill c.args.hub.now.scheme c.in-Bill.owner c.in-Bill.day (λ f. (c.write_bill.new.hub ≡ c.args.hub.now) × (c.write_bill.result ≡ Err f)) why is c.write_bill.ensures.unknown c.write_bill.ensures.early)

pub returns-in-Settle-clause-unasked : goal.returns-in-Settle-clause-unasked
returns-in-Settle-clause-unasked g c = rw c.in-Settle.is (λ why is. unasked_bill c.args.hub.now.scheme c.in-Settle.owner c.in-Settle.day (λ f. (c.write_settlement.new.hub ≡ c.args.hub.now) × (c.write_settlement.result ≡ Err f)) why is c.write_settlement.ensures.unknown c.write_settlement.ensures.early)

pub returns-in-Retire-clause-unasked : goal.returns-in-Retire-clause-unasked
returns-in-Retire-clause-unasked g c =
    let r = c.retire_lane.ensures in
    rw c.in-Retire.is (λ why is. unasked_retire c.args.hub.now.scheme c.in-Retire.owner c.in-Retire.device (λ f. (c.retire_lane.new.hub ≡ c.args.hub.now) × (c.retire_lane.result ≡ Err f)) why is (λ none. (r.unasked.0 none, r.unknown_owner.1 none)) (λ known none. (r.unasked.1 none, r.unknown_device.1 (known, none))))
