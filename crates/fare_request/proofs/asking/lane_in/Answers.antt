use Rattle.std.proofs.Common.{rules, subst, codes}
use Rattle.http.specs.Request.{head_of}
use Rattle.fare_record.specs.Limits.{IsDeviceId}
use Rattle.fare_request.proofs.Named.{one_named}
use Rattle.fare_request.proofs.asking.lane_in.Goals as goal

pub returns-in_err-owner : goal.returns-in_err-owner
returns-in_err-owner c = rw c.from_residual.ensures (λ owner n w. c.in_err-owner.ensures owner n w.0)

pub returns-in_err-device : goal.returns-in_err-device
returns-in_err-device c = rw c.from_residual-in_err-device.ensures (λ owner n w.
    let same = one_named (codes "device=") (head_of c.args.request.now) owner n c.in_ok-owner.owner c.in_ok-owner.number w.0 c.in_ok-owner.ensures in
    let valid : IsDeviceId c.in_ok-owner.number = subst IsDeviceId same.1 w.1 in
    absurd (search (rules, valid, c.in_err-device.ensures.valid)))
