use Rattle.std.proofs.Common.{rules, subst, codes}
use Rattle.http.specs.Request.{head_of}
use Rattle.fare_record.specs.Limits.{IsDay}
use Rattle.fare_request.proofs.Named.{one_named}
use Rattle.fare_request.proofs.asking.day_in.Goals as goal

pub returns-in_err-owner : goal.returns-in_err-owner
returns-in_err-owner c = rw c.from_residual.ensures (λ owner n w. c.in_err-owner.ensures owner n w.0)

pub returns-in_err-day : goal.returns-in_err-day
returns-in_err-day c = rw c.from_residual-in_err-day.ensures (λ owner n w.
    let same = one_named (codes "day=") (head_of c.args.request.now) owner n c.in_ok-owner.owner c.in_ok-owner.number w.0 c.in_ok-owner.ensures in
    let valid : IsDay c.in_ok-owner.number = subst IsDay same.1 w.1 in
    absurd (search (rules, valid, c.in_err-day.ensures.valid)))
