use Rattle.std.proofs.Common.{ℕ, List, subst}
use Rattle.fare_request.specs.Asking.{IsNumber}
use Rattle.fare_request.proofs.Words.{no_and, same_texts}
use Rattle.fare_request.proofs.query.owner_with.Goals as goal

pub returns-in_err-first : goal.returns-in_err-first
returns-in_err-first c = rw c.from_residual.ensures (λ owner n w. c.in_err-first.ensures w.first w.second (no_and w.first owner w.owner_is.0) w.says)

pub returns-in_err-owner : goal.returns-in_err-owner
returns-in_err-owner c = rw c.from_residual-in_err-owner.ensures (λ owner n w.
    let same = same_texts c.args.key.now c.args.query.now c.in_ok-first.first.now c.in_ok-first.second.now c.in_ok-first.ensures.0 c.in_ok-first.ensures.1 owner n w in
    c.in_err-owner.ensures owner (subst (λ (t : List ℕ). IsNumber t owner) same.0 w.owner_is.0, w.owner_is.1))

pub returns-in_err-number : goal.returns-in_err-number
returns-in_err-number c = rw c.from_residual-in_err-number.ensures (λ owner n w.
    let same = same_texts c.args.key.now c.args.query.now c.in_ok-first.first.now c.in_ok-first.second.now c.in_ok-first.ensures.0 c.in_ok-first.ensures.1 owner n w in
    c.in_err-number.ensures n (subst (λ (t : List ℕ). IsNumber t n) same.1 w.number_is))
