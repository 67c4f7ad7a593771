use Rattle.std.proofs.Common.{◌≡◌, ◌+◌, ◌-◌, ◌∙◌, ap, arith}
use Rattle.fare_cap.specs.Fares.{sum_below, day_fare, week_start}
use Rattle.fare_cap.specs.RidesWords.{paid_by}
use Rattle.fare_cap.proofs.fares.fares_before.Goals as goal

pub returns-clause-value : goal.returns-clause-value
returns-clause-value c =
    let start = week_start c.args.scheme.now c.args.day in
    let i = c.loop-earlier.invariant in
    let whole : c.loop-earlier.earlier-iterator.next - start ≡ c.args.day - start = omega (arith, i.left.within, i.left.last, i.left.begun, c.in-None.ensures.steps.0) in
    c.new.ensures ∙ i.value ∙ ap (λ n. sum_below n (λ k. day_fare c.args.tariff.now (paid_by c.args.rides.now c.args.account (start + k)))) whole

pub returns-clause-small : goal.returns-clause-small
returns-clause-small c = omega (arith, c.new.ensures, c.loop-earlier.invariant.small, c.loop-earlier.invariant.left.within)
