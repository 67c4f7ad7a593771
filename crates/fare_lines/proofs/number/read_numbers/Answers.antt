use Rattle.std.proofs.Common.{◌≡◌, ◌∷◌, ◌++◌, [], false, true}
use Rattle.std.specs.List.{AllByRecursion}
use Rattle.fare_lines.specs.Reading.{BeginsWith, is_feed}
use Rattle.fare_lines.proofs.Rows.{all_push}
use Rattle.fare_lines.proofs.Numbers.{IsU64}
use Rattle.fare_lines.proofs.Spaced.{no_end, no_number, numbers_end, numbers_go_on, space_or_feed}
use Rattle.fare_lines.proofs.number.read_numbers.Goals as goal

pub returns-in_default-clause-none : goal.returns-in_default-clause-none
returns-in_default-clause-none c =
    no_number c.args.text.now c.loop-number.rest.now c.loop-number.numbers.items c.loop-number.invariant.some c.loop-number.invariant.fits c.loop-number.invariant.is c.in_default.ensures.none

pub returns-then-ends_line-2-clause-found : goal.returns-then-ends_line-2-clause-found
returns-then-ends_line-2-clause-found c =
    let read = c.loop-number.numbers.items in
    let number = c.in-Some.number in
    let all : AllByRecursion IsU64 (read ++ number ∷ []) = all_push IsU64 read number c.loop-number.invariant.fits c.in-Some.ensures.found.0 in
    let begins : BeginsWith is_feed c.in-Some.after.now = c.ends_line-in-loop-number.ensures.0 c.if-ends_line-2.true in
    rw c.in_ok-push.ensures.items (
    numbers_end c.args.text.now c.loop-number.rest.now c.in-Some.after.now read number all c.loop-number.invariant.is c.in-Some.ensures.found.1.is begins
    )

pub loop-number-preserved : goal.loop-number-preserved
loop-number-preserved c = record {
  some = c.loop-number.invariant.some;
  fits = rw c.in_ok-push.ensures.items (all_push IsU64 c.loop-number.numbers.items c.in-Some.number c.loop-number.invariant.fits c.in-Some.ensures.found.0);
  is = rw c.in_ok-push.ensures.items (numbers_go_on c.args.text.now c.loop-number.rest.now c.in-Some.after.now c.in-Some-behind_space.next.now c.loop-number.numbers.items c.in-Some.number c.loop-number.invariant.is c.in-Some.ensures.found.1.is c.in-Some-behind_space.ensures.some);
}

pub returns-in-None-clause-none : goal.returns-in-None-clause-none
returns-in-None-clause-none c =
    no_end c.args.text.now c.loop-number.rest.now c.in-Some.after.now c.loop-number.numbers.items c.in-Some.number c.loop-number.invariant.some c.loop-number.invariant.fits c.loop-number.invariant.is c.in-Some.ensures.found.0 c.in-Some.ensures.found.1
    (space_or_feed c.in-Some.after.now (λ begins. let both : false ≡ true = c.if-ends_line-2.ensures.1 begins in absurd (cc)) c.in-None.ensures.none)
