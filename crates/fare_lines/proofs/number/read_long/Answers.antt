use Rattle.std.proofs.Common.{◌≤◌, ◌*◌, ◌^◌, ◌∙◌, arith, sym}
use Rattle.fare_lines.proofs.Numbers.{if_none, not_all_digits, one_digit_more, take_all, too_large}
use Rattle.fare_lines.proofs.number.read_long.Goals as goal

pub returns-then-not-is_ascii_digit-clause-none : goal.returns-then-not-is_ascii_digit-clause-none
returns-then-not-is_ascii_digit-clause-none c = λ all small.
    not_all_digits c.args.word.now c.loop-byte.byte-index c.loop-byte-test.true (sym c.is_ascii_digit.ensures.value ∙ c.if-not-is_ascii_digit.true) all

pub returns-in_err-checked_mul-clause-none : goal.returns-in_err-checked_mul-clause-none
returns-in_err-checked_mul-clause-none c = if_none c.from_residual.result _ (λ all small.
    let digit = sym c.is_ascii_digit.ensures.value ∙ c.if-not-is_ascii_digit.false in
    let large : 2 ^ 64 ≤ c.loop-byte.number * 10 = omega (arith, c.in_err-checked_mul.ensures) in
    too_large c.args.word.now c.loop-byte.byte-index c.loop-byte.number c.loop-byte-test.true digit c.loop-byte.invariant.digits c.loop-byte.invariant.is (omega (arith, large)) small)

pub returns-in_err-number-clause-none : goal.returns-in_err-number-clause-none
returns-in_err-number-clause-none c = if_none c.from_residual-in_err-number.result _ (λ all small.
    let digit = sym c.is_ascii_digit.ensures.value ∙ c.if-not-is_ascii_digit.false in
    too_large c.args.word.now c.loop-byte.byte-index c.loop-byte.number c.loop-byte-test.true digit c.loop-byte.invariant.digits c.loop-byte.invariant.is (omega (arith, c.in_err-number.ensures, c.in_ok-checked_mul.ensures, c.from.ensures)) small)

pub loop-byte-preserved : goal.loop-byte-preserved
loop-byte-preserved c =
    let digit = sym c.is_ascii_digit.ensures.value ∙ c.if-not-is_ascii_digit.false in
    let more = one_digit_more c.args.word.now c.loop-byte.byte-index c.loop-byte.number c.loop-byte-test.true digit c.loop-byte.invariant.digits c.loop-byte.invariant.is in
    record { digits = more.0; is = omega (arith, more.1, c.in_ok-number.ensures, c.in_ok-checked_mul.ensures, c.from.ensures); small = omega (arith, c.in_ok-number.ensures) }

pub returns-clause-found : goal.returns-clause-found
returns-clause-found c =
    let all = take_all c.loop-byte.byte-index c.args.word.now c.loop-byte-test.false in
    (rw all at c.loop-byte.invariant.digits, rw all at c.loop-byte.invariant.is, c.loop-byte.invariant.small)
