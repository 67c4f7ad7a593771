use Rattle.std.proofs.Common.{◌∙◌, ◌≤◌, get_or, arith, sym}
use Rattle.fare_lines.proofs.Numbers.{digit_of, few_digits, one_digit_more}
use Rattle.fare_lines.proofs.number.read_few.Goals as goal

pub overflow_mul-number : goal.overflow_mul-number
overflow_mul-number c =
    let at : c.loop-byte.byte-index ≤ 18 = omega (arith, c.loop-byte.invariant.at, c.loop-byte.invariant.few, c.if-count-eq-SURE_DIGITS.false) in
    omega (arith, few_digits c.args.text.now c.loop-byte.byte-index c.loop-byte.number at c.loop-byte.invariant.digits c.loop-byte.invariant.is)

pub overflow_add-number : goal.overflow_add-number
overflow_add-number c =
    let at : c.loop-byte.byte-index ≤ 18 = omega (arith, c.loop-byte.invariant.at, c.loop-byte.invariant.few, c.if-count-eq-SURE_DIGITS.false) in
    let few = few_digits c.args.text.now c.loop-byte.byte-index c.loop-byte.number at c.loop-byte.invariant.digits c.loop-byte.invariant.is in
    let digit = digit_of (get_or c.args.text.now c.loop-byte.byte-index 0) (sym c.is_ascii_digit.ensures.value ∙ c.if-not-is_ascii_digit.false) in
    omega (arith, few, digit.1, c.from.ensures)

pub loop-byte-preserved : goal.loop-byte-preserved
loop-byte-preserved c =
    let digit = sym c.is_ascii_digit.ensures.value ∙ c.if-not-is_ascii_digit.false in
    let more = one_digit_more c.args.text.now c.loop-byte.byte-index c.loop-byte.number c.loop-byte-test.true digit c.loop-byte.invariant.digits c.loop-byte.invariant.is in
    record {
      at = omega (arith, c.loop-byte.invariant.at);
      few = omega (arith, c.loop-byte.invariant.few, c.if-count-eq-SURE_DIGITS.false);
      digits = more.0;
      is = omega (arith, more.1, c.from.ensures);
    }
