use Rattle.std.proofs.Common.{◌≡◌, ◌≢◌, ◌<◌, ◌^◌, ◌∙◌, ap, arith, drop, get_or, length, length-take, rules, subst, sym, take, Some}
use Rattle.std.specs.Fmt.{decimal}
use Rattle.fare_lines.specs.Reading.{CutsAt, is_no_digit}
use Rattle.fare_lines.proofs.Cuts.{first_of_front, front_cut, whole_rest}
use Rattle.fare_lines.proofs.Numbers.{digits_are_spelled, digits_lack_other, empty_is_none, few_digits, none_in_front, padded_is_none, spelled_in_front}
use Rattle.fare_lines.proofs.number.cut_number.Goals as goal

pub returns-in-0-clause-none : goal.returns-in-0-clause-none
returns-in-0-clause-none c =
    let text = c.args.text.now in
    let count = c.read_few-number.result.1 in
    let read = c.read_few-number.ensures in
    let cut = front_cut is_no_digit text count (digits_lack_other (take count text) read.digits) (read.ends (λ e. omega (arith, e, c.in-0.is))) in
    none_in_front text (take count text) (drop count text) cut
    (empty_is_none (take count text) (omega (arith, length-take count text, c.in-0.is)))

pub returns-in-1-clause-found : goal.returns-in-1-clause-found
returns-in-1-clause-found c =
    let text = c.args.text.now in
    let count = c.read_few-number.result.1 in
    let number = c.read_few-number.result.0 in
    let read = c.read_few-number.ensures in
    let cut = front_cut is_no_digit text count (digits_lack_other (take count text) read.digits) (read.ends (λ e. omega (arith, e, c.in-1.is))) in
    let long : length (take count text) ≡ count = omega (arith, length-take count text, read.within) in
    let small : number < 2 ^ 64 = omega (arith, few_digits text count number (omega (arith, c.in-1.is)) read.digits read.value) in
    let spelled = digits_are_spelled (take count text) (Some number) (read.digits, read.value, small) (omega (arith, long, c.in-1.is)) (λ e. omega (arith, long, c.in-1.is)) in
    let rest = ap (λ n. drop n text) c.in-1.is ∙ sym (whole_rest 1 text) in
    (small, subst (λ r. CutsAt is_no_digit text (decimal number) r) rest (spelled_in_front text (take count text) (drop count text) number cut spelled.1))

pub returns-in_default-clause-none : goal.returns-in_default-clause-none
returns-in_default-clause-none c =
    let text = c.args.text.now in
    let count = c.read_few-number.result.1 in
    let read = c.read_few-number.ensures in
    let none : count ≢ 0 = search rules in
    let one : count ≢ 1 = search rules in
    let few : count ≢ 19 = search rules in
    let cut = front_cut is_no_digit text count (digits_lack_other (take count text) read.digits) (read.ends few) in
    let zero : get_or (take count text) 0 0 ≡ 48 = first_of_front count text (omega (arith, none)) ∙ c.if-text-eq48.true in
    none_in_front text (take count text) (drop count text) cut
    (padded_is_none (take count text) zero (omega (arith, length-take count text, none, one, read.within)))

pub returns-in_default-2-clause-found : goal.returns-in_default-2-clause-found
returns-in_default-2-clause-found c =
    let text = c.args.text.now in
    let count = c.read_few-number.result.1 in
    let number = c.read_few-number.result.0 in
    let read = c.read_few-number.ensures in
    let none : count ≢ 0 = search rules in
    let few : count ≢ 19 = search rules in
    let cut = front_cut is_no_digit text count (digits_lack_other (take count text) read.digits) (read.ends few) in
    let long : length (take count text) ≡ count = omega (arith, length-take count text, read.within) in
    let small : number < 2 ^ 64 = omega (arith, few_digits text count number (omega (arith, read.few, few)) read.digits read.value) in
    let spelled = digits_are_spelled (take count text) (Some number) (read.digits, read.value, small) (omega (arith, long, none))
    (λ e. absurd (c.if-text-eq48.false (sym (first_of_front count text (omega (arith, none))) ∙ e))) in
    (small, subst (λ r. CutsAt is_no_digit text (decimal number) r) (sym (whole_rest count text)) (spelled_in_front text (take count text) (drop count text) number cut spelled.1))
