use Rattle.fare_lines.proofs.Numbers.{none_in_front}
use Rattle.fare_lines.proofs.number.cut_long.Goals as goal

pub returns-in-None-clause-none : goal.returns-in-None-clause-none
returns-in-None-clause-none c =
    none_in_front c.args.text.now c.cut_at_no_digit.result.0.now c.cut_at_no_digit.result.1.now c.cut_at_no_digit.ensures c.in-None.ensures.none
