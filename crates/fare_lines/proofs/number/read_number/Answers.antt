use Rattle.std.proofs.Common.{◌<◌, length, arith, rules}
use Rattle.fare_lines.proofs.Numbers.{digits_are_spelled, digits_are_none, empty_is_none, padded_is_none}
use Rattle.fare_lines.proofs.number.read_number.Goals as goal
use Rattle.fare_lines.proofs.number.read_number.Goals.{else-word-eq48-via-then-word-eq48+else-word-gt1, else-word-eq48-via-else-word-eq48}

pub returns-then-is_empty-clause-none : goal.returns-then-is_empty-clause-none
returns-then-is_empty-clause-none c = empty_is_none c.args.word.now (search rules)

pub returns-then-word-gt1-clause-none : goal.returns-then-word-gt1-clause-none
returns-then-word-gt1-clause-none c = padded_is_none c.args.word.now c.if-word-eq48.true c.if-word-gt1.true

pub returns-clause-found : goal.returns-clause-found
returns-clause-found c =
    let some : 0 < length c.args.word.now = search rules in
    digits_are_spelled c.args.word.now c.read_long.result c.read_long.ensures.found some
    (λ e. elim c.else-word-eq48.branch [
      | else-word-eq48-via-then-word-eq48+else-word-gt1 w ↦ omega arith
      | else-word-eq48-via-else-word-eq48 w ↦ absurd (w.if-word-eq48.false e)
    ])

pub returns-clause-none : goal.returns-clause-none
returns-clause-none c = digits_are_none c.args.word.now c.read_long.result c.read_long.ensures.none
