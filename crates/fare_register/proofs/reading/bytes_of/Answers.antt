use Rattle.std.proofs.Common.{ℕ, ◌∙◌}
use Rattle.fare_register.specs.Registers.{one_number, operator_lines, IsByte}
use Rattle.fare_register.proofs.Pushing.{no_entry}
use Rattle.fare_register.proofs.reading.bytes_of.Goals as goal

pub returns-in_default : goal.returns-in_default
returns-in_default c = no_entry ℕ IsByte one_number operator_lines c.args.rows.now c.loop-row.row-index c.row-item.result c.row-item.result c.loop-row-test.true c.row-item.is (λ x room is. c.in_default.ensures x room (c.as_slice.ensures.value ∙ is))
