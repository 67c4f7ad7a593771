use Rattle.std.proofs.Common.{◌∙◌, sym}
use Rattle.fare_setup.specs.SchemeLines.{owner_line}
use Rattle.fare_register.specs.Registers.{pair_numbers}
use Rattle.fare_register.proofs.Entered.{line_row}
use Rattle.fare_register.proofs.listing.owner_rows.Goals as goal

pub loop-position-preserved : goal.loop-position-preserved
loop-position-preserved c =
    line_row owner_line pair_numbers c.args.scheme.now.owners c.loop-position.position c.in-Some-Owner.field-0 c.loop-position.rows.items c.push.new.self.items c.in_ok-row.field-0 (sym c.in-Some-Owner.is ∙ c.line_of_owner.ensures)
    (λ x e. (let is = c.in-Some-Owner.field-0-is in let row = c.in_ok-row.ensures in let from = c.from.ensures in cc)) c.loop-position.invariant c.in_ok-push.ensures.items
