use Rattle.std.proofs.Common.{◌∙◌, sym}
use Rattle.fare_register.specs.Registers.{product_numbers}
use Rattle.fare_register.proofs.Entered.{one_row}
use Rattle.fare_register.proofs.listing.product_rows.Goals as goal

pub loop-position-preserved : goal.loop-position-preserved
loop-position-preserved c =
    one_row product_numbers c.args.scheme.now.products c.loop-position.position c.in-Some.entry c.loop-position.rows.items c.push.new.self.items c.in_ok-row.field-0 (sym c.in-Some.is ∙ c.product_entry.ensures.is) c.loop-position.invariant c.in_ok-push.ensures.items
    (c.in_ok-row.ensures ∙ c.sold_numbers.ensures)
