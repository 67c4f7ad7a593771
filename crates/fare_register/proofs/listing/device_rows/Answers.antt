use Rattle.std.proofs.Common.{◌∙◌, sym}
use Rattle.fare_setup.specs.SchemeLines.{device_line}
use Rattle.fare_register.specs.Registers.{device_numbers}
use Rattle.fare_register.proofs.Entered.{line_row}
use Rattle.fare_register.proofs.listing.device_rows.Goals as goal

pub loop-position-preserved : goal.loop-position-preserved
loop-position-preserved c =
    line_row device_line device_numbers c.args.scheme.now.devices c.loop-position.position c.in-Some-Device.field-0 c.loop-position.rows.items c.push.new.self.items c.in_ok-row.field-0 (sym c.in-Some-Device.is ∙ c.line_of_device.ensures)
    (λ x e. (let is = c.in-Some-Device.field-0-is in let row = c.in_ok-row.ensures in let from = c.from.ensures in cc)) c.loop-position.invariant c.in_ok-push.ensures.items
