use Rattle.std.proofs.Common.{◌∙◌, sym}
use Rattle.fare_setup.specs.SchemeLines.{station_line}
use Rattle.fare_register.specs.Registers.{pair_numbers}
use Rattle.fare_register.proofs.Entered.{line_row}
use Rattle.fare_register.proofs.listing.station_rows.Goals as goal

pub loop-position-preserved : goal.loop-position-preserved
loop-position-preserved c =
    line_row station_line pair_numbers c.args.scheme.now.stations c.loop-position.position c.in-Some-Station.field-0 c.loop-position.rows.items c.push.new.self.items c.in_ok-row.field-0 (sym c.in-Some-Station.is ∙ c.line_of_station.ensures)
    (λ x e. (let is = c.in-Some-Station.field-0-is in let row = c.in_ok-row.ensures in let from = c.from.ensures in let from2 = c.from-in-loop-position.ensures in cc)) c.loop-position.invariant c.in_ok-push.ensures.items
