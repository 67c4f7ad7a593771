use Rattle.std.proofs.Common.{length, ◌-◌}
use Rattle.fare_opening.proofs.moving.+add_cells.Given as goal

abbrev pub decreases-add_cells : goal.decreases-add_cells
decreases-add_cells l = length l.row.now - l.at
