use Rattle.fare_tables.proofs.Making.{on_ok}
use Rattle.fare_opening.proofs.Cells.{one_more_cell}
use Rattle.fare_opening.proofs.moving.+add_cells.Goals as goal

pub returns-in_ok-push-in-Ok : goal.returns-in_ok-push-in-Ok
returns-in_ok-push-in-Ok t c =
    on_ok c.add_cells.result (λ later n ok. one_more_cell n c.args.row.now c.args.at c.args.cells.now.items c.push.new.self.items c.add_cells.new.cells.items c.in-Ok.value ok c.in-Ok.ensures.ok.0 c.in-Ok.ensures.ok.1 c.in_ok-push-in-Ok.ensures.items (later n ok)) c.add_cells.ensures
