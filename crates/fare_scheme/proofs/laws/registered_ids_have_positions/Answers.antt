use Rattle.fare_scheme.proofs.Known.{positions, parents_are_known}
use Rattle.fare_scheme.proofs.laws.registered_ids_have_positions.Goals as goal

pub returns-clause-positions : goal.returns-clause-positions
returns-clause-positions c = positions

pub returns-clause-parents : goal.returns-clause-parents
returns-clause-parents c = parents_are_known
