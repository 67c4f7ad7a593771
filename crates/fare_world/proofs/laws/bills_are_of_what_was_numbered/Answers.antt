use Rattle.fare_world.proofs.Billed.{bills_exactly, basis_after}
use Rattle.fare_world.proofs.laws.bills_are_of_what_was_numbered.Goals as goal

pub returns-clause-told : goal.returns-clause-told
returns-clause-told c = bills_exactly

pub returns-clause-asked : goal.returns-clause-asked
returns-clause-asked c = basis_after
