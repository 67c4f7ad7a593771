use Rattle.fare_lists.proofs.Written.{held, lawful, one_each}
use Rattle.fare_lists.proofs.laws.what_is_written_is_read.Goals as goal

pub returns-clause-held : goal.returns-clause-held
returns-clause-held c = held

pub returns-clause-lawful : goal.returns-clause-lawful
returns-clause-lawful c = lawful

pub returns-clause-one : goal.returns-clause-one
returns-clause-one c = one_each
