use Rattle.fare_agreement.proofs.Sums.{entries_had, items_held}
use Rattle.fare_agreement.proofs.laws.sessions_add_what_was_new.Goals as goal

pub returns-clause-stored : goal.returns-clause-stored
returns-clause-stored c = λ sc x es valid known. entries_had sc valid x es known

pub returns-clause-taken : goal.returns-clause-taken
returns-clause-taken c = λ sc l items valid known dated. items_held sc valid l items known dated
