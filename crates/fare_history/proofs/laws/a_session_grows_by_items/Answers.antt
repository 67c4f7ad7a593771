use Rattle.fare_history.proofs.Growing.{next_items-push}
use Rattle.fare_history.proofs.Growing.{given_all-push, storing_all-push, stored-push, counted-push}
use Rattle.fare_history.proofs.laws.a_session_grows_by_items.Goals as goal

pub returns-clause-next : goal.returns-clause-next
returns-clause-next c = next_items-push

pub returns-clause-given : goal.returns-clause-given
returns-clause-given c = given_all-push

pub returns-clause-stored : goal.returns-clause-stored
returns-clause-stored c = stored-push

pub returns-clause-storing : goal.returns-clause-storing
returns-clause-storing c = storing_all-push

pub returns-clause-counted : goal.returns-clause-counted
returns-clause-counted c = counted-push
