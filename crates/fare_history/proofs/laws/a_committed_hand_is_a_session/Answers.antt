use Rattle.fare_history.proofs.Committed.{committed_is, first_taken_is, hand_stored_is, first_stored_is, given_repeated}
use Rattle.fare_history.proofs.laws.a_committed_hand_is_a_session.Goals as goal

pub returns-clause-committed : goal.returns-clause-committed
returns-clause-committed c = committed_is

pub returns-clause-taken : goal.returns-clause-taken
returns-clause-taken c = first_taken_is

pub returns-clause-stored : goal.returns-clause-stored
returns-clause-stored c = hand_stored_is

pub returns-clause-repeated : goal.returns-clause-repeated
returns-clause-repeated c = given_repeated

pub returns-clause-first : goal.returns-clause-first
returns-clause-first c = first_stored_is
