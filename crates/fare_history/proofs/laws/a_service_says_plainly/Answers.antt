use Rattle.fare_history.proofs.ServedPlainly.{serves_plainly, statements_stay, finished_is_whole, refused_shows_why}
use Rattle.fare_history.proofs.laws.a_service_says_plainly.Goals as goal

pub returns-clause-plain : goal.returns-clause-plain
returns-clause-plain c = serves_plainly

pub returns-clause-stay : goal.returns-clause-stay
returns-clause-stay c = statements_stay

pub returns-clause-whole : goal.returns-clause-whole
returns-clause-whole c = finished_is_whole

pub returns-clause-refused : goal.returns-clause-refused
returns-clause-refused c = refused_shows_why
