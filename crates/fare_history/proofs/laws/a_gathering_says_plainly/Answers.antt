use Rattle.fare_history.proofs.GatheredPlainly.{gathers_plainly, nothing_left, refused_shows_why_not}
use Rattle.fare_history.proofs.laws.a_gathering_says_plainly.Goals as goal

pub returns-clause-plain : goal.returns-clause-plain
returns-clause-plain c = gathers_plainly

pub returns-clause-whole : goal.returns-clause-whole
returns-clause-whole c = nothing_left

pub returns-clause-refused : goal.returns-clause-refused
returns-clause-refused c = refused_shows_why_not
