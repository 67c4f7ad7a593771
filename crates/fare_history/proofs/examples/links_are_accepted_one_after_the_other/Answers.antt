use Rattle.std.proofs.Common.{refl}
use Rattle.fare_history.proofs.WorkedLinks.{both_links, one_link, owned_link}
use Rattle.fare_history.proofs.examples.links_are_accepted_one_after_the_other.Goals as goal

pub returns-clause-both : goal.returns-clause-both
returns-clause-both c = both_links

pub returns-clause-one : goal.returns-clause-one
returns-clause-one c = one_link

pub returns-clause-owned : goal.returns-clause-owned
returns-clause-owned c = owned_link

pub returns-clause-collected : goal.returns-clause-collected
returns-clause-collected c = λ clock. refl
