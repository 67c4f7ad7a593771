use Rattle.fare_history.proofs.LinkByLink.{one_list, links_count_up}
use Rattle.fare_history.proofs.links.accepted_links_are_one_list.Goals as goal

pub returns-clause-one : goal.returns-clause-one
returns-clause-one c = one_list

pub returns-clause-counted : goal.returns-clause-counted
returns-clause-counted c = links_count_up
