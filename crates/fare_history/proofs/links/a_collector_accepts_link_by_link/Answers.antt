use Rattle.fare_history.proofs.LinkByLink.{link_by_link, arrivals_count_up}
use Rattle.fare_history.proofs.links.a_collector_accepts_link_by_link.Goals as goal

pub returns-clause-links : goal.returns-clause-links
returns-clause-links c = link_by_link

pub returns-clause-counted : goal.returns-clause-counted
returns-clause-counted c = arrivals_count_up
