use Rattle.fare_agreement.proofs.Orders.{pruned_too_soon, closed_short, link_alone, row_alone}
use Rattle.fare_agreement.proofs.laws.the_order_of_commits_matters.Goals as goal

pub returns-clause-pruned : goal.returns-clause-pruned
returns-clause-pruned c = pruned_too_soon

pub returns-clause-closed : goal.returns-clause-closed
returns-clause-closed c = closed_short

pub returns-clause-link_alone : goal.returns-clause-link_alone
returns-clause-link_alone c = link_alone

pub returns-clause-row_alone : goal.returns-clause-row_alone
returns-clause-row_alone c = row_alone
