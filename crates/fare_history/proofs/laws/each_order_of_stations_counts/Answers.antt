use Rattle.fare_history.proofs.Stations.{stations_count, named_count}
use Rattle.fare_history.proofs.laws.each_order_of_stations_counts.Goals as goal

pub returns-clause-order : goal.returns-clause-order
returns-clause-order c = stations_count

pub returns-clause-named : goal.returns-clause-named
returns-clause-named c = named_count
