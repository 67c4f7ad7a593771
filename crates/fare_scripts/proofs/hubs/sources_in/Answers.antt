use Rattle.fare_scripts.proofs.hubs.sources_in.Goals as goal

pub returns-in-Collect : goal.returns-in-Collect
returns-in-Collect c = rw c.in-Collect.is c.sources_of.ensures
