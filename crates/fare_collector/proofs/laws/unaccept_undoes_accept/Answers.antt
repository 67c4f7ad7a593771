use Rattle.fare_collector.proofs.Changing.{undone_at}
use Rattle.fare_collector.proofs.laws.unaccept_undoes_accept.Goals as goal

pub returns : goal.returns
returns c = undone_at
