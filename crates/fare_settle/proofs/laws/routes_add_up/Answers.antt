use Rattle.fare_settle.proofs.ByRoute.{routes_add_up}
use Rattle.fare_settle.proofs.laws.routes_add_up.Goals as goal

pub returns : goal.returns
returns c = routes_add_up
