use Rattle.std.proofs.Common.{rules}
use Rattle.fare_scheme.proofs.Known.{at_answered_place}
use Rattle.fare_scheme.proofs.scheme.Scheme.device_position.Goals as goal

pub returns-clause-at : goal.returns-clause-at
returns-clause-at c = at_answered_place c.args.self.now.devices c.args.device c.get_index_of.result (search rules)
