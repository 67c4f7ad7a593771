use Rattle.std.proofs.Common.{rules}
use Rattle.fare_scheme.specs.Facts.{IsScheme}
use Rattle.fare_scheme.proofs.Known.{placed_answered_id}
use Rattle.fare_scheme.proofs.scheme.Scheme.station_at.Goals as goal

pub returns-clause-placed : goal.returns-clause-placed
returns-clause-placed c =
    let is : IsScheme c.args.self.now = search rules in
    placed_answered_id c.args.self.now.stations c.args.position c.map.result is.stations.distinct (search rules)
