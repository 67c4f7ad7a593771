use Rattle.fare_setup.proofs.Entries.{station_at}
use Rattle.fare_setup.proofs.entry.line_of_station.Goals as goal

pub returns : goal.returns
returns c =
    station_at c.args.scheme.now.stations c.in_ok-station.station c.args.position c.in_ok-operator.operator c.get.result c.get-2.result c.in_ok-station.ensures.value c.in_ok-station.ensures.placed c.in_ok-operator.ensures.value
    c.get.ensures.value c.get-2.ensures.value
