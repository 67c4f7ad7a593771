use Rattle.std.proofs.Common.{sym, ◌∙◌}
use Rattle.fare_collect.proofs.placing.place_of_station.Goals as goal

pub returns : goal.returns
returns c = (c.in-Some.station, sym c.station_of.ensures.value ∙ c.in-Some.is, sym c.station_position.ensures.value ∙ c.in-Some-station_position.is)
