-- When two zones are the same.
use Rattle.std.specs.Prelude.{Bool}
use Rattle.fare_day.specs.declared.zone.Zone.{Zone}
use Rattle.fare_day.specs.contracts.zone.ZonePartialEq.TheImpl as zone

-- what `==` answers at two zones
abbrev pub same_zone : Zone → Zone → Bool
same_zone = (zone.ghosts).eq
