use Rattle.std.proofs.Common.{◌≡◌, ◌∙◌, refl, sym, true}
use Rattle.std.specs.Cmp.{IsEquivalence}
use Rattle.fare_day.specs.contracts.zone.ZoneEq.TheImpl.Laws.{laws-law}
use Rattle.fare_growth.specs.Zones.{same_zone}
use Rattle.fare_growth.specs.Entries.{owner_ids, device_stations}
use Rattle.fare_growth.proofs.Lists.{adds-refl, adds-trans}
use Rattle.fare_growth.proofs.laws.adding_goes_on.Goals as goal

pub returns-clause-itself : goal.returns-clause-itself
returns-clause-itself c s =
    let zones : IsEquivalence same_zone = laws-law in
    record {
      start = refl;
      zone = zones.refl s.zone;
      owners = adds-refl (owner_ids s);
      operators = adds-refl s.operators;
      stations = adds-refl s.stations;
      products = adds-refl s.products;
      devices = adds-refl (device_stations s);
    }

pub returns-clause-on : goal.returns-clause-on
returns-clause-on c a b d ab bd =
    let zones : IsEquivalence same_zone = laws-law in
    let back : same_zone b.zone a.zone ≡ true = zones.symm b.zone a.zone ∙ ab.zone in
    record {
      start = ab.start ∙ bd.start;
      zone = sym (zones.congr b.zone a.zone d.zone back) ∙ bd.zone;
      owners = adds-trans (owner_ids a) (owner_ids b) (owner_ids d) ab.owners bd.owners;
      operators = adds-trans a.operators b.operators d.operators ab.operators bd.operators;
      stations = adds-trans a.stations b.stations d.stations ab.stations bd.stations;
      products = adds-trans a.products b.products d.products ab.products bd.products;
      devices = adds-trans (device_stations a) (device_stations b) (device_stations d) ab.devices bd.devices;
    }
