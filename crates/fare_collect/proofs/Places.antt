-- The stations stand by their place.
use Rattle.std.proofs.Common.{◌≡◌, ℕ, ◌<◌, List, length, slice_index_or, Some, sym, ap, ◌∙◌}
use Rattle.std.specs.Prelude.{◌≢◌, Option}
use Rattle.fare_scheme.specs.Values.{SchemeValue}
use Rattle.fare_scheme.specs.Words.{position_of_station}
use Rattle.fare_scheme.proofs.Known.{id_at_place}
use Rattle.fare_collect.specs.declared.station.Station.{Station}
use Rattle.fare_collect.specs.Resuming.{AreStations}

pub apart_by_place : {S : Type 0} (sc : SchemeValue) (first : List (Station S)) (k place id : ℕ) (d : Station S) → AreStations sc first → k < length first → position_of_station sc id ≡ Some place → k ≢ place → id ≡ (slice_index_or first k d).collector.station → ⊥
apart_by_place sc first k place id d are lt at differ same =
    let both : ◌≡◌ {A = Option ℕ} (Some k) (Some place) = sym (are.each k d lt) ∙ (ap (position_of_station sc) (sym same) ∙ at) in
    differ (cc)

pub same_by_place : {S : Type 0} (sc : SchemeValue) (first : List (Station S)) (k place id : ℕ) (d : Station S) → AreStations sc first → k < length first → position_of_station sc id ≡ Some place → k ≡ place → id ≡ (slice_index_or first k d).collector.station
same_by_place sc first k place id d are lt at same =
    let both : ◌≡◌ {A = Option ℕ} (Some id) (Some (slice_index_or first k d).collector.station) = sym (id_at_place sc.stations id place at) ∙ id_at_place sc.stations (slice_index_or first k d).collector.station place (are.each k d lt ∙ ap Some same) in
    cc
