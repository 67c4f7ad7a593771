-- Stations in front of others.
use Rattle.std.proofs.Common.{◌≡◌, ℕ, zero, suc, ◌+◌, ◌<◌, ◌≤◌, Bool, true, false, if◌then◌else◌, List, [], ◌∷◌, ◌++◌, length, map, slice_index_or, Some, None, is_some, refl, sym, ap, ◌∙◌, append_assoc, arith}
use Rattle.std.specs.Prelude.{Result, Ok, Err, is_ok, is_err}
use Rattle.std.proofs.lemmas.List.{append-nil}
use Rattle.fare_scheme.specs.Values.{SchemeValue}
use Rattle.fare_scheme.specs.Words.{station_of, position_of_station}
use Rattle.fare_collector.specs.Collecting.{is_id, next_in, first_link}
use Rattle.fare_collect.specs.declared.station.Station.{Station}
use Rattle.fare_collect.specs.Resuming.{AreStations}
use Rattle.fare_collect.specs.Collected.{HaveDevices, source_of}

-- the stations from a place on, made for the last of the sources
pub record AreMade {S : Type 0} (sc : SchemeValue) (all sources : List S) (stations : List (Station S)) : Type 0 where
  pub stand : (k : ℕ) (d : Station S) → k < length stations → position_of_station sc (slice_index_or stations k d).collector.station ≡ Some (length sources + k)
  pub devices : HaveDevices sc stations
  pub parts : sources ++ map source_of stations ≡ all
  pub few : length sources ≤ length sc.stations

pub made_none : {S : Type 0} (sc : SchemeValue) (all : List S) → length all ≤ length sc.stations → AreMade sc all all []
made_none sc all few = record {
  stand = λ k d lt. absurd (omega (arith, lt));
  devices = record { each = λ k d device lt. absurd (omega (arith, lt)) };
  parts = append-nil all;
  few = few;
}

first_some : (b : Bool) → is_some {T = ℕ} (if b then Some 1 else None) ≡ b
first_some true = refl
first_some false = refl

pub made_more : {S : Type 0} (sc : SchemeValue) (all more sources : List S) (source : S) (stations : List (Station S)) (x : Station S) → AreMade sc all more stations → more ≡ sources ++ source ∷ [] → length more ≡ length sources + 1 → x.source ≡ source
    → position_of_station sc x.collector.station ≡ Some (length sources) → ((device : ℕ) → next_in x.collector device ≡ first_link sc x.collector.station device) → AreMade sc all sources (x ∷ stations)
made_more {S} sc all more sources source stations x was is len own at next = record {
  stand = stands;
  devices = record { each = knows };
  parts = ap (λ (s : S). sources ++ s ∷ map source_of stations) own ∙ (sym (append_assoc sources (source ∷ []) (map source_of stations)) ∙ (ap (λ l. l ++ map source_of stations) (sym is) ∙ was.parts));
  few = let f = was.few in omega (arith, f, len);
}
  where
    stands : (k : ℕ) (d : Station S) → k < length (x ∷ stations) → position_of_station sc (slice_index_or (x ∷ stations) k d).collector.station ≡ Some (length sources + k)
    stands zero d lt = at ∙ ap Some (omega arith)
    stands (suc k) d lt = was.stand k d (omega (arith, lt)) ∙ ap Some (omega (arith, len))

    knows : (k : ℕ) (d : Station S) (device : ℕ) → k < length (x ∷ stations) → is_some (next_in (slice_index_or (x ∷ stations) k d).collector device) ≡ is_id (station_of sc device) (slice_index_or (x ∷ stations) k d).collector.station
    knows zero d device lt = ap is_some (next device) ∙ first_some (is_id (station_of sc device) x.collector.station)
    knows (suc k) d device lt = was.devices.each k d device (omega (arith, lt))

pub made_all : {S : Type 0} (sc : SchemeValue) (all sources : List S) (stations : List (Station S)) → sources ≡ [] → AreMade sc all sources stations → AreStations sc stations
made_all sc all sources stations none was = record { each = λ k d lt. was.stand k d lt ∙ ap Some (let l = ap length none in omega (arith, l)) }

pub made_sources : {S : Type 0} (sc : SchemeValue) (all sources : List S) (stations : List (Station S)) → sources ≡ [] → AreMade sc all sources stations → map source_of stations ≡ all
made_sources sc all sources stations none was = ap (λ l. l ++ map source_of stations) (sym none) ∙ was.parts

pub ok_of : {A E : Type 0} (r : Result A E) → is_err r ≡ false → is_ok r ≡ true
ok_of (Ok a) e = refl
ok_of (Err f) e = absurd (cc)
