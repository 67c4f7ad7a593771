-- What each station's collector accepts next, once a session has begun.
use Rattle.std.specs.Prelude.{◌≡◌, ℕ, ◌+◌, ◌<◌, false, List, [], length, slice_index_or, Option, Some, None, is_some, option_map, Result, Ok, if◌then◌else◌}
use Rattle.fare_scheme.specs.Values.{SchemeValue}
use Rattle.fare_scheme.specs.Words.{station_of, position_of_station}
use Rattle.fare_collector.specs.Collecting.{is_id, next_in}
use Rattle.fare_store.specs.declared.fault.Fault.{Fault}
use Rattle.fare_store.specs.Standing.{Standing, fault_of}
use Rattle.fare_store.specs.OutboxWords.{OutboxValue}
use Rattle.fare_writer.specs.Writing.{Wrote}
use Rattle.fare_collect.specs.declared.station.Station.{Station}

-- the stations are those of the scheme, in its order
pub record AreStations {S : Type 0} (sc : SchemeValue) (stations : List (Station S)) : Type 0 where
  pub each : (k : ℕ) (d : Station S) → k < length stations → position_of_station sc (slice_index_or stations k d).collector.station ≡ Some k

-- what a station accepts next of a device: of one of its own the link behind the greatest that the outbox has had of it
abbrev pub resumed_next : SchemeValue → (ℕ → ℕ) → ℕ → (ℕ → Option ℕ) → ℕ → Option ℕ
resumed_next sc upto station next device = if is_id (station_of sc device) station then option_map (λ _. upto device + 1) (next device) else next device

-- the station, before anything became of it
abbrev pub anew : {S : Type 0} → Station S → Station S
anew t = record t { end = record { held = None; ended = false; fault = None } }

pub record HaveBegun {S : Type 0} (before after : List (Station S)) : Type 0 where
  pub len : length after ≡ length before
  pub each : (k : ℕ) (d : Station S) → k < length before → slice_index_or after k d ≡ anew (slice_index_or before k d)

-- Each station is still its own. Where all devices were asked for, its collector goes on behind what the opening
-- outbox has had of them, and an outbox that has kept what was committed is live: it has answered.
pub record HaveResumed {S : Type 0} (sc : SchemeValue) (old new : Standing OutboxValue) (before after : List (Station S)) (result : Result Unit Fault) : Type 0 where
  pub wrote : Wrote sc old new [] [] (fault_of result)
  pub len : length after ≡ length before
  pub each : (k : ℕ) (d : Station S) → k < length before → ((slice_index_or after k d).source ≡ (slice_index_or before k d).source) × ((slice_index_or after k d).collector.station ≡ (slice_index_or before k d).collector.station)
  pub ends : (k : ℕ) (d : Station S) → k < length before → (slice_index_or after k d).end ≡ (slice_index_or before k d).end
  -- its collector knows the same devices
  pub devices : (k : ℕ) (d : Station S) (device : ℕ) → k < length before → is_some (next_in (slice_index_or after k d).collector device) ≡ is_some (next_in (slice_index_or before k d).collector device)
  pub begun : result ≡ Ok tt → new.clean → new.live
  pub next : result ≡ Ok tt → new.live → old.lawful → (k : ℕ) (d : Station S) (device : ℕ) → k < length before
      → next_in (slice_index_or after k d).collector device ≡ resumed_next sc old.value.upto (slice_index_or before k d).collector.station (next_in (slice_index_or before k d).collector) device
