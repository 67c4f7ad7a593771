-- What contracts see of a device.
use Rattle.std.specs.Prelude.{ℕ, ◌≡◌, ◌+◌, ◌-◌, ◌≤◌, List, [], length, drop, max, Some, slice_get, replicate}
use Rattle.std.specs.List.{sum}
use Rattle.fare_record.specs.Values.{RecordValue}
use Rattle.fare_scheme.specs.Values.{SchemeValue}

-- a device: its open day, the taps that are not acknowledged, how many of these there may be, how many were acknowledged before them, the greatest link number that was sent, the owners in order of registration, and by their places how many taps each has, and how many of the open day; the days whose statements wait, in the order in which they were turned, each with its counts by the owners' places
pub record DeviceValue : Type 0 where
  pub id : ℕ
  pub day : ℕ
  pub waiting : List RecordValue
  pub room : ℕ
  pub base : ℕ
  pub cursor : ℕ
  pub owners : List ℕ
  pub lanes : List ℕ
  pub counts : List ℕ
  pub days : List (ℕ × List ℕ)

-- the greatest link number that was given out
abbrev pub last_link : DeviceValue → ℕ
last_link x = x.base + length x.waiting

-- the tap that waits at this place, from 0, is the device's own with the link of this place behind the acknowledged ones
pub record IsKept (id base place : ℕ) (r : RecordValue) : Type 0 where
  pub device : r.device ≡ id
  pub link : r.link ≡ base + place + 1

-- what waits is the tail of the taps that the device numbered: all behind the acknowledged ones, in link order
abbrev pub IsTail : ℕ → ℕ → List RecordValue → Type 0
IsTail id base waiting = (place : ℕ) (r : RecordValue) → slice_get waiting place ≡ Some r → IsKept id base place r

-- no number of the list is above this one
abbrev pub AreWithin : ℕ → List ℕ → Type 0
AreWithin most ns = (k n : ℕ) → slice_get ns k ≡ Some n → n ≤ most

-- counts with a place for each owner that a scheme may have
pub record AreCounts (ns : List ℕ) : Type 0 where
  pub places : length ns ≡ 16
  pub within : AreWithin 1099511627775 ns

pub record IsDeviceValue (x : DeviceValue) : Type 0 where
  pub few : last_link x ≤ 1099511627775
  pub within : length x.waiting ≤ x.room
  pub base : x.base ≤ x.cursor
  pub cursor : x.cursor ≤ last_link x
  pub tail : IsTail x.id x.base x.waiting
  pub owners : length x.owners ≡ length x.lanes
  pub registered : length x.lanes ≤ 16
  pub lanes : AreWithin (last_link x) x.lanes
  pub counts : AreWithin (last_link x) x.counts
  pub places : length x.counts ≡ 16
  pub days : length x.days ≤ 8

-- counts of nothing, with a place for each owner that a scheme may have
abbrev pub no_counts : List ℕ
no_counts = replicate 16 0

-- a device that has numbered nothing
abbrev pub fresh_device : ℕ → ℕ → ℕ → List ℕ → DeviceValue
fresh_device id day room owners = record {
  id = id;
  day = day;
  waiting = [];
  room = room;
  base = 0;
  cursor = 0;
  owners = owners;
  lanes = replicate (length owners) 0;
  counts = no_counts;
  days = [];
}

-- a device that takes over the numbers of another, all of them acknowledged
abbrev pub taking_over : ℕ → ℕ → ℕ → List ℕ → ℕ → List ℕ → DeviceValue
taking_over id day room owners last lanes = record (fresh_device id day room owners) { base = last; cursor = last; lanes = lanes }

-- numbers that a device may take over: a count for each owner, and the last link is their sum
pub record AreNumbers (sc : SchemeValue) (last : ℕ) (lanes : List ℕ) : Type 0 where
  pub each : length lanes ≡ length sc.owners
  pub total : sum lanes ≡ last
  pub few : last ≤ 1099511627775

-- a device that has heard that the hub has all taps up to this link
abbrev pub acknowledged : DeviceValue → ℕ → DeviceValue
acknowledged x upto = record x { waiting = drop (upto - x.base) x.waiting; base = max x.base upto; cursor = max x.cursor upto }
