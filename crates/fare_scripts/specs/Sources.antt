-- Sources of frames that are written down: the taps of devices.
use Rattle.std.specs.Prelude.{◌≡◌, ℕ, ◌+◌, List, [], length, map, reverse, slice_get, Some}
use Rattle.fare_frame.specs.declared.frame.Frame.{Frame}
use Rattle.fare_frame.specs.declared.frame.Frame.TheVariants.{Tapped}
use Rattle.fare_sessions.specs.declared.session.Session.{Session}
use Rattle.fare_sessions.specs.declared.session.Session.TheVariants.{Collect, Serve}
use Rattle.fare_scripts.specs.declared.scripts.Script.{Script}

-- the frame of a tap of a device with this link, and with the lane number that is like it
abbrev pub tap_frame : ℕ → ℕ → Frame
tap_frame device link = Tapped (record { device = device; link = link; owner = 1; lane = link; tap = record { product = 1; token = 77; moment = 1704100000; day = 19723; route = 0 } })

-- a source of a device's taps with these links, the next one last, of which nothing was asked yet
pub record IsSourceOf (device : ℕ) (links : List ℕ) (source : Script) : Type 0 where
  pub frames : source.frames.items ≡ reverse (map (tap_frame device) links)
  pub given : source.given.items ≡ []
  pub answered : source.answered.items ≡ []
  pub failures : source.failures ≡ 0
  pub left : source.left ≡ 0
  pub every : source.every ≡ 0
  pub asked : source.asked ≡ 0

-- a source for each of the devices from 1 up to a number, in their order
pub record AreSourcesOf (devices : ℕ) (links : List ℕ) (sources : List Script) : Type 0 where
  pub len : length sources ≡ devices
  pub each : (place : ℕ) (source : Script) → slice_get sources place ≡ Some source → IsSourceOf (place + 1) links source

-- the sources of a session of the stations, in their order; another session has none
abbrev pub AreSourcesIn : Session Script → List Script → Type 0
AreSourcesIn (Collect stations) sources = sources ≡ map (λ station. station.source) stations.items
AreSourcesIn (Serve owner) sources = ⊥
