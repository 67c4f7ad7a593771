-- The rule of the inbox: of each station, what was taken of it and then what the queue holds of it is what its pass put.
use Rattle.std.specs.Prelude.{◌≡◌, ℕ, ◌==◌, Bool, true, false, List, [], ◌∷◌, ◌++◌, nat_eq, unwrap_or}
use Rattle.std.specs.List.{AllByRecursion, list_any, filter}
use Rattle.std.specs.Map.{lookup}
use mathlib.Core.Option.{Option, some, none}
use lib.ListN.{get_elem?}
use Rattle.fare_inbox_queue.specs.declared.arrived.Arrived.{Arrived}
use Rattle.fare_inbox_queue.specs.declared.arrived.Arrived.TheVariants.{Tap, Stated}
use Rattle.fare_inbox_queue.specs.declared.inbox_rule.View.{View}

-- STATIONS
-- the station that an item names
abbrev pub station_in : Arrived → ℕ
station_in (Tap station r) = station
station_in (Stated station s) = station

-- the items of a station, in order
abbrev pub of_station : ℕ → List Arrived → List Arrived
of_station station items = filter (λ item. station_in item == station) items

-- what a station put, by a list of stations and of what each put; nothing of one that is not listed
abbrev pub sent_by : List (ℕ × List Arrived) → ℕ → List Arrived
sent_by ended station = unwrap_or (lookup (nat_eq station) ended) []

-- WHAT A PASS SHOWS
abbrev pub view_of : Bool → Bool → ℕ → List Arrived → List Arrived → List ℕ → List (ℕ × List Arrived) → View
view_of puts takes station sent taken seated ended = record { puts = puts; takes = takes; station = station; sent = sent; taken = taken; seated = seated; ended = ended }

-- the one pass of a new inbox
abbrev pub whole : View
whole = view_of false true 1 [] [] [] []

-- the writer's pass once one more station has a pass, and that station's
abbrev pub seating : View → ℕ → View
seating v station = view_of false true 1 [] v.taken (v.seated ++ station ∷ []) []

abbrev pub sender : ℕ → View
sender station = view_of true false station [] [] [] []

-- the writer's pass once it has taken in a station's, and what is left of that
abbrev pub gathered : View → View → View
gathered v w = view_of false true 1 [] v.taken v.seated ((w.station, w.sent) ∷ v.ended)

abbrev pub spent : View
spent = view_of false false 1 [] [] [] []

abbrev pub with_sent : View → Arrived → View
with_sent v item = record v { sent = v.sent ++ item ∷ [] }

abbrev pub with_taken : View → Arrived → View
with_taken v item = record v { taken = v.taken ++ item ∷ [] }

-- THE RULE, over which pass each station has, and all items that were ever put
-- a station that has no pass put nothing
abbrev pub IsSeated : (ℕ → Option ℕ) → List Arrived → List ℕ → Type 0
IsSeated seat all seated = (station : ℕ) → list_any (nat_eq station) seated ≡ false → (seat station ≡ none) × (of_station station all ≡ [])

-- a station that has ended has no pass any more, and put just this
abbrev pub IsEndedAs : (ℕ → Option ℕ) → List Arrived → ℕ × List Arrived → Type 0
IsEndedAs seat all e = (seat e.0 ≡ none) × (e.1 ≡ of_station e.0 all)

pub record FitsWriter (seat : ℕ → Option ℕ) (taken all : List Arrived) (v : View) : Type 0 where
  pub list : v.taken ≡ taken
  pub seats : IsSeated seat all v.seated
  pub ends : AllByRecursion (IsEndedAs seat all) v.ended

-- each station has one pass at most, which shows what the station put; one pass at most may take
pub record Fits (writer : ℕ) (seat : ℕ → Option ℕ) (taken all : List Arrived) (port : ℕ) (v : View) : Type 0 where
  pub puts : v.puts ≡ true → (seat v.station ≡ some port) × (v.sent ≡ of_station v.station all)
  pub takes : v.takes ≡ true → (port ≡ writer) × FitsWriter seat taken all v

pub record IsInbox (items : List Arrived) (views : List View) : Type 0 where
  pub writer : ℕ
  pub seat : ℕ → Option ℕ
  pub taken : List Arrived
  pub fits : (port : ℕ) (v : View) → get_elem? views port ≡ some v → Fits writer seat taken (taken ++ items) port v

-- the rule holds in some state in which the queue holds these items and a pass shows v
abbrev pub Stands : View → List Arrived → Type 0
Stands v items = (views : List View) × (port : ℕ) × IsInbox items views × (get_elem? views port ≡ some v)

-- of each station, what it put in all is what was taken of it and then its part of these items
pub record IsLeft (v : View) (items : List Arrived) : Type 0 where
  pub of_each : AllByRecursion (λ (e : ℕ × List Arrived). e.1 ≡ of_station e.0 v.taken ++ of_station e.0 items) v.ended
  pub of_all : (station : ℕ) → sent_by v.ended station ≡ of_station station v.taken ++ of_station station items

-- the same of the item and some items behind it
abbrev pub HasLeft : View → Arrived → Type 0
HasLeft v item = (rest : List Arrived) × IsLeft v (item ∷ rest)
