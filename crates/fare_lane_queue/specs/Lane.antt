-- The rule of the lane queue: what was taken and then what the queue holds is what was put, and of what was put each device's lane numbers are its base + 1, its base + 2, and so on.
use Rattle.std.specs.Prelude.{◌≡◌, ℕ, ◌+◌, ◌≤◌, suc, Bool, true, false, List, [], ◌∷◌, ◌++◌, length, map, nat_eq, unwrap_or}
use Rattle.std.specs.List.{IsDistinct}
use Rattle.std.specs.Map.{lookup, keys_of}
use mathlib.Core.Option.{some}
use lib.ListN.{get_elem?}
use Rattle.fare_record.specs.Values.{RecordValue}
use Rattle.fare_record.specs.Lanes.{of_device}
use Rattle.fare_record.specs.declared.item.Item.{Item}
use Rattle.fare_record.specs.declared.item.Item.TheVariants.{Tap, Stated}
use Rattle.fare_lane_queue.specs.declared.rule.View.{View}

-- what a queue may hold at most
abbrev pub IsCapacity : ℕ → Type 0
IsCapacity n = (1 ≤ n) × (n ≤ 1024)

-- a queue of this room over these bases: no device has two
pub record IsRoom (capacity : ℕ) (bases : List (ℕ × ℕ)) : Type 0 where
  pub size : IsCapacity capacity
  pub devices : IsDistinct nat_eq (keys_of bases)

-- NUMBERS
-- how many taps of the device its owner had before; 0 of one that is not listed
abbrev pub base_of : List (ℕ × ℕ) → ℕ → ℕ
base_of bases device = unwrap_or (lookup (nat_eq device) bases) 0

-- the taps of a list of items, in order
abbrev pub taps_of : List Item → List RecordValue
taps_of [] = []
taps_of (Tap r ∷ items) = r ∷ taps_of items
taps_of (Stated s ∷ items) = taps_of items

-- the lane numbers of a device's taps, in order
abbrev pub lanes_of : ℕ → List Item → List ℕ
lanes_of device items = map (λ (r : RecordValue). r.lane) (of_device device (taps_of items))

-- the numbers are n, n + 1, and so on
abbrev pub CountsFrom : ℕ → List ℕ → Type 0
CountsFrom n [] = Unit {0}
CountsFrom n (x ∷ xs) = (x ≡ n) × CountsFrom (suc n) xs

-- each device's lane numbers follow its base
abbrev pub AreNumbered : List (ℕ × ℕ) → List Item → Type 0
AreNumbered bases items = (device : ℕ) → CountsFrom (suc (base_of bases device)) (lanes_of device items)

-- the lane number that comes next for a device after these items
abbrev pub next_lane : List (ℕ × ℕ) → List Item → ℕ → ℕ
next_lane bases items device = base_of bases device + length (lanes_of device items) + 1

-- a tap has the lane number that comes next for its device
abbrev pub IsNext : List (ℕ × ℕ) → List Item → Item → Type 0
IsNext bases before (Tap r) = r.lane ≡ next_lane bases before r.device
IsNext bases before (Stated s) = Unit {0}

-- WHAT A PASS SHOWS
abbrev pub view_of : Bool → Bool → List (ℕ × ℕ) → List Item → List Item → View
view_of puts takes bases sent taken = record { puts = puts; takes = takes; bases = bases; sent = sent; taken = taken }

-- the one pass of a new queue, what it is cut into, and what the parts come together to
abbrev pub whole : View
whole = view_of true true [] [] []

abbrev pub sender : List (ℕ × ℕ) → View
sender bases = view_of true false bases [] []

abbrev pub taker : List (ℕ × ℕ) → View
taker bases = view_of false true bases [] []

abbrev pub both : View → View → View
both v w = view_of true true v.bases v.sent w.taken

abbrev pub spent : View
spent = view_of false false [] [] []

abbrev pub with_sent : View → Item → View
with_sent v item = record v { sent = v.sent ++ item ∷ [] }

abbrev pub with_taken : View → Item → View
with_taken v item = record v { taken = v.taken ++ item ∷ [] }

-- THE RULE
-- one pass at most may put, and it shows what was put; one at most may take, and it shows what was taken
pub record Fits (sender taker : ℕ) (bases : List (ℕ × ℕ)) (sent taken : List Item) (port : ℕ) (v : View) : Type 0 where
  pub puts : v.puts ≡ true → (port ≡ sender) × (v.bases ≡ bases) × (v.sent ≡ sent)
  pub takes : v.takes ≡ true → (port ≡ taker) × (v.bases ≡ bases) × (v.taken ≡ taken)

pub record IsLane (items : List Item) (views : List View) : Type 0 where
  pub sender : ℕ
  pub taker : ℕ
  pub bases : List (ℕ × ℕ)
  pub sent : List Item
  pub taken : List Item
  pub kept : sent ≡ taken ++ items
  pub numbered : AreNumbered bases sent
  pub fits : (port : ℕ) (v : View) → get_elem? views port ≡ some v → Fits sender taker bases sent taken port v

-- the rule holds in some state in which the queue holds these items and a pass shows v
abbrev pub Stands : View → List Item → Type 0
Stands v items = (views : List View) × (port : ℕ) × IsLane items views × (get_elem? views port ≡ some v)

-- the item comes in `sent` right behind what was taken
abbrev pub IsFirstLeft : List Item → List Item → Item → Type 0
IsFirstLeft sent taken item = (rest : List Item) × (sent ≡ taken ++ item ∷ rest)
