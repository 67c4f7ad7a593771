-- The rule of an acknowledgement line: what was taken and then what the line holds is what was put, and each number in it is at most what its pass shows as stored for that device.
use Rattle.std.specs.Prelude.{◌≡◌, ℕ, ◌≤◌, ◌==◌, max, Bool, true, false, List, [], ◌∷◌, ◌++◌, All, if◌then◌else◌}
use mathlib.Core.Option.{some}
use lib.ListN.{get_elem?}
use Rattle.fare_record.specs.declared.ack_item.AckItem.{AckItem}
use Rattle.fare_record.specs.declared.ack_item.AckItem.TheVariants.{Upto, Day}
use Rattle.fare_inbox_queue.specs.declared.ack_rule.Told.{Told}
use Rattle.fare_inbox_queue.specs.declared.ack_rule.View.{View}

-- STORED
abbrev pub device_in : AckItem → ℕ
device_in (Upto a) = a.device
device_in (Day a) = a.device

-- what is told of a device by an item that was put with so many stored
abbrev pub told_of : AckItem → ℕ → ℕ → ℕ
told_of item stored device = if device_in item == device then stored else 0

-- the greatest number that was handed in for a device; 0 where none was
abbrev pub stored_in : List Told → ℕ → ℕ
stored_in [] device = 0
stored_in (t ∷ sent) device = max (told_of t.item t.stored device) (stored_in sent device)

-- an acknowledged link is at most this
abbrev pub IsUpTo : AckItem → ℕ → Type 0
IsUpTo (Upto a) stored = a.upto ≤ stored
IsUpTo (Day a) stored = Unit {0}

-- an acknowledged link is at most what is stored of its device
abbrev pub IsStored : (ℕ → ℕ) → AckItem → Type 0
IsStored stored item = IsUpTo item (stored (device_in item))

-- WHAT A PASS SHOWS
abbrev pub view_of : Bool → Bool → List Told → List Told → View
view_of puts takes sent taken = record { puts = puts; takes = takes; sent = sent; taken = taken }

-- the one pass of a new line, what it is cut into, and what the parts come together to
abbrev pub whole : View
whole = view_of true true [] []

abbrev pub sender : View
sender = view_of true false [] []

abbrev pub hearer : View
hearer = view_of false true [] []

abbrev pub both : View → View → View
both v w = view_of true true v.sent w.taken

abbrev pub spent : View
spent = view_of false false [] []

abbrev pub with_sent : View → Told → View
with_sent v told = record v { sent = v.sent ++ told ∷ [] }

abbrev pub with_taken : View → Told → View
with_taken v told = record v { taken = v.taken ++ told ∷ [] }

-- THE RULE
-- one pass at most may put, and it shows what was put; one at most may take, and it shows what was taken
pub record Fits (sender hearer : ℕ) (sent taken : List Told) (port : ℕ) (v : View) : Type 0 where
  pub puts : v.puts ≡ true → (port ≡ sender) × (v.sent ≡ sent)
  pub takes : v.takes ≡ true → (port ≡ hearer) × (v.taken ≡ taken)

pub record IsLine (items : List Told) (views : List View) : Type 0 where
  pub sender : ℕ
  pub hearer : ℕ
  pub sent : List Told
  pub taken : List Told
  pub kept : sent ≡ taken ++ items
  pub stored : All (λ (t : Told). IsStored (stored_in sent) t.item) sent
  pub fits : (port : ℕ) (v : View) → get_elem? views port ≡ some v → Fits sender hearer sent taken port v

-- the rule holds in some state in which the line holds these items and a pass shows v
abbrev pub Stands : View → List Told → Type 0
Stands v items = (views : List View) × (port : ℕ) × IsLine items views × (get_elem? views port ≡ some v)

-- the item comes in `sent` right behind what was taken
abbrev pub IsFirstLeft : List Told → List Told → Told → Type 0
IsFirstLeft sent taken told = (rest : List Told) × (sent ≡ taken ++ told ∷ rest)

-- what both passes together tell of a line
pub record IsLeft (v : View) (items : List Told) : Type 0 where
  pub kept : v.sent ≡ v.taken ++ items
  pub stored : All (λ (t : Told). IsStored (stored_in v.sent) t.item) v.sent
