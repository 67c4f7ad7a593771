-- What a forwarder's thread does.
use Rattle.std.specs.Prelude.{◌≡◌, ℕ, ◌+◌, ◌<◌, ◌≤◌, ◌==◌, ◌&&◌, Bool, true, false, List, [], ◌∷◌, ◌++◌, length, nat_eq, Option, None, Some, IsSome, option_map, Result, Ok, Err}
use Rattle.std.specs.List.{AllByRecursion, IsDistinct}
use Rattle.std.specs.Map.{lookup, keys_of}
use Rattle.fare_record.specs.Limits.{IsDay}
use Rattle.fare_record.specs.Values.{RecordValue}
use Rattle.fare_record.specs.declared.item.Item.{Item}
use Rattle.fare_record.specs.declared.item.Item.TheVariants.{Tap, Stated}
use Rattle.fare_route.specs.declared.forwarder.Forwarder.{Forwarder}
use Rattle.fare_route.specs.Cursors.{moved}
use Rattle.fare_route.specs.Routing.{cursor_of, changed, IsNextOf}
use Rattle.fare_lane_queue.specs.Lane.{base_of}
use Rattle.fare_store.specs.Standing.{Standing}
use Rattle.fare_store.specs.OutboxWords.{OutboxValue, IsLeastRow}
use Rattle.fare_session.specs.declared.fault.SessionFault.{SessionFault}
use Rattle.fare_session.specs.declared.fault.SessionFault.TheVariants.{Source, Unexpected, Refused, Memory, Store}
use Rattle.fare_history.specs.Serving.{Cursors, device_of, moved_by_all, IsNextItem, AreNextItems}
use Rattle.fare_session.specs.Stores.{stored_fault, IsOwners, HasStood, Stays}

-- an item of the device, and the next of its lane where it is a tap
abbrev pub is_due : Item → ℕ → ℕ → Bool
is_due (Tap r) device reached = (r.device == device) && (r.lane == reached + 1)
is_due (Stated s) device reached = s.device == device

abbrev pub lane_after : Item → ℕ → ℕ
lane_after (Tap r) reached = r.lane
lane_after (Stated s) reached = reached

-- a device with a base
abbrev pub IsBased : List (ℕ × ℕ) → ℕ → Type 0
IsBased bases device = IsSome (lookup (nat_eq device) bases)

-- the forwarder knows each device with a base
abbrev pub HasCursor : Forwarder → ℕ → Type 0
HasCursor f device = IsSome (cursor_of f device)

abbrev pub HasCursors : List (ℕ × ℕ) → Forwarder → Type 0
HasCursors bases f = (device : ℕ) → IsBased bases device → HasCursor f device

-- how far a forwarder has come with a device: the lane number of the last tap, and the first day whose statement was not handed on
abbrev pub place_of_cursor : Forwarder → ℕ → Option (ℕ × ℕ)
place_of_cursor f device = option_map (λ c. (c.lane, c.day)) (cursor_of f device)

-- with each device that has a base it has come so far
pub record IsAsFar (bases : List (ℕ × ℕ)) (f : Forwarder) (c : Cursors) : Type 0 where
  pub at : (device : ℕ) → IsBased bases device → place_of_cursor f device ≡ Some (c.lane device, c.day device)

-- the bases are how far the lanes have come
pub record AreBases (bases : List (ℕ × ℕ)) (c : Cursors) : Type 0 where
  pub base : (device : ℕ) → IsBased bases device → c.lane device ≡ base_of bases device

-- no device has two bases
abbrev pub AreApart : List (ℕ × ℕ) → Type 0
AreApart bases = IsDistinct nat_eq (keys_of bases)

-- the next row of a lane leaves out a lane number
pub record Skips (bases : List (ℕ × ℕ)) (owner : ℕ) (x : OutboxValue) (c : Cursors) : Type 0 where
  pub device : ℕ
  pub row : RecordValue
  pub known : IsBased bases device
  pub next : IsLeastRow x.rows owner device (c.lane device) row
  pub skips : c.lane device + 1 < row.lane

-- WHAT COMES NEXT OF ONE DEVICE
abbrev pub fault_due : {A : Type 0} → Result A SessionFault → Option SessionFault
fault_due (Ok x) = None
fault_due (Err fault) = Some fault

abbrev pub IsDueIf : Option Item → ℕ → ℕ → Type 0
IsDueIf None device reached = Unit {0}
IsDueIf (Some i) device reached = is_due i device reached ≡ true

-- where the outbox keeps what it holds, and the forwarder is f before and g after
abbrev pub Finds : Type 0 → OutboxValue → Forwarder → Forwarder → ℕ → ℕ → Result (Option Item) SessionFault → Type 0
Finds kept x f g device reached (Ok item) = (kept → IsNextOf x f.owner device (cursor_of f device) item) × IsDueIf item device reached × ((other : ℕ) → cursor_of g other ≡ changed (moved item) (cursor_of f) device other)
Finds kept x f g device reached (Err Refused) = kept → (i : Item) × IsNextOf x f.owner device (cursor_of f device) (Some i) × (is_due i device reached ≡ false)
Finds kept x f g device reached (Err (Source station)) = ⊥
Finds kept x f g device reached (Err (Unexpected station)) = ⊥
Finds kept x f g device reached (Err Memory) = Unit {0}
Finds kept x f g device reached (Err Store) = Unit {0}

pub record IsNextDue (old new : Standing OutboxValue) (f g : Forwarder) (device reached : ℕ) (result : Result (Option Item) SessionFault) : Type 0 where
  pub stays : Stays old new (stored_fault (fault_due result))
  pub answered : stored_fault (fault_due result) ≡ None → new.clean → new.live
  pub owners : IsOwners (fault_due result)
  pub owner : g.owner ≡ f.owner
  pub cursors : (other : ℕ) → HasCursor f other → HasCursor g other
  pub found : Finds (HasStood old new) old.value f g device reached result

-- what a forwarder that had come as far as c has handed on
pub record IsForwarded (bases : List (ℕ × ℕ)) (owner : ℕ) (old new : Standing OutboxValue) (c : Cursors) (items : List Item) (f : Forwarder) (fault : Option SessionFault) : Type 0 where
  pub next : HasStood old new → AreNextItems owner old.value c items
  pub at : fault ≡ None → IsAsFar bases f (moved_by_all c items)
  pub refused : fault ≡ Some Refused → HasStood old new → Skips bases owner old.value (moved_by_all c items)

-- the same, wherever it was, where the cursors meet a condition; the outbox is only read
pub record ForwardedIf (meets : Cursors → Type 0) (bases : List (ℕ × ℕ)) (old new : Standing OutboxValue) (f g : Forwarder) (items : List Item) (fault : Option SessionFault) : Type 0 where
  pub stays : Stays old new (stored_fault fault)
  pub owners : IsOwners fault
  -- a clean outbox that gave an item, or a row out of its turn, was live
  pub begun : 0 < length items → new.clean → old.live
  pub skipped : fault ≡ Some Refused → new.clean → old.live
  pub owner : g.owner ≡ f.owner
  pub cursors : HasCursors bases g
  pub known : AllByRecursion (λ i. IsBased bases (device_of i)) items
  pub forwards : (c : Cursors) → IsAsFar bases f c → meets c → IsForwarded bases f.owner old new c items g fault

-- a thread's, whose lanes begin at the bases
abbrev pub Forwarded : List (ℕ × ℕ) → Standing OutboxValue → Standing OutboxValue → Forwarder → Forwarder → List Item → Option SessionFault → Type 0
Forwarded bases old new f g items fault = ForwardedIf (AreBases bases) bases old new f g items fault

-- nothing of a device comes next any more
pub record IsIdle (owner : ℕ) (x : OutboxValue) (c : Cursors) (device : ℕ) : Type 0 where
  pub rows : (lane : ℕ) → c.lane device < lane → x.rows owner device lane ≡ None
  pub statements : (day : ℕ) → c.day device ≤ day → IsDay day → x.stated owner device day ≡ None

-- ONE DEVICE AFTER THE OTHER
-- wherever the cursors were, they have come these items further
pub record Moves (f g : Forwarder) (items : List Item) (fault : Option SessionFault) : Type 0 where
  pub known : (device : ℕ) → HasCursor f device → HasCursor g device
  pub far : fault ≡ None → (bases : List (ℕ × ℕ)) (c : Cursors) → IsAsFar bases f c → IsAsFar bases g (moved_by_all c items)

-- a thread's, of the one device that has this base
pub record IsDeviceForwarded (base : ℕ × ℕ) (old new : Standing OutboxValue) (f g : Forwarder) (before after : List Item) (result : Result Bool SessionFault) : Type 0 where
  pub items : List Item
  pub sent : after ≡ before ++ items
  pub forwarded : Forwarded (base ∷ []) old new f g items (fault_due result)
  pub moves : Moves f g items (fault_due result)
  -- yes: nothing of the device comes next any more
  pub idle : result ≡ Ok true → (c : Cursors) → IsAsFar (base ∷ []) f c → AreBases (base ∷ []) c → HasStood old new → IsIdle f.owner old.value (moved_by_all c items) base.0
  -- no: an item of the device comes next that was not put
  pub left : result ≡ Ok false → (c : Cursors) → IsAsFar (base ∷ []) f c → AreBases (base ∷ []) c → HasStood old new → (i : Item) × (device_of i ≡ base.0) × IsNextItem f.owner old.value (moved_by_all c items) i
