-- What an owner does with its ledger.
use Rattle.std.specs.Prelude.{◌≡◌, ℕ, ◌+◌, ◌≤◌, min, if◌then◌else◌, Bool, true, List, [], ◌∷◌, ◌++◌, length, take, Option, None, Some, is_none, Result, Ok, Err}
use Rattle.std.specs.List.{AllByRecursion}
use Rattle.fare_record.specs.declared.item.Item.{Item}
use Rattle.fare_record.specs.declared.item.Item.TheVariants.{Tap, Stated}
use Rattle.fare_store.specs.Standing.{Standing}
use Rattle.fare_store.specs.LedgerWords.{LedgerValue}
use Rattle.fare_session.specs.declared.batching.Halt.{Halt}
use Rattle.fare_session.specs.declared.fault.SessionFault.{SessionFault}
use Rattle.fare_session.specs.declared.fault.SessionFault.TheVariants.{Refused}
use Rattle.fare_history.specs.Serving.{given, given_all, IsUnrefused, AreUnrefused, in_hand, tried_in, IsDated}
use Rattle.fare_history.specs.Plainly.{IsRefused}
use Rattle.fare_session.specs.Stores.{stored_fault, IsOwners, Called, HasStood, Leaves}

-- HOW MANY ARE TAKEN
-- an item that the ledger does not hold yet
abbrev pub is_added : LedgerValue → Item → Bool
is_added l (Tap r) = true
is_added l (Stated s) = is_none (l.stated s.device s.day)

-- how many of the items are such, each behind those before it
abbrev pub added_by : LedgerValue → List Item → ℕ
added_by l [] = 0
added_by l (i ∷ is) = (if is_added l i then 1 else 0) + added_by (given l i) is

-- a counter that stays at its greatest number
abbrev pub Tallied : ℕ → ℕ → ℕ → Type 0
Tallied before after n = before ≤ 18446744073709551615 → after ≡ min (before + n) 18446744073709551615

-- there is an item in the hand, and the ledger refuses it
abbrev pub IsRefusedHand : LedgerValue → Option Item → Type 0
IsRefusedHand l None = ⊥
IsRefusedHand l (Some i) = IsRefused l i

-- the ledger has these items, and behind them a first part of those that were tried, none of which it refuses
pub record IsImage (l : LedgerValue) (items tried : List Item) (w : LedgerValue) : Type 0 where
  pub count : ℕ
  pub unrefused : AreUnrefused (given_all l items) (take count tried)
  pub value : w ≡ given_all l (items ++ take count tried)

-- no fault leaves nothing in the hand, and a fault leaves one item there
abbrev pub InHand : Option SessionFault → Option Item → Type 0
InHand None hand = hand ≡ None
InHand (Some fault) hand = (i : Item) × (hand ≡ Some i)

-- the ledger took these items, in order, and failed or refused at the one in the hand, perhaps in a call with those behind it
pub record IsTaken (old new : Standing LedgerValue) (items : List Item) (hand : Option Item) (behind : List Item) (fault : Option SessionFault) (before after : ℕ) : Type 0 where
  pub leaves : Leaves old new (stored_fault fault) (given_all old.value items) (IsImage old.value items (tried_in hand behind))
  pub tally : HasStood old new → Tallied before after (added_by old.value items)
  pub owners : IsOwners fault
  pub empty : fault ≡ None → hand ≡ None
  pub unrefused : HasStood old new → AreUnrefused old.value items
  pub dated : AllByRecursion IsDated items
  pub refused : fault ≡ Some Refused → HasStood old new → IsRefusedHand (given_all old.value items) hand

-- of one item
abbrev pub done_by : Item → Option SessionFault → List Item
done_by i None = i ∷ []
done_by i (Some fault) = []

abbrev pub held_by : Item → Option SessionFault → Option Item
held_by i None = None
held_by i (Some fault) = Some i

-- what one call on the ledger did: whether the item was new, or why it was not taken
abbrev pub fault_kept : Result Bool SessionFault → Option SessionFault
fault_kept (Ok added) = None
fault_kept (Err fault) = Some fault

abbrev pub WasKept : LedgerValue → LedgerValue → Item → Result Bool SessionFault → Type 0
WasKept old new i (Ok added) = (new ≡ given old i) × (added ≡ is_added old i) × IsUnrefused old i
WasKept old new i (Err fault) = (new ≡ old) × (fault ≡ Refused → IsRefused old i)

abbrev pub IsKept : Standing LedgerValue → Standing LedgerValue → Item → Result Bool SessionFault → Type 0
IsKept old new i result = Called old new (stored_fault (fault_kept result)) (WasKept old.value new.value i result) (λ w. AreUnrefused old.value (i ∷ []) × (w ≡ given old.value i)) × IsOwners (fault_kept result)

-- what ended the owner, and how many items stand behind the one in its hand then
abbrev pub fault_of_halt : Option Halt → Option SessionFault
fault_of_halt None = None
fault_of_halt (Some halt) = Some halt.fault

abbrev pub behind_of : Option Halt → ℕ
behind_of None = 0
behind_of (Some halt) = halt.behind

-- of these items some were taken, in order; at a halt one is in the hand, and the others stand behind it
pub record IsTaking (old new : Standing LedgerValue) (items : List Item) (halt : Option Halt) (before after : ℕ) : Type 0 where
  pub done : List Item
  pub hand : Option Item
  pub behind : List Item
  pub all : items ≡ done ++ (in_hand hand ++ behind)
  pub has : InHand (fault_of_halt halt) hand
  pub count : length behind ≡ behind_of halt
  pub taken : IsTaken old new done hand behind (fault_of_halt halt) before after

-- of what was left some items were given, and what came of these; without a halt all were
pub record IsLeftTaken (old new : Standing LedgerValue) (left rest : List Item) (halt : Option Halt) (before after : ℕ) : Type 0 where
  pub items : List Item
  pub all : left ≡ items ++ rest
  pub taking : IsTaking old new items halt before after
  pub none : halt ≡ None → rest ≡ []
