-- What a store may hold after calls of which some failed: a failure leaves open whether its call was committed.
use Rattle.std.specs.Prelude.{◌≡◌, ◌⊎◌, List}
use Rattle.fare_record.specs.declared.item.Item.{Item}
use Rattle.fare_store.specs.Standing.{Standing, IsSound}
use Rattle.fare_store.specs.OutboxWords.{OutboxValue}
use Rattle.fare_store.specs.LedgerWords.{LedgerValue}
use Rattle.fare_history.specs.Serving.{given_all}
use Rattle.fare_history.specs.Gathering.{Entry, storing_all}

-- what the store holds while it is live, and whatever a stop at this moment would leave of it
abbrev pub MayHold : {V : Type 0} → Standing V → V → Type 0
MayHold s v = (s.live × (v ≡ s.value)) ⊎ s.may_leave v

-- whatever the store may hold now, the relation R leads to from something that it might have held before
pub record Leads {V : Type 0} (R : V → V → Type 0) (old new : Standing V) : Type 0 where
  pub leads : (v : V) → MayHold new v → (w : V) × MayHold old w × R w v

-- the store keeps the laws of its kind, and while it is live what it holds fits together
pub record IsFit {V : Type 0} (s : Standing V) : Type 0 where
  pub sound : IsSound s
  pub lawful : s.live → s.lawful

-- the ledger v is w with these items, one after the other
abbrev pub IsGivenAll : List Item → LedgerValue → LedgerValue → Type 0
IsGivenAll items w v = v ≡ given_all w items

-- the outbox v is w with the items of these entries, one after the other
abbrev pub IsStoredAll : List Entry → OutboxValue → OutboxValue → Type 0
IsStoredAll es w v = v ≡ storing_all w es
