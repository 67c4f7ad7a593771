-- When a store failed.
use Rattle.std.specs.Prelude.{ℕ, ◌+◌, Option, None, Some, Result, Ok, Err}
use Rattle.std.specs.List.{sum_by}
use Rattle.fare_store.specs.declared.fault.Fault.{Fault}
use Rattle.fare_store.specs.declared.fault.Fault.TheVariants as fault
use Rattle.fare_store.specs.Standing.{Standing, Counted}
use Rattle.fare_store.specs.OutboxWords.{OutboxValue}
use Rattle.fare_store.specs.LedgerWords.{LedgerValue}
use Rattle.fare_sessions.specs.declared.hub.Hub.{Hub}
use Rattle.fare_sessions.specs.Stores.{AreClean, IsLedgerOf}
use Rattle.fare_desk.specs.declared.fault.DeskFault.{DeskFault}
use Rattle.fare_desk.specs.declared.fault.DeskFault.TheVariants as desk

-- how many calls of the stores have answered Store, all together
abbrev pub failures_of : {O L : Type 0} → (O → Standing OutboxValue) → (L → Standing LedgerValue) → Hub O L → ℕ
failures_of outbox ledger hub = (outbox hub.outbox).failures + sum_by (λ x. (ledger x).failures) hub.ledgers.items

-- Store is answered where a store failed, and their failures together rose or stood at the greatest count, and nowhere else
abbrev pub IsCaused : {O L : Type 0} → (O → Standing OutboxValue) → (L → Standing LedgerValue) → Hub O L → Hub O L → Option Fault → Type 0
IsCaused outbox ledger old new faulted = Counted (failures_of outbox ledger old) (failures_of outbox ledger new) faulted

-- no failure has shut an owner's ledger, where each store has kept what was committed
abbrev pub IsAtWork : {O L : Type 0} → (O → Standing OutboxValue) → (L → Standing LedgerValue) → Hub O L → ℕ → Type 0
IsAtWork {O} {L} outbox ledger hub owner = AreClean outbox ledger hub → (x : L) → IsLedgerOf hub owner x → (ledger x).live

-- a store's failure that a fault is, if it is one
abbrev pub store_named : DeskFault → Option Fault
store_named desk.Store = Some fault.Store
store_named _ = None

abbrev pub store_fault : {A : Type 0} → Result A DeskFault → Option Fault
store_fault (Ok answer) = None
store_fault (Err q) = store_named q
