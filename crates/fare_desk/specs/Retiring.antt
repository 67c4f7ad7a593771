-- The end of an owner's lane of a device, and what is written of it.
use Rattle.std.specs.Prelude.{◌≡◌, ℕ, true, List, Option}
use Rattle.std.specs.Io.KnownBytes.{Appends}
use Rattle.fare_store.specs.Standing.{Standing}
use Rattle.fare_store.specs.OutboxWords.{OutboxValue}
use Rattle.fare_store.specs.LedgerWords.{LedgerValue}
use Rattle.fare_event.specs.declared.reply.Reply.TheVariants as reply
use Rattle.fare_lines.specs.Replies.{reply_text}
use Rattle.fare_history.specs.Stores.{StoresValue, MayRetire, Retires_lane, stores_after}
use Rattle.fare_agreement.specs.Stopping.{IsLeftBy}
use Rattle.fare_sessions.specs.declared.hub.Hub.{Hub}
use Rattle.fare_sessions.specs.Stores.{ComesOf}
use Rattle.fare_desk.specs.declared.fault.DeskFault.{DeskFault}
use Rattle.fare_desk.specs.declared.fault.DeskFault.TheVariants as desk

-- the stores k are h with the owner's lane of the device retired, which it wasn't, and nothing else of them is another
abbrev pub RetiresOne : ℕ → ℕ → StoresValue → StoresValue → Type 0
RetiresOne owner device h k = MayRetire (h.ledgers owner) device × (k ≡ stores_after h (Retires_lane owner device))

-- what a retire that came to this fault makes of the stores h: a refusal changes nothing, and `Retired` is one of a lane that is; one that failed may be committed; and where only its text was not written, the lane is retired
abbrev pub LeavesLane : ℕ → ℕ → DeskFault → StoresValue → StoresValue → Type 0
LeavesLane owner device desk.Retired h k = ((h.ledgers owner).retired device ≡ true) × (k ≡ h)
LeavesLane owner device desk.Memory h k = IsLeftBy h (Retires_lane owner device) k
LeavesLane owner device desk.Store h k = IsLeftBy h (Retires_lane owner device) k
LeavesLane owner device desk.Write h k = RetiresOne owner device h k
LeavesLane owner device _ h k = k ≡ h

module _ {O L : Type 0} (outbox : O → Standing OutboxValue) (ledger : L → Standing LedgerValue) where
  -- an owner's lane of a device was retired, and the reply that a trace has for it was written
  pub record RetiresLane (owner device : ℕ) (old new : Hub O L) (before after : Option (List ℕ)) : Type 0 where
    pub retired : ComesOf outbox ledger old new (RetiresOne owner device)
    pub written : Appends before after (reply_text (reply.Retired device))
