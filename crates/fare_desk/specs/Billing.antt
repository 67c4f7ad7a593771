-- Bills and settlements of what an owner's ledger holds, and what is written of them.
use Rattle.std.specs.Prelude.{◌≡◌, ℕ, List, Option, None}
use Rattle.std.specs.Io.KnownBytes.{Appends}
use Rattle.fare_record.specs.Values.{RecordValue}
use Rattle.fare_cap.specs.Bills.{BillValue, bill_of}
use Rattle.fare_cap.specs.Fares.{week_start}
use Rattle.fare_settle.specs.Values.{SettledValue}
use Rattle.fare_settle.specs.Settling.{settlement_of}
use Rattle.fare_store.specs.Standing.{Standing}
use Rattle.fare_store.specs.OutboxWords.{OutboxValue}
use Rattle.fare_store.specs.LedgerWords.{LedgerValue, AreTapsBetween}
use Rattle.fare_event.specs.declared.reply.Reply.TheVariants as reply
use Rattle.fare_lines.specs.Replies.{reply_text}
use Rattle.fare_history.specs.Stores.{StoresValue}
use Rattle.fare_agreement.specs.Agreeing.{AreNumberedLists, Agrees}
use Rattle.fare_agreement.specs.Parts.{parts_of}
use Rattle.fare_scheme.specs.Values.{SchemeValue}
use Rattle.fare_sessions.specs.Billing.{gone_in, open_in, short_in}
use Rattle.fare_sessions.specs.declared.hub.Hub.{Hub}
use Rattle.fare_sessions.specs.Stores.{AreClean, AreSound, MayStandAs}

module _ {O L : Type 0} (outbox : O → Standing OutboxValue) (ledger : L → Standing LedgerValue) where
  -- This is what a rule makes of an owner's taps, for a day that the owner has closed of each device, or retired its lane:
  -- of the taps that its ledger holds from where the day's week begins to the day, and so of what the devices numbered for
  -- it, but of a retired lane of what was taken, where the rows agree with that. Nothing of the week was let go. It is short of these devices.
  pub record IsMadeOf {V : Type 0} (rule : SchemeValue → List RecordValue → ℕ → V) (hub : Hub O L) (owner day : ℕ) (made : V) (devices : List ℕ) : Type 0 where
    pub closed : (h : StoresValue) → MayStandAs outbox ledger hub h → open_in hub.scheme (h.ledgers owner) day ≡ None
    pub held : (h : StoresValue) → MayStandAs outbox ledger hub h → gone_in hub.scheme (h.ledgers owner) day ≡ None
    pub short : (h : StoresValue) → MayStandAs outbox ledger hub h → devices ≡ short_in hub.scheme (h.ledgers owner) day
    pub taps : (rows : List RecordValue) × ((h : StoresValue) → MayStandAs outbox ledger hub h → AreTapsBetween (h.ledgers owner) (week_start hub.scheme day) day rows) × (made ≡ rule hub.scheme rows day)
    pub numbered : (lists : ℕ → List RecordValue) (h : StoresValue) → AreNumberedLists lists → MayStandAs outbox ledger hub h → Agrees hub.scheme lists h → made ≡ rule hub.scheme (parts_of hub.scheme lists (h.ledgers owner) owner) day

  -- an owner's bill of a day was written
  pub record WritesBill (old new : Hub O L) (owner day : ℕ) (before after : Option (List ℕ)) : Type 0 where
    pub bill : BillValue
    pub short : List ℕ
    pub written : Appends before after (reply_text (reply.Bill owner day bill short))
    pub made : AreClean outbox ledger new → AreSound outbox ledger old → IsMadeOf bill_of old owner day bill short

  -- an owner's settlement of a day was written
  pub record WritesSettlement (old new : Hub O L) (owner day : ℕ) (before after : Option (List ℕ)) : Type 0 where
    pub shares : List SettledValue
    pub short : List ℕ
    pub written : Appends before after (reply_text (reply.Settlement owner day shares short))
    pub made : AreClean outbox ledger new → AreSound outbox ledger old → IsMadeOf settlement_of old owner day shares short
