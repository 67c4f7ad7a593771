-- A bill or a settlement that was written.
use Rattle.std.proofs.Common.{◌≡◌, ℕ, List, None, refl, sym, ap, ◌∙◌, subst}
use Rattle.std.specs.Prelude.{Option, Result, Ok, Err, OnOk, is_some}
use Rattle.std.specs.Io.KnownBytes.{Appends}
use Rattle.fare_record.specs.Values.{RecordValue}
use Rattle.fare_cap.specs.Bills.{BillValue, bill_of}
use Rattle.fare_cap.specs.Fares.{week_start}
use Rattle.fare_scheme.specs.Values.{SchemeValue}
use Rattle.fare_settle.specs.Values.{SettledValue}
use Rattle.fare_settle.specs.Settling.{settlement_of}
use Rattle.fare_store.specs.declared.fault.Fault.TheVariants as fault
use Rattle.fare_store.specs.declared.fault.Refused.{Refused}
use Rattle.fare_store.specs.declared.fault.Refused.TheVariants.{Because, Failed}
use Rattle.fare_store.specs.Standing.{Standing}
use Rattle.fare_store.specs.OutboxWords.{OutboxValue}
use Rattle.fare_store.specs.LedgerWords.{LedgerValue, AreTapsBetween}
use Rattle.fare_event.specs.declared.reply.Reply.TheVariants as reply
use Rattle.fare_side.specs.declared.bill_fault.BillFault.TheVariants as bill
use Rattle.fare_lines.specs.Replies.{reply_text}
use Rattle.fare_history.specs.Stores.{StoresValue}
use Rattle.fare_agreement.specs.Agreeing.{AreNumberedLists, Agrees}
use Rattle.fare_agreement.specs.Parts.{parts_of}
use Rattle.fare_sessions.specs.declared.billing.BillingFault.{BillingFault}
use Rattle.fare_sessions.specs.declared.billing.BillingFault.TheVariants as billing
use Rattle.fare_sessions.specs.Billing.{gone_in, open_in, short_in, refusal_of}
use Rattle.fare_sessions.specs.declared.hub.Hub.{Hub}
use Rattle.fare_sessions.specs.Stores.{AreClean, AreSound, MayStandAs}
use Rattle.fare_desk.specs.Billing.{IsMadeOf, WritesBill, WritesSettlement}
use Rattle.fare_desk.specs.Faults.{is_refusal, name_of, of_bill}
use Rattle.fare_desk.specs.declared.fault.DeskFault.{DeskFault}

module _ {O L : Type 0} (outbox : O → Standing OutboxValue) (ledger : L → Standing LedgerValue) (old new : Hub O L) (owner day : ℕ) (devices : List ℕ) where
  module _ {V : Type 0} (rule : SchemeValue → List RecordValue → ℕ → V) (made : V) (told : List ℕ) (same : devices ≡ told)
      (closed : AreClean outbox ledger new → AreSound outbox ledger old → (h : StoresValue) → MayStandAs outbox ledger old h → open_in old.scheme (h.ledgers owner) day ≡ None)
      (held : AreClean outbox ledger new → AreSound outbox ledger old → (h : StoresValue) → MayStandAs outbox ledger old h → gone_in old.scheme (h.ledgers owner) day ≡ None)
      (short : AreClean outbox ledger new → AreSound outbox ledger old → (h : StoresValue) → MayStandAs outbox ledger old h → told ≡ short_in old.scheme (h.ledgers owner) day)
      (taken : AreClean outbox ledger new → AreSound outbox ledger old → (rows : List RecordValue) × ((h : StoresValue) → MayStandAs outbox ledger old h → AreTapsBetween (h.ledgers owner) (week_start old.scheme day) day rows) × (made ≡ rule old.scheme rows day))
      (value : AreClean outbox ledger new → AreSound outbox ledger old → (lists : ℕ → List RecordValue) (h : StoresValue) → AreNumberedLists lists → MayStandAs outbox ledger old h → Agrees old.scheme lists h → made ≡ rule old.scheme (parts_of old.scheme lists (h.ledgers owner) owner) day) where
    pub made_of : AreClean outbox ledger new → AreSound outbox ledger old → IsMadeOf outbox ledger rule old owner day made devices
    made_of clean sound = record { closed = closed clean sound; held = held clean sound; short = λ h may. same ∙ short clean sound h may; taps = taken clean sound; numbered = value clean sound }

  module _ (before after : Option (List ℕ)) (text : List ℕ) where
    pub bill_written : (bill : BillValue) → text ≡ reply_text (reply.Bill owner day bill devices) → (AreClean outbox ledger new → AreSound outbox ledger old → IsMadeOf outbox ledger bill_of old owner day bill devices)
        → (r : Result (Unit {0}) DeskFault) → OnOk r (Appends before after text) → OnOk r (WritesBill outbox ledger old new owner day before after)
    bill_written bill is made (Err f) w = tt
    bill_written bill is made (Ok u) w = record { bill = bill; short = devices; written = subst (Appends before after) is w; made = made }

    pub settlement_written : (shares : List SettledValue) → text ≡ reply_text (reply.Settlement owner day shares devices) → (AreClean outbox ledger new → AreSound outbox ledger old → IsMadeOf outbox ledger settlement_of old owner day shares devices)
        → (r : Result (Unit {0}) DeskFault) → OnOk r (Appends before after text) → OnOk r (WritesSettlement outbox ledger old new owner day before after)
    settlement_written shares is made (Err f) w = tt
    settlement_written shares is made (Ok u) w = record { shares = shares; short = devices; written = subst (Appends before after) is w; made = made }

-- a fault is named as the refusal of a bill that it was made of
name_is : (V : Type 0) (why : Refused BillingFault) → name_of (of_bill why) ≡ refusal_of {V = V} (Err why)
name_is V (Because (billing.Unbilled bill.UnknownOwner)) = refl
name_is V (Because (billing.Unbilled bill.BeforeStart)) = refl
name_is V (Because (billing.Unbilled (bill.NotClosed device))) = refl
name_is V (Because (billing.Forgotten device)) = refl
name_is V (Failed fault.Memory) = refl
name_is V (Failed fault.Store) = refl

-- so it refuses for the same reason
pub fault_refused : (V : Type 0) (r : Result V (Refused BillingFault)) (P : Option BillingFault → Type 0) (why : Refused BillingFault) (f : DeskFault) → f ≡ of_bill why → P (refusal_of {V = V} (Err why)) → P (name_of f)
fault_refused V r P why f made is = subst P (sym (ap name_of made ∙ name_is V why)) is

pub bill_named : (f : DeskFault) (why : Refused BillingFault) → f ≡ of_bill why → is_refusal f ≡ is_some (name_of f)
bill_named f why made = subst (λ q. is_refusal q ≡ is_some (name_of q)) (sym made) (named why)
  where
    named : (why : Refused BillingFault) → is_refusal (of_bill why) ≡ is_some (name_of (of_bill why))
    named (Because (billing.Unbilled bill.UnknownOwner)) = refl
    named (Because (billing.Unbilled bill.BeforeStart)) = refl
    named (Because (billing.Unbilled (bill.NotClosed device))) = refl
    named (Because (billing.Forgotten device)) = refl
    named (Failed fault.Memory) = refl
    named (Failed fault.Store) = refl
