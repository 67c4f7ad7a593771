-- What comes of a question of the stores, or an order.
use Rattle.std.specs.Prelude.{◌≡◌, ◌≢◌, ◌↔◌, ◌⊎◌, ◌<◌, ◌≤◌, ℕ, false, nat_lt, List, ◌++◌, Option, None, Some, Result, Ok, Err, IfSome, is_none, is_some, if◌then◌else◌}
use Rattle.std.specs.Io.KnownBytes.{Appends, Keeps}
use Rattle.std.specs.Map.{keys_of}
use Rattle.fare_cap.specs.Bills.{BillValue}
use Rattle.fare_cap.specs.Fares.{week_start}
use Rattle.fare_settle.specs.Values.{SettledValue}
use Rattle.fare_scheme.specs.Values.{SchemeValue}
use Rattle.fare_scheme.specs.Words.{position_of_device, position_of_owner}
use Rattle.fare_store.specs.Standing.{Standing}
use Rattle.fare_store.specs.OutboxWords.{OutboxValue}
use Rattle.fare_store.specs.LedgerWords.{LedgerValue}
use Rattle.fare_event.specs.declared.reply.Reply.TheVariants as reply
use Rattle.fare_lines.specs.Replies.{reply_text}
use Rattle.fare_command.specs.declared.words.SchemeSource.{SchemeSource}
use Rattle.fare_command.specs.declared.words.Question.{Question}
use Rattle.fare_command.specs.declared.words.Question.TheVariants.{Close, Bill, Settle, Stand, Retire, Forget}
use Rattle.fare_desk.specs.Billing.{WritesBill, WritesSettlement}
use Rattle.fare_desk.specs.Faults.{is_of_retire, is_refusal, name_of}
use Rattle.fare_desk.specs.Retiring.{LeavesLane, RetiresLane}
use Rattle.fare_desk.specs.Forgetting.{AreGoneLines, LeavesSome, LetsGo}
use Rattle.fare_desk.specs.Closing.{AreLinesOf, GoesOn, GoesOnLettingGo, HasClosedLanes, lanes_of}
use Rattle.fare_desk.specs.Showing.{AreLaneLines, AreUptoLines, WritesStanding}
use Rattle.fare_desk.specs.declared.fault.DeskFault.{DeskFault}
use Rattle.fare_desk.specs.declared.fault.DeskFault.TheVariants as desk
use Rattle.fare_sessions.specs.declared.hub.Hub.{Hub}
use Rattle.fare_sessions.specs.Billing.{IsBillRefusal}
use Rattle.fare_sessions.specs.Stores.{AreClean, AreSound, ComesOf}
use Rattle.fare_run.specs.Scheming.{GaveNone, GivesNone, SpellsScheme, TakesScheme}
use Rattle.fare_run.specs.Stores.{IsOfStores}
use Rattle.fare_run.specs.declared.ask_failure.AskFailure.{AskFailure}
use Rattle.fare_run.specs.declared.ask_failure.AskFailure.TheVariants.{Stores, Desk}

-- it is answered at once: where it fails, nothing was written, but where the writer failed
abbrev pub IsAnsweredAtOnce : Question → Type 0
IsAnsweredAtOnce Close = ⊥
IsAnsweredAtOnce (Bill owner day) = Unit {0}
IsAnsweredAtOnce (Settle owner day) = Unit {0}
IsAnsweredAtOnce Stand = Unit {0}
IsAnsweredAtOnce (Retire owner device) = Unit {0}
IsAnsweredAtOnce (Forget day) = ⊥

-- the stores of a hub go on: they lose nothing, but that `forget` lets go what is of closed days
abbrev pub GoesOnAsked : {O L : Type 0} → (O → Standing OutboxValue) → (L → Standing LedgerValue) → Question → Hub O L → Hub O L → Type 0
GoesOnAsked outbox ledger (Forget day) = GoesOnLettingGo outbox ledger
GoesOnAsked outbox ledger _ = GoesOn outbox ledger

-- what was written to it, of the stores of a hub
abbrev pub Answers : {O L : Type 0} → (O → Standing OutboxValue) → (L → Standing LedgerValue) → Question → Hub O L → Hub O L → Option (List ℕ) → Option (List ℕ) → Type 0
Answers outbox ledger Close old new before after = HasClosedLanes outbox ledger (lanes_of old.scheme) old new before after
Answers outbox ledger (Bill owner day) old new before after = WritesBill outbox ledger old new owner day before after
Answers outbox ledger (Settle owner day) old new before after = WritesSettlement outbox ledger old new owner day before after
Answers outbox ledger Stand old new before after = WritesStanding outbox ledger old new before after
Answers outbox ledger (Retire owner device) old new before after = RetiresLane outbox ledger owner device old new before after
Answers outbox ledger (Forget day) old new before after = LetsGo outbox ledger (week_start old.scheme day) (lanes_of old.scheme) old new before after

-- why there is no bill of an owner's day
abbrev pub FailsBill : {O L : Type 0} → (O → Standing OutboxValue) → (L → Standing LedgerValue) → ℕ → ℕ → Hub O L → Hub O L → DeskFault → Type 0
FailsBill outbox ledger owner day old new fault =
    (is_refusal fault ≡ is_some (name_of fault)) × (AreClean outbox ledger new → AreSound outbox ledger old → IsBillRefusal outbox ledger old owner day (name_of fault))

-- why a lane was not retired, and what is left
abbrev pub FailsRetire : {O L : Type 0} → (O → Standing OutboxValue) → (L → Standing LedgerValue) → ℕ → ℕ → Hub O L → Hub O L → DeskFault → Type 0
FailsRetire outbox ledger owner device old new fault =
    (is_refusal fault ≡ is_of_retire fault) × ((fault ≡ desk.UnknownOwner) ↔ (position_of_owner old.scheme owner ≡ None))
    × ((fault ≡ desk.UnknownDevice) ↔ ((position_of_owner old.scheme owner ≢ None) × (position_of_device old.scheme device ≡ None)))
    × ComesOf outbox ledger old new (LeavesLane owner device fault)

-- The name by which a question is refused before a store is asked, if it is: to a bill or a settlement that the owner is not
-- registered, or the day before the first one; to the end of a lane that the owner is not registered, or the device.
abbrev pub refused_unasked : SchemeValue → Question → Option DeskFault
refused_unasked sc Close = None
refused_unasked sc (Bill owner day) = if is_none (position_of_owner sc owner) then Some desk.UnknownOwner else (if nat_lt day sc.start then Some desk.BeforeStart else None)
refused_unasked sc (Settle owner day) = if is_none (position_of_owner sc owner) then Some desk.UnknownOwner else (if nat_lt day sc.start then Some desk.BeforeStart else None)
refused_unasked sc Stand = None
refused_unasked sc (Retire owner device) = if is_none (position_of_owner sc owner) then Some desk.UnknownOwner else (if is_none (position_of_device sc device) then Some desk.UnknownDevice else None)
refused_unasked sc (Forget day) = None

-- a fault is that name, where there is one
abbrev pub NamesFirst : SchemeValue → Question → DeskFault → Type 0
NamesFirst sc question fault = (why : DeskFault) → refused_unasked sc question ≡ Some why → fault ≡ why

-- refused by this name, where the stores were opened
abbrev pub IsRefusedAs : DeskFault → AskFailure → Type 0
IsRefusedAs why (Stores failure) = Unit {0}
IsRefusedAs why (Desk fault) = fault ≡ why

-- What a fault says of the stores of a hub: to a bill, which refusal applies; to `retire` and `forget` also what the fault
-- leaves. The other refusals never come.
abbrev pub FailsOf : {O L : Type 0} → (O → Standing OutboxValue) → (L → Standing LedgerValue) → Question → Hub O L → Hub O L → DeskFault → Type 0
FailsOf outbox ledger Close old new fault = is_refusal fault ≡ false
FailsOf outbox ledger (Bill owner day) old new fault = FailsBill outbox ledger owner day old new fault
FailsOf outbox ledger (Settle owner day) old new fault = FailsBill outbox ledger owner day old new fault
FailsOf outbox ledger Stand old new fault = is_refusal fault ≡ false
FailsOf outbox ledger (Retire owner device) old new fault = FailsRetire outbox ledger owner device old new fault
FailsOf outbox ledger (Forget day) old new fault = (is_refusal fault ≡ false) × ComesOf outbox ledger old new (LeavesSome (week_start old.scheme day) (lanes_of old.scheme))

-- it leaves what the stores hold as it was
abbrev pub IsReadOnly : Question → Type 0
IsReadOnly Close = ⊥
IsReadOnly (Bill owner day) = Unit {0}
IsReadOnly (Settle owner day) = Unit {0}
IsReadOnly Stand = Unit {0}
IsReadOnly (Retire owner device) = ⊥
IsReadOnly (Forget day) = ⊥

-- of an order, each store has kept what was committed, and what they hold fitted together; of a question, whatever they keep
abbrev pub AreTrusted : {O L : Type 0} → (O → Standing OutboxValue) → (L → Standing LedgerValue) → Question → Hub O L → Hub O L → Type 0
AreTrusted outbox ledger question old new = IsReadOnly question ⊎ (AreClean outbox ledger new × AreSound outbox ledger old)

-- What was written to it, by the scheme alone. To `close`, for each lane a line for each of some days in a row, all of
-- which were closed but the last, which may have been refused; to `stand`, a line for each device and for each lane; to
-- `retire`, the line that the lane is; to `forget`, a line for each lane.
abbrev pub IsAnswered : SchemeValue → Question → Option (List ℕ) → Option (List ℕ) → Type 0
IsAnswered sc Close before after = (text : List ℕ) × AreLinesOf (lanes_of sc) text × Appends before after text
IsAnswered sc (Bill owner day) before after = (bill : BillValue) × (short : List ℕ) × Appends before after (reply_text (reply.Bill owner day bill short))
IsAnswered sc (Settle owner day) before after = (shares : List SettledValue) × (short : List ℕ) × Appends before after (reply_text (reply.Settlement owner day shares short))
IsAnswered sc Stand before after = (uptos : List ℕ) × (lanes : List ℕ) × AreUptoLines (keys_of sc.devices) uptos × AreLaneLines (lanes_of sc) lanes × Appends before after (uptos ++ lanes)
IsAnswered sc (Retire owner device) before after = Appends before after (reply_text (reply.Retired device))
IsAnswered sc (Forget day) before after = (text : List ℕ) × AreGoneLines (lanes_of sc) text × Appends before after text

-- answered: the input makes a scheme, and the answer for it was written
pub record AskEnds (question : Question) (before after : Option (List ℕ)) (input : List ℕ) : Type 0 where
  pub sc : SchemeValue
  pub spelled : SpellsScheme sc input
  pub asked : refused_unasked sc question ≡ None
  pub writes : IsAnswered sc question before after

-- nothing was written, but where the writer failed
abbrev pub KeepsUnlessWrite : DeskFault → Option (List ℕ) → Option (List ℕ) → Type 0
KeepsUnlessWrite desk.Write before after = Unit {0}
KeepsUnlessWrite _ before after = Keeps before after

-- What each failure over databases says: one of opening the stores comes before anything is written, and one of a question
-- writes nothing, but where the writer failed.
abbrev pub FailsIn : Question → Option (List ℕ) → Option (List ℕ) → AskFailure → Type 0
FailsIn question before after (Stores why) = Keeps before after × IsOfStores why
FailsIn question before after (Desk fault) = IsAnsweredAtOnce question → KeepsUnlessWrite fault before after

-- What each failure says: one of the scheme, of what is kept or of opening the stores comes before anything is written, and one
-- of a question is the name by which that is refused unasked, if it is, and writes nothing, but where the writer failed.
abbrev pub AskFails : Question → Option (List ℕ) → Option (List ℕ) → Option (List ℕ) → AskFailure → Type 0
AskFails question known before after (Stores why) = Keeps before after × GivesNone known why
AskFails question known before after (Desk fault) = IfSome known (λ input. (sc : SchemeValue) × SpellsScheme sc input × NamesFirst sc question fault) × (IsAnsweredAtOnce question → KeepsUnlessWrite fault before after)

-- So it ended for these bytes of a scheme's lines: well where it is taken from them and the answer for it was written, or by a
-- failure that says this of them.
abbrev pub IsAskedOf : Question → Option (List ℕ) → Option (List ℕ) → SchemeSource → List ℕ → Result (Unit {0}) AskFailure → Type 0
IsAskedOf question before after source input (Ok _) = (sc : SchemeValue) × TakesScheme source sc input × (refused_unasked sc question ≡ None) × IsAnswered sc question before after
IsAskedOf question before after source input (Err (Stores why)) = Keeps before after × GaveNone source input why
IsAskedOf question before after source input (Err (Desk fault)) = (sc : SchemeValue) × TakesScheme source sc input × NamesFirst sc question fault × FailsIn question before after (Desk fault)
