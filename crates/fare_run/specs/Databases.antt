-- What serving, and asking, make of the databases in which a scheme's stores lie.
use Rattle.std.specs.Prelude.{◌≡◌, ◌≢◌, ◌↔◌, ◌⊎◌, ◌<◌, ◌≤◌, ℕ, ◌++◌, max, Bool, true, List, [], length, Option, Some, None, Result, Ok, Err}
use Rattle.std.specs.Io.KnownBytes.{Appends}
use Rattle.std.specs.List.{AllByRecursion, flat_map}
use Rattle.sqlite_trees.specs.Tree.{Trees}
use Rattle.sqlite_trees.specs.declared.store.Store.{Ghosts}
use Rattle.fare_record.specs.Values.{RecordValue}
use Rattle.fare_scheme.specs.Values.{SchemeValue}
use Rattle.fare_scheme.specs.Words.{position_of_owner}
use Rattle.fare_cap.specs.Bills.{BillValue, bill_of}
use Rattle.fare_settle.specs.Settling.{settlement_of}
use Rattle.fare_settle.specs.Values.{SettledValue}
use Rattle.fare_source.specs.declared.shift.Shift.{Shift}
use Rattle.fare_net.specs.NetValue.{NetValue}
use Rattle.fare_collect.specs.declared.station.Station.{Station}
use Rattle.fare_outbox.specs.declared.tables.SqlOutbox.{SqlOutbox}
use Rattle.fare_outbox.specs.Words as outbox_words
use Rattle.fare_ledger.specs.declared.tables.SqlLedger.{SqlLedger}
use Rattle.fare_ledger.specs.Words as ledger_words
use Rattle.fare_sessions.specs.declared.billing.BillingFault.{BillingFault}
use Rattle.fare_sessions.specs.declared.billing.BillingFault.TheVariants.{Unbilled, Forgotten}
use Rattle.fare_side.specs.declared.bill_fault.BillFault.TheVariants.{UnknownOwner, BeforeStart, NotClosed}
use Rattle.fare_history.specs.Stores.{StoresValue}
use Rattle.fare_agreement.specs.Agreeing.{AreNumberedLists, Agrees}
use Rattle.fare_agreement.specs.Growing.{StoresGrew, StoresLast}
use Rattle.fare_agreement.specs.Parts.{parts_of}
use Rattle.fare_sessions.specs.Billing.{gone_in, open_in, short_in}
use Rattle.fare_sessions.specs.declared.hub.Hub.{Hub}
use Rattle.fare_serve.specs.Calls.{AreEndedBy, Call, IsOfScheme}
use Rattle.fare_serve.specs.Coming.{AreLinesCovered, ComeOfLines}
use Rattle.fare_serve.specs.Counting.{counts_text}
use Rattle.fare_serve.specs.Rounds.{AreCountsOf, IsRound, Round, calls_of}
use Rattle.fare_serve.specs.Serving.{AreAllCovered, HaveTold, IsReadToEnds, reads_to_ends}
use Rattle.fare_serve.specs.declared.counts.Counts.{Counts}
use Rattle.fare_serve.specs.declared.fault.ServeFault.{ServeFault}
use Rattle.fare_command.specs.declared.words.Question.{Question}
use Rattle.fare_command.specs.declared.words.Question.TheVariants.{Bill, Settle, Forget}
use Rattle.fare_event.specs.declared.reply.Reply.TheVariants as reply
use Rattle.fare_lines.specs.Replies.{reply_text}
use Rattle.fare_databases.specs.Closed.{IsHandedBack}
use Rattle.fare_databases.specs.Held.{AreCleanDisks, Holds, Leave, Show}
use Rattle.fare_databases.specs.Holding.{HoldAgreed, HoldStores, StayAgreedAs}
use Rattle.fare_databases.specs.declared.databases.Databases.{Databases}
use Rattle.fare_desk.specs.Faults.{name_of}
use Rattle.fare_desk.specs.declared.fault.DeskFault.{DeskFault}
use Rattle.fare_run.specs.Asking.{Answers, FailsOf}
use Rattle.fare_run.specs.Serving.{ArePorts, serving_failure}
use Rattle.fare_run.specs.declared.ask_failure.AskFailure.{AskFailure}
use Rattle.fare_run.specs.declared.ask_failure.AskFailure.TheVariants.{Stores, Desk}
use Rattle.fare_run.specs.declared.serve_failure.ServeFailure.{ServeFailure}

-- ONE RUN
-- Where databases show stores that agree with lists of taps, whatever a stop would leave of them behind the run does, and what
-- they showed stays in it as the first says, and this is so of it.
pub record KeepDatabases {S : Type 0} (g : Ghosts S) (Stays : StoresValue → StoresValue → Type 0) (sc : SchemeValue) (before after : Databases S) (AreGiven : (ℕ → List RecordValue) → Type 0) (IsSo : StoresValue → Type 0) : Type 0 where
  pub keeps : AreCleanDisks g after → (lists : ℕ → List RecordValue) → AreNumberedLists lists → AreGiven lists
      → (outbox : Trees) (ledgers : ℕ → Trees) → Show g before outbox ledgers → HoldAgreed sc lists outbox ledgers
      → (outbox_left : Trees) (ledgers_left : ℕ → Trees) → Leave g after outbox_left ledgers_left
      → (kept : StayAgreedAs Stays sc lists outbox ledgers outbox_left ledgers_left) × IsSo kept.is

-- SERVING
-- the lines' calls of sessions
abbrev pub LineCall : Type 0
LineCall = Call (Shift NetValue)

-- Served to the end, these are the calls of rounds of the scheme's stations and owners: at least one, at most so many, and
-- exactly so many where no file could end them; where lines are read to their ends, each of whole shifts of them. What was
-- written is the ports and the sums of the calls' reports.
pub record ServedRounds (sc : SchemeValue) (most : ℕ) (untold asks : Bool) (calls : List LineCall) (before after : Option (List ℕ)) : Type 0 where
  pub ports : List ℕ
  pub are_ports : ArePorts asks ports
  pub rounds : List (Round (Shift NetValue))
  pub counts : Counts
  pub are : calls ≡ flat_map calls_of rounds
  pub some : 0 < length rounds
  pub few : length rounds ≤ max most 1
  pub all : untold ≡ true → length rounds ≡ max most 1
  pub each : AllByRecursion (λ r. (stations : List (Station (Shift NetValue))) × IsRound sc r stations) rounds
  pub to_ends : reads_to_ends most untold ≡ true → AllByRecursion (IsReadToEnds sc) rounds
  pub counted : AreCountsOf sc rounds counts
  pub written : Appends before after (ports ++ counts_text counts)

-- Where a failure ended it they are those up to it, each of the scheme's stations or of an owner; none where it came before
-- any.
abbrev pub CameOf : SchemeValue → ℕ → Bool → Bool → List LineCall → Option (List ℕ) → Option (List ℕ) → Result (Unit {0}) ServeFailure → Type 0
CameOf sc most untold asks calls before after (Ok _) = ServedRounds sc most untold asks calls before after
CameOf sc most untold asks calls before after (Err failure) = (calls ≡ []) ⊎ ((fault : ServeFault) × (failure ≡ serving_failure fault) × AreEndedBy fault calls × AllByRecursion (IsOfScheme sc) calls)

-- What these calls keep: where the frames that the lines gave in them are of lists with which the stores in the databases
-- agree, they agree with them behind it; nothing that they held is missing; and each acknowledgement that a line was answered
-- in one of them is covered by the outbox, and so are all that it was answered from its greeting on.
abbrev pub KeepsCalls : {S : Type 0} → Ghosts S → SchemeValue → Databases S → Databases S → List LineCall → Type 0
KeepsCalls g sc before after calls = KeepDatabases g StoresGrew sc before after (λ lists. HaveTold sc lists calls) (λ k. AreAllCovered sc k.outbox calls × AreLinesCovered sc k.outbox calls)

-- What serving over databases does, by the most rounds, whether no file may end them and whether an operator is answered
-- between them: these calls, where their lines came from, and what they keep, however it ended.
pub record ServesIn {S : Type 0} (g : Ghosts S) (sc : SchemeValue) (most : ℕ) (untold asks : Bool) (before after : Databases S) (written_before written_after : Option (List ℕ)) (result : Result (Unit {0}) ServeFailure) : Type 0 where
  pub calls : List LineCall
  pub came : CameOf sc most untold asks calls written_before written_after result
  pub lines : ComeOfLines sc calls
  pub keeps : KeepsCalls g sc before after calls

-- ASKING
-- how what the stores held stays: all of it, but that `forget` lets go what is of closed days
abbrev pub StaysAsked : Question → StoresValue → StoresValue → Type 0
StaysAsked (Forget day) = StoresLast
StaysAsked _ = StoresGrew

-- databases keep what they held
abbrev pub KeepsIn : {S : Type 0} → Ghosts S → SchemeValue → Question → Databases S → Databases S → Type 0
KeepsIn g sc question before after = KeepDatabases g (StaysAsked question) sc before after (λ lists. Unit {0}) (λ k. Unit {0})

-- what was written is what a rule makes of just these taps of an owner's day, for a day that the owner has closed of each device
-- whose lane it has not retired and of whose week nothing was let go, and the devices of which it is short
abbrev pub IsMadeOf : {V : Type 0} → (SchemeValue → List RecordValue → ℕ → V) → (V → List ℕ → List ℕ) → SchemeValue → (ℕ → List RecordValue) → StoresValue → ℕ → ℕ → Option (List ℕ) → Option (List ℕ) → Type 0
IsMadeOf rule text sc lists h owner day before after =
    (open_in sc (h.ledgers owner) day ≡ None) × (gone_in sc (h.ledgers owner) day ≡ None) × Appends before after (text (rule sc (parts_of sc lists (h.ledgers owner) owner) day) (short_in sc (h.ledgers owner) day))

abbrev pub bill_text : ℕ → ℕ → BillValue → List ℕ → List ℕ
bill_text owner day bill short = reply_text (reply.Bill owner day bill short)

abbrev pub settlement_text : ℕ → ℕ → List SettledValue → List ℕ → List ℕ
settlement_text owner day shares short = reply_text (reply.Settlement owner day shares short)

-- A bill of the stores in databases is the capped fare of just the taps in the lists with which they agree, and so is a
-- settlement.
abbrev pub IsBilled : SchemeValue → (ℕ → List RecordValue) → StoresValue → Question → Option (List ℕ) → Option (List ℕ) → Type 0
IsBilled sc lists h (Bill owner day) before after = IsMadeOf bill_of (bill_text owner day) sc lists h owner day before after
IsBilled sc lists h (Settle owner day) before after = IsMadeOf settlement_of (settlement_text owner day) sc lists h owner day before after
IsBilled sc lists h _ before after = Unit {0}

-- What was written to a question of the stores in databases: what is written of a hub, as `Answers` says, all that whose stores
-- hold is what the databases showed; so a bill is of just the lists with which these agree.
pub record AnswersIn {S : Type 0} (g : Ghosts S) (sc : SchemeValue) (question : Question) (before after : Databases S) (written_before written_after : Option (List ℕ)) : Type 0 where
  pub old : Hub (SqlOutbox S g) (SqlLedger S g)
  pub new : Hub (SqlOutbox S g) (SqlLedger S g)
  pub scheme : old.scheme ≡ sc
  pub back : IsHandedBack g new after
  pub answers : Answers (outbox_words.stands g) (ledger_words.stands g) question old new written_before written_after
  pub holds : AreCleanDisks g after → Holds g before old
  pub billed : AreCleanDisks g after → (lists : ℕ → List RecordValue) → AreNumberedLists lists → (outbox : Trees) (ledgers : ℕ → Trees) → Show g before outbox ledgers → (h : StoresValue) → HoldStores sc outbox ledgers h → Agrees sc lists h → IsBilled sc lists h question written_before written_after

-- Why an owner's day has no bill, of stores that hold this: the first of these refusals that applies.
pub record IsRefusedBill (sc : SchemeValue) (h : StoresValue) (owner day : ℕ) (refused : Option BillingFault) : Type 0 where
  pub unknown : (refused ≡ Some (Unbilled UnknownOwner)) ↔ (position_of_owner sc owner ≡ None)
  pub early : (refused ≡ Some (Unbilled BeforeStart)) ↔ ((position_of_owner sc owner ≢ None) × (day < sc.start))
  pub gone : (device : ℕ) → refused ≡ Some (Forgotten device) → gone_in sc (h.ledgers owner) day ≡ Some device
  pub not_closed : (device : ℕ) → refused ≡ Some (Unbilled (NotClosed device)) → (gone_in sc (h.ledgers owner) day ≡ None) × (open_in sc (h.ledgers owner) day ≡ Some device)

abbrev pub IsUnbilled : SchemeValue → StoresValue → Question → DeskFault → Type 0
IsUnbilled sc h (Bill owner day) fault = IsRefusedBill sc h owner day (name_of fault)
IsUnbilled sc h (Settle owner day) fault = IsRefusedBill sc h owner day (name_of fault)
IsUnbilled sc h _ fault = Unit {0}

-- Why a question of the stores in databases was not answered, or an order not followed: what `FailsOf` says of a hub, all that
-- whose stores hold is what the databases showed; so a day that is not closed is so of what these hold.
pub record RefusesIn {S : Type 0} (g : Ghosts S) (sc : SchemeValue) (question : Question) (before after : Databases S) (fault : DeskFault) : Type 0 where
  pub old : Hub (SqlOutbox S g) (SqlLedger S g)
  pub new : Hub (SqlOutbox S g) (SqlLedger S g)
  pub scheme : old.scheme ≡ sc
  pub back : IsHandedBack g new after
  pub fails : FailsOf (outbox_words.stands g) (ledger_words.stands g) question old new fault
  pub holds : AreCleanDisks g after → Holds g before old
  pub unbilled : AreCleanDisks g after → (outbox : Trees) (ledgers : ℕ → Trees) → Show g before outbox ledgers → (h : StoresValue) → HoldStores sc outbox ledgers h → IsUnbilled sc h question fault

-- where the stores were opened
abbrev pub Refuses : {S : Type 0} → Ghosts S → SchemeValue → Question → Databases S → Databases S → AskFailure → Type 0
Refuses g sc question before after (Stores why) = Unit {0}
Refuses g sc question before after (Desk fault) = RefusesIn g sc question before after fault
