-- What a hub at rest answers to a request, and what becomes of its stores.
use Rattle.std.specs.Prelude.{◌≡◌, ◌≢◌, ◌↔◌, ◌⊎◌, ℕ, true, List, [], ◌∷◌, ◌++◌, codes, Option, Some, None, Result, Ok, Err}
use Rattle.fare_desk.specs.Billing.{WritesBill, WritesSettlement}
use Rattle.fare_desk.specs.Causes.{IsCaused}
use Rattle.fare_desk.specs.Closing.{GoesOn, HasClosedLanes, lanes_of}
use Rattle.fare_desk.specs.Faults.{is_of_retire}
use Rattle.fare_desk.specs.Retiring.{LeavesLane, RetiresLane}
use Rattle.fare_desk.specs.Showing.{OnlyAsks, WritesStanding}
use Rattle.fare_desk.specs.Waiting.{TellsOwners}
use Rattle.fare_desk.specs.declared.fault.DeskFault.{DeskFault}
use Rattle.fare_desk.specs.declared.fault.DeskFault.TheVariants as desk
use Rattle.fare_desk.specs.declared.waiting.OwnerWaits.{OwnerWaits}
use Rattle.fare_agreement.specs.Stopping.{IsLeftBy}
use Rattle.fare_event.specs.declared.reply.Refusal.{Refusal}
use Rattle.fare_event.specs.declared.reply.Refusal.TheVariants as refusal
use Rattle.fare_event.specs.declared.reply.Reply.TheVariants as reply
use Rattle.fare_history.specs.Stores.{StoresValue, Retires_lane}
use Rattle.fare_json.specs.Lines.{json_text}
use Rattle.fare_lines.specs.Replies.{reply_text}
use Rattle.fare_request.specs.Asking.{Asks}
use Rattle.fare_request.specs.Forms.{form_of}
use Rattle.fare_request.specs.declared.form.Form.{Form}
use Rattle.fare_request.specs.declared.form.Form.TheVariants as form
use Rattle.fare_request.specs.declared.ask.Ask.{Ask}
use Rattle.fare_request.specs.declared.ask.Ask.TheVariants as ask
use Rattle.fare_request.specs.declared.ask.Mistake.{Mistake}
use Rattle.fare_request.specs.declared.ask.Mistake.TheVariants as mistake
use Rattle.fare_scheme.specs.Values.{SchemeValue}
use Rattle.fare_scheme.specs.Words.{position_of_device, position_of_owner}
use Rattle.fare_serve.specs.declared.progress.Progress.{Progress}
use Rattle.fare_sessions.specs.Billing.{IsBillRefusal}
use Rattle.fare_sessions.specs.Stores.{ComesOf, AreClean, AreSound}
use Rattle.fare_sessions.specs.declared.hub.Hub.{Hub}
use Rattle.fare_store.specs.LedgerWords.{LedgerValue}
use Rattle.fare_store.specs.OutboxWords.{OutboxValue}
use Rattle.fare_store.specs.Standing.{Standing}
use Rattle.fare_store.specs.declared.fault.Fault.{Fault}
use Rattle.fare_store.specs.declared.fault.Fault.TheVariants as fault
use Rattle.fare_sessions.specs.declared.billing.BillingFault.{BillingFault}
use Rattle.fare_sessions.specs.declared.billing.BillingFault.TheVariants as billing
use Rattle.fare_side.specs.declared.bill_fault.BillFault.TheVariants as bill
use Rattle.http.specs.declared.request.Parts.{Parts}
use Rattle.http.specs.Request.{head_of}
use Rattle.http_server.specs.Exchange.{Call}
use Rattle.http_server.specs.declared.response.Response.{Response}
use Rattle.std.specs.Map.{keys_of}
use Rattle.fare_page.specs.Gauges.{gauges_text}
use Rattle.fare_page.specs.Metrics.{metrics_text}

-- REFUSALS
-- the refusal of a bill, as a trace names it
abbrev pub bill_refusal : BillingFault → Refusal
bill_refusal (billing.Unbilled bill.UnknownOwner) = refusal.UnknownOwner
bill_refusal (billing.Unbilled bill.BeforeStart) = refusal.BeforeStart
bill_refusal (billing.Forgotten device) = refusal.Forgotten device
bill_refusal (billing.Unbilled (bill.NotClosed device)) = refusal.NotClosed device

-- the refusal that a fault is, if it is one
abbrev pub refusal_in : DeskFault → Option Refusal
refusal_in desk.UnknownOwner = Some refusal.UnknownOwner
refusal_in desk.UnknownDevice = Some refusal.UnknownDevice
refusal_in desk.BeforeStart = Some refusal.BeforeStart
refusal_in (desk.Forgotten device) = Some (refusal.Forgotten device)
refusal_in (desk.NotClosed device) = Some (refusal.NotClosed device)
refusal_in desk.Retired = Some refusal.Retired
refusal_in _ = None

-- its line
abbrev pub refused_line : Refusal → List ℕ
refused_line why = reply_text (reply.Refused why)

-- MISTAKES
abbrev pub mistake_status : Mistake → ℕ
mistake_status mistake.Foreign = 403
mistake_status mistake.Nowhere = 404
mistake_status mistake.WantsGet = 405
mistake_status mistake.WantsPost = 405
mistake_status mistake.Words = 400

abbrev pub mistake_line : Mistake → List ℕ
mistake_line mistake.Foreign = codes "refused Foreign\n"
mistake_line mistake.Nowhere = codes "refused Nowhere\n"
mistake_line mistake.WantsGet = codes "refused WantsGet\n"
mistake_line mistake.WantsPost = codes "refused WantsPost\n"
mistake_line mistake.Words = codes "refused Words\n"

-- STATUSES
-- it was done
abbrev pub IsDone : ℕ → Type 0
IsDone status = status ≡ 200

-- there was no memory: nothing is said of the body
abbrev pub IsOutOfMemory : ℕ → Type 0
IsOutOfMemory status = status ≡ 503

-- a store failed
abbrev pub IsStoreFailure : ℕ → Type 0
IsStoreFailure status = status ≡ 500

-- it was not done, for one of these
abbrev pub IsFault : ℕ → Type 0
IsFault status = IsOutOfMemory status ⊎ IsStoreFailure status

-- the line that tells that a store failed
abbrev pub failed_line : List ℕ
failed_line = codes "store failed\n"

-- what a store that failed is told by: this line, and of closes that it ended behind what was told of those before it
abbrev pub TellsFailure : Ask → List ℕ → Type 0
TellsFailure ask.Close body = (front : List ℕ) × (body ≡ front ++ failed_line)
TellsFailure _ body = body ≡ failed_line

-- that a store failed is told, its line behind what was there, and of no other fault
abbrev pub IsToldOf : Option Fault → List ℕ → List ℕ → ℕ → Type 0
IsToldOf (Some fault.Store) before after status = IsOutOfMemory status ⊎ (IsStoreFailure status × (after ≡ before ++ failed_line))
IsToldOf _ before after status = status ≢ 500

-- refused by name: its line stands behind what was there
abbrev pub IsNamed : Refusal → List ℕ → List ℕ → ℕ → Type 0
IsNamed why before after status = (status ≡ 409) × (after ≡ before ++ refused_line why)

abbrev pub IsToldFault : Option Refusal → List ℕ → List ℕ → ℕ → Type 0
IsToldFault None before after status = IsFault status
IsToldFault (Some why) before after status = IsFault status ⊎ IsNamed why before after status

-- what is told of how a question or an order ended
abbrev pub IsTold : Result (Unit {0}) DeskFault → List ℕ → List ℕ → ℕ → Type 0
IsTold (Ok _) before after status = IsDone status × (after ≡ before)
IsTold (Err fault) before after status = IsToldFault (refusal_in fault) before after status

-- what the response is, of this status and body: they, or that there was no memory
abbrev pub IsFilled : ℕ → List ℕ → ℕ → List ℕ → Type 0
IsFilled status body is content = ((is ≡ status) × (content ≡ body)) ⊎ IsOutOfMemory is

-- FORMS
-- the form of an answer to this, where this one is wanted: the page and the counts have one
abbrev pub form_for : Form → Ask → Form
form_for wanted ask.Page = form.Text
form_for wanted ask.Metrics = form.Text
form_for wanted a = wanted

-- lines in a form
abbrev pub in_form : Form → List ℕ → List ℕ
in_form form.Text text = text
in_form form.Json text = json_text text

-- a body is lines in a form; nothing is said of it where there was no memory or a store failed
abbrev pub IsBody : ℕ → Form → List ℕ → List ℕ → Type 0
IsBody status told text body = (body ≡ in_form told text) ⊎ IsFault status

-- ANSWERS
-- it leaves what the stores hold as it was
abbrev pub IsQuestion : Ask → Type 0
IsQuestion ask.Page = Unit {0}
IsQuestion ask.Metrics = Unit {0}
IsQuestion ask.Stand = Unit {0}
IsQuestion (ask.Bill owner day) = Unit {0}
IsQuestion (ask.Settle owner day) = Unit {0}
IsQuestion ask.Close = ⊥
IsQuestion (ask.Retire owner device) = ⊥
IsQuestion (ask.Nothing why) = Unit {0}

abbrev pub TellsPage : ℕ → Type 0
TellsPage status = IsDone status ⊎ IsOutOfMemory status

abbrev pub TellsMistake : Mistake → ℕ → List ℕ → Type 0
TellsMistake why status body = ((status ≡ mistake_status why) × (body ≡ mistake_line why)) ⊎ IsOutOfMemory status

-- the owner and the device are registered
abbrev pub IsKnownLane : SchemeValue → ℕ → ℕ → Type 0
IsKnownLane sc owner device = (position_of_owner sc owner ≢ None) × (position_of_device sc device ≢ None)

-- the stores k are h, or h with the owner's lane of the device retired, which it wasn't
abbrev pub MayRetireOne : ℕ → ℕ → StoresValue → StoresValue → Type 0
MayRetireOne owner device h k = IsLeftBy h (Retires_lane owner device) k

module _ {O L : Type 0} (outbox : O → Standing OutboxValue) (ledger : L → Standing LedgerValue) where
  -- of an order, each store has kept what was committed, and what they hold fitted together; of a question, whatever they keep
  abbrev pub AreTrusted : Ask → Hub O L → Hub O L → Type 0
  AreTrusted a old new = IsQuestion a ⊎ (AreClean outbox ledger new × AreSound outbox ledger old)

  -- what the status tells of the stores, over these: one failed, where it says so, and else none did, but where there was no memory
  pub record TellsStores (old new : Hub O L) (status : ℕ) : Type 0 where
    pub failed : IsStoreFailure status → IsCaused outbox ledger old new (Some fault.Store)
    pub sound : status ≢ 500 → status ≢ 503 → IsCaused outbox ledger old new None

  -- a bill or a settlement was refused by the first name that applies, whose line is told
  pub record TellsRefusal (old new : Hub O L) (owner day : ℕ) (status : ℕ) (body : List ℕ) : Type 0 where
    pub why : BillingFault
    pub told : (status ≡ 409) × (body ≡ refused_line (bill_refusal why))
    pub is : AreClean outbox ledger new → AreSound outbox ledger old → IsBillRefusal outbox ledger old owner day (Some why)

  -- a lane that is registered was retired, whose line is told
  pub record TellsRetired (old new : Hub O L) (owner device : ℕ) (status : ℕ) (body : List ℕ) : Type 0 where
    pub told : IsDone status
    pub known : IsKnownLane old.scheme owner device
    pub retires : RetiresLane outbox ledger owner device old new (Some []) (Some body)

  -- it was not, but refused by the first name that applies, whose line is told; this changed nothing
  pub record TellsNotRetired (old new : Hub O L) (owner device : ℕ) (status : ℕ) (body : List ℕ) : Type 0 where
    pub fault : DeskFault
    pub why : Refusal
    pub named : (is_of_retire fault ≡ true) × (refusal_in fault ≡ Some why)
    pub told : (status ≡ 409) × (body ≡ refused_line why)
    pub unknown_owner : (fault ≡ desk.UnknownOwner) ↔ (position_of_owner old.scheme owner ≡ None)
    pub unknown_device : (fault ≡ desk.UnknownDevice) ↔ ((position_of_owner old.scheme owner ≢ None) × (position_of_device old.scheme device ≡ None))
    pub leaves : ComesOf outbox ledger old new (LeavesLane owner device fault)

  -- that it failed is told: then the lane may be retired all the same
  abbrev pub TellsRetireFault : Hub O L → Hub O L → ℕ → ℕ → ℕ → Type 0
  TellsRetireFault old new owner device status = IsFault status × ComesOf outbox ledger old new (MayRetireOne owner device)

  -- how far serving has come, what waits for owners and where devices stand is told
  abbrev pub TellsMetrics : Progress → Hub O L → Hub O L → ℕ → List ℕ → Type 0
  TellsMetrics progress old new status body = (IsDone status × ((waits : List OwnerWaits) × TellsOwners outbox ledger (keys_of old.scheme.owners) old new waits × (body ≡ metrics_text progress ++ gauges_text new.scheme waits))) ⊎ IsFault status

  -- What is told to it, of the stores of a hub as they were and as they are: what the same question of stores in files is
  -- answered, or its refusal.
  abbrev pub Tells : Progress → Ask → Hub O L → Hub O L → ℕ → List ℕ → Type 0
  Tells progress ask.Page old new status body = TellsPage status
  Tells progress ask.Metrics old new status body = TellsMetrics progress old new status body
  Tells progress ask.Stand old new status body = (IsDone status × WritesStanding outbox ledger old new (Some []) (Some body)) ⊎ IsFault status
  Tells progress (ask.Bill owner day) old new status body = (IsDone status × WritesBill outbox ledger old new owner day (Some []) (Some body)) ⊎ (TellsRefusal old new owner day status body ⊎ IsFault status)
  Tells progress (ask.Settle owner day) old new status body = (IsDone status × WritesSettlement outbox ledger old new owner day (Some []) (Some body)) ⊎ (TellsRefusal old new owner day status body ⊎ IsFault status)
  Tells progress ask.Close old new status body = (IsDone status × HasClosedLanes outbox ledger (lanes_of old.scheme) old new (Some []) (Some body)) ⊎ IsFault status
  Tells progress (ask.Retire owner device) old new status body = TellsRetired old new owner device status body ⊎ (TellsNotRetired old new owner device status body ⊎ TellsRetireFault old new owner device status)
  Tells progress (ask.Nothing why) old new status body = TellsMistake why status body

  -- A request was answered: it asks for this, which the response's status tells and a text, which is its body, in the form
  -- that the request wants; and the stores went on.
  pub record IsAnswered (progress : Progress) (request : Parts) (old new : Hub O L) (response : Response) : Type 0 where
    pub ask : Ask
    pub asks : Asks request ask
    pub goes : GoesOn outbox ledger old new
    pub reads : IsQuestion ask → OnlyAsks outbox ledger old new
    pub text : List ℕ
    pub tells : Tells progress ask old new response.status text
    pub body : IsBody response.status (form_for (form_of request) ask) text response.body.items
    pub cause : AreTrusted ask old new → TellsStores old new response.status
    pub line : IsStoreFailure response.status → TellsFailure ask response.body.items

  -- REQUESTS
  -- requests were answered one after the other, each over the stores that the one before it left
  abbrev pub AreAnswered : Progress → Hub O L → Hub O L → List Call → Type 0
  AreAnswered progress old new [] = new ≡ old
  AreAnswered progress old new (c ∷ cs) = (middle : Hub O L) × IsAnswered progress (head_of c.0) old middle c.1 × AreAnswered progress middle new cs

  -- some requests were, and nothing else was done
  pub record HasAnswered (progress : Progress) (old new : Hub O L) : Type 0 where
    pub calls : List Call
    pub answered : AreAnswered progress old new calls
