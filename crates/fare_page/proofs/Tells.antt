-- What a response tells, of how a question or an order ended.
use Rattle.std.proofs.Common.{◌≡◌, ◌≢◌, ◌⊎◌, ℕ, List, [], ◌++◌, true, false, refl, sym, ap, ◌∙◌, subst, inl, inr, arith}
use Rattle.std.specs.Prelude.{◌↔◌, Option, Some, None, Result, Ok, Err, OnOk, IfErr, is_some}
use Rattle.std.specs.Io.KnownBytes.{Keeps}
use Rattle.fare_desk.specs.Billing.{WritesBill, WritesSettlement}
use Rattle.fare_desk.specs.Causes.{IsCaused, store_fault, store_named}
use Rattle.fare_desk.specs.Closing.{HasClosedLanes, lanes_of}
use Rattle.fare_desk.specs.Showing.{WritesStanding}
use Rattle.fare_desk.specs.Faults.{is_of_retire, is_refusal, name_of, refused_of}
use Rattle.fare_desk.specs.Retiring.{LeavesLane, RetiresLane}
use Rattle.fare_desk.specs.declared.fault.DeskFault.{DeskFault}
use Rattle.fare_desk.specs.declared.fault.DeskFault.TheVariants as desk
use Rattle.fare_desk.proofs.LetGo.{comes_loosened}
use Rattle.fare_desk.proofs.Retires.{comes_self}
use Rattle.fare_event.specs.declared.reply.Refusal.{Refusal}
use Rattle.fare_event.specs.declared.reply.Refusal.TheVariants as refusal
use Rattle.fare_history.specs.Stores.{StoresValue}
use Rattle.fare_request.specs.declared.ask.Ask.{Ask}
use Rattle.fare_request.specs.declared.ask.Ask.TheVariants as ask
use Rattle.fare_request.specs.declared.ask.Mistake.{Mistake}
use Rattle.fare_request.specs.declared.ask.Mistake.TheVariants as mistake
use Rattle.fare_request.specs.declared.form.Form.{Form}
use Rattle.fare_request.specs.declared.form.Form.TheVariants as form
use Rattle.fare_scheme.specs.Words.{position_of_device, position_of_owner}
use Rattle.fare_serve.specs.declared.progress.Progress.{Progress}
use Rattle.fare_sessions.specs.Billing.{IsBillRefusal}
use Rattle.fare_sessions.specs.Stores.{ComesOf, AreClean, AreSound}
use Rattle.fare_sessions.specs.declared.hub.Hub.{Hub}
use Rattle.fare_store.specs.LedgerWords.{LedgerValue}
use Rattle.fare_store.specs.OutboxWords.{OutboxValue}
use Rattle.fare_store.specs.Standing.{Standing}
use Rattle.fare_store.specs.declared.fault.Fault.{Fault}
use Rattle.fare_store.specs.declared.fault.Fault.TheVariants as fault
use Rattle.fare_sessions.specs.declared.billing.BillingFault.{BillingFault}
use Rattle.fare_sessions.specs.declared.billing.BillingFault.TheVariants as billing
use Rattle.fare_side.specs.declared.bill_fault.BillFault.TheVariants as bill
use Rattle.fare_page.specs.Answering.{AreTrusted, IsBody, IsDone, IsFault, IsFilled, IsNamed, IsOutOfMemory, IsQuestion, IsStoreFailure, IsTold, IsToldFault, IsToldOf, MayRetireOne, Tells, TellsFailure, TellsMistake, TellsNotRetired, TellsPage, TellsRefusal, TellsRetireFault, TellsRetired, TellsStores, bill_refusal, failed_line, form_for, in_form, mistake_status, refusal_in, refused_line}

-- what a refusal of a retire leaves
leaves_same : (owner device : ℕ) (fault : DeskFault) (h k : StoresValue) → is_of_retire fault ≡ true → LeavesLane owner device fault h k → k ≡ h
leaves_same owner device desk.UnknownOwner h k is l = l
leaves_same owner device desk.UnknownDevice h k is l = l
leaves_same owner device desk.Retired h k is l = l.1
leaves_same owner device desk.BeforeStart h k is l = absurd (cc)
leaves_same owner device (desk.Forgotten d) h k is l = absurd (cc)
leaves_same owner device (desk.NotClosed d) h k is l = absurd (cc)
leaves_same owner device desk.Memory h k is l = absurd (cc)
leaves_same owner device desk.Store h k is l = absurd (cc)
leaves_same owner device desk.Write h k is l = absurd (cc)

module _ {O L : Type 0} (outbox : O → Standing OutboxValue) (ledger : L → Standing LedgerValue) where
  -- of a question that is never refused by name
  plain : (fault : DeskFault) → is_refusal fault ≡ false → (before after : List ℕ) (status : ℕ) → IsToldFault (refusal_in fault) before after status → IsFault status
  plain desk.UnknownOwner is before after status told = absurd (cc)
  plain desk.UnknownDevice is before after status told = absurd (cc)
  plain desk.BeforeStart is before after status told = absurd (cc)
  plain (desk.Forgotten device) is before after status told = absurd (cc)
  plain (desk.NotClosed device) is before after status told = absurd (cc)
  plain desk.Retired is before after status told = absurd (cc)
  plain desk.Memory is before after status told = told
  plain desk.Store is before after status told = told
  plain desk.Write is before after status told = told

  tells_plainly : (W : Option (List ℕ) → Option (List ℕ) → Type 0) (before middle after : List ℕ) (status : ℕ) (ended : Result (Unit {0}) DeskFault) → before ≡ []
      → OnOk ended (W (Some before) (Some middle)) → IfErr ended (λ fault. is_refusal fault ≡ false) → IsTold ended middle after status → (IsDone status × W (Some []) (Some after)) ⊎ IsFault status
  tells_plainly W before middle after status (Ok u) none written unnamed told = inl (told.0, subst (λ (l : List ℕ). W (Some []) (Some l)) (sym told.1) (subst (λ (l : List ℕ). W (Some l) (Some middle)) none written))
  tells_plainly W before middle after status (Err fault) none written unnamed told = inr (plain fault unnamed middle after status told)

  pub tells_close : (progress : Progress) (a : Ask) (old new : Hub O L) (before middle after : List ℕ) (status : ℕ) (ended : Result (Unit {0}) DeskFault) → a ≡ ask.Close → before ≡ []
      → OnOk ended (HasClosedLanes outbox ledger (lanes_of old.scheme) old new (Some before) (Some middle)) → IfErr ended (λ fault. is_refusal fault ≡ false) → IsTold ended middle after status → Tells outbox ledger progress a old new status after
  tells_close progress a old new before middle after status ended is none closed unnamed told =
      subst (λ (x : Ask). Tells outbox ledger progress x old new status after) (sym is) (tells_plainly (HasClosedLanes outbox ledger (lanes_of old.scheme) old new) before middle after status ended none closed unnamed told)

  pub tells_standing : (progress : Progress) (a : Ask) (old new : Hub O L) (before middle after : List ℕ) (status : ℕ) (ended : Result (Unit {0}) DeskFault) → a ≡ ask.Stand → before ≡ []
      → OnOk ended (WritesStanding outbox ledger old new (Some before) (Some middle)) → IfErr ended (λ fault. is_refusal fault ≡ false) → IsTold ended middle after status → Tells outbox ledger progress a old new status after
  tells_standing progress a old new before middle after status ended is none written unnamed told =
      subst (λ (x : Ask). Tells outbox ledger progress x old new status after) (sym is) (tells_plainly (WritesStanding outbox ledger old new) before middle after status ended none written unnamed told)

  -- a bill or a settlement
  module _ (W : Option (List ℕ) → Option (List ℕ) → Type 0) (old new : Hub O L) (owner day : ℕ) (before middle after : List ℕ) (status : ℕ) (none : before ≡ []) where
    abbrev Refused : Type 0
    Refused = TellsRefusal outbox ledger old new owner day status after ⊎ IsFault status

    by_name : (why : BillingFault) → middle ≡ before → (AreClean outbox ledger new → AreSound outbox ledger old → IsBillRefusal outbox ledger old owner day (Some why)) → IsToldFault (Some (bill_refusal why)) middle after status → Refused
    by_name why same refused (inl out) = inr out
    by_name why same refused (inr named) = inl (record { why = why; told = (named.0, named.1 ∙ ap (λ (l : List ℕ). l ++ refused_line (bill_refusal why)) (same ∙ none)); is = refused })

    by_fault : (fault : DeskFault) → is_refusal fault ≡ is_some (name_of fault) → (fault ≢ desk.Write → Keeps (Some before) (Some middle)) → (AreClean outbox ledger new → AreSound outbox ledger old → IsBillRefusal outbox ledger old owner day (name_of fault)) → IsToldFault (refusal_in fault) middle after status → Refused
    by_fault desk.UnknownOwner is kept refused told = by_name (billing.Unbilled bill.UnknownOwner) (kept (λ w. absurd (cc))) refused told
    by_fault desk.BeforeStart is kept refused told = by_name (billing.Unbilled bill.BeforeStart) (kept (λ w. absurd (cc))) refused told
    by_fault (desk.Forgotten device) is kept refused told = by_name (billing.Forgotten device) (kept (λ w. absurd (cc))) refused told
    by_fault (desk.NotClosed device) is kept refused told = by_name (billing.Unbilled (bill.NotClosed device)) (kept (λ w. absurd (cc))) refused told
    by_fault desk.UnknownDevice is kept refused told = absurd (cc)
    by_fault desk.Retired is kept refused told = absurd (cc)
    by_fault desk.Memory is kept refused told = inr told
    by_fault desk.Store is kept refused told = inr told
    by_fault desk.Write is kept refused told = inr told

    pub tells_day : (ended : Result (Unit {0}) DeskFault) → OnOk ended (W (Some before) (Some middle)) → (AreClean outbox ledger new → AreSound outbox ledger old → IsBillRefusal outbox ledger old owner day (refused_of ended)) → IfErr ended (λ fault. is_refusal fault ≡ is_some (name_of fault)) → IfErr ended (λ fault. fault ≢ desk.Write → Keeps (Some before) (Some middle)) → IsTold ended middle after status
        → (IsDone status × W (Some []) (Some after)) ⊎ Refused
    tells_day (Ok u) written refused named kept told = inl (told.0, subst (λ (l : List ℕ). W (Some []) (Some l)) (sym told.1) (subst (λ (l : List ℕ). W (Some l) (Some middle)) none written))
    tells_day (Err fault) written refused named kept told = inr (by_fault fault named kept refused told)

  pub tells_bill : (progress : Progress) (a : Ask) (old new : Hub O L) (owner day : ℕ) (before middle after : List ℕ) (status : ℕ) (ended : Result (Unit {0}) DeskFault) → a ≡ ask.Bill owner day → before ≡ []
      → OnOk ended (WritesBill outbox ledger old new owner day (Some before) (Some middle)) → (AreClean outbox ledger new → AreSound outbox ledger old → IsBillRefusal outbox ledger old owner day (refused_of ended)) → IfErr ended (λ fault. is_refusal fault ≡ is_some (name_of fault)) → IfErr ended (λ fault. fault ≢ desk.Write → Keeps (Some before) (Some middle)) → IsTold ended middle after status
      → Tells outbox ledger progress a old new status after
  tells_bill progress a old new owner day before middle after status ended is none written refused named kept told =
      subst (λ (x : Ask). Tells outbox ledger progress x old new status after) (sym is) (tells_day (WritesBill outbox ledger old new owner day) old new owner day before middle after status none ended written refused named kept told)

  pub tells_settlement : (progress : Progress) (a : Ask) (old new : Hub O L) (owner day : ℕ) (before middle after : List ℕ) (status : ℕ) (ended : Result (Unit {0}) DeskFault) → a ≡ ask.Settle owner day → before ≡ []
      → OnOk ended (WritesSettlement outbox ledger old new owner day (Some before) (Some middle)) → (AreClean outbox ledger new → AreSound outbox ledger old → IsBillRefusal outbox ledger old owner day (refused_of ended)) → IfErr ended (λ fault. is_refusal fault ≡ is_some (name_of fault)) → IfErr ended (λ fault. fault ≢ desk.Write → Keeps (Some before) (Some middle)) → IsTold ended middle after status
      → Tells outbox ledger progress a old new status after
  tells_settlement progress a old new owner day before middle after status ended is none written refused named kept told =
      subst (λ (x : Ask). Tells outbox ledger progress x old new status after) (sym is) (tells_day (WritesSettlement outbox ledger old new owner day) old new owner day before middle after status none ended written refused named kept told)

  -- the end of a lane
  module _ (old new : Hub O L) (owner device : ℕ) (before middle after : List ℕ) (status : ℕ) (none : before ≡ []) where
    abbrev Told : Type 0
    Told = TellsRetired outbox ledger old new owner device status after ⊎ (TellsNotRetired outbox ledger old new owner device status after ⊎ TellsRetireFault outbox ledger old new owner device status)

    module _ (fault : DeskFault) (owner_is : (fault ≡ desk.UnknownOwner) ↔ (position_of_owner old.scheme owner ≡ None)) (device_is : (fault ≡ desk.UnknownDevice) ↔ ((position_of_owner old.scheme owner ≢ None) × (position_of_device old.scheme device ≡ None))) (leaves : ComesOf outbox ledger old new (LeavesLane owner device fault)) where
      by_refusal : (why : Refusal) → (is_of_retire fault ≡ true) × (refusal_in fault ≡ Some why) → middle ≡ before → IsToldFault (Some why) middle after status → Told
      by_refusal why is same (inl out) = inr (inr (out, comes_loosened outbox ledger old new (LeavesLane owner device fault) (MayRetireOne owner device) (λ h k l. inl (leaves_same owner device fault h k is.0 l)) leaves))
      by_refusal why is same (inr named) = inr (inl (record {
        fault = fault;
        why = why;
        named = is;
        told = (named.0, named.1 ∙ ap (λ (l : List ℕ). l ++ refused_line why) (same ∙ none));
        unknown_owner = owner_is;
        unknown_device = device_is;
        leaves = leaves;
      }))

    by_retire : (fault : DeskFault) → ((fault ≡ desk.UnknownOwner) ↔ (position_of_owner old.scheme owner ≡ None)) → ((fault ≡ desk.UnknownDevice) ↔ ((position_of_owner old.scheme owner ≢ None) × (position_of_device old.scheme device ≡ None))) → ComesOf outbox ledger old new (LeavesLane owner device fault) → is_refusal fault ≡ is_of_retire fault → (fault ≢ desk.Write → Keeps (Some before) (Some middle)) → IsToldFault (refusal_in fault) middle after status → Told
    by_retire desk.UnknownOwner o d leaves is kept told = by_refusal desk.UnknownOwner o d leaves refusal.UnknownOwner (refl, refl) (kept (λ w. absurd (cc))) told
    by_retire desk.UnknownDevice o d leaves is kept told = by_refusal desk.UnknownDevice o d leaves refusal.UnknownDevice (refl, refl) (kept (λ w. absurd (cc))) told
    by_retire desk.Retired o d leaves is kept told = by_refusal desk.Retired o d leaves refusal.Retired (refl, refl) (kept (λ w. absurd (cc))) told
    by_retire desk.BeforeStart o d leaves is kept told = absurd (cc)
    by_retire (desk.Forgotten other) o d leaves is kept told = absurd (cc)
    by_retire (desk.NotClosed other) o d leaves is kept told = absurd (cc)
    by_retire desk.Memory o d leaves is kept told = inr (inr (told, comes_loosened outbox ledger old new (LeavesLane owner device desk.Memory) (MayRetireOne owner device) (λ h k l. l) leaves))
    by_retire desk.Store o d leaves is kept told = inr (inr (told, comes_loosened outbox ledger old new (LeavesLane owner device desk.Store) (MayRetireOne owner device) (λ h k l. l) leaves))
    by_retire desk.Write o d leaves is kept told = inr (inr (told, comes_loosened outbox ledger old new (LeavesLane owner device desk.Write) (MayRetireOne owner device) (λ h k l. inr l) leaves))

    pub tells_lane : (ended : Result (Unit {0}) DeskFault) → ((ended ≡ Err desk.UnknownOwner) ↔ (position_of_owner old.scheme owner ≡ None)) → ((ended ≡ Err desk.UnknownDevice) ↔ ((position_of_owner old.scheme owner ≢ None) × (position_of_device old.scheme device ≡ None)))
        → OnOk ended (RetiresLane outbox ledger owner device old new (Some before) (Some middle)) → IfErr ended (λ fault. ComesOf outbox ledger old new (LeavesLane owner device fault)) → IfErr ended (λ fault. is_refusal fault ≡ is_of_retire fault) → IfErr ended (λ fault. fault ≢ desk.Write → Keeps (Some before) (Some middle)) → IsTold ended middle after status → Told
    tells_lane (Ok u) owner_is device_is retired failed named kept told =
        let known : position_of_owner old.scheme owner ≢ None = λ n. (let e : Ok u ≡ Err desk.UnknownOwner = owner_is.1 n in absurd (cc)) in
        inl (record {
          told = told.0;
          known = (known, λ n. (let e : Ok u ≡ Err desk.UnknownDevice = device_is.1 (known, n) in absurd (cc)));
          retires = subst (λ (l : List ℕ). RetiresLane outbox ledger owner device old new (Some []) (Some l)) (sym told.1) (subst (λ (l : List ℕ). RetiresLane outbox ledger owner device old new (Some l) (Some middle)) none retired);
        })
    tells_lane (Err fault) owner_is device_is retired failed named kept told =
        by_retire fault (λ e. owner_is.0 (ap (λ (f : DeskFault). Err f) e), λ n. (let e : Err fault ≡ Err desk.UnknownOwner = owner_is.1 n in let same : fault ≡ desk.UnknownOwner = cc in same)) (λ e. device_is.0 (ap (λ (f : DeskFault). Err f) e), λ n. (let e : Err fault ≡ Err desk.UnknownDevice = device_is.1 n in let same : fault ≡ desk.UnknownDevice = cc in same)) failed named kept told

  pub tells_retire : (progress : Progress) (a : Ask) (old new : Hub O L) (owner device : ℕ) (before middle after : List ℕ) (status : ℕ) (ended : Result (Unit {0}) DeskFault) → a ≡ ask.Retire owner device → before ≡ []
      → ((ended ≡ Err desk.UnknownOwner) ↔ (position_of_owner old.scheme owner ≡ None)) → ((ended ≡ Err desk.UnknownDevice) ↔ ((position_of_owner old.scheme owner ≢ None) × (position_of_device old.scheme device ≡ None)))
      → OnOk ended (RetiresLane outbox ledger owner device old new (Some before) (Some middle)) → IfErr ended (λ fault. ComesOf outbox ledger old new (LeavesLane owner device fault)) → IfErr ended (λ fault. is_refusal fault ≡ is_of_retire fault) → IfErr ended (λ fault. fault ≢ desk.Write → Keeps (Some before) (Some middle)) → IsTold ended middle after status
      → Tells outbox ledger progress a old new status after
  tells_retire progress a old new owner device before middle after status ended is none owner_is device_is retired failed named kept told =
      subst (λ (x : Ask). Tells outbox ledger progress x old new status after) (sym is) (tells_lane old new owner device before middle after status none ended owner_is device_is retired failed named kept told)

  -- nothing was done, for want of memory
  pub undone : (progress : Progress) (a : Ask) (hub : Hub O L) (status : ℕ) (body : List ℕ) → IsOutOfMemory status → Tells outbox ledger progress a hub hub status body
  undone progress ask.Page hub status body out = inr out
  undone progress ask.Metrics hub status body out = inr (inl out)
  undone progress ask.Stand hub status body out = inr (inl out)
  undone progress (ask.Bill owner day) hub status body out = inr (inr (inl out))
  undone progress (ask.Settle owner day) hub status body out = inr (inr (inl out))
  undone progress ask.Close hub status body out = inr (inl out)
  undone progress (ask.Retire owner device) hub status body out = inr (inr (inl out, comes_self outbox ledger hub (MayRetireOne owner device) (λ k. inl refl)))
  undone progress (ask.Nothing why) hub status body out = inr out

  -- what was told of a lane tells what may have come of it
  may_retire : (old new : Hub O L) (owner device status : ℕ) (body : List ℕ) → TellsRetired outbox ledger old new owner device status body ⊎ (TellsNotRetired outbox ledger old new owner device status body ⊎ TellsRetireFault outbox ledger old new owner device status) → ComesOf outbox ledger old new (MayRetireOne owner device)
  may_retire old new owner device status body (inl done) = comes_loosened outbox ledger old new (λ h k. LeavesLane owner device desk.Write h k) (MayRetireOne owner device) (λ h k l. inr l) (record { came = done.retires.retired.came })
  may_retire old new owner device status body (inr (inl refused)) = comes_loosened outbox ledger old new (LeavesLane owner device refused.fault) (MayRetireOne owner device) (λ h k l. inl (leaves_same owner device refused.fault h k refused.named.0 l)) refused.leaves
  may_retire old new owner device status body (inr (inr failed)) = failed.1

  -- that there was no memory may be told in place of anything
  faulted : (progress : Progress) (a : Ask) (old new : Hub O L) (status : ℕ) (body : List ℕ) (is : ℕ) (content : List ℕ) → Tells outbox ledger progress a old new status body → IsOutOfMemory is → Tells outbox ledger progress a old new is content
  faulted progress ask.Page old new status body is content tells out = inr out
  faulted progress ask.Metrics old new status body is content tells out = inr (inl out)
  faulted progress ask.Stand old new status body is content tells out = inr (inl out)
  faulted progress (ask.Bill owner day) old new status body is content tells out = inr (inr (inl out))
  faulted progress (ask.Settle owner day) old new status body is content tells out = inr (inr (inl out))
  faulted progress ask.Close old new status body is content tells out = inr (inl out)
  faulted progress (ask.Retire owner device) old new status body is content tells out = inr (inr (inl out, may_retire old new owner device status body tells))
  faulted progress (ask.Nothing why) old new status body is content tells out = inr out

  pub filled : (progress : Progress) (a : Ask) (old new : Hub O L) (status : ℕ) (body : List ℕ) (is : ℕ) (content : List ℕ) → Tells outbox ledger progress a old new status body → IsFilled status body is content → Tells outbox ledger progress a old new is content
  filled progress a old new status body is content tells (inl same) = subst (λ (s : ℕ). Tells outbox ledger progress a old new s content) (sym same.0) (subst (λ (l : List ℕ). Tells outbox ledger progress a old new status l) (sym same.1) tells)
  filled progress a old new status body is content tells (inr out) = faulted progress a old new status body is content tells out

-- A REFUSAL
module _ (fault : DeskFault) (why : Refusal) (before after : List ℕ) (status : ℕ) (is : refusal_in fault ≡ Some why) (told : IsOutOfMemory status ⊎ IsNamed why before after status) where
  pub refusal_told : IsToldFault (refusal_in fault) before after status
  refusal_told = subst (λ o. IsToldFault o before after status) (sym is) (by told)
    where
      by : IsOutOfMemory status ⊎ IsNamed why before after status → IsToldFault (Some why) before after status
      by (inl short) = inl (inl short)
      by (inr named) = inr named

  pub refusal_stores : IsToldOf (store_named fault) before after status
  refusal_stores = by fault is
    where
      not : IsOutOfMemory status ⊎ IsNamed why before after status → status ≢ 500
      not (inl short) broken = absurd (omega (arith, short, broken))
      not (inr named) broken = let done = named.0 in absurd (omega (arith, done, broken))

      by : (f : DeskFault) → refusal_in f ≡ Some why → IsToldOf (store_named f) before after status
      by desk.UnknownOwner i = not told
      by desk.UnknownDevice i = not told
      by desk.BeforeStart i = not told
      by (desk.Forgotten device) i = not told
      by (desk.NotClosed device) i = not told
      by desk.Retired i = not told
      by desk.Memory i = absurd (cc)
      by desk.Store i = absurd (cc)
      by desk.Write i = absurd (cc)

-- WHICH STORES FAILED
not_broken : (status : ℕ) → IsOutOfMemory status → status ≢ 500
not_broken status short broken = absurd (omega (arith, short, broken))

module _ {O L : Type 0} (outbox : O → Standing OutboxValue) (ledger : L → Standing LedgerValue) where
  -- none did
  pub none_failed : (old new : Hub O L) (status : ℕ) → status ≢ 500 → IsCaused outbox ledger old new None → TellsStores outbox ledger old new status
  none_failed old new status not same = record { failed = λ broken. absurd (not broken); sound = λ _ _. same }

  pub still_stores : (hub : Hub O L) (status : ℕ) → status ≢ 500 → TellsStores outbox ledger hub hub status
  still_stores hub status not = none_failed hub hub status not refl

  -- one may have, by how a question or an order ended
  pub told_stores : (old new : Hub O L) (f : Option Fault) (before after : List ℕ) (status : ℕ) → IsToldOf f before after status → IsCaused outbox ledger old new f → TellsStores outbox ledger old new status
  told_stores old new None before after status told cause = none_failed old new status told cause
  told_stores old new (Some fault.Memory) before after status told cause = none_failed old new status told cause
  told_stores old new (Some fault.Store) before after status (inl short) cause = record { failed = λ broken. absurd (not_broken status short broken); sound = λ _ not. absurd (not short) }
  told_stores old new (Some fault.Store) before after status (inr out) cause = record { failed = λ _. cause; sound = λ not _. absurd (not out.0) }

  pub filled_stores : (old new : Hub O L) (status : ℕ) (body : List ℕ) (is : ℕ) (content : List ℕ) → IsFilled status body is content → TellsStores outbox ledger old new status → TellsStores outbox ledger old new is
  filled_stores old new status body is content (inl same) tells = subst (TellsStores outbox ledger old new) (sym same.0) tells
  filled_stores old new status body is content (inr short) tells = record { failed = λ broken. absurd (not_broken is short broken); sound = λ _ not. absurd (not short) }

-- WHICH LINE TELLS THAT A STORE FAILED
-- it stands behind what was written before
told_behind : (f : Option Fault) (before after : List ℕ) (status : ℕ) → IsToldOf f before after status → IsStoreFailure status → after ≡ before ++ failed_line
told_behind None before after status told broken = absurd (told broken)
told_behind (Some fault.Memory) before after status told broken = absurd (told broken)
told_behind (Some fault.Store) before after status (inl short) broken = absurd (not_broken status short broken)
told_behind (Some fault.Store) before after status (inr out) broken = out.1

-- of what writes nothing where it fails it is all that is told
pub told_alone : (ended : Result (Unit {0}) DeskFault) (before middle after : List ℕ) (status : ℕ) → before ≡ [] → IfErr ended (λ fault. fault ≢ desk.Write → Keeps (Some before) (Some middle)) → IsToldOf (store_fault ended) middle after status → IsStoreFailure status → after ≡ failed_line
told_alone (Ok u) before middle after status none kept told broken = absurd (told broken)
told_alone (Err desk.Write) before middle after status none kept told broken = absurd (told broken)
told_alone (Err fault) before middle after status none kept told broken =
    told_behind (store_named fault) middle after status told broken ∙ ap (λ (l : List ℕ). l ++ failed_line) (kept (λ w. absurd (cc)) ∙ none)

-- of a close it stands behind what closed
pub line_close : (f : Option Fault) (before after : List ℕ) (status : ℕ) → IsToldOf f before after status → IsStoreFailure status → TellsFailure ask.Close after
line_close f before after status told broken = (before, told_behind f before after status told broken)

pub filled_line : (a : Ask) (told : Form) (status : ℕ) (text : List ℕ) (is : ℕ) (content : List ℕ) → IsFilled status (in_form told text) is content → (IsStoreFailure status → told ≡ form.Text) → (IsStoreFailure status → TellsFailure a text) → IsStoreFailure is → TellsFailure a content
filled_line a told status text is content (inr short) plain line broken = absurd (not_broken is short broken)
filled_line a told status text is content (inl same) plain line broken =
    let was : IsStoreFailure status = sym same.0 ∙ broken in
    subst (TellsFailure a) (sym (same.1 ∙ ap (λ (f : Form). in_form f text) (plain was))) (line was)

-- OF WHICH STORES IT IS SAID
module _ {O L : Type 0} (outbox : O → Standing OutboxValue) (ledger : L → Standing LedgerValue) (a : Ask) (old new : Hub O L) where
  -- what orders is said to fail only over these
  pub ordered : (IsQuestion a → ⊥) → AreTrusted outbox ledger a old new → AreClean outbox ledger new × AreSound outbox ledger old
  ordered not (inl question) = absurd (not question)
  ordered not (inr kept) = kept

-- statuses of what asks no store
pub page_not : (status : ℕ) → TellsPage status → status ≢ 500
page_not status (inl done) broken = absurd (omega (arith, done, broken))
page_not status (inr short) broken = absurd (omega (arith, short, broken))

mistake_is : (why : Mistake) → mistake_status why ≢ 500
mistake_is mistake.Foreign broken = absurd (omega (arith, broken))
mistake_is mistake.Nowhere broken = absurd (omega (arith, broken))
mistake_is mistake.WantsGet broken = absurd (omega (arith, broken))
mistake_is mistake.WantsPost broken = absurd (omega (arith, broken))
mistake_is mistake.Words broken = absurd (omega (arith, broken))

pub mistake_not : (why : Mistake) (status : ℕ) (body : List ℕ) → TellsMistake why status body → status ≢ 500
mistake_not why status body (inl told) broken = mistake_is why (sym told.0 ∙ broken)
mistake_not why status body (inr short) broken = absurd (omega (arith, short, broken))

-- what was filled in is the text, in its form
module _ (wanted told : Form) (a : Ask) (status : ℕ) (text : List ℕ) (is : ℕ) (content : List ℕ) where
  pub status_filled : IsFilled status (in_form told text) is content → IsFilled status text is text
  status_filled (inl same) = inl (same.0, refl)
  status_filled (inr out) = inr out

  pub body_filled : IsFault status ⊎ (told ≡ form_for wanted a) → IsFilled status (in_form told text) is content → IsBody is (form_for wanted a) text content
  body_filled (inl out) (inl same) = inr (subst IsFault (sym same.0) out)
  body_filled (inr chosen) (inl same) = inl (same.1 ∙ ap (λ (f : Form). in_form f text) chosen)
  body_filled chosen (inr out) = inr (inl out)
