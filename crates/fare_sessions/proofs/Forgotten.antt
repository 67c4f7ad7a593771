-- Letting go keeps agreement.
use Rattle.std.proofs.Common.{◌≡◌, ℕ, Bool, true, false, List, refl, sym, ap, ◌∙◌, subst, inl, inr}
use Rattle.std.specs.Prelude.{◌⊎◌, Result, Ok, Err, OnOk, is_some}
use Rattle.fare_record.specs.Values.{RecordValue}
use Rattle.fare_store.specs.declared.fault.Fault.{Fault}
use Rattle.fare_store.specs.declared.fault.ForgetFault.{ForgetFault}
use Rattle.fare_store.specs.declared.fault.ForgetFault.TheVariants.{UnknownDevice}
use Rattle.fare_store.specs.declared.fault.Refused.{Refused}
use Rattle.fare_store.specs.declared.fault.Refused.TheVariants as refused
use Rattle.fare_store.specs.Standing.{Standing, IsSound, Does, Writes, Removes}
use Rattle.fare_store.specs.Tables.{put}
use Rattle.fare_store.specs.OutboxWords.{OutboxValue, without_statements, stated_before}
use Rattle.fare_store.specs.LedgerWords.{LedgerValue, forget_judged, forgotten}
use Rattle.fare_history.specs.Holding.{MayHold, Leads, IsFit}
use Rattle.fare_history.specs.Stores as history
use Rattle.fare_history.specs.Stores.{StoresValue, MayForget, stores_after}
use Rattle.fare_store.proofs.Entries.{put_here}
use Rattle.fare_history.proofs.Holds.{write_leads, done_leads, removal_leads, removed_leads}
use Rattle.fare_session.specs.Stores.{Follows}
use Rattle.fare_agreement.specs.Agreeing.{AreNumberedLists, Agrees}
use Rattle.fare_agreement.specs.Stopping.{IsLeftBy}
use Rattle.fare_agreement.specs.Attempted.{IsForgottenFrom}
use Rattle.fare_agreement.proofs.Sessions.{IsSafe, stop_safe}
use Rattle.fare_sessions.specs.declared.forgetting.ForgettingFault.{ForgettingFault}
use Rattle.fare_sessions.specs.declared.hub.Hub.{Hub}
use Rattle.fare_sessions.specs.Forgetting.{as_forgetting, as_removed, AsksOutbox, HasForgotten}
use Rattle.fare_sessions.specs.Stores.{AreClean, AreSound, StoresFollow, MayStandAs, IsAgreed, HasLasted}
use Rattle.fare_sessions.proofs.Follow.{replaced_follow, replaced_sound, IsOwn}
use Rattle.fare_sessions.proofs.Steps.{put_back, stood_before, own_stands}
use Rattle.fare_sessions.proofs.Billed.{put_self}

-- ANSWERS
pub at_ok : {E P : Type 0} (r : Result Unit E) → (r ≡ Ok tt → P) → OnOk r P
at_ok (Ok u) p = p refl
at_ok (Err e) p = tt

no_refusal : {X : Type 0} (e : Refused ForgetFault) → Ok tt ≡ as_forgetting e → X
no_refusal (refused.Because why) same = absurd (cc)
no_refusal (refused.Failed f) same = absurd (cc)

was_removed : (q : Result ℕ Fault) → Ok tt ≡ as_removed q → (n : ℕ) × (q ≡ Ok n)
was_removed (Ok n) same = (n, refl)
was_removed (Err f) same = absurd (cc)

module _ {O L : Type 0} (outbox : O → Standing OutboxValue) (ledger : L → Standing LedgerValue) (old new : Hub O L) (owner device day : ℕ) (result : Result Unit (Refused ForgettingFault)) (h : HasForgotten outbox ledger old new owner device day result) where
  abbrev lo : L
  lo = h.one.own_old

  abbrev ln : L
  ln = h.one.own_new

  abbrev v : LedgerValue
  v = (ledger lo).value

  -- the ledger was asked, or, where it doesn't know the device, it is as it was
  asked : (Does_it : Type 0) → (v.knows device ≡ true → Does_it) → ((ln ≡ lo) → Does_it) → Does_it
  asked Does_it mine other = by (v.knows device) refl
    where
      by : (b : Bool) → v.knows device ≡ b → Does_it
      by true is = mine is
      by false is = other (h.did.in_ledger.unasked (h.did.in_ledger.unknown.1 is))

  -- FOLLOWS
  ledger_follows : Follows (ledger lo) (ledger ln)
  ledger_follows = asked (Follows (ledger lo) (ledger ln))
      (λ mine. let w = h.did.in_ledger.writes mine in record { clean = w.clean; live = w.live; lawful = λ live lawful. (w.value live lawful).0; lasts = w.lasts })
      (λ same. subst (λ x. Follows (ledger lo) (ledger x)) (sym same) (record { clean = λ c. c; live = λ l. l; lawful = λ l is. is; lasts = λ clean lawful lasting. lasting }))

  outbox_follows : Follows (outbox old.outbox) (outbox new.outbox)
  outbox_follows = by h.did.answer h.did.in_outbox
    where
      by : (a : Result Unit (Refused ForgetFault)) → AsksOutbox outbox ledger old.outbox new.outbox owner device day a result → Follows (outbox old.outbox) (outbox new.outbox)
      by (Ok u) is = let r = is.1 in record { clean = r.clean; live = r.live; lawful = λ live lawful. (r.value live lawful).0; lasts = r.lasts }
      by (Err e) is = subst (λ x. Follows (outbox old.outbox) (outbox x)) (sym is.0) (record { clean = λ c. c; live = λ l. l; lawful = λ l is. is; lasts = λ clean lawful lasting. lasting })

  pub forgotten_follow : StoresFollow outbox ledger old new
  forgotten_follow = replaced_follow outbox ledger old new owner h.one outbox_follows ledger_follows

  still_own : (other : ℕ) → IsOwn old.scheme other v → IsOwn old.scheme other (forgotten device day v)
  still_own other was = (was.0, record { start = was.1.start; knows = was.1.knows })

  done_own : (other : ℕ) → IsOwn old.scheme other v → (answer : Result Unit (Refused ForgetFault)) → Does v (ledger ln).value (forget_judged v device day) (forgotten device day v) answer → IsOwn old.scheme other (ledger ln).value
  done_own other was (Ok u) does = subst (IsOwn old.scheme other) (sym does.1) (still_own other was)
  done_own other was (Err (refused.Because why)) does = subst (IsOwn old.scheme other) (sym does.1) was
  done_own other was (Err (refused.Failed f)) does = subst (IsOwn old.scheme other) (sym does) was

  pub forgotten_sound : AreSound outbox ledger old → AreSound outbox ledger new
  forgotten_sound sound = replaced_sound outbox ledger old new owner h.one forgotten_follow sound (λ other live was. asked (IsOwn old.scheme other (ledger ln).value)
      (λ mine. let w = h.did.in_ledger.writes mine in done_own other was h.did.answer (w.value live (sound.lawful.ledgers_are h.one.place lo h.one.was (w.live live))).1)
      (λ same. subst (λ x. IsOwn old.scheme other (ledger x).value) (sym same) was))

  -- WHAT IT LEAVES
  -- a ledger that let go knows the device
  went_on : h.did.answer ≡ Ok tt → v.knows device ≡ true
  went_on ok = by (v.knows device) refl
    where
      by : (b : Bool) → v.knows device ≡ b → v.knows device ≡ true
      by true is = is
      by false is = let both : ◌≡◌ {A = Result Unit (Refused ForgetFault)} (Ok tt) (Err (refused.Because UnknownDevice)) = sym ok ∙ h.did.in_ledger.unknown.1 is in absurd (cc)

  module _ (sound_lo : IsSound (ledger lo)) (sound_ln : IsSound (ledger ln)) (sound_xo : IsSound (outbox old.outbox)) (sound_xn : IsSound (outbox new.outbox)) (clean : AreClean outbox ledger new) (sound : AreSound outbox ledger old) where
    fit_ledger : IsFit (ledger lo)
    fit_ledger = record { sound = sound_lo; lawful = sound.lawful.ledgers_are h.one.place lo h.one.was }

    fit_outbox : IsFit (outbox old.outbox)
    fit_outbox = record { sound = sound_xo; lawful = sound.lawful.outbox_is }

    clean_ledger : (ledger ln).clean
    clean_ledger = clean.ledgers_are h.one.place ln h.one.is

    -- whatever may be left of the ledger
    ledger_leads : Leads (IsForgottenFrom device day) (ledger lo) (ledger ln)
    ledger_leads = asked (Leads (IsForgottenFrom device day) (ledger lo) (ledger ln))
        (λ mine. write_leads (λ l. forget_judged l device day) (forgotten device day) (ledger lo) (ledger ln) h.did.answer (h.did.in_ledger.writes mine) fit_ledger clean_ledger)
        (λ same. subst (λ x. Leads (IsForgottenFrom device day) (ledger lo) (ledger x)) (sym same) (record { leads = λ l may. (l, may, inl refl) }))

    abbrev IsGoneFrom : LedgerValue → LedgerValue → Type 0
    IsGoneFrom l m = (forget_judged l device day ≡ Ok tt) × (m ≡ forgotten device day l)

    -- and where it let go
    ledger_gone : h.did.answer ≡ Ok tt → Leads IsGoneFrom (ledger lo) (ledger ln)
    ledger_gone ok = done_leads (λ l. forget_judged l device day) (forgotten device day) (ledger lo) (ledger ln) (subst (Writes (ledger lo) (ledger ln) (forget_judged v device day) (forgotten device day v)) ok (h.did.in_ledger.writes (went_on ok))) fit_ledger sound_ln clean_ledger

    module _ (k : StoresValue) (may : MayStandAs outbox ledger new k) where
      own_may : MayHold (ledger ln) (k.ledgers owner)
      own_may = own_stands outbox ledger old new owner h.one k may

      abbrev before : OutboxValue → LedgerValue → StoresValue
      before x l = record { outbox = x; ledgers = put k.ledgers owner l }

      stood : (x : OutboxValue) → MayHold (outbox old.outbox) x → (l : LedgerValue) → MayHold (ledger lo) l → MayStandAs outbox ledger old (before x l)
      stood x held_x l held_l = stood_before outbox ledger old new owner h.one k may x held_x l held_l

      -- the ledgers, where the owner's let go
      gone_back : (l : LedgerValue) → k.ledgers owner ≡ forgotten device day l → put (put k.ledgers owner l) owner (forgotten device day (put k.ledgers owner l owner)) ≡ k.ledgers
      gone_back l is = put_back k.ledgers owner l (forgotten device day (put k.ledgers owner l owner)) (is ∙ ap (forgotten device day) (sym (put_here k.ledgers owner l)))

      may_go : (l : LedgerValue) → forget_judged l device day ≡ Ok tt → MayForget (put k.ledgers owner l owner) device day
      may_go l is = subst (λ m. MayForget m device day) (sym (put_here k.ledgers owner l)) is

      alone : (x : OutboxValue) (l : LedgerValue) → k.outbox ≡ x → k.ledgers owner ≡ forgotten device day l → k ≡ history.forgotten_by_ledger owner device day (before x l)
      alone x l same is = λ i. record { outbox = same i; ledgers = sym (gone_back l is) i }

      both : (x : OutboxValue) (l : LedgerValue) → k.outbox ≡ without_statements owner device day x → k.ledgers owner ≡ forgotten device day l → k ≡ stores_after (before x l) (history.Forgets owner device day)
      both x l cut is = λ i. record { outbox = cut i; ledgers = sym (gone_back l is) i }

      left_by_ledger : (x : OutboxValue) (l : LedgerValue) → k.outbox ≡ x → IsForgottenFrom device day l (k.ledgers owner) → IsLeftBy (before x l) (history.Forgets owner device day) k
      left_by_ledger x l same (inl e) = let back = sym (put_self k.ledgers owner) ∙ ap (put k.ledgers owner) e in inl (λ i. record { outbox = same i; ledgers = back i })
      left_by_ledger x l same (inr e) = inr (may_go l e.0, inl (alone x l same e.1))

      left_by_both : (x : OutboxValue) (l : LedgerValue) → IsGoneFrom l (k.ledgers owner) → (k.outbox ≡ x) ⊎ (k.outbox ≡ without_statements owner device day x) → IsLeftBy (before x l) (history.Forgets owner device day) k
      left_by_both x l is (inl same) = inr (may_go l is.0, inl (alone x l same is.1))
      left_by_both x l is (inr cut) = inr (may_go l is.0, inr (both x l cut is.1))

      -- whatever may stand now is left by it
      pub forgotten_left : (m : StoresValue) × MayStandAs outbox ledger old m × IsLeftBy m (history.Forgets owner device day) k
      forgotten_left = by h.did.answer refl h.did.in_outbox
        where
          by : (a : Result Unit (Refused ForgetFault)) → h.did.answer ≡ a → AsksOutbox outbox ledger old.outbox new.outbox owner device day a result → (m : StoresValue) × MayStandAs outbox ledger old m × IsLeftBy m (history.Forgets owner device day) k
          by (Ok u) ok asks =
              let l = (ledger_gone ok).leads (k.ledgers owner) own_may in
              let x = (removal_leads (without_statements owner device day) (λ w. stated_before day (w.stated owner device)) (outbox old.outbox) (outbox new.outbox) asks.0 asks.1 fit_outbox clean.outbox_is).leads k.outbox may.outbox_may in
              (before x.0 l.0, stood x.0 x.1 l.0 l.1, left_by_both x.0 l.0 l.2 x.2)
          by (Err e) ok asks =
              let l = ledger_leads.leads (k.ledgers owner) own_may in
              (before k.outbox l.0, stood k.outbox (subst (λ z. MayHold (outbox z) k.outbox) asks.0 may.outbox_may) l.0 l.1, left_by_ledger k.outbox l.0 refl l.2)

      -- and where it succeeded it is gone from both
      pub forgotten_gone : result ≡ Ok tt → (m : StoresValue) × MayStandAs outbox ledger old m × (k ≡ stores_after m (history.Forgets owner device day))
      forgotten_gone done = by h.did.answer refl h.did.in_outbox
        where
          by : (a : Result Unit (Refused ForgetFault)) → h.did.answer ≡ a → AsksOutbox outbox ledger old.outbox new.outbox owner device day a result → (m : StoresValue) × MayStandAs outbox ledger old m × (k ≡ stores_after m (history.Forgets owner device day))
          by (Ok u) ok asks =
              let l = (ledger_gone ok).leads (k.ledgers owner) own_may in
              let n = was_removed asks.0 (sym done ∙ asks.2) in
              let removes = subst (Removes (outbox old.outbox) (outbox new.outbox) (without_statements owner device day (outbox old.outbox).value) (stated_before day ((outbox old.outbox).value.stated owner device))) n.1 asks.1 in
              let x = (removed_leads (without_statements owner device day) (λ w. stated_before day (w.stated owner device)) (outbox old.outbox) (outbox new.outbox) n.0 removes fit_outbox sound_xn clean.outbox_is).leads k.outbox may.outbox_may in
              (before x.0 l.0, stood x.0 x.1 l.0 l.1, both x.0 l.0 x.2.1 l.2.1)
          by (Err e) ok asks = no_refusal e (sym done ∙ asks.1)

    -- AGREEMENT
    module _ (lists : ℕ → List RecordValue) (numbered : AreNumberedLists lists) (is : IsAgreed outbox ledger lists old) where
      safe : (k : StoresValue) (may : MayStandAs outbox ledger new k) → IsSafe old.scheme lists numbered (forgotten_left k may).0 k (history.Forgets owner device day)
      safe k may = let was = forgotten_left k may in stop_safe old.scheme lists numbered was.0 k (history.Forgets owner device day) (is.agreed was.0 was.1) (ap is_some h.one.at) was.2

      pub forgotten_agrees : IsAgreed outbox ledger lists new
      forgotten_agrees = record { agreed = λ k may. subst (λ sc. Agrees sc lists k) (sym h.one.scheme) (safe k may).agrees }

      pub forgotten_lasts : HasLasted outbox ledger old new
      forgotten_lasts = record { lasted = λ k may. let was = forgotten_left k may in (was.0, was.1, (safe k may).lasts) }
