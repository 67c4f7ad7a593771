-- A retire keeps agreement.
use Rattle.std.proofs.Common.{◌≡◌, ℕ, List, Bool, true, false, refl, sym, ap, ◌∙◌, subst, inl, inr}
use Rattle.std.specs.Prelude.{Result, Ok, Err, is_some}
use Rattle.fare_owner.specs.declared.retiring.RetireFault.{RetireFault}
use Rattle.fare_record.specs.Values.{RecordValue}
use Rattle.fare_store.specs.declared.fault.Refused.{Refused}
use Rattle.fare_store.specs.declared.fault.Refused.TheVariants as refused
use Rattle.fare_sessions.specs.declared.retiring.RetiringFault.{RetiringFault}
use Rattle.fare_store.specs.Standing.{Standing, IsSound, Does}
use Rattle.fare_store.specs.Tables.{put}
use Rattle.fare_store.specs.OutboxWords.{OutboxValue}
use Rattle.fare_store.specs.LedgerWords.{LedgerValue, retire_of, with_retired}
use Rattle.fare_history.specs.Holding.{MayHold, Leads}
use Rattle.fare_history.specs.Stores as history
use Rattle.fare_history.specs.Stores.{StoresValue, MayRetire, stores_after}
use Rattle.fare_store.proofs.Entries.{put_here}
use Rattle.fare_history.proofs.Holds.{write_leads}
use Rattle.fare_session.specs.Stores.{Follows}
use Rattle.fare_agreement.specs.Agreeing.{AreNumberedLists, Agrees}
use Rattle.fare_agreement.specs.Stopping.{IsLeftBy}
use Rattle.fare_agreement.specs.Attempted.{IsRetiredFrom}
use Rattle.fare_agreement.proofs.Sessions.{IsSafe, stop_safe}
use Rattle.fare_sessions.specs.declared.hub.Hub.{Hub}
use Rattle.fare_sessions.specs.Retiring.{HasRetired}
use Rattle.fare_sessions.specs.Stores.{AreClean, AreSound, StoresFollow, MayStandAs, IsAgreed, HasGrown}
use Rattle.fare_sessions.proofs.Follow.{replaced_follow, replaced_sound, IsOwn}
use Rattle.fare_sessions.proofs.Steps.{put_back, stood_before, own_stands}
use Rattle.fare_sessions.proofs.Billed.{put_self}

module _ {O L : Type 0} (outbox : O → Standing OutboxValue) (ledger : L → Standing LedgerValue) (old new : Hub O L) (owner device : ℕ) (result : Result Unit (Refused RetiringFault)) (h : HasRetired ledger old new owner device result) where
  abbrev v : LedgerValue
  v = (ledger h.one.own_old).value

  -- the ledger was asked, or, where it doesn't know the device, it is as it was
  asked : (Does_it : Type 0) → (v.knows device ≡ true → Does_it) → ((h.one.own_new ≡ h.one.own_old) → Does_it) → Does_it
  asked Does_it mine other = by (v.knows device) refl
    where
      by : (b : Bool) → v.knows device ≡ b → Does_it
      by true is = mine is
      by false is = other (h.did.unasked (h.did.not_mine.1 is))

  own_follows : Follows (ledger h.one.own_old) (ledger h.one.own_new)
  own_follows = asked (Follows (ledger h.one.own_old) (ledger h.one.own_new))
      (λ mine. let w = h.did.writes mine in record { clean = w.clean; live = w.live; lawful = λ live lawful. (w.value live lawful).0; lasts = w.lasts })
      (λ same. subst (λ x. Follows (ledger h.one.own_old) (ledger x)) (sym same) (record { clean = λ c. c; live = λ l. l; lawful = λ l is. is; lasts = λ clean lawful lasting. lasting }))

  pub retired_follow : StoresFollow outbox ledger old new
  retired_follow = replaced_follow outbox ledger old new owner h.one (subst (λ x. Follows (outbox old.outbox) (outbox x)) (sym h.outbox_same) same) own_follows
    where
      same : Follows (outbox old.outbox) (outbox old.outbox)
      same = record { clean = λ c. c; live = λ l. l; lawful = λ l is. is; lasts = λ clean lawful lasting. lasting }

  still_own : (other : ℕ) → IsOwn old.scheme other v → IsOwn old.scheme other (with_retired device v)
  still_own other was = (was.0, record { start = was.1.start; knows = was.1.knows })

  done_own : (other : ℕ) → IsOwn old.scheme other v → (answer : Result Unit (Refused RetireFault)) → Does v (ledger h.one.own_new).value (retire_of v device) (with_retired device v) answer → IsOwn old.scheme other (ledger h.one.own_new).value
  done_own other was (Ok u) does = subst (IsOwn old.scheme other) (sym does.1) (still_own other was)
  done_own other was (Err (refused.Because why)) does = subst (IsOwn old.scheme other) (sym does.1) was
  done_own other was (Err (refused.Failed f)) does = subst (IsOwn old.scheme other) (sym does) was

  pub retired_sound : AreSound outbox ledger old → AreSound outbox ledger new
  retired_sound sound = replaced_sound outbox ledger old new owner h.one retired_follow sound (λ other live was. asked (IsOwn old.scheme other (ledger h.one.own_new).value)
      (λ mine. let w = h.did.writes mine in done_own other was h.did.answer (w.value live (sound.lawful.ledgers_are h.one.place h.one.own_old h.one.was (w.live live))).1)
      (λ same. subst (λ x. IsOwn old.scheme other (ledger x).value) (sym same) was))

  module _ (sound_ledger : IsSound (ledger h.one.own_old)) (clean : AreClean outbox ledger new) (sound : AreSound outbox ledger old) (lists : ℕ → List RecordValue) (numbered : AreNumberedLists lists) (is : IsAgreed outbox ledger lists old) where
    leads : Leads (IsRetiredFrom device) (ledger h.one.own_old) (ledger h.one.own_new)
    leads = asked (Leads (IsRetiredFrom device) (ledger h.one.own_old) (ledger h.one.own_new))
        (λ mine. write_leads (λ l. retire_of l device) (with_retired device) (ledger h.one.own_old) (ledger h.one.own_new) h.did.answer (h.did.writes mine) (record { sound = sound_ledger; lawful = sound.lawful.ledgers_are h.one.place h.one.own_old h.one.was }) (clean.ledgers_are h.one.place h.one.own_new h.one.is))
        (λ same. subst (λ x. Leads (IsRetiredFrom device) (ledger h.one.own_old) (ledger x)) (sym same) (record { leads = λ l may. (l, may, inl refl) }))

    -- the stores before, and what the retire made of them
    step : (k : StoresValue) → MayStandAs outbox ledger new k → (m : StoresValue) × MayStandAs outbox ledger old m × IsSafe old.scheme lists numbered m k (history.Retires_lane owner device)
    step k may = (m, stood, stop_safe old.scheme lists numbered m k (history.Retires_lane owner device) (is.agreed m stood) (ap is_some h.one.at) (left l.2))
      where
        l : (l : LedgerValue) × MayHold (ledger h.one.own_old) l × IsRetiredFrom device l (k.ledgers owner)
        l = leads.leads (k.ledgers owner) (own_stands outbox ledger old new owner h.one k may)

        m : StoresValue
        m = record { outbox = k.outbox; ledgers = put k.ledgers owner l.0 }

        stood : MayStandAs outbox ledger old m
        stood = stood_before outbox ledger old new owner h.one k may k.outbox (subst (λ z. MayHold (outbox z) k.outbox) h.outbox_same may.outbox_may) l.0 l.1

        here : put k.ledgers owner l.0 owner ≡ l.0
        here = put_here k.ledgers owner l.0

        left : IsRetiredFrom device l.0 (k.ledgers owner) → IsLeftBy m (history.Retires_lane owner device) k
        left (inl e) = let same = sym (put_self k.ledgers owner) ∙ ap (put k.ledgers owner) e in inl (λ i. record { outbox = k.outbox; ledgers = same i })
        left (inr e) =
            let done : k.ledgers owner ≡ with_retired device (put k.ledgers owner l.0 owner) = e.1 ∙ ap (with_retired device) (sym here) in
            inr (subst (λ l. MayRetire l device) (sym here) e.0, λ i. record { outbox = k.outbox; ledgers = sym (put_back k.ledgers owner l.0 (with_retired device (put k.ledgers owner l.0 owner)) done) i })

    pub retired_agrees : IsAgreed outbox ledger lists new
    retired_agrees = record { agreed = λ k may. subst (λ sc. Agrees sc lists k) (sym h.one.scheme) (step k may).2.agrees }

    pub retired_grows : HasGrown outbox ledger old new
    retired_grows = record {
      grown = λ k may.
          let was = step k may in
          (was.0, was.1, was.2.grew refl);
    }
