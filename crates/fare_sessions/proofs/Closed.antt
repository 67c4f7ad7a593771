-- A close keeps agreement.
use Rattle.std.proofs.Common.{◌≡◌, ℕ, List, refl, sym, ap, ◌∙◌, subst, inl, inr}
use Rattle.std.specs.Prelude.{Result, Ok, Err, is_some}
use Rattle.fare_owner.specs.declared.closing.CloseFault.{CloseFault}
use Rattle.fare_record.specs.Limits.{IsDay}
use Rattle.fare_record.specs.Values.{RecordValue}
use Rattle.fare_store.specs.declared.fault.Refused.{Refused}
use Rattle.fare_store.specs.declared.fault.Refused.TheVariants as refused
use Rattle.fare_sessions.specs.declared.closing.ClosingFault.{ClosingFault}
use Rattle.fare_store.specs.Standing.{Standing, IsSound, Does}
use Rattle.fare_store.specs.Tables.{put}
use Rattle.fare_store.specs.OutboxWords.{OutboxValue}
use Rattle.fare_store.specs.LedgerWords.{LedgerValue, close_of, with_close}
use Rattle.fare_history.specs.Holding.{MayHold, Leads}
use Rattle.fare_history.specs.Stores as history
use Rattle.fare_history.specs.Stores.{StoresValue, MayClose, stores_after}
use Rattle.fare_store.proofs.Entries.{put_here}
use Rattle.fare_history.proofs.Holds.{write_leads}
use Rattle.fare_session.specs.Stores.{Follows}
use Rattle.fare_agreement.specs.Agreeing.{AreNumberedLists, Agrees}
use Rattle.fare_agreement.specs.Stopping.{IsLeftBy}
use Rattle.fare_agreement.specs.Attempted.{IsClosedFrom}
use Rattle.fare_agreement.proofs.Sessions.{IsSafe, stop_safe}
use Rattle.fare_sessions.specs.declared.hub.Hub.{Hub}
use Rattle.fare_sessions.specs.Billing.{HasClosed}
use Rattle.fare_sessions.specs.Stores.{AreClean, AreSound, StoresFollow, MayStandAs, IsAgreed, HasGrown}
use Rattle.fare_sessions.proofs.Follow.{replaced_follow, replaced_sound, IsOwn}
use Rattle.fare_sessions.proofs.Steps.{put_back, stood_before, own_stands}
use Rattle.fare_sessions.proofs.Billed.{put_self}

module _ {O L : Type 0} (outbox : O → Standing OutboxValue) (ledger : L → Standing LedgerValue) (old new : Hub O L) (owner device day : ℕ) (result : Result Unit (Refused ClosingFault)) (h : HasClosed ledger old new owner device day result) where
  pub closed_follow : StoresFollow outbox ledger old new
  closed_follow = replaced_follow outbox ledger old new owner h.one (subst (λ x. Follows (outbox old.outbox) (outbox x)) (sym h.outbox_same) same) (record { clean = h.did.writes.clean; live = h.did.writes.live; lawful = λ live lawful. (h.did.writes.value live lawful).0; lasts = h.did.writes.lasts })
    where
      same : Follows (outbox old.outbox) (outbox old.outbox)
      same = record { clean = λ c. c; live = λ l. l; lawful = λ l is. is; lasts = λ clean lawful lasting. lasting }

  pub closed_sound : AreSound outbox ledger old → AreSound outbox ledger new
  closed_sound sound = replaced_sound outbox ledger old new owner h.one closed_follow sound (λ other live was. by other was h.did.answer (h.did.writes.value live (sound.lawful.ledgers_are h.one.place h.one.own_old h.one.was (h.did.writes.live live))).1)
    where
      v : LedgerValue
      v = (ledger h.one.own_old).value

      still : (other : ℕ) → IsOwn old.scheme other v → IsOwn old.scheme other (with_close device v)
      still other was = (was.0, record { start = was.1.start; knows = was.1.knows })

      by : (other : ℕ) → IsOwn old.scheme other v → (answer : Result Unit (Refused CloseFault)) → Does v (ledger h.one.own_new).value (close_of v device day) (with_close device v) answer → IsOwn old.scheme other (ledger h.one.own_new).value
      by other was (Ok u) does = subst (IsOwn old.scheme other) (sym does.1) (still other was)
      by other was (Err (refused.Because why)) does = subst (IsOwn old.scheme other) (sym does.1) was
      by other was (Err (refused.Failed f)) does = subst (IsOwn old.scheme other) (sym does) was

  module _ (dated : IsDay day) (sound_ledger : IsSound (ledger h.one.own_old)) (clean : AreClean outbox ledger new) (sound : AreSound outbox ledger old) (lists : ℕ → List RecordValue) (numbered : AreNumberedLists lists) (is : IsAgreed outbox ledger lists old) where
    leads : Leads (IsClosedFrom device day) (ledger h.one.own_old) (ledger h.one.own_new)
    leads = write_leads (λ l. close_of l device day) (with_close device) (ledger h.one.own_old) (ledger h.one.own_new) h.did.answer h.did.writes (record { sound = sound_ledger; lawful = sound.lawful.ledgers_are h.one.place h.one.own_old h.one.was }) (clean.ledgers_are h.one.place h.one.own_new h.one.is)

    -- the stores before, and what the close made of them
    step : (k : StoresValue) → MayStandAs outbox ledger new k → (m : StoresValue) × MayStandAs outbox ledger old m × IsSafe old.scheme lists numbered m k (history.Closes_day owner device day)
    step k may = (m, stood, stop_safe old.scheme lists numbered m k (history.Closes_day owner device day) (is.agreed m stood) (ap is_some h.one.at, dated) (left l.2))
      where
        l : (l : LedgerValue) × MayHold (ledger h.one.own_old) l × IsClosedFrom device day l (k.ledgers owner)
        l = leads.leads (k.ledgers owner) (own_stands outbox ledger old new owner h.one k may)

        m : StoresValue
        m = record { outbox = k.outbox; ledgers = put k.ledgers owner l.0 }

        stood : MayStandAs outbox ledger old m
        stood = stood_before outbox ledger old new owner h.one k may k.outbox (subst (λ z. MayHold (outbox z) k.outbox) h.outbox_same may.outbox_may) l.0 l.1

        here : put k.ledgers owner l.0 owner ≡ l.0
        here = put_here k.ledgers owner l.0

        left : IsClosedFrom device day l.0 (k.ledgers owner) → IsLeftBy m (history.Closes_day owner device day) k
        left (inl e) = let same = sym (put_self k.ledgers owner) ∙ ap (put k.ledgers owner) e in inl (λ i. record { outbox = k.outbox; ledgers = same i })
        left (inr e) =
            let done : k.ledgers owner ≡ with_close device (put k.ledgers owner l.0 owner) = e.1 ∙ ap (with_close device) (sym here) in
            inr (subst (λ l. MayClose l device day) (sym here) e.0, λ i. record { outbox = k.outbox; ledgers = sym (put_back k.ledgers owner l.0 (with_close device (put k.ledgers owner l.0 owner)) done) i })

    pub closed_agrees : IsAgreed outbox ledger lists new
    closed_agrees = record { agreed = λ k may. subst (λ sc. Agrees sc lists k) (sym h.one.scheme) (step k may).2.agrees }

    pub closed_grows : HasGrown outbox ledger old new
    closed_grows = record {
      grown = λ k may.
          let was = step k may in
          (was.0, was.1, was.2.grew refl);
    }
