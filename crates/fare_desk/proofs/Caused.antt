-- Changes of a store that fail where the store failed.
use Rattle.std.proofs.Common.{◌≡◌, ℕ, None, Some, Bool, true, false, refl, sym, ap, ◌∙◌, subst}
use Rattle.std.specs.Prelude.{Option, Result, Ok, Err, is_some}
use Rattle.fare_owner.specs.declared.closing.CloseFault.{CloseFault}
use Rattle.fare_owner.specs.declared.retiring.RetireFault.{RetireFault}
use Rattle.fare_owner.specs.declared.retiring.RetireFault.TheVariants as retire
use Rattle.fare_scheme.specs.Words.{position_of_device}
use Rattle.fare_store.specs.declared.fault.Fault.{Fault}
use Rattle.fare_store.specs.declared.fault.Refused.{Refused}
use Rattle.fare_store.specs.declared.fault.Refused.TheVariants.{Because, Failed}
use Rattle.fare_store.specs.Standing.{Standing, Counted, fault_in}
use Rattle.fare_store.specs.OutboxWords.{OutboxValue}
use Rattle.fare_store.specs.LedgerWords.{LedgerValue}
use Rattle.fare_sessions.specs.declared.closing.ClosingFault.{ClosingFault}
use Rattle.fare_sessions.specs.declared.retiring.RetiringFault.{RetiringFault}
use Rattle.fare_sessions.specs.declared.retiring.RetiringFault.TheVariants as retiring
use Rattle.fare_sessions.specs.declared.hub.Hub.{Hub}
use Rattle.fare_sessions.specs.Billing.{HasAsked, HasClosed, OnlyReads, as_hub}
use Rattle.fare_sessions.specs.Retiring.{HasRetired, retire_as_hub}
use Rattle.fare_sessions.specs.Stores.{AreClean, AreSound}
use Rattle.fare_desk.specs.Causes.{IsAtWork, IsCaused, store_named}
use Rattle.fare_desk.specs.Faults.{of_retiring}
use Rattle.fare_desk.specs.declared.fault.DeskFault.{DeskFault}
use Rattle.fare_desk.proofs.Causes.{counted_owner, fault_named}

-- what a ledger's answer is to the hub is no other fault
close_fault : (a : Result Unit (Refused CloseFault)) → fault_in (as_hub a) ≡ fault_in a
close_fault (Ok u) = refl
close_fault (Err (Because why)) = refl
close_fault (Err (Failed f)) = refl

retire_fault : (a : Result Unit (Refused RetireFault)) → fault_in (retire_as_hub a) ≡ fault_in a
retire_fault (Ok u) = refl
retire_fault (Err (Because why)) = refl
retire_fault (Err (Failed f)) = refl

is_not_mine : (a : Result Unit (Refused RetireFault)) → Err (Because (retiring.Ledger retire.NotMine)) ≡ retire_as_hub a → a ≡ Err (Because retire.NotMine)
is_not_mine (Ok u) e = absurd (cc)
is_not_mine (Err (Because retire.NotMine)) e = refl
is_not_mine (Err (Because retire.Retired)) e = absurd (cc)
is_not_mine (Err (Failed f)) e = absurd (cc)

module _ {O L : Type 0} (outbox : O → Standing OutboxValue) (ledger : L → Standing LedgerValue) (old new : Hub O L) where
  -- a question
  pub asked_counted : (owner : ℕ) (f : Option Fault) → OnlyReads outbox ledger old new → HasAsked ledger old new owner f → IsCaused outbox ledger old new f
  asked_counted owner f r asked = counted_owner outbox ledger old new owner f asked.one r.outbox_same asked.cause

  -- a close
  pub close_counted : (owner device day : ℕ) (result : Result Unit (Refused ClosingFault)) (f : Option Fault) → HasClosed ledger old new owner device day result → fault_in result ≡ f → IsCaused outbox ledger old new f
  close_counted owner device day result f h is =
      subst (IsCaused outbox ledger old new) (sym (close_fault h.did.answer) ∙ (ap (λ (r : Result Unit (Refused ClosingFault)). fault_in r) (sym h.did.told) ∙ is))
      (counted_owner outbox ledger old new owner (fault_in h.did.answer) h.one h.outbox_same h.did.writes.cause)

  -- a retire
  module _ (owner device : ℕ) (result : Result Unit (Refused RetiringFault)) (h : HasRetired ledger old new owner device result) where
    own_counted : Counted (ledger h.one.own_old).failures (ledger h.one.own_new).failures (fault_in h.did.answer)
    own_counted = by ((ledger h.one.own_old).value.knows device) refl
      where
        by : (b : Bool) → (ledger h.one.own_old).value.knows device ≡ b → Counted (ledger h.one.own_old).failures (ledger h.one.own_new).failures (fault_in h.did.answer)
        by true e = (h.did.writes e).cause
        by false e =
            let other = h.did.not_mine.1 e in
            subst (λ (a : Result Unit (Refused RetireFault)). Counted (ledger h.one.own_old).failures (ledger h.one.own_new).failures (fault_in a)) (sym other) (ap (λ x. (ledger x).failures) (h.did.unasked other))

    pub retire_counted : (f : Option Fault) → fault_in result ≡ f → IsCaused outbox ledger old new f
    retire_counted f is =
        subst (IsCaused outbox ledger old new) (sym (retire_fault h.did.answer) ∙ (ap (λ (r : Result Unit (Refused RetiringFault)). fault_in r) (sym h.did.told) ∙ is))
        (counted_owner outbox ledger old new owner (fault_in h.did.answer) h.one h.outbox_same own_counted)

    -- a ledger that is at work knows the scheme's devices
    module _ (works : IsAtWork outbox ledger old owner) (clean : AreClean outbox ledger old) (sound : AreSound outbox ledger old) (known : is_some (position_of_device old.scheme device) ≡ true) where
      knows : (ledger h.one.own_old).value.knows device ≡ true
      knows = (sound.own owner h.one.own_old (h.one.place, h.one.at, h.one.was) (works clean h.one.own_old (h.one.place, h.one.at, h.one.was))).1.knows device ∙ known

      never_not_mine : result ≡ Err (Because (retiring.Ledger retire.NotMine)) → ⊥
      never_not_mine is = let both : true ≡ false = sym knows ∙ h.did.not_mine.0 (is_not_mine h.did.answer (sym is ∙ h.did.told)) in absurd (cc)

      pub retire_refused : (why : Refused RetiringFault) (q : DeskFault) → result ≡ Err why → q ≡ of_retiring why → IsCaused outbox ledger old new (store_named q)
      retire_refused (Because retiring.UnknownOwner) q is named = subst (λ p. IsCaused outbox ledger old new (store_named p)) (sym named) (retire_counted None (ap (λ (r : Result Unit (Refused RetiringFault)). fault_in r) is))
      retire_refused (Because (retiring.Ledger retire.NotMine)) q is named = absurd (never_not_mine is)
      retire_refused (Because (retiring.Ledger retire.Retired)) q is named = subst (λ p. IsCaused outbox ledger old new (store_named p)) (sym named) (retire_counted None (ap (λ (r : Result Unit (Refused RetiringFault)). fault_in r) is))
      retire_refused (Failed f) q is named = fault_named _ _ f q named (retire_counted (Some f) (ap (λ (r : Result Unit (Refused RetiringFault)). fault_in r) is))
