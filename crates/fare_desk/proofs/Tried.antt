-- A close that was answered, of a hub's stores.
use Rattle.std.proofs.Common.{◌≡◌, ℕ, None, refl, sym, ap, ◌∙◌, subst, inl}
use Rattle.std.specs.Prelude.{Result, Ok, Err}
use Rattle.fare_owner.specs.declared.closing.CloseFault.{CloseFault}
use Rattle.fare_store.specs.declared.fault.Refused.{Refused}
use Rattle.fare_store.specs.declared.fault.Refused.TheVariants.{Because, Failed}
use Rattle.fare_store.specs.Standing.{Standing, IsSound, Does, fault_in}
use Rattle.fare_store.specs.Tables.{put}
use Rattle.fare_store.specs.OutboxWords.{OutboxValue}
use Rattle.fare_store.specs.LedgerWords.{LedgerValue, close_of, with_close}
use Rattle.fare_history.specs.Holding.{MayHold}
use Rattle.fare_history.specs.Stores.{StoresValue}
use Rattle.fare_store.proofs.Entries.{put_here}
use Rattle.fare_sessions.specs.declared.closing.ClosingFault.{ClosingFault}
use Rattle.fare_sessions.specs.declared.closing.ClosingFault.TheVariants as closing
use Rattle.fare_sessions.specs.declared.hub.Hub.{Hub}
use Rattle.fare_sessions.specs.Billing.{HasClosed, as_hub}
use Rattle.fare_sessions.specs.Stores.{AreClean, AreSound, MayStandAs}
use Rattle.fare_sessions.proofs.Billed.{holds_value, put_self}
use Rattle.fare_sessions.proofs.Steps.{put_back, stood_before, own_stands}
use Rattle.fare_desk.specs.Closing.{HasAnswered, after_close}

-- an answer that is no fault, as a ledger gives it
abbrev pub as_refused : Result Unit CloseFault → Result Unit (Refused CloseFault)
as_refused (Ok u) = Ok u
as_refused (Err why) = Err (Because why)

pub was_ok : (a : Result Unit (Refused CloseFault)) → Ok tt ≡ as_hub a → a ≡ as_refused (Ok tt)
was_ok (Ok u) e = refl
was_ok (Err (Because why)) e = absurd (cc)
was_ok (Err (Failed f)) e = absurd (cc)

pub was_refused : (a : Result Unit (Refused CloseFault)) (why : CloseFault) → Err (Because (closing.Ledger why)) ≡ as_hub a → a ≡ as_refused (Err why)
was_refused (Ok u) why e = absurd (cc)
was_refused (Err (Because other)) why e = let same : why ≡ other = cc in ap (λ (w : CloseFault). Err (Because w)) (sym same)
was_refused (Err (Failed f)) why e = absurd (cc)

no_fault : (answer : Result Unit CloseFault) → fault_in (as_refused answer) ≡ None
no_fault (Ok u) = refl
no_fault (Err why) = refl

module _ {O L : Type 0} (outbox : O → Standing OutboxValue) (ledger : L → Standing LedgerValue) (old new : Hub O L) (owner device day : ℕ) (result : Result Unit (Refused ClosingFault)) (h : HasClosed ledger old new owner device day result) (sound_new : IsSound (ledger h.one.own_new)) (answer : Result Unit CloseFault) (is : h.did.answer ≡ as_refused answer) where
  none : fault_in h.did.answer ≡ None
  none = ap (λ (a : Result Unit (Refused CloseFault)). fault_in a) is ∙ no_fault answer

  module _ (clean : AreClean outbox ledger new) (sound : AreSound outbox ledger old) (k : StoresValue) (may : MayStandAs outbox ledger new k) where
    abbrev v : LedgerValue
    v = (ledger h.one.own_old).value

    live : (ledger h.one.own_new).live
    live = h.did.writes.stays none (clean.ledgers_are h.one.place h.one.own_new h.one.is)

    does : (ledger h.one.own_new).lawful × Does v (ledger h.one.own_new).value (close_of v device day) (with_close device v) h.did.answer
    does = h.did.writes.value live (sound.lawful.ledgers_are h.one.place h.one.own_old h.one.was (h.did.writes.live live))

    now : k.ledgers owner ≡ (ledger h.one.own_new).value
    now = holds_value (ledger h.one.own_new) sound_new live does.0 (k.ledgers owner) (own_stands outbox ledger old new owner h.one k may)

    abbrev m : StoresValue
    m = record { outbox = k.outbox; ledgers = put k.ledgers owner v }

    stood : MayStandAs outbox ledger old m
    stood = stood_before outbox ledger old new owner h.one k may k.outbox (subst (λ z. MayHold (outbox z) k.outbox) h.outbox_same may.outbox_may) v (inl (h.did.writes.live live, refl))

    here : put k.ledgers owner v owner ≡ v
    here = put_here k.ledgers owner v

    came : (a : Result Unit CloseFault) → Does v (ledger h.one.own_new).value (close_of v device day) (with_close device v) (as_refused a) → (close_of (put k.ledgers owner v owner) device day ≡ a) × (k ≡ after_close owner device a m)
    came (Ok u) did =
        let done : k.ledgers owner ≡ with_close device (put k.ledgers owner v owner) = now ∙ (did.1 ∙ ap (with_close device) (sym here)) in
        (ap (λ z. close_of z device day) here ∙ did.0, λ i. record { outbox = k.outbox; ledgers = sym (put_back k.ledgers owner v (with_close device (put k.ledgers owner v owner)) done) i })
    came (Err why) did =
        let kept : put k.ledgers owner v ≡ k.ledgers = ap (put k.ledgers owner) (sym (now ∙ did.1)) ∙ put_self k.ledgers owner in
        (ap (λ z. close_of z device day) here ∙ did.0, λ i. record { outbox = k.outbox; ledgers = sym kept i })

    pub all : (h : StoresValue) × MayStandAs outbox ledger old h × (close_of (h.ledgers owner) device day ≡ answer) × (k ≡ after_close owner device answer h)
    all = let c = came answer (subst (λ (a : Result Unit (Refused CloseFault)). Does v (ledger h.one.own_new).value (close_of v device day) (with_close device v) a) is does.1) in (m, stood, c.0, c.1)

  pub answered : HasAnswered outbox ledger owner device day old new answer
  answered = record { came = λ clean sound k may. all clean sound k may }
