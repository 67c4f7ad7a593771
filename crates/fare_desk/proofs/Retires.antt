-- The end of a lane, asked of a hub.
use Rattle.std.proofs.Common.{◌≡◌, ℕ, List, None, Bool, true, false, refl, sym, ap, ◌∙◌, subst, inl, inr}
use Rattle.std.specs.Prelude.{Option, Result, Ok, Err, IfErr, IsErrAnd, OnOk, is_some}
use Rattle.std.specs.Io.KnownBytes.{Appends}
use Rattle.fare_event.specs.declared.reply.Reply.TheVariants as reply
use Rattle.fare_lines.specs.Replies.{reply_text}
use Rattle.fare_owner.specs.RetireJudged.{retire_judged}
use Rattle.fare_owner.specs.declared.retiring.RetireFault.{RetireFault}
use Rattle.fare_owner.specs.declared.retiring.RetireFault.TheVariants as retire
use Rattle.fare_scheme.specs.Values.{SchemeValue}
use Rattle.fare_scheme.specs.Words.{position_of_owner}
use Rattle.fare_store.specs.declared.fault.Fault.{Fault}
use Rattle.fare_store.specs.declared.fault.Fault.TheVariants as fault
use Rattle.fare_store.specs.declared.fault.Refused.{Refused}
use Rattle.fare_store.specs.declared.fault.Refused.TheVariants.{Because, Failed}
use Rattle.fare_store.specs.Standing.{Standing, IsSound, Writes}
use Rattle.fare_store.specs.Tables.{put}
use Rattle.fare_store.specs.OutboxWords.{OutboxValue}
use Rattle.fare_store.specs.LedgerWords.{LedgerValue, retire_of, with_retired}
use Rattle.fare_history.specs.Holding.{MayHold, Leads, IsFit}
use Rattle.fare_history.specs.Stores.{StoresValue, MayRetire, Retires_lane}
use Rattle.fare_history.proofs.Holds.{done_leads, refused_leads, write_leads}
use Rattle.fare_store.proofs.Entries.{put_here}
use Rattle.fare_agreement.specs.Stopping.{IsLeftBy}
use Rattle.fare_agreement.specs.Attempted.{IsRetiredFrom}
use Rattle.fare_sessions.specs.declared.hub.Hub.{Hub}
use Rattle.fare_sessions.specs.declared.retiring.RetiringFault.{RetiringFault}
use Rattle.fare_sessions.specs.declared.retiring.RetiringFault.TheVariants as retiring
use Rattle.fare_sessions.specs.Retiring.{HasRetired, retire_as_hub}
use Rattle.fare_sessions.specs.Stores.{ComesOf, AreClean, AreSound, StoresFollow, MayStandAs}
use Rattle.fare_sessions.proofs.Billed.{put_self}
use Rattle.fare_sessions.proofs.Follow.{clean_back}
use Rattle.fare_sessions.proofs.Steps.{put_back, stood_before, own_stands}
use Rattle.fare_desk.specs.Faults.{is_of_retire, is_refusal, of_retiring, of_store}
use Rattle.fare_desk.specs.Retiring.{LeavesLane, RetiresLane, RetiresOne}
use Rattle.fare_desk.specs.Showing.{OnlyAsks}
use Rattle.fare_desk.specs.declared.fault.DeskFault.{DeskFault}
use Rattle.fare_desk.specs.declared.fault.DeskFault.TheVariants as desk

-- ONE LEDGER
retired_is : (mine retired : Bool) → retire_judged mine retired ≡ Err retire.Retired → retired ≡ true
retired_is mine true e = refl
retired_is true false e = absurd (cc)
retired_is false false e = absurd (cc)

answered_ok : (a : Result Unit (Refused RetireFault)) → Ok tt ≡ retire_as_hub a → a ≡ Ok tt
answered_ok (Ok u) e = refl
answered_ok (Err (Because why)) e = absurd (cc)
answered_ok (Err (Failed f)) e = absurd (cc)

-- the stores with another ledger of an owner
abbrev pub with_ledger : ℕ → StoresValue → LedgerValue → StoresValue
with_ledger owner k l = record { outbox = k.outbox; ledgers = put k.ledgers owner l }

module _ (owner device : ℕ) (k : StoresValue) (l : LedgerValue) where
  here : put k.ledgers owner l owner ≡ l
  here = put_here k.ledgers owner l

  nothing_changed : k.ledgers owner ≡ l → k ≡ with_ledger owner k l
  nothing_changed e = let same = sym (put_self k.ledgers owner) ∙ ap (put k.ledgers owner) e in λ i. record { outbox = k.outbox; ledgers = same i }

  one_retired : (retire_of l device ≡ Ok tt) × (k.ledgers owner ≡ with_retired device l) → RetiresOne owner device (with_ledger owner k l) k
  one_retired is =
      let done : k.ledgers owner ≡ with_retired device (put k.ledgers owner l owner) = is.1 ∙ ap (with_retired device) (sym here) in
      (subst (λ x. MayRetire x device) (sym here) is.0, λ i. record { outbox = k.outbox; ledgers = sym (put_back k.ledgers owner l (with_retired device (put k.ledgers owner l owner)) done) i })

  was_retired : (retire_of l device ≡ Err retire.Retired) × (k.ledgers owner ≡ l) → LeavesLane owner device desk.Retired (with_ledger owner k l) k
  was_retired is = (subst (λ (x : LedgerValue). x.retired device ≡ true) (sym here) (retired_is (l.knows device) (l.retired device) is.0), nothing_changed is.1)

  may_be_retired : IsRetiredFrom device l (k.ledgers owner) → IsLeftBy (with_ledger owner k l) (Retires_lane owner device) k
  may_be_retired (inl e) = inl (nothing_changed e)
  may_be_retired (inr is) = inr (one_retired is)

-- A FAULT
store_is_other : (f : Fault) → is_refusal (of_store f) ≡ is_of_retire (of_store f)
store_is_other fault.Memory = refl
store_is_other fault.Store = refl

refused_is : (why : Refused RetiringFault) → is_refusal (of_retiring why) ≡ is_of_retire (of_retiring why)
refused_is (Because retiring.UnknownOwner) = refl
refused_is (Because (retiring.Ledger retire.NotMine)) = refl
refused_is (Because (retiring.Ledger retire.Retired)) = refl
refused_is (Failed f) = store_is_other f

pub refused_named : (q : DeskFault) (why : Refused RetiringFault) → q ≡ of_retiring why → is_refusal q ≡ is_of_retire q
refused_named q why is = subst (λ x. is_refusal x ≡ is_of_retire x) (sym is) (refused_is why)

pub store_of_retire : {A : Type 0} (r : Result A DeskFault) (f : Fault) → IsErrAnd r (λ q. q ≡ of_store f) → IfErr r (λ q. is_refusal q ≡ is_of_retire q)
store_of_retire (Ok a) f is = tt
store_of_retire (Err q) f is = subst (λ x. is_refusal x ≡ is_of_retire x) (sym is) (store_is_other f)

pub write_of_retire : {A : Type 0} (r : Result A DeskFault) → IfErr r (λ q. q ≡ desk.Write) → IfErr r (λ q. is_refusal q ≡ is_of_retire q)
write_of_retire (Ok a) is = tt
write_of_retire (Err q) is = subst (λ x. is_refusal x ≡ is_of_retire x) (sym is) refl

-- A HUB
pub left_as_is : (owner device : ℕ) (f : Fault) (k : StoresValue) → LeavesLane owner device (of_store f) k k
left_as_is owner device fault.Memory k = inl refl
left_as_is owner device fault.Store k = inl refl

module _ {O L : Type 0} (outbox : O → Standing OutboxValue) (ledger : L → Standing LedgerValue) where
  pub comes_self : (hub : Hub O L) (R : StoresValue → StoresValue → Type 0) → ((k : StoresValue) → R k k) → ComesOf outbox ledger hub hub R
  comes_self hub R is = record { came = λ clean sound k may. (k, may, is k) }

  pub comes_asked : (old new : Hub O L) (R : StoresValue → StoresValue → Type 0) → OnlyAsks outbox ledger old new → (AreClean outbox ledger new → AreSound outbox ledger old → (k : StoresValue) → MayStandAs outbox ledger old k → R k k) → ComesOf outbox ledger old new R
  comes_asked old new R asks is = record { came = λ clean sound k may. let was = asks.same clean sound k may in (k, was, is clean sound k was) }

  -- and this question had no answer
  pub asked_failed : (owner device : ℕ) (old new : Hub O L) → OnlyAsks outbox ledger old new → (f : Fault) (r : Result (Unit {0}) DeskFault) → IsErrAnd r (λ e. e ≡ of_store f) → IfErr r (λ e. ComesOf outbox ledger old new (LeavesLane owner device e))
  asked_failed owner device old new asks f (Ok u) is = tt
  asked_failed owner device old new asks f (Err e) is = subst (λ x. ComesOf outbox ledger old new (LeavesLane owner device x)) (sym is) (comes_asked old new (LeavesLane owner device (of_store f)) asks (λ clean sound k may. left_as_is owner device f k))

  pub still_there : (old new : Hub O L) (owner : ℕ) → OnlyAsks outbox ledger old new → is_some (position_of_owner old.scheme owner) ≡ true → position_of_owner new.scheme owner ≡ None → ⊥
  still_there old new owner asks known none =
      let both : false ≡ true = ap is_some (sym none) ∙ (ap (λ (sc : SchemeValue). is_some (position_of_owner sc owner)) asks.scheme ∙ known) in
      absurd (cc)

  module _ (old mid new : Hub O L) (owner device : ℕ) (result : Result Unit (Refused RetiringFault)) (asks : OnlyAsks outbox ledger old mid) (follow : StoresFollow outbox ledger mid new) (h : HasRetired ledger mid new owner device result) (sound_old : IsSound (ledger h.one.own_old)) (sound_new : IsSound (ledger h.one.own_new)) where
    abbrev v : LedgerValue
    v = (ledger h.one.own_old).value

    -- what one ledger leads to, of the stores
    step : (R : LedgerValue → LedgerValue → Type 0) (S : StoresValue → StoresValue → Type 0) → (AreClean outbox ledger new → AreSound outbox ledger mid → Leads R (ledger h.one.own_old) (ledger h.one.own_new)) → ((k : StoresValue) (l : LedgerValue) → R l (k.ledgers owner) → S (with_ledger owner k l) k)
        → ComesOf outbox ledger old new S
    step R S leads makes = record {
      came = λ clean sound k may.
          let l = (leads clean (asks.sound sound)).leads (k.ledgers owner) (own_stands outbox ledger mid new owner h.one k may) in
          let stood = stood_before outbox ledger mid new owner h.one k may k.outbox (subst (λ z. MayHold (outbox z) k.outbox) h.outbox_same may.outbox_may) l.0 l.1 in
          (with_ledger owner k l.0, asks.same (clean_back outbox ledger mid new follow clean) sound (with_ledger owner k l.0) stood, makes k l.0 l.2);
    }

    fit : AreSound outbox ledger mid → IsFit (ledger h.one.own_old)
    fit sound = record { sound = sound_old; lawful = sound.lawful.ledgers_are h.one.place h.one.own_old h.one.was }

    own_clean : AreClean outbox ledger new → (ledger h.one.own_new).clean
    own_clean clean = clean.ledgers_are h.one.place h.one.own_new h.one.is

    -- the ledger was asked, where it knows the device
    asked : (a : Result Unit (Refused RetireFault)) → h.did.answer ≡ a → (a ≡ Err (Because retire.NotMine) → ⊥) → Writes (ledger h.one.own_old) (ledger h.one.own_new) (retire_of v device) (with_retired device v) a
    asked a is other = subst (Writes (ledger h.one.own_old) (ledger h.one.own_new) (retire_of v device) (with_retired device v)) is (h.did.writes (known (v.knows device) refl))
      where
        known : (b : Bool) → v.knows device ≡ b → v.knows device ≡ true
        known true e = e
        known false e = absurd (other (sym is ∙ h.did.not_mine.1 e))

    pub comes_done : result ≡ Ok tt → ComesOf outbox ledger old new (RetiresOne owner device)
    comes_done ok =
        step (λ l m. (retire_of l device ≡ Ok tt) × (m ≡ with_retired device l)) (RetiresOne owner device)
        (λ clean sound. done_leads (λ l. retire_of l device) (with_retired device) (ledger h.one.own_old) (ledger h.one.own_new) (asked (Ok tt) (answered_ok h.did.answer (sym ok ∙ h.did.told)) (λ e. absurd (cc))) (fit sound) sound_new (own_clean clean))
        (λ k l is. one_retired owner device k l is)

    failed_leads : (f : Fault) → h.did.answer ≡ Err (Failed f) → AreClean outbox ledger new → AreSound outbox ledger mid → Leads (IsRetiredFrom device) (ledger h.one.own_old) (ledger h.one.own_new)
    failed_leads f is clean sound = write_leads (λ l. retire_of l device) (with_retired device) (ledger h.one.own_old) (ledger h.one.own_new) (Err (Failed f)) (asked (Err (Failed f)) is (λ e. absurd (cc))) (fit sound) (own_clean clean)

    not_mine_leads : h.did.answer ≡ Err (Because retire.NotMine) → Leads (λ l m. m ≡ l) (ledger h.one.own_old) (ledger h.one.own_new)
    not_mine_leads is = subst (λ x. Leads (λ l m. m ≡ l) (ledger h.one.own_old) (ledger x)) (sym (h.did.unasked is)) (record { leads = λ l may. (l, may, refl) })

    by_answer : (a : Result Unit (Refused RetireFault)) → h.did.answer ≡ a → (e : Refused RetiringFault) → Err e ≡ retire_as_hub a → ComesOf outbox ledger old new (LeavesLane owner device (of_retiring e))
    by_answer (Ok u) is e told = absurd (cc)
    by_answer (Err (Because retire.NotMine)) is e told =
        let named : e ≡ Because (retiring.Ledger retire.NotMine) = cc in
        subst (λ x. ComesOf outbox ledger old new (LeavesLane owner device (of_retiring x))) (sym named)
        (step (λ l m. m ≡ l) (LeavesLane owner device desk.Store) (λ clean sound. not_mine_leads is) (λ k l same. inl (nothing_changed owner device k l same)))
    by_answer (Err (Because retire.Retired)) is e told =
        let named : e ≡ Because (retiring.Ledger retire.Retired) = cc in
        subst (λ x. ComesOf outbox ledger old new (LeavesLane owner device (of_retiring x))) (sym named)
        (step (λ l m. (retire_of l device ≡ Err retire.Retired) × (m ≡ l)) (LeavesLane owner device desk.Retired)
        (λ clean sound. refused_leads (λ l. retire_of l device) (with_retired device) (ledger h.one.own_old) (ledger h.one.own_new) retire.Retired (asked (Err (Because retire.Retired)) is (λ e. absurd (cc))) (fit sound) sound_new (own_clean clean))
        (λ k l was. was_retired owner device k l was))
    by_answer (Err (Failed fault.Memory)) is e told =
        let named : e ≡ Failed fault.Memory = cc in
        subst (λ x. ComesOf outbox ledger old new (LeavesLane owner device (of_retiring x))) (sym named)
        (step (IsRetiredFrom device) (LeavesLane owner device desk.Memory) (failed_leads fault.Memory is) (λ k l may. may_be_retired owner device k l may))
    by_answer (Err (Failed fault.Store)) is e told =
        let named : e ≡ Failed fault.Store = cc in
        subst (λ x. ComesOf outbox ledger old new (LeavesLane owner device (of_retiring x))) (sym named)
        (step (IsRetiredFrom device) (LeavesLane owner device desk.Store) (failed_leads fault.Store is) (λ k l may. may_be_retired owner device k l may))

    pub comes_refused : (e : Refused RetiringFault) → result ≡ Err e → ComesOf outbox ledger old new (LeavesLane owner device (of_retiring e))
    comes_refused e is = by_answer h.did.answer refl e (sym is ∙ h.did.told)

  -- and then its line was written, or not
  pub lane_retired : (owner device : ℕ) (old new : Hub O L) (before after : Option (List ℕ)) (text : List ℕ) → text ≡ reply_text (reply.Retired device) → ComesOf outbox ledger old new (RetiresOne owner device)
      → (r : Result (Unit {0}) DeskFault) → OnOk r (Appends before after text) → OnOk r (RetiresLane outbox ledger owner device old new before after)
  lane_retired owner device old new before after text is comes (Err f) w = tt
  lane_retired owner device old new before after text is comes (Ok u) w = record { retired = comes; written = subst (Appends before after) is w }

  pub line_lost : (owner device : ℕ) (old new : Hub O L) → ComesOf outbox ledger old new (RetiresOne owner device) → (r : Result (Unit {0}) DeskFault) → IfErr r (λ f. f ≡ desk.Write) → IfErr r (λ f. ComesOf outbox ledger old new (LeavesLane owner device f))
  line_lost owner device old new comes (Ok u) is = tt
  line_lost owner device old new comes (Err f) is = subst (λ x. ComesOf outbox ledger old new (LeavesLane owner device x)) (sym is) comes
