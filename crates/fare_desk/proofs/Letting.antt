-- Letting go that fails where a store failed.
use Rattle.std.proofs.Common.{◌≡◌, ℕ, ◌+◌, ◌≤◌, None, Bool, true, false, refl, sym, ap, ◌∙◌, subst, inl, arith}
use Rattle.std.specs.Prelude.{◌||◌, ◌&&◌, not, if◌then◌else◌, nat_le, nat_lt, Option, Result, Ok, Err, is_some}
use Rattle.std.proofs.Math.Logic.{∥∥₁_elim}
use Rattle.std.proofs.lemmas.Bool.Decides.{nat_tests}
use Rattle.fare_scheme.specs.Values.{SchemeValue}
use Rattle.fare_scheme.specs.Words.{position_of_device}
use Rattle.fare_store.specs.declared.fault.Fault.{Fault}
use Rattle.fare_store.specs.declared.fault.ForgetFault.{ForgetFault}
use Rattle.fare_store.specs.declared.fault.ForgetFault.TheVariants.{UnknownDevice, NotClosed}
use Rattle.fare_store.specs.declared.fault.Refused.{Refused}
use Rattle.fare_store.specs.declared.fault.Refused.TheVariants.{Because, Failed}
use Rattle.fare_store.specs.Standing.{Standing, IsSound, Counted, Writes, fault_in, fault_of}
use Rattle.fare_store.specs.OutboxWords.{OutboxValue}
use Rattle.fare_store.specs.LedgerWords.{LedgerValue, forget_judged, forgotten}
use Rattle.fare_store.proofs.Entries.{put_here}
use Rattle.fare_history.specs.Stores.{StoresValue}
use Rattle.fare_sessions.specs.declared.forgetting.ForgettingFault.{ForgettingFault}
use Rattle.fare_sessions.specs.declared.hub.Hub.{Hub}
use Rattle.fare_sessions.specs.Forgetting.{AsksOutbox, HasForgotten, as_forgetting, as_removed}
use Rattle.fare_sessions.specs.Stores.{AreClean, AreSound, ComesOf, ReplacesLedger}
use Rattle.fare_sessions.proofs.Follow.{clean_back}
use Rattle.fare_sessions.proofs.Somethings.{hub_holds_ledger}
use Rattle.fare_desk.specs.Causes.{IsAtWork, IsCaused, failures_of}
use Rattle.fare_desk.specs.Closing.{GoesOnLettingGo}
use Rattle.fare_desk.specs.Forgetting.{MayGo, is_over, without}
use Rattle.fare_desk.specs.Showing.{OnlyAsks}
use Rattle.fare_desk.proofs.Causes.{counted_outbox, counted_owner, counted_then, own_is}

-- A LEDGER
-- what is over is before an earlier day
over_earlier : (v : LedgerValue) (device week day : ℕ) → week ≤ day → is_over v device day ≡ true → is_over v device week ≡ true
over_earlier v device week day le over = by (v.retired device) over
  where
    by : (r : Bool) → (r || nat_le day (v.start + v.closed device)) ≡ true → (r || nat_le week (v.start + v.closed device)) ≡ true
    by true e = refl
    by false e = grind (arith, e, le, nat_tests)

-- and can be let go
over_goes : (v : LedgerValue) (device day : ℕ) → v.knows device ≡ true → is_over v device day ≡ true → forget_judged v device day ≡ Ok tt
over_goes v device day knows over =
    ap (λ (b : Bool). if not b then Err UnknownDevice else (if not (v.retired device) && nat_lt (v.start + v.closed device) day then Err NotClosed else Ok tt)) knows
    ∙ ap (λ (b : Bool). if b then Err NotClosed else Ok tt) (by (v.retired device) over)
  where
    by : (r : Bool) → (r || nat_le day (v.start + v.closed device)) ≡ true → (not r && nat_lt (v.start + v.closed device) day) ≡ false
    by true e = refl
    by false e = grind (arith, e, nat_tests)

-- whether days are over is no matter of what went
over_without : (h : StoresValue) (owner device day later : ℕ) → is_over ((without day owner device h).ledgers owner) device later ≡ is_over (h.ledgers owner) device later
over_without h owner device day later = ap (λ (v : LedgerValue). is_over v device later) (put_here h.ledgers owner (forgotten device day (h.ledgers owner)))

-- WHAT THE HUB ANSWERS
refused_fault : (why : Refused ForgetFault) → fault_in (as_forgetting why) ≡ fault_in {A = Unit {0}} (Err why)
refused_fault (Because why) = refl
refused_fault (Failed f) = refl

removed_fault : (r : Result ℕ Fault) → fault_in (as_removed r) ≡ fault_of r
removed_fault (Ok n) = refl
removed_fault (Err f) = refl

removed_by_name : (r : Result ℕ Fault) (why : ForgettingFault) → as_removed r ≡ Err (Because why) → ⊥
removed_by_name (Ok n) why e = absurd (cc)
removed_by_name (Err f) why e = absurd (cc)

refused_never_ok : (why : Refused ForgetFault) → as_forgetting why ≡ Ok tt → ⊥
refused_never_ok (Because why) e = absurd (cc)
refused_never_ok (Failed f) e = absurd (cc)

-- A HUB
module _ {O L : Type 0} (outbox : O → Standing OutboxValue) (ledger : L → Standing LedgerValue) (owner device : ℕ) where
  pub may_earlier : (hub : Hub O L) (week day : ℕ) → week ≤ day → MayGo outbox ledger day owner device hub → MayGo outbox ledger week owner device hub
  may_earlier hub week day le m = record { known = m.known; works = m.works; over = λ clean h may. over_earlier (h.ledgers owner) device week day le (m.over clean h may) }

  pub may_asked : (old now : Hub O L) (day : ℕ) → OnlyAsks outbox ledger old now → IsAtWork outbox ledger now owner → AreSound outbox ledger old → MayGo outbox ledger day owner device old → MayGo outbox ledger day owner device now
  may_asked old now day asks works sound m = record {
    known = ap (λ (sc : SchemeValue). is_some (position_of_device sc device)) asks.scheme ∙ m.known;
    works = works;
    over = λ clean h may. m.over (clean_back outbox ledger old now asks.follow clean) h (asks.same clean sound h may);
  }

  pub still_may : (old new : Hub O L) (day later : ℕ) → GoesOnLettingGo outbox ledger old new → ComesOf outbox ledger old new (λ h k. k ≡ without day owner device h) → IsAtWork outbox ledger new owner → AreSound outbox ledger old
      → MayGo outbox ledger later owner device old → MayGo outbox ledger later owner device new
  still_may old new day later goes gone works sound m = record {
    known = ap (λ (sc : SchemeValue). is_some (position_of_device sc device)) goes.scheme ∙ m.known;
    works = works;
    over = λ clean k may.
        let was = gone.came clean sound k may in
        ap (λ (z : StoresValue). is_over (z.ledgers owner) device later) was.2 ∙ (over_without was.0 owner device day later ∙ m.over (clean_back outbox ledger old new goes.follow clean) was.0 was.1);
  }

  -- ONCE
  module _ (old new : Hub O L) (day : ℕ) (result : Result Unit (Refused ForgettingFault)) (h : HasForgotten outbox ledger old new owner device day result) where
    own_counted : Counted (ledger h.one.own_old).failures (ledger h.one.own_new).failures (fault_in h.did.answer)
    own_counted = by ((ledger h.one.own_old).value.knows device) refl
      where
        by : (b : Bool) → (ledger h.one.own_old).value.knows device ≡ b → Counted (ledger h.one.own_old).failures (ledger h.one.own_new).failures (fault_in h.did.answer)
        by true e = (h.did.in_ledger.writes e).cause
        by false e =
            let other = h.did.in_ledger.unknown.1 e in
            subst (λ (a : Result Unit (Refused ForgetFault)). Counted (ledger h.one.own_old).failures (ledger h.one.own_new).failures (fault_in a)) (sym other) (ap (λ x. (ledger x).failures) (h.did.in_ledger.unasked other))

    -- the ledger's part alone
    abbrev mid : Hub O L
    mid = record { scheme = old.scheme; outbox = old.outbox; ledgers = new.ledgers }

    abbrev ledger_first : ReplacesLedger old mid owner
    ledger_first = record { scheme = refl; place = h.one.place; at = h.one.at; own_old = h.one.own_old; own_new = h.one.own_new; was = h.one.was; is = h.one.is; count = h.one.count; others = h.one.others }

    pub forget_counted : (f : Option Fault) → fault_in result ≡ f → IsCaused outbox ledger old new f
    forget_counted f is = by h.did.answer refl h.did.in_outbox
      where
        by : (a : Result Unit (Refused ForgetFault)) → h.did.answer ≡ a → AsksOutbox outbox ledger old.outbox new.outbox owner device day a result → IsCaused outbox ledger old new f
        by (Ok u) at asks =
            let own : (ledger h.one.own_new).failures ≡ (ledger h.one.own_old).failures = subst (λ (a : Result Unit (Refused ForgetFault)). Counted (ledger h.one.own_old).failures (ledger h.one.own_new).failures (fault_in a)) at own_counted in
            let named : fault_of asks.0 ≡ f = sym (removed_fault asks.0) ∙ (ap (λ (r : Result Unit (Refused ForgettingFault)). fault_in r) (sym asks.2) ∙ is) in
            counted_then (failures_of outbox ledger old) (failures_of outbox ledger mid) (failures_of outbox ledger new) f (counted_owner outbox ledger old mid owner None ledger_first refl own)
            (counted_outbox outbox ledger mid new f refl (subst (Counted (outbox old.outbox).failures (outbox new.outbox).failures) named asks.1.cause))
        by (Err why) at asks =
            let named : fault_in h.did.answer ≡ f = ap (λ (a : Result Unit (Refused ForgetFault)). fault_in a) at ∙ (sym (refused_fault why) ∙ (ap (λ (r : Result Unit (Refused ForgettingFault)). fault_in r) (sym asks.1) ∙ is)) in
            counted_owner outbox ledger old new owner f h.one asks.0 (subst (Counted (ledger h.one.own_old).failures (ledger h.one.own_new).failures) named own_counted)

    -- the ledger was asked, where it knows the device
    asked : (a : Result Unit (Refused ForgetFault)) → h.did.answer ≡ a → (ledger h.one.own_old).value.knows device ≡ true
        → Writes (ledger h.one.own_old) (ledger h.one.own_new) (forget_judged (ledger h.one.own_old).value device day) (forgotten device day (ledger h.one.own_old).value) a
    asked a at knows = subst (Writes (ledger h.one.own_old) (ledger h.one.own_new) (forget_judged (ledger h.one.own_old).value device day) (forgotten device day (ledger h.one.own_old).value)) at (h.did.in_ledger.writes knows)

    pub forgot_works : result ≡ Ok tt → IsAtWork outbox ledger new owner
    forgot_works ok = by h.did.answer refl h.did.in_outbox
      where
        known : (u : Unit) → h.did.answer ≡ Ok u → (b : Bool) → (ledger h.one.own_old).value.knows device ≡ b → (ledger h.one.own_old).value.knows device ≡ true
        known u at true e = e
        known u at false e = let both : ◌≡◌ {A = Result Unit (Refused ForgetFault)} (Ok u) (Err (Because UnknownDevice)) = sym at ∙ h.did.in_ledger.unknown.1 e in absurd (cc)

        by : (a : Result Unit (Refused ForgetFault)) → h.did.answer ≡ a → AsksOutbox outbox ledger old.outbox new.outbox owner device day a result → IsAtWork outbox ledger new owner
        by (Ok u) at asks = λ clean x of. subst (λ y. (ledger y).live) (own_is old new owner h.one x of) ((asked (Ok u) at (known u at ((ledger h.one.own_old).value.knows device) refl)).stays refl (clean.ledgers_are h.one.place h.one.own_new h.one.is))
        by (Err why) at asks = absurd (refused_never_ok why (sym asks.1 ∙ ok))

    -- days that may go are refused by no name
    module _ (outboxes_sound : (x : O) → IsSound (outbox x)) (ledgers_sound : (x : L) → IsSound (ledger x)) (m : MayGo outbox ledger day owner device old) (clean_old : AreClean outbox ledger old) (clean_new : AreClean outbox ledger new) (sound : AreSound outbox ledger old) where
      live : (ledger h.one.own_old).live
      live = m.works clean_old h.one.own_old (h.one.place, h.one.at, h.one.was)

      knows : (ledger h.one.own_old).value.knows device ≡ true
      knows = (sound.own owner h.one.own_old (h.one.place, h.one.at, h.one.was) live).1.knows device ∙ m.known

      not_open : h.did.answer ≡ Err (Because NotClosed) → ⊥
      not_open at =
          let writes = asked (Err (Because NotClosed)) at knows in
          let live_new = writes.stays refl (clean_new.ledgers_are h.one.place h.one.own_new h.one.is) in
          let judged = (writes.value live_new (sound.lawful.ledgers_are h.one.place h.one.own_old h.one.was live)).1.0 in
          ∥∥₁_elim (hub_holds_ledger outbox ledger outboxes_sound ledgers_sound old clean_old owner h.one.own_old (h.one.place, h.one.at, h.one.was) (ledger h.one.own_old).value (inl (live, refl))) (λ a b. absurd a)
          (λ s.
          let over = subst (λ (l : LedgerValue). is_over l device day ≡ true) s.2 (m.over clean_old s.0 s.1) in
          let both : ◌≡◌ {A = Result Unit ForgetFault} (Ok tt) (Err NotClosed) = sym (over_goes (ledger h.one.own_old).value device day knows over) ∙ judged in
          absurd (cc))

      pub never_refused : (why : ForgettingFault) → result ≡ Err (Because why) → ⊥
      never_refused why is = by h.did.answer refl h.did.in_outbox
        where
          by : (a : Result Unit (Refused ForgetFault)) → h.did.answer ≡ a → AsksOutbox outbox ledger old.outbox new.outbox owner device day a result → ⊥
          by (Ok u) at asks = removed_by_name asks.0 why (sym asks.2 ∙ is)
          by (Err (Because UnknownDevice)) at asks = let both : true ≡ false = sym knows ∙ h.did.in_ledger.unknown.0 at in absurd (cc)
          by (Err (Because NotClosed)) at asks = not_open at
          by (Err (Failed f)) at asks = let both : ◌≡◌ {A = Result Unit (Refused ForgettingFault)} (Err (Failed f)) (Err (Because why)) = sym asks.1 ∙ is in absurd (cc)
