-- The next day to close, of one ledger and of a hub.
use Rattle.std.proofs.Common.{◌≡◌, ℕ, zero, suc, ◌+◌, ◌<◌, ◌≤◌, None, Bool, true, false, refl, sym, ap, ◌∙◌, subst, arith}
use Rattle.std.specs.Prelude.{nat_le, Option, Result, Ok, Err, MatchResult, IfOk, if◌then◌else◌}
use Rattle.std.proofs.lemmas.Bool.Decides.{nat_tests}
use Rattle.fare_store.specs.declared.fault.Fault.{Fault}
use Rattle.fare_store.specs.declared.fault.Refused.{Refused}
use Rattle.fare_store.specs.declared.fault.Refused.TheVariants.{Failed}
use Rattle.fare_store.specs.Standing.{Standing, Calls, Reads, IsSound, fault_in}
use Rattle.fare_store.specs.OutboxWords.{OutboxValue}
use Rattle.fare_store.specs.LedgerWords.{LedgerValue, closed_through}
use Rattle.fare_side.specs.declared.bill_fault.BillFault.{BillFault}
use Rattle.fare_side.specs.Answering.{Answered}
use Rattle.fare_history.specs.Stores.{StoresValue}
use Rattle.fare_sessions.specs.declared.hub.Hub.{Hub}
use Rattle.fare_sessions.specs.Billing.{IsToClose, OnlyReads, day_behind, first_unclosed, of_a_day}
use Rattle.fare_sessions.specs.Stores.{ReplacesLedger, AreClean, AreSound, MayStandAs}
use Rattle.fare_sessions.proofs.Billed.{reads_one, told}

-- ONE LEDGER
pub behind_last : (v : LedgerValue) (device : ℕ) → day_behind (closed_through v device) v.start ≡ first_unclosed v device
behind_last v device = by (v.closed device) refl
  where
    by : (n : ℕ) → v.closed device ≡ n → day_behind (closed_through v device) v.start ≡ v.start + v.closed device
    by zero e = λ i. none i
      where
        none : day_behind (closed_through v device) v.start ≡ v.start + v.closed device
        none = grind (arith, e)
    by (suc n) e = some
      where
        some : day_behind (closed_through v device) v.start ≡ v.start + v.closed device
        some = grind (arith, e)

pub there_is : (stated : ℕ → Option ℕ) (day : ℕ) → day ≤ 100000 → of_a_day stated day ≡ stated day
there_is stated day le = let yes : nat_le day 100000 ≡ true = grind (arith, nat_tests) in ap (λ (b : Bool). if b then stated day else None) yes

pub there_is_none : (stated : ℕ → Option ℕ) (day : ℕ) → 100000 < day → of_a_day stated day ≡ None
there_is_none stated day lt = let no : nat_le day 100000 ≡ false = grind (arith, nat_tests) in ap (λ (b : Bool). if b then stated day else None) no

-- A HUB
-- the answer of a read, as one of a bill would be
abbrev pub as_asked : {A : Type 0} → Result A Fault → Result A (Refused BillFault)
as_asked (Ok a) = Ok a
as_asked (Err f) = Err (Failed f)

abbrev pub Tells : {A : Type 0} → (LedgerValue → A → Type 0) → LedgerValue → Result A BillFault → Type 0
Tells P v r = MatchResult r (P v) (λ why. ⊥)

pub asked_call : {A : Type 0} (a b : Standing LedgerValue) (day : ℕ) (P : LedgerValue → A → Type 0) (result : Result A Fault) → Reads a b (P a.value) result
    → Calls a b (fault_in (as_asked result)) ((b.value ≡ a.value) × (a.value.start ≤ day → Answered (Tells P a.value) (as_asked result))) (λ v. ⊥)
asked_call a b day P (Ok x) c = record { value = λ live lawful. let is = c.value live lawful in (is.0, (is.1.0, λ le. is.1.1)); stop = c.stop; lasts = c.lasts; clean = c.clean; live = c.live; stays = c.stays; cause = c.cause }
asked_call a b day P (Err f) c = record { value = λ live lawful. let is = c.value live lawful in (is.0, (is.1.0, λ le. tt)); stop = c.stop; lasts = c.lasts; clean = c.clean; live = c.live; stays = c.stays; cause = c.cause }

module _ {O L A : Type 0} (outbox : O → Standing OutboxValue) (ledger : L → Standing LedgerValue) (old new : Hub O L) (owner : ℕ) (r : ReplacesLedger old new owner) (same_outbox : new.outbox ≡ old.outbox) (sound_ledger : IsSound (ledger r.own_old)) (P : LedgerValue → A → Type 0) (result : Result A Fault)
    (call : Reads (ledger r.own_old) (ledger r.own_new) (P (ledger r.own_old).value) result) where
  pub read_reads : OnlyReads outbox ledger old new
  read_reads = reads_one outbox ledger old new owner old.scheme.start r same_outbox sound_ledger (omega arith) (Tells P) (as_asked result) (asked_call (ledger r.own_old) (ledger r.own_new) old.scheme.start P result call)

  pub read_tells : AreClean outbox ledger new → AreSound outbox ledger old → IfOk result (λ a. (h : StoresValue) → MayStandAs outbox ledger old h → ((h.ledgers owner).start ≡ old.scheme.start) × P (h.ledgers owner) a)
  read_tells clean sound = by result refl
    where
      by : (q : Result A Fault) → result ≡ q → IfOk q (λ a. (h : StoresValue) → MayStandAs outbox ledger old h → ((h.ledgers owner).start ≡ old.scheme.start) × P (h.ledgers owner) a)
      by (Err f) e = tt
      by (Ok a) e = λ h may.
          let here = told outbox ledger old new owner old.scheme.start r same_outbox sound_ledger (omega arith) (Tells P) (as_asked result) (asked_call (ledger r.own_old) (ledger r.own_new) old.scheme.start P result call) (ap (λ (z : Result A Fault). fault_in (as_asked z)) e) clean sound h may in
          (here.0, subst (λ (z : Result A Fault). Answered (Tells P (h.ledgers owner)) (as_asked z)) e here.1)

-- whether a ledger says so of the scheme's first day, or of its own
pub tells_to_close : {O L : Type 0} (outbox : O → Standing OutboxValue) (ledger : L → Standing LedgerValue) (old : Hub O L) (owner device start : ℕ) → start ≡ old.scheme.start → (result : Result (Option ℕ) Fault)
    → IfOk result (λ day. (h : StoresValue) → MayStandAs outbox ledger old h → ((h.ledgers owner).start ≡ old.scheme.start) × ((h.ledgers owner).start ≡ start → IsToClose (h.ledgers owner) device day))
    → IfOk result (λ day. (h : StoresValue) → MayStandAs outbox ledger old h → ((h.ledgers owner).start ≡ old.scheme.start) × IsToClose (h.ledgers owner) device day)
tells_to_close outbox ledger old owner device start same (Err f) tells = tt
tells_to_close outbox ledger old owner device start same (Ok day) tells = λ h may. let is = tells h may in (is.0, is.1 (is.0 ∙ sym same))
