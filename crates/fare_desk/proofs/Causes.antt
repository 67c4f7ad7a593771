-- What fails is a store that failed.
use Rattle.std.proofs.Common.{◌≡◌, ◌≢◌, ◌≤◌, ◌<◌, ◌+◌, ◌⊎◌, ℕ, zero, suc, List, [], ◌∷◌, Some, None, length, inl, inr, refl, sym, ap, ◌∙◌, subst, arith}
use Rattle.std.specs.Prelude.{Option, Result, Ok, Err, IfErr, IfOk, IsErrAnd, slice_get}
use Rattle.std.specs.List.{sum_by}
use Rattle.std.proofs.lemmas.Bool.{cases_lt}
use Rattle.std.proofs.lemmas.List.Sums.{sum_by-cons}
use Rattle.fare_store.specs.declared.fault.Fault.{Fault}
use Rattle.fare_store.specs.declared.fault.Fault.TheVariants as fault
use Rattle.fare_store.specs.declared.fault.Refused.{Refused}
use Rattle.fare_store.specs.declared.fault.Refused.TheVariants.{Because, Failed}
use Rattle.fare_scheme.specs.Values.{SchemeValue}
use Rattle.fare_scheme.specs.Words.{position_of_owner}
use Rattle.fare_store.specs.Standing.{Standing, Counted, fault_of, fault_in}
use Rattle.fare_store.specs.OutboxWords.{OutboxValue}
use Rattle.fare_store.specs.LedgerWords.{LedgerValue}
use Rattle.fare_side.specs.declared.bill_fault.BillFault.TheVariants as bill
use Rattle.fare_sessions.specs.declared.billing.BillingFault.{BillingFault}
use Rattle.fare_sessions.specs.declared.billing.BillingFault.TheVariants as billing
use Rattle.fare_sessions.specs.declared.hub.Hub.{Hub}
use Rattle.fare_sessions.specs.Billing.{HasAsked, IsRefusedAtOnce}
use Rattle.fare_sessions.specs.Stores.{IsLedgerOf, ReplacesLedger}
use Rattle.fare_desk.specs.Causes.{IsAtWork, failures_of, store_fault, store_named}
use Rattle.fare_desk.specs.Faults.{of_bill, of_store}
use Rattle.fare_desk.specs.declared.fault.DeskFault.{DeskFault}
use Rattle.fare_desk.specs.declared.fault.DeskFault.TheVariants as desk

-- A COUNT THAT IS PART OF ANOTHER
counted_in : (rest old new a b : ℕ) (f : Option Fault) → a ≡ old + rest → b ≡ new + rest → Counted old new f → Counted a b f
counted_in rest old new a b None before after is = omega (arith, before, after, is)
counted_in rest old new a b (Some fault.Memory) before after is = omega (arith, before, after, is)
counted_in rest old new a b (Some fault.Store) before after (inl more) = inl (omega (arith, before, after, more))
counted_in rest old new a b (Some fault.Store) before after (inr full) = inr (omega (arith, before, full))

counted_part : (x y old new rest a b : ℕ) (f : Option Fault) → x ≤ old → new + x ≡ old + y → a ≡ rest + old → b ≡ rest + new → Counted x y f → Counted a b f
counted_part x y old new rest a b None within moved before after is = omega (arith, within, moved, before, after, is)
counted_part x y old new rest a b (Some fault.Memory) within moved before after is = omega (arith, within, moved, before, after, is)
counted_part x y old new rest a b (Some fault.Store) within moved before after (inl more) = inl (omega (arith, moved, before, after, more))
counted_part x y old new rest a b (Some fault.Store) within moved before after (inr full) = inr (omega (arith, within, before, full))

-- a call behind others that failed nowhere
pub counted_then : (a b c : ℕ) (f : Option Fault) → b ≡ a → Counted b c f → Counted a c f
counted_then a b c f same is = subst (λ n. Counted n c f) same is

pub counted_ok : {A : Type 0} (a b : ℕ) (r : Result A Fault) (v : A) → r ≡ Ok v → Counted a b (fault_of r) → b ≡ a
counted_ok a b r v was is = subst (λ q. Counted a b (fault_of q)) was is

pub counted_passed : {A B : Type 0} (a b : ℕ) (r : Result A Fault) (s : Result B Fault) (f : Fault) → r ≡ Err f → IsErrAnd s (λ q. q ≡ f) → Counted a b (fault_of r) → Counted a b (fault_of s)
counted_passed a b r (Ok v) f was said is = absurd said
counted_passed a b r (Err q) f was said is = subst (λ p. Counted a b (Some p)) (sym said) (subst (λ p. Counted a b (fault_of p)) was is)

-- A FAULT THAT IS HANDED ON
pub fault_named : (a b : ℕ) (f : Fault) (q : DeskFault) → q ≡ of_store f → Counted a b (Some f) → Counted a b (store_named q)
fault_named a b fault.Memory q named is = subst (λ p. Counted a b (store_named p)) (sym named) is
fault_named a b fault.Store q named is = subst (λ p. Counted a b (store_named p)) (sym named) is

pub counted_fault : {A B : Type 0} (a b : ℕ) (r : Result A Fault) (s : Result B DeskFault) (f : Fault) → r ≡ Err f → IsErrAnd s (λ q. q ≡ of_store f) → Counted a b (fault_of r) → Counted a b (store_fault s)
counted_fault a b r (Ok v) f was said is = absurd said
counted_fault a b r (Err q) f was said is = fault_named a b f q said (subst (λ p. Counted a b (fault_of p)) was is)

pub counted_handed : {A B : Type 0} (a b : ℕ) (r : Result A DeskFault) (s : Result B DeskFault) (f : DeskFault) → r ≡ Err f → IsErrAnd s (λ q. q ≡ f) → Counted a b (store_fault r) → Counted a b (store_fault s)
counted_handed a b r (Ok v) f was said is = absurd said
counted_handed a b r (Err q) f was said is = subst (λ p. Counted a b (store_named p)) (sym said) (subst (λ p. Counted a b (store_fault p)) was is)

pub counted_done : {A : Type 0} (a b : ℕ) (r : Result A DeskFault) (v : A) → r ≡ Ok v → Counted a b (store_fault r) → b ≡ a
counted_done a b r v was is = subst (λ q. Counted a b (store_fault q)) was is

pub counted_memory : {A : Type 0} (a b : ℕ) (s : Result A DeskFault) → IsErrAnd s (λ q. q ≡ desk.Memory) → b ≡ a → Counted a b (store_fault s)
counted_memory a b (Ok v) said is = absurd said
counted_memory a b (Err q) said is = subst (λ p. Counted a b (store_named p)) (sym said) is

pub counted_lost : {A : Type 0} (a b : ℕ) (s : Result A DeskFault) (f : DeskFault) → IsErrAnd s (λ q. q ≡ f) → f ≡ desk.Write → b ≡ a → Counted a b (store_fault s)
counted_lost a b (Ok v) f said write is = absurd said
counted_lost a b (Err q) f said write is = subst (λ p. Counted a b (store_named p)) (sym (said ∙ write)) is

-- the writer failed, or there was no memory for what is written
pub counted_write : {A : Type 0} (a b : ℕ) (s : Result A DeskFault) → IfErr s (λ q. q ≡ desk.Write) → b ≡ a → Counted a b (store_fault s)
counted_write a b (Ok v) failed is = is
counted_write a b (Err q) failed is = subst (λ p. Counted a b (store_named p)) (sym failed) is

pub counted_reply : {A : Type 0} (a b : ℕ) (s : Result A DeskFault) → IfErr s (λ q. (q ≡ desk.Memory) ⊎ (q ≡ desk.Write)) → b ≡ a → Counted a b (store_fault s)
counted_reply a b (Ok v) failed is = is
counted_reply a b (Err q) (inl memory) is = subst (λ p. Counted a b (store_named p)) (sym memory) is
counted_reply a b (Err q) (inr write) is = subst (λ p. Counted a b (store_named p)) (sym write) is

-- why there is no bill
abbrev why_of : BillingFault → Option Fault
why_of why = store_named (of_bill (Because why))

bill_named : (why : BillingFault) → why_of why ≡ None
bill_named (billing.Unbilled bill.UnknownOwner) = refl
bill_named (billing.Unbilled bill.BeforeStart) = refl
bill_named (billing.Unbilled (bill.NotClosed device)) = refl
bill_named (billing.Forgotten device) = refl

refused_named : (a b : ℕ) (why : Refused BillingFault) (q : DeskFault) → q ≡ of_bill why → Counted a b (fault_in {A = Unit {0}} (Err why)) → Counted a b (store_named q)
refused_named a b (Because why) q named is = subst (Counted a b) (sym (ap store_named named ∙ bill_named why)) is
refused_named a b (Failed f) q named is = fault_named a b f q named is

pub counted_bill : {A B : Type 0} (a b : ℕ) (r : Result A (Refused BillingFault)) (s : Result B DeskFault) (why : Refused BillingFault) → r ≡ Err why → IsErrAnd s (λ q. q ≡ of_bill why) → Counted a b (fault_in r) → Counted a b (store_fault s)
counted_bill a b r (Ok v) why was said is = absurd said
counted_bill a b r (Err q) (Because why) was said is = refused_named a b (Because why) q said (subst (λ p. Counted a b (fault_in p)) was is)
counted_bill a b r (Err q) (Failed f) was said is = refused_named a b (Failed f) q said (subst (λ p. Counted a b (fault_in p)) was is)

pub billed_ok : {A : Type 0} (a b : ℕ) (r : Result A (Refused BillingFault)) (v : A) → r ≡ Ok v → Counted a b (fault_in r) → b ≡ a
billed_ok a b r v was is = subst (λ q. Counted a b (fault_in q)) was is

-- a bill that was refused by this name
pub named_at_once : {A B : Type 0} (r : Result A (Refused BillingFault)) (s : Result B DeskFault) (why : Refused BillingFault) (name : BillingFault) → r ≡ Err why → IsErrAnd s (λ q. q ≡ of_bill why) → r ≡ Err (Because name) → s ≡ Err (of_bill (Because name))
named_at_once r (Ok v) why name was said named = absurd said
named_at_once {A} r (Err q) why name was said named =
    let both : ◌≡◌ {A = Result A (Refused BillingFault)} (Err why) (Err (Because name)) = sym was ∙ named in
    let same : why ≡ Because name = cc in
    ap Err (said ∙ ap of_bill same)

pub not_at_once : {A : Type 0} (r : Result A (Refused BillingFault)) (v : A) (name : BillingFault) → r ≡ Ok v → r ≡ Err (Because name) → ⊥
not_at_once {A} r v name was named = let both : ◌≡◌ {A = Result A (Refused BillingFault)} (Ok v) (Err (Because name)) = sym was ∙ named in absurd (cc)

-- ONE OF SEVERAL COUNTS
module _ {L : Type 0} (each : L → ℕ) where
  same_sum : (xs ys : List L) → length ys ≡ length xs → ((place : ℕ) → slice_get ys place ≡ slice_get xs place) → sum_by each ys ≡ sum_by each xs
  same_sum [] [] len same = refl
  same_sum [] (b ∷ ys) len same = absurd (omega (arith, len))
  same_sum (a ∷ xs) [] len same = absurd (omega (arith, len))
  same_sum (a ∷ xs) (b ∷ ys) len same =
      let both : ◌≡◌ {A = Option L} (Some b) (Some a) = same 0 in
      let head : b ≡ a = cc in
      let first = ap each head in
      let rest = same_sum xs ys (omega (arith, len)) (λ place. same (suc place)) in
      let old = sum_by-cons each a xs in
      let new = sum_by-cons each b ys in
      omega (arith, first, rest, old, new)

  one_sum : (xs ys : List L) (place : ℕ) (x y : L) → slice_get xs place ≡ Some x → slice_get ys place ≡ Some y → length ys ≡ length xs → ((other : ℕ) → other ≢ place → slice_get ys other ≡ slice_get xs other)
      → (each x ≤ sum_by each xs) × (sum_by each ys + each x ≡ sum_by each xs + each y)
  one_sum [] ys place x y at_x at_y len others = absurd (cc)
  one_sum (a ∷ xs) [] place x y at_x at_y len others = absurd (omega (arith, len))
  one_sum (a ∷ xs) (b ∷ ys) zero x y at_x at_y len others =
      let was : a ≡ x = cc in
      let is : b ≡ y = cc in
      let rest = same_sum xs ys (omega (arith, len)) (λ place. others (suc place) (λ e. absurd (omega (arith, e)))) in
      let head_old = ap each was in
      let head_new = ap each is in
      let old = sum_by-cons each a xs in
      let new = sum_by-cons each b ys in
      (omega (arith, head_old, old), omega (arith, rest, head_old, head_new, old, new))
  one_sum (a ∷ xs) (b ∷ ys) (suc place) x y at_x at_y len others =
      let both : ◌≡◌ {A = Option L} (Some b) (Some a) = others 0 (λ e. absurd (omega (arith, e))) in
      let same : b ≡ a = cc in
      let head = ap each same in
      let rest = one_sum xs ys place x y at_x at_y (omega (arith, len)) (λ other apart. others (suc other) (λ e. apart (omega (arith, e)))) in
      let old = sum_by-cons each a xs in
      let new = sum_by-cons each b ys in
      let within = rest.0 in
      let moved = rest.1 in
      (omega (arith, within, old), omega (arith, head, moved, old, new))

-- A STORE OF A HUB
-- an owner has one ledger
pub own_is : {O L : Type 0} (old new : Hub O L) (owner : ℕ) (one : ReplacesLedger old new owner) (x : L) → IsLedgerOf new owner x → one.own_new ≡ x
own_is {O} {L} old new owner one x of =
    let at : position_of_owner new.scheme owner ≡ Some one.place = ap (λ (sc : SchemeValue). position_of_owner sc owner) one.scheme ∙ one.at in
    let there : ◌≡◌ {A = Option ℕ} (Some one.place) (Some of.0) = sym at ∙ of.1 in
    let place : one.place ≡ of.0 = cc in
    let both : ◌≡◌ {A = Option L} (Some one.own_new) (Some x) = sym one.is ∙ (ap (slice_get new.ledgers.items) place ∙ of.2) in
    cc

module _ {O L : Type 0} (outbox : O → Standing OutboxValue) (ledger : L → Standing LedgerValue) where
  -- the outbox was asked
  pub counted_outbox : (old new : Hub O L) (f : Option Fault) → new.ledgers ≡ old.ledgers → Counted (outbox old.outbox).failures (outbox new.outbox).failures f → Counted (failures_of outbox ledger old) (failures_of outbox ledger new) f
  counted_outbox old new f same is =
      let each : L → ℕ = λ x. (ledger x).failures in
      counted_in (sum_by each old.ledgers.items) (outbox old.outbox).failures (outbox new.outbox).failures (failures_of outbox ledger old) (failures_of outbox ledger new) f refl
      (ap (λ v. (outbox new.outbox).failures + sum_by each v.items) same) is

  -- an owner's ledger was asked
  pub counted_owner : (old new : Hub O L) (owner : ℕ) (f : Option Fault) (one : ReplacesLedger old new owner) → new.outbox ≡ old.outbox → Counted (ledger one.own_old).failures (ledger one.own_new).failures f → Counted (failures_of outbox ledger old) (failures_of outbox ledger new) f
  counted_owner old new owner f one same is =
      let each : L → ℕ = λ x. (ledger x).failures in
      let sums = one_sum each old.ledgers.items new.ledgers.items one.place one.own_old one.own_new one.was one.is one.count one.others in
      counted_part (each one.own_old) (each one.own_new) (sum_by each old.ledgers.items) (sum_by each new.ledgers.items) (outbox old.outbox).failures (failures_of outbox ledger old) (failures_of outbox ledger new) f sums.0 sums.1 refl
      (ap (λ o. (outbox o).failures + sum_by each new.ledgers.items) same) is

  -- and answered
  pub at_work : {A : Type 0} (old new : Hub O L) (owner : ℕ) (one : ReplacesLedger old new owner) (r : Result A Fault)
      → (fault_of r ≡ None → (ledger one.own_new).clean → (ledger one.own_new).live) → IfOk r (λ _. IsAtWork outbox ledger new owner)
  at_work old new owner one (Err f) stays = tt
  at_work old new owner one (Ok a) stays = λ clean x of. subst (λ y. (ledger y).live) (own_is old new owner one x of) (stays refl (clean.ledgers_are one.place one.own_new one.is))

  -- a bill was refused before a store was asked
  at_once : {A : Type 0} (old new : Hub O L) (why : BillingFault) (r : Result A (Refused BillingFault)) → IsRefusedAtOnce old new why r → Counted (failures_of outbox ledger old) (failures_of outbox ledger new) (fault_in r)
  at_once old new why r refused = subst (λ q. Counted (failures_of outbox ledger old) (failures_of outbox ledger new) (fault_in q)) (sym refused.1) (ap (failures_of outbox ledger) refused.0)

  -- or the owner's ledger was asked for it
  pub counted_basis : {A : Type 0} (old new : Hub O L) (owner day : ℕ) (r : Result A (Refused BillingFault)) → new.outbox ≡ old.outbox
      → (position_of_owner old.scheme owner ≡ None → IsRefusedAtOnce old new (billing.Unbilled bill.UnknownOwner) r)
      → (position_of_owner old.scheme owner ≢ None → day < old.scheme.start → IsRefusedAtOnce old new (billing.Unbilled bill.BeforeStart) r)
      → (position_of_owner old.scheme owner ≢ None → old.scheme.start ≤ day → HasAsked ledger old new owner (fault_in r))
      → Counted (failures_of outbox ledger old) (failures_of outbox ledger new) (fault_in r)
  counted_basis old new owner day r same unknown early asked = by (position_of_owner old.scheme owner) refl (cases_lt day old.scheme.start)
    where
      by : (at : Option ℕ) → position_of_owner old.scheme owner ≡ at → (day < old.scheme.start) ⊎ (old.scheme.start ≤ day) → Counted (failures_of outbox ledger old) (failures_of outbox ledger new) (fault_in r)
      by None at days = at_once old new (billing.Unbilled bill.UnknownOwner) r (unknown at)
      by (Some place) at (inl before) = at_once old new (billing.Unbilled bill.BeforeStart) r (early (λ none. absurd (let both : ◌≡◌ {A = Option ℕ} None (Some place) = sym none ∙ at in cc)) before)
      by (Some place) at (inr from) = let did = asked (λ none. absurd (let both : ◌≡◌ {A = Option ℕ} None (Some place) = sym none ∙ at in cc)) from in counted_owner old new owner (fault_in r) did.one same did.cause
