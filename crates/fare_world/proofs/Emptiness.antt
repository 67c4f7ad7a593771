-- Stores that are asked whether they are empty, one by one.
use Rattle.std.proofs.Common.{◌≡◌, ◌≢◌, ℕ, ◌+◌, ◌<◌, ◌≤◌, Bool, true, false, List, length, set, arith, Some, None, refl, sym, ap, ◌∙◌, subst, inl, inr}
use Rattle.std.specs.Prelude.{◌==◌, ◌⊎◌, ◌↔◌, Option, Result, Ok, Err, IsErrAnd, IsTrue, slice_get}
use Rattle.std.proofs.lemmas.Bool.Decides.{Decides-eqb, nat_tests}
use Rattle.std.proofs.lemmas.Option.{slice_get_within, same_Some}
use Rattle.fare_scheme.specs.Values.{SchemeValue}
use Rattle.fare_scheme.specs.Words.{id_at}
use Rattle.fare_store.specs.declared.fault.Fault.{Fault}
use Rattle.fare_store.specs.Standing.{Standing, Calls, Reads, fault_of}
use Rattle.fare_store.specs.OutboxWords.{OutboxValue}
use Rattle.fare_store.specs.LedgerWords.{LedgerValue, IsEmptyLedger}
use Rattle.fare_world.specs.Restarts.{Paired, Rose}
use Rattle.fare_world.specs.Making.{IsKept, EachLedger, AreLedgersKept, LedgerFailed, AreKept}
use Rattle.fare_world.proofs.Stores.{called}
use Rattle.fare_world.proofs.Pairs.{PairedTo}
use Rattle.fare_world.proofs.TableLemmas.{slice_get-set_same, slice_get-set_other}
use Rattle.fare_side.proofs.Positions.{set_cases}

-- a store that was not reached
pub kept_itself : {V : Type 0} (s : Standing V) (f : Option Fault) → IsKept s s f
kept_itself s f = record { same = λ live lawful. (lawful, refl); stop = λ clean lawful v leaves. leaves; lasts = λ clean lawful lasting. lasting; live = λ h. h; clean = λ h. h; stays = λ e live clean. live; counts = λ not. refl }

-- one that was asked
pub kept_asked : {V : Type 0} (old new : Standing V) (f : Option Fault) (P : Type 0) → Calls old new f ((new.value ≡ old.value) × P) (λ v. ⊥) → IsKept old new f
kept_asked {V} old new f P c = record {
  same = λ live lawful. let is = c.value live lawful in (is.0, is.1.0);
  stop = λ clean lawful v leaves. left (c.stop clean lawful v leaves);
  lasts = c.lasts;
  live = c.live;
  clean = c.clean;
  stays = λ e live. c.stays e;
  counts = (called old new f ((new.value ≡ old.value) × P) (λ v. ⊥) c).counts;
}
  where
    left : {v : V} → old.may_leave v ⊎ (old.live × ⊥) → old.may_leave v
    left (inl h) = h
    left (inr h) = absurd h.1

-- one that met no fault, told beside another that did
pub kept_beside : {V : Type 0} (old new : Standing V) (f : Option Fault) → IsKept old new None → IsKept old new f
kept_beside old new f k = record { same = k.same; stop = k.stop; lasts = k.lasts; live = k.live; clean = k.clean; stays = λ e. k.stays refl; counts = λ not. k.counts (λ e. absurd (cc)) }

-- the fault that `?` passed on
pub fault_is : {A : Type 0} (r : Result A Fault) (f : Fault) → IsErrAnd r (λ q. q ≡ f) → fault_of r ≡ Some f
fault_is (Ok x) f is = absurd is
fault_is (Err q) f is = ap Some is

module _ {L : Type 0} (led : L → Standing LedgerValue) where
  -- a ledger that said that it is empty
  pub record IsFoundEmpty (x y : L) : Type 0 where
    pub kept : IsKept (led x) (led y) None
    pub empty : (led y).live → (led x).lawful → IsEmptyLedger (led x).value

  pub found_empty : (x y : L) (b : Bool) → Reads (led x) (led y) (λ empty. IsTrue empty ↔ IsEmptyLedger (led x).value) (Ok b) → IsTrue b → IsFoundEmpty x y
  found_empty x y b c e = record { kept = kept_asked (led x) (led y) None (IsTrue b ↔ IsEmptyLedger (led x).value) c; empty = λ live lawful. let is = c.value live lawful in is.1.1.0 e }

  pub found_other : (x y : L) (b : Bool) → Reads (led x) (led y) (λ empty. IsTrue empty ↔ IsEmptyLedger (led x).value) (Ok b) → b ≡ false → (led y).live → (led x).lawful → IsEmptyLedger (led x).value → ⊥
  found_other x y b c e live lawful empty = let is = c.value live lawful in let so : b ≡ true = is.1.1.1 empty in absurd (cc)

  -- the ledgers up to a place were found empty, then the next one answered, and those behind it were not reached
  pub asked_up_to : (old new : List L) (place : ℕ) (x y : L) (f : Option Fault) → PairedTo IsFoundEmpty old new place → slice_get new place ≡ Some x → IsKept (led x) (led y) f → AreLedgersKept led old (set new place y) f
  asked_up_to old new place x y f so at is = record {
    forth = λ k z e. elim (three k) [
      | inl here ↦ (y, ap (slice_get (set new place y)) here ∙ slice_get-set_same new place y within, subst (λ q. IsKept (led q) (led y) f) (same_Some x z (sym was ∙ ap (slice_get old) (sym here) ∙ e)) is)
      | inr (inl before) ↦ let found = so.forth k z before e in (found.0, slice_get-set_other new place k y (apart k before) ∙ found.1, kept_beside (led z) (led found.0) f found.2.kept)
      | inr (inr after) ↦ (z, slice_get-set_other new place k y (beyond k after) ∙ so.rest k (omega (arith, after)) ∙ e, kept_itself (led z) f)
    ];
    back = λ k z e. elim (set_cases new place y k z e) [
      | inl here ↦ (x, ap (slice_get old) here.0 ∙ was, subst (λ q. IsKept (led x) (led q) f) here.1 is)
      | inr other ↦ elim (before_or k) [
        | inl before ↦ let found = so.back k z before other.1 in (found.0, found.1, kept_beside (led found.0) (led z) f found.2.kept)
        | inr le ↦ (z, sym (so.rest k le) ∙ other.1, kept_itself (led z) f)
      ]
    ];
  }
    where
      within : place < length new
      within = slice_get_within new place x at

      was : slice_get old place ≡ Some x
      was = sym (so.rest place (omega arith)) ∙ at

      before_or : (k : ℕ) → (k < place) ⊎ (place ≤ k)
      before_or k = grind (arith, nat_tests)

      three : (k : ℕ) → (k ≡ place) ⊎ ((k < place) ⊎ (place + 1 ≤ k))
      three k = grind (arith, nat_tests)

      apart : (k : ℕ) → k < place → k ≢ place
      apart k lt same = absurd (omega (arith, lt, same))

      beyond : (k : ℕ) → place + 1 ≤ k → k ≢ place
      beyond k le same = absurd (omega (arith, le, same))

  -- the one that failed
  pub failed_at : (old new : List L) (place : ℕ) (x y : L) → PairedTo IsFoundEmpty old new place → slice_get new place ≡ Some x → Rose (led x).failures (led y).failures → LedgerFailed led old (set new place y)
  failed_at old new place x y so at up = record { place = place; before = x; now = y; was = sym (so.rest place (omega arith)) ∙ at; is = slice_get-set_same new place y (slice_get_within new place x at); rose = up }

  -- one that is not empty
  pub not_all : (old new : List L) (place : ℕ) (x y : L) → PairedTo IsFoundEmpty old new place → slice_get new place ≡ Some x → ((led y).live → (led x).lawful → IsEmptyLedger (led x).value → ⊥)
      → EachLedger led (λ s. s.live) (set new place y) → EachLedger led (λ s. s.lawful) old → EachLedger led (λ s. IsEmptyLedger s.value) old → ⊥
  not_all old new place x y so at is live lawful empty =
      let was : slice_get old place ≡ Some x = sym (so.rest place (omega arith)) ∙ at in
      is (live place y (slice_get-set_same new place y (slice_get_within new place x at))) (lawful place x was) (empty place x was)

  -- all were found empty
  pub all_found : (old new : List L) (place : ℕ) → PairedTo IsFoundEmpty old new place → length old ≤ place → Paired IsFoundEmpty old new
  all_found old new place so le = record {
    forth = λ k x e. so.forth k x (let lt = slice_get_within old k x e in omega (arith, lt, le)) e;
    back = λ k y e. so.back k y (let lt = slice_get_within new k y e in omega (arith, lt, le, so.count)) e;
  }

  pub kept_found : (old new : List L) → Paired IsFoundEmpty old new → AreLedgersKept led old new None
  kept_found old new p = record {
    forth = λ k x e. let y = p.forth k x e in (y.0, y.1, y.2.kept);
    back = λ k y e. let x = p.back k y e in (x.0, x.1, x.2.kept);
  }

  pub empty_found : (old new : List L) → Paired IsFoundEmpty old new → EachLedger led (λ s. s.live) new → EachLedger led (λ s. s.lawful) old → EachLedger led (λ s. IsEmptyLedger s.value) old
  empty_found old new p live lawful k x e = let y = p.forth k x e in y.2.empty (live k y.0 y.1) (lawful k x e)

  pub kept_unasked : (xs : List L) (f : Option Fault) → AreLedgersKept led xs xs f
  kept_unasked xs f = record { forth = λ k x e. (x, e, kept_itself (led x) f); back = λ k x e. (x, e, kept_itself (led x) f) }

  -- one ledger more is its owner's
  pub one_owned : (sc : SchemeValue) (xs : List L) (k : ℕ) (y : L) → ((j : ℕ) (x : L) → j < k → slice_get xs j ≡ Some x → id_at sc.owners j ≡ Some (led x).value.owner) → slice_get xs k ≡ Some y → id_at sc.owners k ≡ Some (led y).value.owner
      → (j : ℕ) (x : L) → j < k + 1 → slice_get xs j ≡ Some x → id_at sc.owners j ≡ Some (led x).value.owner
  one_owned sc xs k y so here is j x lt e = elim (here_or j) [
    | inl at ↦ ap (id_at sc.owners) at ∙ is ∙ ap (λ (z : L). Some (led z).value.owner) (same_Some y x (sym here ∙ ap (slice_get xs) (sym at) ∙ e))
    | inr before ↦ so j x (before lt) e
  ]
    where
      here_or : (j : ℕ) → (j ≡ k) ⊎ (j < k + 1 → j < k)
      here_or j = by (j == k) refl
        where
          by : (b : Bool) → (j == k) ≡ b → (j ≡ k) ⊎ (j < k + 1 → j < k)
          by true e = inl ((Decides-eqb j k).0 e)
          by false e = inr (λ lt. grind (arith, nat_tests))

module _ {O L : Type 0} (out : O → Standing OutboxValue) (led : L → Standing LedgerValue) where
  pub kept_beside_all : (old : O) (olds : List L) (new : O) (news : List L) (f : Option Fault) → AreKept out led old olds new news None → AreKept out led old olds new news f
  kept_beside_all old olds new news f k = record {
    outbox_is = kept_beside (out old) (out new) f k.outbox_is;
    ledgers_are = record {
      forth = λ j x e. let y = k.ledgers_are.forth j x e in (y.0, y.1, kept_beside (led x) (led y.0) f y.2);
      back = λ j y e. let x = k.ledgers_are.back j y e in (x.0, x.1, kept_beside (led x.0) (led y) f x.2);
    };
  }
