-- A ledger asked device by device.
use Rattle.std.proofs.Common.{◌≡◌, ℕ, zero, suc, ◌<◌, Some, None, Bool, true, false, List, [], ◌∷◌, ◌++◌, length, refl, sym, ap, ◌∙◌, subst, inl, inr, arith, length-append}
use Rattle.std.specs.Prelude.{◌⊎◌, slice_get, get_or, nat_eq, Option, Result, Ok, Err}
use Rattle.std.specs.List.{IsDistinct}
use Rattle.std.specs.Map.{keys_of}
use Rattle.std.proofs.lemmas.Map.Keys.{IsDistinct-from_apart}
use Rattle.std.proofs.lemmas.Map.Entries.{length-keys_of}
use Rattle.std.proofs.lemmas.Bool.Decides.{Decides-eqb}
use Rattle.std.proofs.lemmas.Option.{same_Some, slice_get_within, slice_get-get_or}
use Rattle.fare_scheme.specs.Values.{SchemeValue}
use Rattle.fare_scheme.specs.Words.{position_of_device}
use Rattle.fare_store.specs.declared.fault.Fault.{Fault}
use Rattle.fare_store.specs.declared.fault.Fault.TheVariants as fault
use Rattle.fare_store.specs.Standing.{Standing}
use Rattle.fare_store.specs.LedgerWords.{LedgerValue}
use Rattle.fare_session.specs.Stores.{HasStood, Stays}
use Rattle.fare_session.specs.Asking.{standing_of, IsStanding, IsToldAt, AreTold, IsAsked}
use Rattle.fare_session.proofs.StoreCalls.{stays_then, stood_first, stood_then, stood_value}

-- a place of a list with one more at its end
pub push_cases : {X : Type 0} (xs : List X) (x y : X) (k : ℕ) → slice_get (xs ++ x ∷ []) k ≡ Some y → (slice_get xs k ≡ Some y) ⊎ ((k ≡ length xs) × (x ≡ y))
push_cases [] x y zero e = inr (refl, same_Some x y e)
push_cases [] x y (suc k) e = absurd (cc)
push_cases (z ∷ xs) x y zero e = inl e
push_cases (z ∷ xs) x y (suc k) e = elim (push_cases xs x y k e) [ inl before ↦ inl before | inr last ↦ inr (omega (arith, last.0), last.1) ]

pub push_before : {X : Type 0} (xs : List X) (x y : X) (k : ℕ) → slice_get xs k ≡ Some y → slice_get (xs ++ x ∷ []) k ≡ Some y
push_before [] x y k e = absurd (cc)
push_before (z ∷ xs) x y zero e = e
push_before (z ∷ xs) x y (suc k) e = push_before xs x y k e

pub push_last : {X : Type 0} (xs : List X) (x : X) → slice_get (xs ++ x ∷ []) (length xs) ≡ Some x
push_last [] x = refl
push_last (z ∷ xs) x = push_last xs x

-- nothing was told
pub told_none : (sc : SchemeValue) (a : Standing LedgerValue) (standings : List (ℕ × Option ℕ)) (bases : List (ℕ × ℕ)) → standings ≡ [] → bases ≡ [] → AreTold sc a a standings bases
told_none sc a standings bases first none = record {
  same = ap length none ∙ sym (ap length first);
  each = λ k p e. absurd (let at = slice_get_within standings k p e in let n = ap length first in omega (arith, at, n));
}

-- one device more
pub told_more : (sc : SchemeValue) (a b c : Standing LedgerValue) (standings : List (ℕ × Option ℕ)) (bases : List (ℕ × ℕ)) (device place : ℕ) (p : ℕ × Option ℕ) → Stays a b None → Stays b c None → length standings ≡ place → position_of_device sc device ≡ Some place → (HasStood b c → p ≡ standing_of b.value device) → AreTold sc a b standings bases
    → AreTold sc a c (standings ++ p ∷ []) (bases ++ (device, p.0) ∷ [])
told_more sc a b c standings bases device place p first second count at told now = record {
  same = let s = now.same in omega (arith, s, length-append bases ((device, p.0) ∷ []), length-append standings (p ∷ []));
  each = each;
}
  where
    earlier : HasStood a c → HasStood a b
    earlier k = stood_first a b c None b.value (λ w. w ≡ b.value) second k

    each : (k : ℕ) (q : ℕ × Option ℕ) → slice_get (standings ++ p ∷ []) k ≡ Some q → IsToldAt sc a c (bases ++ (device, p.0) ∷ []) k q
    each k q e = elim (push_cases standings p q k e) [
      | inl before ↦
          let was = now.each k q before in
          record { device = was.device; at = was.at; base = push_before bases (device, p.0) (was.device, q.0) k was.base; told = λ keeps. was.told (earlier keeps) }
      | inr last ↦ record {
        device = device;
        at = at ∙ ap {B = Option ℕ} Some (sym (last.0 ∙ count));
        base = ap (slice_get (bases ++ (device, p.0) ∷ [])) (last.0 ∙ sym now.same) ∙ push_last bases (device, p.0) ∙ ap (λ (z : ℕ × Option ℕ). Some (device, z.0)) last.1;
        told = λ keeps. sym last.1 ∙ told (stood_then a b c None b.value a.value (λ w. w ≡ b.value) (λ w. w ≡ a.value) first second keeps) ∙ ap (λ (l : LedgerValue). standing_of l device) (stood_value a b a.value (λ w. w ≡ a.value) first (earlier keeps));
      }
    ]

-- it failed
pub asked_failed : (sc : SchemeValue) (a b c : Standing LedgerValue) (standings : List (ℕ × Option ℕ)) (bases : List (ℕ × ℕ)) (device : ℕ) (f : Fault) → Stays a b None → IsStanding b c device (Err f) → IsAsked sc a c standings bases (Err f)
asked_failed sc a b c standings bases device f first now = record {
  faulted = Some f;
  stays = stays_then a b c (Some f) first (subst (λ (z : Option Fault). Stays b c z) now.is now.stays);
  cause = λ e. let is : ◌≡◌ {A = Result (Unit {0}) Fault} (Err f) (Err fault.Store) = e in cc;
  none = tt;
  live = tt;
  told = tt;
  count = tt;
  some = tt;
}

-- there was no memory
pub asked_memory : (sc : SchemeValue) (a b c : Standing LedgerValue) (standings : List (ℕ × Option ℕ)) (bases : List (ℕ × ℕ)) (device : ℕ) (p : ℕ × Option ℕ) → Stays a b None → IsStanding b c device (Ok p) → IsAsked sc a c standings bases (Err fault.Memory)
asked_memory sc a b c standings bases device p first now = record {
  faulted = None;
  stays = stays_then a b c None first (subst (λ (z : Option Fault). Stays b c z) now.is now.stays);
  cause = λ e. absurd (let same : ◌≡◌ {A = Result (Unit {0}) Fault} (Err fault.Memory) (Err fault.Store) = e in cc);
  none = tt;
  live = tt;
  told = tt;
  count = tt;
  some = tt;
}

pub asked_on : (a b c : Standing LedgerValue) (device : ℕ) (p : ℕ × Option ℕ) → Stays a b None → IsStanding b c device (Ok p) → Stays a c None
asked_on a b c device p first now = stays_then a b c None first (subst (λ (z : Option Fault). Stays b c z) now.is now.stays)

-- NO DEVICE TWICE
pub key_of : (bases : List (ℕ × ℕ)) (k d : ℕ) (p : ℕ × ℕ) → slice_get bases k ≡ Some p → get_or (keys_of bases) k d ≡ p.0
key_of [] k d p e = absurd (cc)
key_of (b ∷ bs) zero d p e = ap (λ (z : ℕ × ℕ). z.0) (same_Some b p e)
key_of (b ∷ bs) (suc k) d p e = key_of bs k d p e

pub unlike : (x y : ℕ) → (x ≡ y → ⊥) → nat_eq x y ≡ false
unlike x y apart = by (nat_eq x y) refl
  where
    by : (b : Bool) → nat_eq x y ≡ b → b ≡ false
    by true e = absurd (apart ((Decides-eqb x y).0 e))
    by false e = refl

pub bases_apart : (sc : SchemeValue) (a b : Standing LedgerValue) (standings : List (ℕ × Option ℕ)) (bases : List (ℕ × ℕ)) → AreTold sc a b standings bases → IsDistinct nat_eq (keys_of bases)
bases_apart sc a b standings bases told = IsDistinct-from_apart nat_eq (keys_of bases) each
  where
    held : (k : ℕ) → k < length (keys_of bases) → slice_get standings k ≡ Some (get_or standings k (0, None))
    held k lt = slice_get-get_or standings k (0, None) (omega (arith, lt, told.same, length-keys_of bases))

    each : (i j d : ℕ) → i < j → j < length (keys_of bases) → nat_eq (get_or (keys_of bases) i d) (get_or (keys_of bases) j d) ≡ false
    each i j d lt within =
        let first = told.each i (get_or standings i (0, None)) (held i (omega (arith, lt, within))) in
        let second = told.each j (get_or standings j (0, None)) (held j within) in
        (λ k. nat_eq (key_of bases i d (first.device, (get_or standings i (0, None)).0) first.base k) (key_of bases j d (second.device, (get_or standings j (0, None)).0) second.base k))
        ∙ unlike first.device second.device (λ same. let at : ◌≡◌ {A = Option ℕ} (Some i) (Some j) = sym first.at ∙ ap (position_of_device sc) same ∙ second.at in absurd (let is = same_Some i j at in omega (arith, lt, is)))
