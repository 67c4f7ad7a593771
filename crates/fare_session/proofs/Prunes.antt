-- Lanes counted one by one, and pruned all at once.
use Rattle.std.proofs.Common.{◌≡◌, ℕ, zero, suc, ◌+◌, ◌≤◌, Some, None, List, [], ◌∷◌, ◌++◌, length, set, refl, sym, ap, ◌∙◌, subst, inl, inr, arith, length-append, append_assoc}
use Rattle.std.specs.Prelude.{◌⊎◌, slice_get, Option, Ok, Err}
use Rattle.std.specs.List.{AllByRecursion}
use Rattle.std.specs.Map.{keys_of}
use Rattle.std.proofs.lemmas.List.{append-nil}
use Rattle.std.proofs.lemmas.Option.{same_Some}
use Rattle.fare_store.specs.declared.fault.Fault.{Fault}
use Rattle.fare_store.specs.Standing.{Standing, IsSound, Changes}
use Rattle.fare_store.specs.OutboxWords.{OutboxValue, pruned_all}
use Rattle.fare_store.specs.LedgerWords.{LedgerValue}
use Rattle.fare_history.specs.Serving.{pruned_to, pruned_to_all}
use Rattle.fare_session.specs.Stores.{Called, HasStood, Leaves, Stays}
use Rattle.fare_session.specs.Forwarding.{IsBased, AreApart}
use Rattle.fare_session.specs.Resting.{counted_in, AreCounted, IsCut, IsPruned}
use Rattle.fare_session.proofs.StoreCalls.{called, follows_none, follows_call, leaves_done, leaves_kept, leaves_say, stays_none, stays_then, stood_first, stood_then, stood_value}
use Rattle.fare_session.proofs.Forwards.{based_at}
use Rattle.fare_session.proofs.Serves.{all_keys}

pub key_here : (bases : List (ℕ × ℕ)) (k : ℕ) (p : ℕ × ℕ) → slice_get bases k ≡ Some p → slice_get (keys_of bases) k ≡ Some p.0
key_here [] k p e = absurd (cc)
key_here (b ∷ bs) zero p e = ap {B = Option ℕ} (λ (z : ℕ × ℕ). Some z.0) (same_Some b p e)
key_here (b ∷ bs) (suc k) p e = key_here bs k p e

-- COUNTING
-- so many of these lanes have their device's count by now, and the others are as they were
pub record AreCountedFirst (old new : Standing LedgerValue) (before after : List (ℕ × ℕ)) (count : ℕ) : Type 0 where
  pub done : List (ℕ × ℕ)
  pub rest : List (ℕ × ℕ)
  pub stays : Stays old new None
  pub now : after ≡ done ++ rest
  pub many : length done ≡ count
  pub keys : keys_of before ≡ keys_of done ++ keys_of rest
  pub told : HasStood old new → done ≡ counted_in old.value (keys_of done)

pub counted_none : (a : Standing LedgerValue) (lanes : List (ℕ × ℕ)) → IsSound a → AreCountedFirst a a lanes lanes 0
counted_none a lanes sound = record { done = []; rest = lanes; stays = stays_none a sound; now = refl; many = refl; keys = refl; told = λ keeps. refl }

keys_of-append : (xs ys : List (ℕ × ℕ)) → keys_of (xs ++ ys) ≡ keys_of xs ++ keys_of ys
keys_of-append [] ys = refl
keys_of-append (x ∷ xs) ys = ap (λ l. x.0 ∷ l) (keys_of-append xs ys)

counted_in-append : (l : LedgerValue) (ds es : List ℕ) → counted_in l (ds ++ es) ≡ counted_in l ds ++ counted_in l es
counted_in-append l [] es = refl
counted_in-append l (d ∷ ds) es = ap (λ z. (d, length (l.taken d)) ∷ z) (counted_in-append l ds es)

split_at : (xs ys : List (ℕ × ℕ)) (p : ℕ × ℕ) → slice_get (xs ++ ys) (length xs) ≡ Some p → (more : List (ℕ × ℕ)) × (ys ≡ p ∷ more)
split_at [] [] p e = absurd (cc)
split_at [] (y ∷ ys) p e = (ys, ap (λ (z : ℕ × ℕ). z ∷ ys) (same_Some y p e))
split_at (x ∷ xs) ys p e = split_at xs ys p e

set_at : (xs ys : List (ℕ × ℕ)) (p q : ℕ × ℕ) → set (xs ++ p ∷ ys) (length xs) q ≡ (xs ++ q ∷ []) ++ ys
set_at [] ys p q = refl
set_at (x ∷ xs) ys p q = ap (λ l. x ∷ l) (set_at xs ys p q)

none_left : (xs ys : List (ℕ × ℕ)) → length (xs ++ ys) ≤ length xs → ys ≡ []
none_left xs [] le = refl
none_left xs (y ∷ ys) le = absurd (omega (arith, le, length-append xs (y ∷ ys)))

module _ (a b : Standing LedgerValue) (before after : List (ℕ × ℕ)) (k : ℕ) (now : AreCountedFirst a b before after k) where
  -- the ledger failed
  pub counted_failed : (c : Standing LedgerValue) (f : Fault) → Stays b c (Some f) → AreCounted a c before after (Err f)
  counted_failed c f read = record { stays = stays_then a b c (Some f) now.stays read; told = tt }

  -- all were counted
  pub counted_all : (u : Unit {0}) → length after ≤ k → AreCounted a b before after (Ok u)
  counted_all u le = record {
    stays = now.stays;
    told = λ keeps. all ∙ now.told keeps ∙ ap (counted_in a.value) (sym (now.keys ∙ ap (λ l. keys_of now.done ++ keys_of l) none ∙ append-nil (keys_of now.done)));
  }
    where
      none : now.rest ≡ []
      none = let n = ap length now.now in let m = now.many in none_left now.done now.rest (omega (arith, n, m, le))

      all : after ≡ now.done
      all = now.now ∙ ap (λ l. now.done ++ l) none ∙ append-nil now.done

  -- one more
  pub counted_more : (c : Standing LedgerValue) (p : ℕ × ℕ) (n : ℕ) → slice_get after k ≡ Some p → Stays b c None → (HasStood b c → n ≡ length (b.value.taken p.0)) → AreCountedFirst a c before (set after k (p.0, n)) (k + 1)
  counted_more c p n here read told = record {
    done = now.done ++ (p.0, n) ∷ [];
    rest = more.0;
    stays = stays_then a b c None now.stays read;
    now = (λ i. set (split i) (sym now.many i) (p.0, n)) ∙ set_at now.done more.0 p (p.0, n);
    many = length-append now.done ((p.0, n) ∷ []) ∙ ap (λ (m : ℕ). m + 1) now.many;
    keys = now.keys ∙ ap (λ l. keys_of now.done ++ keys_of l) more.1 ∙ sym (append_assoc (keys_of now.done) (p.0 ∷ []) (keys_of more.0)) ∙ ap (λ l. l ++ keys_of more.0) (sym (keys_of-append now.done ((p.0, n) ∷ [])));
    told = λ keeps.
        (λ i. now.told (first keeps) i ++ ((p.0, is_count keeps i) ∷ []))
        ∙ sym (counted_in-append a.value (keys_of now.done) (p.0 ∷ []))
        ∙ ap (counted_in a.value) (sym (keys_of-append now.done ((p.0, n) ∷ [])));
  }
    where
      more : (rest : List (ℕ × ℕ)) × (now.rest ≡ p ∷ rest)
      more = split_at now.done now.rest p ((λ i. slice_get (sym now.now i) (now.many i)) ∙ here)

      split : after ≡ now.done ++ p ∷ more.0
      split = now.now ∙ ap (λ l. now.done ++ l) more.1

      first : HasStood a c → HasStood a b
      first keeps = stood_first a b c None b.value (λ w. w ≡ b.value) read keeps

      is_count : HasStood a c → n ≡ length (a.value.taken p.0)
      is_count keeps = told (stood_then a b c None b.value a.value (λ w. w ≡ b.value) (λ w. w ≡ a.value) now.stays read keeps) ∙ ap (λ (l : LedgerValue). length (l.taken p.0)) (stood_value a b a.value (λ w. w ≡ a.value) now.stays (first keeps))

-- PRUNING
pruned_counted : (owner : ℕ) (l : LedgerValue) (ds : List ℕ) (x : OutboxValue) → pruned_all owner (counted_in l ds) x ≡ pruned_to_all x owner l ds
pruned_counted owner l [] x = refl
pruned_counted owner l (d ∷ ds) x = pruned_counted owner l ds (pruned_to x owner l d)

-- the ledger failed, and nothing was asked of the outbox
pub pruned_unread : (owner : ℕ) (bases counted : List (ℕ × ℕ)) (x : Standing OutboxValue) (lo ln : Standing LedgerValue) (f : Fault) → IsSound x → AreCounted lo ln bases counted (Err f) → IsPruned owner bases x x lo ln [] None (Some f)
pruned_unread owner bases counted x lo ln f sound read = record {
  stays = read.stays;
  leaves = λ keeps. leaves_say x x None x.value (λ w. w ≡ x.value) (IsCut x.value owner lo.value bases []) (λ w e. inl e) (stays_none x sound);
  counted = refl;
  begun = λ lt. absurd (omega (arith, lt));
  follows = follows_none x;
}

-- what the outbox is without them
pub counted_is : (owner : ℕ) (bases counted : List (ℕ × ℕ)) (x : OutboxValue) (lo ln : Standing LedgerValue) (u : Unit {0}) → AreCounted lo ln bases counted (Ok u) → HasStood lo ln → pruned_all owner counted x ≡ pruned_to_all x owner lo.value (keys_of bases)
counted_is owner bases counted x lo ln u read keeps = ap (λ l. pruned_all owner l x) (read.told keeps) ∙ pruned_counted owner lo.value (keys_of bases) x

module _ (owner : ℕ) (bases : List (ℕ × ℕ)) (xo xn : Standing OutboxValue) (lo ln : Standing LedgerValue) (read : Stays lo ln None) (v : OutboxValue) (is : HasStood lo ln → v ≡ pruned_to_all xo.value owner lo.value (keys_of bases)) where
  pub pruned_whole : (u : Unit {0}) → IsSound xn → Changes xo xn v (Ok u) → IsPruned owner bases xo xn lo ln (keys_of bases) None None
  pruned_whole u sound call = record {
    stays = read;
    leaves = λ keeps. subst (λ z. Leaves xo xn None z (IsCut xo.value owner lo.value bases (keys_of bases))) (is keeps)
        (leaves_say xo xn None v (λ w. w ≡ v) (IsCut xo.value owner lo.value bases (keys_of bases)) (λ w e. inl (e ∙ is keeps)) (leaves_done xo xn (xn.value ≡ v) v (λ w. w ≡ v) sound done (λ e. e)));
    counted = call.cause;
    begun = λ lt clean. call.live (call.stays refl clean);
    follows = follows_call xo xn None (xn.value ≡ v) (λ w. w ≡ v) done;
  }
    where
      done : Called xo xn None (xn.value ≡ v) (λ w. w ≡ v)
      done = called xo xn None (xn.value ≡ v) (λ w. w ≡ v) call

  pub pruned_failed : (f : Fault) → AreApart bases → IsSound xo → Changes {A = Unit {0}} xo xn v (Err f) → IsPruned owner bases xo xn lo ln [] (Some f) None
  pruned_failed f apart sound call = record {
    stays = read;
    leaves = λ keeps. leaves_say xo xn (Some f) xo.value (λ w. (w ≡ xo.value) ⊎ (w ≡ v)) (IsCut xo.value owner lo.value bases [])
        (λ w x. elim x [ inl e ↦ inl e | inr e ↦ inr (keys_of bases, based, e ∙ is keeps) ])
        (leaves_kept xo xn (Some f) (xn.value ≡ xo.value) (λ w. w ≡ v) sound tried (λ e. e));
    counted = call.cause;
    begun = λ lt. absurd (omega (arith, lt));
    follows = follows_call xo xn (Some f) (xn.value ≡ xo.value) (λ w. w ≡ v) tried;
  }
    where
      tried : Called xo xn (Some f) (xn.value ≡ xo.value) (λ w. w ≡ v)
      tried = called xo xn (Some f) (xn.value ≡ xo.value) (λ w. w ≡ v) call

      based : AllByRecursion (IsBased bases) (keys_of bases)
      based = all_keys (IsBased bases) bases (λ k p at. based_at bases k p apart at)
