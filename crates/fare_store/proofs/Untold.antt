-- The statements of a lane go.
use Rattle.std.proofs.Common.{◌≡◌, ℕ, ◌+◌, ◌-◌, ◌==◌, suc, Bool, true, false, cond, Option, Some, None, is_some, refl, sym, ◌∙◌, ap, arith}
use Rattle.std.specs.Prelude.{◌&&◌, if◌then◌else◌, nat_lt}
use Rattle.std.specs.Ordering.{is_eq}
use Rattle.std.specs.BTreeMap as tree
use Rattle.std.proofs.lemmas.Bool.Decides.{nat_tests}
use Rattle.fare_store.specs.Tables.{put, put2}
use Rattle.fare_store.specs.Keys.{Key, key_order}
use Rattle.fare_store.specs.LedgerWords.{stated_from}
use Rattle.fare_store.specs.OutboxWords.{stated_before, without_statements}
use Rattle.fare_store.specs.PlainOutboxWords.{stated_in, held_in}
use Rattle.fare_store.proofs.Tables.{same_number}
use Rattle.fare_store.proofs.Entries.{put2_here}
use Rattle.fare_store.proofs.Lanes.{Rows}
use Rattle.fare_store.proofs.Keys.{same_key}

abbrev Stated : Type 0
Stated = ℕ → ℕ → ℕ → Option ℕ

-- so far: of the days before one none is left, and so many went
pub record AreWithout (owner device number : ℕ) (was is : Stated) (before len : ℕ) : Type 0 where
  pub left : (o d e : ℕ) → is o d e ≡ put2 was owner device (stated_from number (was owner device)) o d e
  pub count : len + stated_before number (was owner device) ≡ before

-- one day more, whose statement goes
pub one_without : (owner device n before : ℕ) (was : Stated) (old new : tree.BTreeMap Key ℕ) (gone : Option ℕ) → AreWithout owner device n was (stated_in old) before (tree.btree_map_len old) → gone ≡ stated_in old owner device n
    → ((q : Key) → tree.get key_order new q ≡ cond (is_eq (key_order (owner, device, n) q)) None (tree.get key_order old q)) → tree.btree_map_len new + (if is_some gone then 1 else 0) ≡ tree.btree_map_len old → AreWithout owner device (n + 1) was (stated_in new) before (tree.btree_map_len new)
one_without owner device n before was old new gone so is_gone writes fewer = record {
  left = λ o d e. writes (o, d, e) ∙ (λ i. cond (same_key (owner, device, n) (o, d, e) i) None (so.left o d e i)) ∙ outer o d e (o == owner);
  count =
      let next : stated_before (n + 1) w ≡ stated_before n w + one (w n) = ap (λ k. stated_before k w) {x = n + 1} {y = suc n} (omega arith) in
      let same : one gone ≡ one (w n) = ap one (is_gone ∙ here) in
      omega (arith, so.count, fewer, next, same);
}
  where
    w : ℕ → Option ℕ
    w = was owner device

    one : Option ℕ → ℕ
    one s = if is_some s then 1 else 0

    here : stated_in old owner device n ≡ w n
    here = so.left owner device n ∙ ap (λ f. f n) (put2_here was owner device (stated_from n w)) ∙ ap (λ b. if◌then◌else◌ {A = Option ℕ} b None (w n)) {x = nat_lt n n} {y = false} (grind (arith, nat_tests))

    day : (e : ℕ) (s : Bool) → (e == n) ≡ s → (t : Bool) → nat_lt e n ≡ t → ◌≡◌ {A = Option ℕ} (cond s None (if nat_lt e n then None else w e)) (if nat_lt e (n + 1) then None else w e)
    day e true p t q = ap (λ b. if◌then◌else◌ {A = Option ℕ} b None (w e)) {x = true} {y = nat_lt e (n + 1)} (grind (arith, nat_tests))
    day e false p t q = ap (λ b. if◌then◌else◌ {A = Option ℕ} b None (w e)) {x = nat_lt e n} {y = nat_lt e (n + 1)} (grind (arith, nat_tests))

    inner : (d e : ℕ) (b : Bool) → cond (b && (e == n)) None ((if b then stated_from n w else was owner d) e) ≡ (if b then stated_from (n + 1) w else was owner d) e
    inner d e false = refl
    inner d e true = day e (e == n) refl (nat_lt e n) refl

    outer : (o d e : ℕ) (a : Bool) → cond ((a && (d == device)) && (e == n)) None ((if a then put (was owner) device (stated_from n w) else was o) d e) ≡ (if a then put (was owner) device (stated_from (n + 1) w) else was o) d e
    outer o d e false = refl
    outer o d e true = inner d e (d == device)

-- what stands still stood before
pub without_among : (owner device number : ℕ) (was is : Stated) → ((o d e : ℕ) → is o d e ≡ put2 was owner device (stated_from number (was owner device)) o d e) → (o d e k : ℕ) → is o d e ≡ Some k → was o d e ≡ Some k
without_among owner device number was is left o d e k there = outer (o == owner) refl (sym (left o d e) ∙ there)
  where
    kept : (b : Bool) → ◌≡◌ {A = Option ℕ} (if b then None else was owner device e) (Some k) → was owner device e ≡ Some k
    kept true h = absurd (cc)
    kept false h = h

    inner : (b : Bool) → (d == device) ≡ b → (if b then stated_from number (was owner device) else was owner d) e ≡ Some k → was owner d e ≡ Some k
    inner true q h = ap (λ x. was owner x e) (same_number d device q) ∙ kept (nat_lt e number) h
    inner false q h = h

    outer : (a : Bool) → (o == owner) ≡ a → (if a then put (was owner) device (stated_from number (was owner device)) else was o) d e ≡ Some k → was o d e ≡ Some k
    outer true p h = ap (λ x. was x d e) (same_number o owner p) ∙ inner (d == device) refl h
    outer false p h = h

-- WHAT AN OUTBOX HOLDS
pub with_fewer : (owner device day : ℕ) (upto : ℕ → Option ℕ) (rows : Rows) (count : ℕ) (old new : tree.BTreeMap Key ℕ) → ((o d e : ℕ) → stated_in new o d e ≡ put2 (stated_in old) owner device (stated_from day (stated_in old owner device)) o d e)
    → tree.btree_map_len new ≡ tree.btree_map_len old - stated_before day (stated_in old owner device) → held_in upto rows count new ≡ without_statements owner device day (held_in upto rows count old)
with_fewer owner device day upto rows count old new left fewer i = record (held_in upto rows count old) { stated = λ o d e. left o d e i; stated_count = fewer i }
