-- How much sessions add to what the stores have had.
use Rattle.std.proofs.Common.{◌≡◌, ℕ, zero, suc, ◌+◌, ◌≤◌, ◌<◌, List, [], ◌∷◌, ◌++◌, length, Some, None, Bool, true, false, refl, sym, ap, ◌∙◌, subst, arith, inl, inr, length-append}
use Rattle.std.specs.Prelude.{Option, ◌==◌, nat_eq, nat_le, nat_lt, is_ok, is_some, is_none, if◌then◌else◌}
use Rattle.std.specs.List.{AllByRecursion, IsDistinct}
use Rattle.std.specs.Map.{keys_of}
use Rattle.std.proofs.lemmas.Bool.Decides.{nat_tests}
use Rattle.fare_record.specs.Values.{RecordValue}
use Rattle.fare_record.specs.declared.item.Item.{Item}
use Rattle.fare_record.specs.declared.item.Item.TheVariants as item
use Rattle.fare_scheme.specs.declared.entry.Placement.{Placement}
use Rattle.fare_scheme.specs.Facts.{IsScheme}
use Rattle.fare_scheme.specs.Values.{SchemeValue}
use Rattle.fare_scheme.specs.Words.{station_of}
use Rattle.fare_store.specs.Tables.{put}
use Rattle.fare_store.specs.OutboxWords.{OutboxValue}
use Rattle.fare_store.specs.LedgerWords.{LedgerValue}
use Rattle.fare_world.proofs.Known.{station_where_placed}
use Rattle.fare_world.proofs.OneOrder.{In}
use Rattle.fare_history.specs.Serving.{device_of, IsOfDevice, IsDated, given, given_all}
use Rattle.fare_history.specs.Gathering.{Entry, is_new, done_by, storing, storing_all, items_of}
use Rattle.fare_store.proofs.Entries.{is_one, other_way, put_here}
use Rattle.fare_history.proofs.Judged.{judged_by}
use Rattle.fare_agreement.specs.Totals.{over, days_stated, had_by, held_by, is_taken_new, stored_new, taken_new}
use Rattle.fare_world.proofs.WeekInOrder.{entry_of, distinct_parts}

-- SUMS
over_others : (ds : List (ℕ × Placement)) (f g : ℕ → ℕ) (d : ℕ) → AllByRecursion (λ j. nat_eq d j ≡ false) (keys_of ds) → ((j : ℕ) → (j == d) ≡ false → g j ≡ f j) → over ds g ≡ over ds f
over_others [] f g d apart same = refl
over_others (x ∷ ds) f g d apart same = omega (arith, same x.0 (other_way d x.0 apart.0), over_others ds f g d apart.1 same)

apart_from_one : (ds : List (ℕ × Placement)) (k : ℕ) (e : ℕ × Placement) → AllByRecursion (λ j. nat_eq k j ≡ false) (keys_of ds) → In e ds → nat_eq k e.0 ≡ false
apart_from_one [] k e all i = absurd i
apart_from_one (x ∷ ds) k e all (inl same) = ap (λ (y : ℕ × Placement). nat_eq k y.0) (sym same) ∙ all.0
apart_from_one (x ∷ ds) k e all (inr i) = apart_from_one ds k e all.1 i

-- a sum of which one term changes
over_changed : (ds : List (ℕ × Placement)) (f g : ℕ → ℕ) (d : ℕ) → IsDistinct nat_eq (keys_of ds) → (e : ℕ × Placement) → In e ds → e.0 ≡ d → ((j : ℕ) → (j == d) ≡ false → g j ≡ f j) → over ds g + f d ≡ over ds f + g d
over_changed [] f g d distinct e i is same = absurd i
over_changed (x ∷ ds) f g d distinct e (inl at) is same =
    let here : x.0 ≡ d = ap (λ (y : ℕ × Placement). y.0) at ∙ is in
    let rest : over ds g ≡ over ds f = over_others ds f g d (subst (λ k. AllByRecursion (λ j. nat_eq k j ≡ false) (keys_of ds)) here (distinct_parts x.0 (keys_of ds) distinct).0) same in
    let own : f x.0 ≡ f d = ap f here in
    let new : g x.0 ≡ g d = ap g here in
    omega (arith, rest, own, new)
over_changed (x ∷ ds) f g d distinct e (inr i) is same =
    let differ : (x.0 == d) ≡ false = ap (λ k. x.0 == k) (sym is) ∙ apart_from_one ds x.0 e (distinct_parts x.0 (keys_of ds) distinct).0 i in
    omega (arith, same x.0 differ, over_changed ds f g d (distinct_parts x.0 (keys_of ds) distinct).1 e i is same)

none_some : {X : Type 0} (o : Option X) → o ≡ None → is_some o ≡ true → ⊥
none_some o none some = let both : false ≡ true = sym (ap is_some none) ∙ some in cc

-- a new tap has the next link
new_link : (x : OutboxValue) (r : RecordValue) → is_new x (item.Tap r) ≡ true → r.link ≡ x.upto r.device + 1
new_link x r new =
    let tests = by (nat_le r.link (x.upto r.device)) (nat_lt (x.upto r.device + 1) r.link) (is_some (x.rows r.owner r.device r.lane)) (nat_le 1000000 x.row_count) new in
    between r.link (x.upto r.device) tests.0 tests.1
  where
    by : (a b c d : Bool) → is_ok (judged_by a b c d) ≡ true → (a ≡ false) × (b ≡ false)
    by true b c d e = absurd (cc)
    by false true c d e = absurd (cc)
    by false false c d e = (refl, refl)

    between : (k n : ℕ) → nat_le k n ≡ false → nat_lt (n + 1) k ≡ false → k ≡ n + 1
    between k n above below = grind (arith, nat_tests)

module _ (sc : SchemeValue) (valid : IsScheme sc) where
  -- the same over the scheme's devices
  scheme_changed : (f g : ℕ → ℕ) (d : ℕ) → is_some (station_of sc d) ≡ true → ((j : ℕ) → (j == d) ≡ false → g j ≡ f j) → over sc.devices g + f d ≡ over sc.devices f + g d
  scheme_changed f g d known same = elim (entry_of sc.devices d) [
    | inl none ↦ absurd (none_some (station_of sc d) none known)
    | inr found ↦ over_changed sc.devices f g d valid.devices.distinct found.0 found.1 found.2 same
  ]

  placed_station : (d : ℕ) → IsOfDevice sc d → is_some (station_of sc d) ≡ true
  placed_station d known = sym (station_where_placed sc d) ∙ known

  -- THE OUTBOX
  done_had : (x : OutboxValue) (i : Item) → IsOfDevice sc (device_of i) → is_new x i ≡ true → had_by sc (done_by i x) ≡ had_by sc x + 1
  done_had x (item.Tap r) known new =
      omega (
        arith,
        new_link x r new,
        put_here x.upto r.device r.link,
        scheme_changed x.upto (put x.upto r.device r.link) r.device (placed_station r.device known) (λ j e. ap (λ b. if b then r.link else x.upto j) e),
      )
  done_had x (item.Stated v) known new = omega arith

  item_had : (x : OutboxValue) (i : Item) → IsOfDevice sc (device_of i) → had_by sc (storing x i) ≡ had_by sc x + (if is_new x i then 1 else 0)
  item_had x i known = by (is_new x i) refl
    where
      by : (b : Bool) → is_new x i ≡ b → had_by sc (if b then done_by i x else x) ≡ had_by sc x + (if b then 1 else 0)
      by true new = done_had x i known new
      by false old = omega arith

  pub entries_had : (x : OutboxValue) (es : List Entry) → AllByRecursion (λ i. IsOfDevice sc (device_of i)) (items_of es) → had_by sc (storing_all x es) ≡ had_by sc x + stored_new x es
  entries_had x [] known = omega arith
  entries_had x (e ∷ es) known = omega (arith, item_had x e.item known.0, entries_had (storing x e.item) es known.1)

  -- A LEDGER
  days_past : (n day : ℕ) (s : ℕ → Option ℕ) (o : Option ℕ) → n ≤ day → days_stated n (put s day o) ≡ days_stated n s
  days_past zero day s o le = refl
  days_past (suc n) day s o le =
      let differ : (n == day) ≡ false = apart n day (omega arith) in
      (λ i. days_past n day s o (omega arith) i + (if is_some (if differ i then o else s n) then 1 else 0))
    where
      apart : (a b : ℕ) → a < b → (a == b) ≡ false
      apart a b lt = grind (arith, nat_tests)

  days_put : (n day c : ℕ) (s : ℕ → Option ℕ) → day < n → days_stated n (put s day (Some c)) ≡ days_stated n s + (if is_none (s day) then 1 else 0)
  days_put zero day c s lt = absurd (omega arith)
  days_put (suc n) day c s lt = by (n == day) refl (λ less. days_put n day c s less)
    where
      one : (o : Option ℕ) (k : ℕ) → k + 1 ≡ (k + (if is_some o then 1 else 0)) + (if is_none o then 1 else 0)
      one None k = omega arith
      one (Some x) k = omega arith

      by : (b : Bool) → (n == day) ≡ b → (day < n → days_stated n (put s day (Some c)) ≡ days_stated n s + (if is_none (s day) then 1 else 0)) → days_stated n (put s day (Some c)) + (if is_some (if n == day then Some c else s n) then 1 else 0) ≡ days_stated n s + (if is_some (s n) then 1 else 0) + (if is_none (s day) then 1 else 0)
      by true e rest =
          let same : n ≡ day = is_one n day e in
          let before : days_stated n (put s day (Some c)) ≡ days_stated n s = days_past n day s (Some c) (omega (arith, same)) in
          (λ i. before i + (if is_some (if e i then Some c else s n) then 1 else 0)) ∙ one (s n) (days_stated n s) ∙ ap (λ k. days_stated n s + (if is_some (s n) then 1 else 0) + (if is_none (s k) then 1 else 0)) same
      by false e rest =
          let less : day < n = below n day e lt in
          let before = rest less in
          let last : (if is_some (if n == day then Some c else s n) then 1 else 0) ≡ (if is_some (s n) then 1 else 0) = ap {B = ℕ} (λ b. if is_some (if b then Some c else s n) then 1 else 0) e in
          omega (arith, before, last)
        where
          below : (a b : ℕ) → (a == b) ≡ false → b < suc a → b < a
          below a b differ lt = grind (arith, nat_tests)

  sum_to : (more a b x y : ℕ) → a + x ≡ b + y → y ≡ x + more → a ≡ b + more
  sum_to more a b x y e f = omega (arith, e, f)

  one_longer : (n m k : ℕ) → n ≡ m + 1 → n + k ≡ m + k + 1
  one_longer n m k e = omega (arith, e)

  as_long : (m n k more : ℕ) → n ≡ k + more → m + n ≡ m + k + more
  as_long m n k more e = omega (arith, e)

  item_held : (l : LedgerValue) (i : Item) → IsOfDevice sc (device_of i) → IsDated i → held_by sc (given l i) ≡ held_by sc l + (if is_taken_new l i then 1 else 0)
  item_held l (item.Tap r) known dated =
      let new : put l.taken r.device (l.taken r.device ++ r ∷ []) r.device ≡ l.taken r.device ++ r ∷ [] = put_here l.taken r.device (l.taken r.device ++ r ∷ []) in
      sum_to 1 _ _ _ _
      (scheme_changed (λ d. length (l.taken d) + days_stated 100001 (l.stated d)) (λ d. length (put l.taken r.device (l.taken r.device ++ r ∷ []) d) + days_stated 100001 (l.stated d)) r.device (placed_station r.device known)
      (λ j e. ap (λ b. length (if b then l.taken r.device ++ r ∷ [] else l.taken j) + days_stated 100001 (l.stated j)) e))
      (one_longer _ _ _ (ap length new ∙ length-append (l.taken r.device) (r ∷ [])))
  item_held l (item.Stated v) known dated =
      let new : put l.stated v.device (put (l.stated v.device) v.day (Some v.count)) v.device ≡ put (l.stated v.device) v.day (Some v.count) = put_here l.stated v.device (put (l.stated v.device) v.day (Some v.count)) in
      sum_to _ _ _ _ _
      (scheme_changed (λ d. length (l.taken d) + days_stated 100001 (l.stated d)) (λ d. length (l.taken d) + days_stated 100001 (put l.stated v.device (put (l.stated v.device) v.day (Some v.count)) d)) v.device (placed_station v.device known)
      (λ j e. ap (λ b. length (l.taken j) + days_stated 100001 (if b then put (l.stated v.device) v.day (Some v.count) else l.stated j)) e))
      (as_long _ _ _ _ (ap (days_stated 100001) new ∙ days_put 100001 v.day v.count (l.stated v.device) (omega (arith, dated))))

  pub items_held : (l : LedgerValue) (items : List Item) → AllByRecursion (λ i. IsOfDevice sc (device_of i)) items → AllByRecursion IsDated items → held_by sc (given_all l items) ≡ held_by sc l + taken_new l items
  items_held l [] known dated = omega arith
  items_held l (i ∷ items) known dated = omega (arith, item_held l i known.0 dated.0, items_held (given l i) items known.1 dated.1)
