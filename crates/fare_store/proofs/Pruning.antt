-- The rows of a lane go up to a lane number, from the oldest on.
use Rattle.std.proofs.Common.{◌≡◌, ℕ, zero, suc, ◌+◌, ◌-◌, ◌<◌, ◌≤◌, ◌==◌, Bool, true, false, List, [], ◌∷◌, ◌++◌, length, Option, Some, None, is_some, refl, sym, ◌∙◌, ap, cond, arith}
use Rattle.std.specs.Prelude.{nat_le, if◌then◌else◌, slice_get, IsSome, IfSome}
use Rattle.std.specs.BTreeMap as tree
use Rattle.std.specs.Ordering.{is_eq, is_lt}
use Rattle.std.specs.Map.{lookup}
use Rattle.std.proofs.lemmas.Bool.Decides.{nat_tests}
use Rattle.fare_record.specs.Values.{RecordValue}
use Rattle.fare_store.specs.Tables.{put, put2}
use Rattle.fare_store.specs.Falling.{falling}
use Rattle.fare_store.specs.Keys.{same_lane}
use Rattle.fare_store.specs.PlacedRows.{row_in, rows_in}
use Rattle.fare_store.specs.OutboxWords.{OutboxValue, behind, rows_upto, pruned, pruned_all}
use Rattle.fare_store.proofs.Lanes.{Rows, Lanes, lane_put, put_same, row_put}

abbrev Lane : Type 0
Lane = ℕ → Option RecordValue

-- NONE UP TO A LANE NUMBER
abbrev NoneUpto : ℕ → Lane → Type 0
NoneUpto upto lane = (l : ℕ) → l ≤ upto → lane l ≡ None

pub count_none : (upto : ℕ) (lane : Lane) → NoneUpto upto lane → rows_upto upto lane ≡ 0
count_none zero lane none = ap (λ o. if is_some o then 1 else 0) (none zero (omega arith))
count_none (suc n) lane none = λ i. count_none n lane (λ l h. none l (omega (arith, h))) i + (if is_some (none (suc n) (omega arith) i) then 1 else 0)

behind_none : (upto : ℕ) (lane : Lane) → NoneUpto upto lane → (l : ℕ) → lane l ≡ behind upto lane l
behind_none upto lane none l = by (nat_le l upto) refl
  where
    by : (t : Bool) → nat_le l upto ≡ t → lane l ≡ (if t then None else lane l)
    by true h = none l (grind (arith, nat_tests))
    by false h = refl

-- ONE GOES
-- up to before the row that goes
count_before : (upto k : ℕ) (was is : Lane) → upto < k → ((l : ℕ) → is l ≡ put was k None l) → rows_upto upto is ≡ rows_upto upto was
count_before zero k was is h went = ap (λ o. if is_some o then 1 else 0) (went 0 ∙ ap (λ t. if t then None else was 0) {x = 0 == k} {y = false} (grind (arith, nat_tests)))
count_before (suc n) k was is h went =
    let here : is (suc n) ≡ was (suc n) = went (suc n) ∙ ap (λ t. if t then None else was (suc n)) {x = suc n == k} {y = false} (grind (arith, nat_tests)) in
    λ i. count_before n k was is (omega (arith, h)) went i + (if is_some (here i) then 1 else 0)

-- one that goes was counted
count_less : (upto k : ℕ) (was is : Lane) → k ≤ upto → is_some (was k) ≡ true → ((l : ℕ) → is l ≡ put was k None l) → rows_upto upto is + 1 ≡ rows_upto upto was
count_less zero k was is h held went =
    let at : k ≡ 0 = omega (arith, h) in
    let gone : is 0 ≡ None = went 0 ∙ ap (λ t. if t then None else was 0) {x = 0 == k} {y = true} (grind (arith, nat_tests)) in
    let had : is_some (was 0) ≡ true = ap (λ l. is_some (was l)) (sym at) ∙ held in
    (λ i. (if is_some (gone i) then 1 else 0) + 1) ∙ sym (ap (λ t. if t then 1 else 0) had)
count_less (suc n) k was is h held went = by (nat_le k n) refl (λ below. count_less n k was is below held went)
  where
    one : Bool → ℕ
    one t = if t then 1 else 0

    by : (t : Bool) → nat_le k n ≡ t → (k ≤ n → rows_upto n is + 1 ≡ rows_upto n was) → rows_upto (suc n) is + 1 ≡ rows_upto (suc n) was
    by true p before =
        let below : k ≤ n = grind (arith, nat_tests) in
        let here : is (suc n) ≡ was (suc n) = went (suc n) ∙ ap (λ t. if t then None else was (suc n)) {x = suc n == k} {y = false} (grind (arith, nat_tests)) in
        let rest : rows_upto n is + 1 ≡ rows_upto n was = before below in
        let last : one (is_some (is (suc n))) ≡ one (is_some (was (suc n))) = ap (λ o. one (is_some o)) here in
        omega (arith, rest, last)
    by false p before =
        let at : k ≡ suc n = grind (arith, nat_tests) in
        let gone : is (suc n) ≡ None = went (suc n) ∙ ap (λ t. if t then None else was (suc n)) {x = suc n == k} {y = true} (grind (arith, nat_tests)) in
        let rest : rows_upto n is ≡ rows_upto n was = count_before n k was is (omega (arith, at)) went in
        let none : one (is_some (is (suc n))) ≡ 0 = ap (λ o. one (is_some o)) gone in
        let had : one (is_some (was (suc n))) ≡ 1 = ap one (ap (λ l. is_some (was l)) (sym at) ∙ held) in
        omega (arith, rest, none, had)

behind_less : (upto k : ℕ) (was is : Lane) → k ≤ upto → ((l : ℕ) → is l ≡ put was k None l) → (l : ℕ) → behind upto is l ≡ behind upto was l
behind_less upto k was is h went l = by (nat_le l upto) refl
  where
    by : (t : Bool) → nat_le l upto ≡ t → (if t then None else is l) ≡ (if t then None else was l)
    by true p = refl
    by false p = went l ∙ ap (λ t. if t then None else was l) {x = l == k} {y = false} (grind (arith, nat_tests))

-- SO FAR
-- of the rows of a lane that stand up to a lane number some went, and no others
pub record AreGoing (upto : ℕ) (was is : Lane) (before len : ℕ) : Type 0 where
  pub left : (l : ℕ) → behind upto is l ≡ behind upto was l
  pub count : before + rows_upto upto is ≡ len + rows_upto upto was

-- the row at the end was taken out
at_end : {X : Type 0} (xs : List X) (x : X) (n : ℕ) → n ≡ length xs → slice_get (xs ++ x ∷ []) n ≡ Some x
at_end [] x zero is = refl
at_end [] x (suc n) is = absurd (omega (arith, is))
at_end (y ∷ ys) x zero is = absurd (omega (arith, is))
at_end (y ∷ ys) x (suc n) is = at_end ys x n (omega (arith, is))

pub back_out : (old new : tree.BTreeMap ℕ RecordValue) (k : ℕ) (r : RecordValue) (out : Option (ℕ × RecordValue)) → slice_get old.entries (tree.btree_map_len old - 1) ≡ Some (k, r) → IsSome out → IfSome out (λ p. old.entries ≡ new.entries ++ p ∷ []) → tree.btree_map_len new + 1 ≡ tree.btree_map_len old → IfSome out (λ p. tree.Updates falling old new p.0 None)
    → (q : ℕ) → tree.get falling new q ≡ cond (is_eq (falling k q)) None (tree.get falling old q)
back_out old new k r None last some removal fewer updates = absurd (cc)
back_out old new k r (Some p) last some removal fewer updates =
    let place : tree.btree_map_len old - 1 ≡ length new.entries = omega (arith, fewer) in
    let back : ◌≡◌ {A = Option (ℕ × RecordValue)} (Some p) (Some (k, r)) = sym (at_end new.entries p (tree.btree_map_len old - 1) place) ∙ sym (ap (λ es. slice_get es (tree.btree_map_len old - 1)) removal) ∙ last in
    let same : p ≡ (k, r) = cc in
    λ q. updates.0 q ∙ ap (λ (e : ℕ × RecordValue). cond (is_eq (falling e.0 q)) None (tree.get falling old q)) same

-- the oldest goes
pub one_gone : (upto : ℕ) (was : Lane) (before : ℕ) (old new : tree.BTreeMap ℕ RecordValue) (k : ℕ) → AreGoing upto was (tree.get falling old) before (tree.btree_map_len old) → k ≤ upto → is_some (tree.get falling old k) ≡ true
    → ((q : ℕ) → tree.get falling new q ≡ cond (is_eq (falling k q)) None (tree.get falling old q)) → tree.btree_map_len new + 1 ≡ tree.btree_map_len old → AreGoing upto was (tree.get falling new) before (tree.btree_map_len new)
one_gone upto was before old new k so h held writes fewer =
    let went : (l : ℕ) → tree.get falling new l ≡ put (tree.get falling old) k None l = row_put k None old new writes in
    record {
      left = λ l. behind_less upto k (tree.get falling old) (tree.get falling new) h went l ∙ so.left l;
      count = let less : rows_upto upto (tree.get falling new) + 1 ≡ rows_upto upto (tree.get falling old) = count_less upto k (tree.get falling old) (tree.get falling new) h held went in omega (arith, so.count, less, fewer);
    }

-- ALL WENT
-- where none is left up to the lane number, all went
pub record AllGone (upto : ℕ) (was is : Lane) (before len : ℕ) : Type 0 where
  pub left : (l : ℕ) → is l ≡ behind upto was l
  pub count : len + rows_upto upto was ≡ before

all_gone : (upto : ℕ) (was is : Lane) (before len : ℕ) → AreGoing upto was is before len → NoneUpto upto is → AllGone upto was is before len
all_gone upto was is before len so none = record {
  left = λ l. behind_none upto is none l ∙ so.left l;
  count = let zero_here : rows_upto upto is ≡ 0 = count_none upto is none in omega (arith, so.count, zero_here);
}

-- the lane is empty
pub gone_empty : (upto : ℕ) (was : Lane) (before : ℕ) (rows : tree.BTreeMap ℕ RecordValue) → AreGoing upto was (tree.get falling rows) before (tree.btree_map_len rows) → tree.btree_map_len rows ≡ 0 → AllGone upto was (tree.get falling rows) before (tree.btree_map_len rows)
gone_empty upto was before rows so empty = all_gone upto was (tree.get falling rows) before (tree.btree_map_len rows) so (λ l h. none rows.entries empty l)
  where
    none : (es : List (ℕ × RecordValue)) → length es ≡ 0 → (l : ℕ) → lookup (λ k. is_eq (falling l k)) es ≡ None
    none [] e l = refl
    none (x ∷ xs) e l = absurd (cc)

-- the oldest that is left stands behind the lane number
pub gone_past : (upto : ℕ) (was : Lane) (before : ℕ) (rows : tree.BTreeMap ℕ RecordValue) (oldest : ℕ) → AreGoing upto was (tree.get falling rows) before (tree.btree_map_len rows) → upto < oldest → tree.IsUpperBound falling rows oldest → AllGone upto was (tree.get falling rows) before (tree.btree_map_len rows)
gone_past upto was before rows oldest so past last = all_gone upto was (tree.get falling rows) before (tree.btree_map_len rows) so (λ l h. none l h (tree.get falling rows l) refl)
  where
    none : (l : ℕ) → l ≤ upto → (o : Option RecordValue) → tree.get falling rows l ≡ o → tree.get falling rows l ≡ None
    none l h None is = is
    none l h (Some r) is = let from : is_lt (falling oldest l) ≡ false = last l (ap is_some is) in absurd (grind (arith, nat_tests))

-- AN OWNER'S LANE OF A DEVICE
-- it has no row
pub nothing_behind : (a b upto : ℕ) (rows : Rows) → ((l : ℕ) → rows a b l ≡ None) → (x y z : ℕ) → rows x y z ≡ put2 rows a b (behind upto (rows a b)) x y z
nothing_behind a b upto rows none x y z = ap (λ f. f z) (sym (put_same rows a b x y)) ∙ (λ i. put2 rows a b (λ l. behind_none upto (rows a b) (λ m h. none m) l i) x y z)

-- its rows went up to a lane number
pub lane_behind : (a b upto : ℕ) (was is : tree.BTreeMap ℕ RecordValue) (old new : Lanes) → old (a, b) ≡ Some was → ((l : ℕ) → tree.get falling is l ≡ behind upto (tree.get falling was) l) → ((q : ℕ × ℕ) → new q ≡ cond (same_lane (a, b) q) (Some is) (old q))
    → (x y z : ℕ) → rows_in new x y z ≡ put2 (rows_in old) a b (behind upto (rows_in old a b)) x y z
lane_behind a b upto was is old new there left writes = lane_put a b is (behind upto (rows_in old a b)) old new (λ l. left l ∙ ap (λ o. behind upto (row_in o) l) (sym there)) writes

pub pruned_all-push : (owner : ℕ) (lanes : List (ℕ × ℕ)) (lane : ℕ × ℕ) (v : OutboxValue) → pruned_all owner (lanes ++ lane ∷ []) v ≡ pruned owner lane.0 lane.1 (pruned_all owner lanes v)
pruned_all-push owner [] lane v = refl
pruned_all-push owner (first ∷ lanes) lane v = pruned_all-push owner lanes lane (pruned owner first.0 first.1 v)
