-- What the questions of the outbox find.
use Rattle.std.proofs.Common.{◌≡◌, ◌⊎◌, inl, inr, ℕ, suc, ◌==◌, nat_lt, nat_le, List, [], ◌∷◌, map, filter, length, true, Some, None, Ok, refl, sym, ap, subst, ◌∙◌, arith}
use Rattle.std.specs.List.{flat_map}
use Rattle.std.specs.List.Sorted.{IsPermutation}
use Rattle.std.proofs.lemmas.Bool.Decides.{nat_tests}
use Rattle.std.proofs.lemmas.List.{length-map}
use Rattle.sqlite.specs.declared.types.Value.TheVariants.{Null}
use Rattle.sqlite_value.specs.Order.{Row, column}
use Rattle.sqlite.specs.Tree.{Trees}
use Rattle.sqlite.specs.Query.{IsAnswer, Query, matches_as, end, output, page, Output}
use Rattle.sqlite.specs.Program.{overlay}
use Rattle.sqlite.specs.State.{State, QueriesRow, Shown}
use Rattle.sqlite.proofs.Callers.{first_as, reads_as, one_permutation}
use Rattle.fare_record.specs.Values.{RecordValue, StatementValue}
use Rattle.fare_tables.specs.Cells.{nat_in, int, id_of, AreRows, held, counted}
use Rattle.fare_tables.specs.Queries.{count_query}
use Rattle.fare_tables.proofs.Lists.{empty_permutation, of_filter}
use Rattle.fare_tables.proofs.Terms.{chosen, matched, eq_holds, gt_holds, ge_holds, one_term, three_terms}
use Rattle.fare_tables.proofs.Rows.{all_of, held_one}
use Rattle.fare_tables.proofs.Counting.{found, count_answer}
use Rattle.fare_tables.proofs.Least.{IsLeastOf, least_answer}
use Rattle.fare_opening.specs.Numbers.{Device, Stated}
use Rattle.fare_outbox_rows.specs.declared.layout.Layout.{Layout}
use Rattle.fare_outbox_rows.specs.Layouts.{schema_in, tree_in, ours, at_tree}
use Rattle.fare_opening.proofs.Asked.{asked_at}
use Rattle.fare_outbox_rows.proofs.Placed.{within}
use Rattle.fare_outbox_rows.specs.Making.{site_of}
use Rattle.fare_outbox_rows.specs.Statements.{Routed, outbox_parts}
use Rattle.fare_outbox_rows.specs.Tables.{link_query, row_terms, row_columns, row_query, day_terms, day_columns, day_query, seen_terms}
use Rattle.fare_outbox_rows.specs.Held.{device_row, IsDevice, upto_of, tap_cells, tap_of, IsTap, stated_cells, stated_of, IsStated, is_past, IsNext, is_from, IsNextStated, is_seen}
use Rattle.fare_outbox_rows.specs.Shown.{ShowsRow, ShowsStatement}
use Rattle.fare_outbox_rows.proofs.Texts.{link_text, link_meant, next_text, next_meant, next_day_text, next_day_meant, rows_text, rows_meant, statements_text, statements_meant, seen_text, seen_meant}

pub device_ids : (r : Row) → IsDevice r → column r 0 ≡ int (id_of r)
device_ids r ok = ap (λ x. column x 0) ok

-- ---- a table, wherever its tree is

pub at_device : (w : Layout) (q : Query) (db : Trees) (params : Row) (rows : List Row) → IsAnswer (at_tree (tree_in w Device) q) (overlay db []) params rows → IsAnswer (at_tree 1 q) (overlay (ours w db) []) params rows
unfolding ours
at_device w q db params rows = asked_at outbox_parts (site_of w) w.fits Device (within w Device refl) q 1 db (overlay (ours w db) []) params rows refl

pub at_tap : (w : Layout) (q : Query) (db : Trees) (params : Row) (rows : List Row) → IsAnswer (at_tree (tree_in w Routed) q) (overlay db []) params rows → IsAnswer (at_tree 7 q) (overlay (ours w db) []) params rows
unfolding ours
at_tap w q db params rows = asked_at outbox_parts (site_of w) w.fits Routed (within w Routed refl) q 7 db (overlay (ours w db) []) params rows refl

pub at_stated : (w : Layout) (q : Query) (db : Trees) (params : Row) (rows : List Row) → IsAnswer (at_tree (tree_in w Stated) q) (overlay db []) params rows → IsAnswer (at_tree 5 q) (overlay (ours w db) []) params rows
unfolding ours
at_stated w q db params rows = asked_at outbox_parts (site_of w) w.fits Stated (within w Stated refl) q 5 db (overlay (ours w db) []) params rows refl

-- ---- the greatest link of a device

link_cell : (id upto d : ℕ) → matches_as Null (λ _. []) link_query.filter end ((int d ∷ []) ∷ device_row id upto ∷ []) ≡ chosen (id == d) ((int d ∷ []) ∷ device_row id upto ∷ [])
link_cell id upto d = rw (eq_holds id d) (one_term (id == d) ((int d ∷ []) ∷ device_row id upto ∷ []))

link_each : (d : ℕ) (r : Row) → IsDevice r → matches_as Null (λ _. []) link_query.filter end ((int d ∷ []) ∷ r ∷ []) ≡ chosen (id_of r == d) ((int d ∷ []) ∷ r ∷ [])
link_each d r ok = subst (λ x. matches_as Null (λ _. []) link_query.filter end ((int d ∷ []) ∷ x ∷ []) ≡ chosen (id_of x == d) ((int d ∷ []) ∷ x ∷ [])) (sym ok) (link_cell (id_of r) (nat_in (column r 2)) d)

link_answer : (db : Trees) (d : ℕ) (rows : List Row) → AreRows IsDevice (db 1) → IsAnswer link_query (overlay db []) (int d ∷ []) rows
    → ((rows ≡ []) × (upto_of (held (db 1) d) ≡ 0)) ⊎ (rows ≡ (int (upto_of (held (db 1) d)) ∷ []) ∷ [])
link_answer db d rows ok a =
    let staged : a.staged ≡ map (λ r. (int d ∷ []) ∷ r ∷ []) (filter (λ r. id_of r == d) (db 1)) = a.grouped ∙ matched IsDevice (λ r. id_of r == d) (int d ∷ []) link_query.filter (link_each d) (db 1) (all_of IsDevice (db 1) ok) in
    let shown : (os : List Output) → a.ordered ≡ os → rows ≡ page link_query (int d ∷ []) (map (λ (p : Output). p.1) os) = λ os e. a.shown ∙ ap (λ xs. page link_query (int d ∷ []) (map (λ (p : Output). p.1) xs)) e in
    elim (held_one IsDevice device_ids (db 1) d ok) [
      | inl none ↦ (
          let kept : a.kept ≡ [] = a.distinct ∙ ap (map (output link_query)) (staged ∙ ap (map (λ r. (int d ∷ []) ∷ r ∷ [])) none.0) in
          inl (shown [] (empty_permutation a.ordered (subst (λ k. IsPermutation k a.ordered) kept a.same)), ap upto_of none.1))
      | inr one ↦ (
          let o : Output = ([], column one.0 2 ∷ []) in
          let kept : a.kept ≡ o ∷ [] = a.distinct ∙ ap (map (output link_query)) (staged ∙ ap (map (λ r. (int d ∷ []) ∷ r ∷ [])) one.2) in
          let value : column one.0 2 ≡ int (upto_of (held (db 1) d)) = ap (λ r. column r 2) one.1 ∙ ap (λ h. int (upto_of h)) (sym one.3) in
          inr (shown (o ∷ []) (one_permutation o a.ordered (subst (λ k. IsPermutation k a.ordered) kept a.same)) ∙ ap (λ v. (v ∷ []) ∷ []) value))
    ]

pub link_row : (w : Layout) (old new : State) (d : ℕ) (row : Row) → old.now.schema ≡ schema_in w → AreRows IsDevice (ours w old.now.trees 1) → QueriesRow link_text (int d ∷ []) old new (Ok row) → row ≡ int (upto_of (held (ours w old.now.trees 1) d)) ∷ []
link_row w old new d row has ok h =
    let got = (first_as link_text (int d ∷ []) old new (schema_in w) has _ (link_meant w).command_is (link_meant w).plain (link_meant w).unlisted row h).1 in
    let a : IsAnswer link_query (overlay (ours w old.now.trees) []) (int d ∷ []) (row ∷ got.0) = at_device w link_query old.now.trees (int d ∷ []) (row ∷ got.0) (got.1 Null) in
    elim (link_answer (ours w old.now.trees) d (row ∷ got.0) ok a) [
      | inl none ↦ absurd (let e = none.0 in cc)
      | inr one ↦ (let e = one in cc)
    ]

pub link_none : (w : Layout) (old new : State) (d : ℕ) → old.now.schema ≡ schema_in w → AreRows IsDevice (ours w old.now.trees 1) → Shown link_text (int d ∷ []) old new [] → upto_of (held (ours w old.now.trees 1) d) ≡ 0
link_none w old new d has ok shown =
    let read = reads_as link_text (int d ∷ []) old new (schema_in w) has _ (link_meant w).command_is (link_meant w).plain (link_meant w).unlisted [] shown in
    elim (link_answer (ours w old.now.trees) d [] ok (at_device w link_query old.now.trees (int d ∷ []) [] (read.answer Null))) [
      | inl none ↦ none.1
      | inr one ↦ absurd (let e = one in cc)
    ]

-- ---- the row of least lane number past one

abbrev pub asked : ℕ → ℕ → ℕ → Row
asked o d n = int o ∷ int d ∷ int n ∷ []

row_cell : (id : ℕ) (t : RecordValue) (o d n : ℕ) → matches_as Null (λ _. []) row_terms end (asked o d n ∷ (int id ∷ tap_cells t) ∷ []) ≡ chosen (is_past o d n t) (asked o d n ∷ (int id ∷ tap_cells t) ∷ [])
row_cell id t o d n = rw (eq_holds t.owner o, eq_holds t.device d, gt_holds t.lane n) (three_terms (t.owner == o) (t.device == d) (nat_lt n t.lane) (asked o d n ∷ (int id ∷ tap_cells t) ∷ []))

row_each : (o d n : ℕ) (r : Row) → IsTap r → matches_as Null (λ _. []) row_terms end (asked o d n ∷ r ∷ []) ≡ chosen (is_past o d n (tap_of r)) (asked o d n ∷ r ∷ [])
row_each o d n r ok = subst (λ x. matches_as Null (λ _. []) row_terms end (asked o d n ∷ x ∷ []) ≡ chosen (is_past o d n (tap_of x)) (asked o d n ∷ x ∷ [])) (sym ok) (row_cell (id_of r) (tap_of r) o d n)

abbrev pub lane_of : RecordValue → ℕ
lane_of t = t.lane

abbrev pub row_shown : RecordValue → Row
row_shown t = int t.lane ∷ int t.link ∷ int t.tap.product ∷ int t.tap.token ∷ int t.tap.moment ∷ int t.tap.day ∷ int t.tap.route ∷ []

row_out : (o d n : ℕ) (r : Row) → IsTap r → output row_query (asked o d n ∷ r ∷ []) ≡ (int (lane_of (tap_of r)) ∷ [], row_shown (tap_of r))
row_out o d n r ok = subst (λ x. output row_query (asked o d n ∷ x ∷ []) ≡ (int (lane_of (tap_of x)) ∷ [], row_shown (tap_of x))) (sym ok) refl

row_answer : (db : Trees) (o d n : ℕ) (rows : List Row) → AreRows IsTap (db 7) → IsAnswer row_query (overlay db []) (asked o d n) rows
    → ((rows ≡ []) × (filter (is_past o d n) (map tap_of (db 7)) ≡ [])) ⊎ IsLeastOf (is_past o d n) lane_of row_shown (map tap_of (db 7)) rows
row_answer db o d n rows ok a =
    let all = all_of IsTap (db 7) ok in
    least_answer 7 row_terms row_columns 3 (is_past o d n) lane_of row_shown (asked o d n) tap_of IsTap (overlay db []) (db 7) rows (row_out o d n) all
    (matched IsTap (λ r. is_past o d n (tap_of r)) (asked o d n) row_terms (row_each o d n) (db 7) all) a

-- the row that is shown has this lane
past_lane : (o d n : ℕ) (t : RecordValue) → is_past o d n t ≡ true → (t.owner ≡ o) × (t.device ≡ d)
past_lane o d n t h = grind (arith, nat_tests)

same_tap : (o d n : ℕ) (t u : RecordValue) (row : Row) → ShowsRow row o d u → is_past o d n t ≡ true → row ≡ row_shown t → t ≡ u
same_tap o d n t u row shows past is =
    let lane = past_lane o d n t past in
    let at : (k : ℕ) → column (row_shown t) k ≡ column row k = λ k. ap (λ r. column r k) (sym is) in
    λ i. record {
      device = (lane.1 ∙ sym shows.device_is) i;
      link = ap nat_in (at 1 ∙ shows.link) i;
      owner = (lane.0 ∙ sym shows.owner_is) i;
      lane = ap nat_in (at 0 ∙ shows.lane) i;
      tap = record {
        product = ap nat_in (at 2 ∙ shows.tap.product) i;
        token = ap nat_in (at 3 ∙ shows.tap.token) i;
        moment = ap nat_in (at 4 ∙ shows.tap.moment) i;
        day = ap nat_in (at 5 ∙ shows.tap.day) i;
        route = ap nat_in (at 6 ∙ shows.tap.route) i;
      };
    }

pub next_row : (w : Layout) (old new : State) (o d n : ℕ) (t : RecordValue) (row : Row) → ShowsRow row o d t → old.now.schema ≡ schema_in w → AreRows IsTap (ours w old.now.trees 7)
    → QueriesRow next_text (asked o d n) old new (Ok row) → IsNext (map tap_of (ours w old.now.trees 7)) o d n (Some t)
next_row w old new o d n t row shows has ok h =
    let got = (first_as next_text (asked o d n) old new (schema_in w) has _ (next_meant w).command_is (next_meant w).plain (next_meant w).unlisted row h).1 in
    let a : IsAnswer row_query (overlay (ours w old.now.trees) []) (asked o d n) (row ∷ got.0) = at_tap w row_query old.now.trees (asked o d n) (row ∷ got.0) (got.1 Null) in
    elim (row_answer (ours w old.now.trees) o d n (row ∷ got.0) ok a) [
      | inl none ↦ absurd (let e = none.0 in cc)
      | inr it ↦ (
          let first : row ≡ row_shown it.one = let e = it.is in cc in
          let past = (of_filter (is_past o d n) (map tap_of (ours w old.now.trees 7)) it.one it.has).1 in
          subst (λ u. IsNext (map tap_of (ours w old.now.trees 7)) o d n (Some u)) (same_tap o d n it.one t row shows past first) (it.has, it.least))
    ]

pub next_none : (w : Layout) (old new : State) (o d n : ℕ) → old.now.schema ≡ schema_in w → AreRows IsTap (ours w old.now.trees 7) → Shown next_text (asked o d n) old new [] → IsNext (map tap_of (ours w old.now.trees 7)) o d n None
next_none w old new o d n has ok shown =
    let read = reads_as next_text (asked o d n) old new (schema_in w) has _ (next_meant w).command_is (next_meant w).plain (next_meant w).unlisted [] shown in
    elim (row_answer (ours w old.now.trees) o d n [] ok (at_tap w row_query old.now.trees (asked o d n) [] (read.answer Null))) [
      | inl none ↦ none.1
      | inr it ↦ absurd (let e = it.is in cc)
    ]

-- ---- the statement of least day from one on

day_cell : (id : ℕ) (s : StatementValue) (o d n : ℕ) → matches_as Null (λ _. []) day_terms end (asked o d n ∷ (int id ∷ stated_cells s) ∷ []) ≡ chosen (is_from o d n s) (asked o d n ∷ (int id ∷ stated_cells s) ∷ [])
day_cell id s o d n = rw (eq_holds s.owner o, eq_holds s.device d, ge_holds s.day n) (three_terms (s.owner == o) (s.device == d) (nat_le n s.day) (asked o d n ∷ (int id ∷ stated_cells s) ∷ []))

day_each : (o d n : ℕ) (r : Row) → IsStated r → matches_as Null (λ _. []) day_terms end (asked o d n ∷ r ∷ []) ≡ chosen (is_from o d n (stated_of r)) (asked o d n ∷ r ∷ [])
day_each o d n r ok = subst (λ x. matches_as Null (λ _. []) day_terms end (asked o d n ∷ x ∷ []) ≡ chosen (is_from o d n (stated_of x)) (asked o d n ∷ x ∷ [])) (sym ok) (day_cell (id_of r) (stated_of r) o d n)

abbrev pub day_of : StatementValue → ℕ
day_of s = s.day

abbrev pub day_shown : StatementValue → Row
day_shown s = int s.day ∷ int s.count ∷ []

day_out : (o d n : ℕ) (r : Row) → IsStated r → output day_query (asked o d n ∷ r ∷ []) ≡ (int (day_of (stated_of r)) ∷ [], day_shown (stated_of r))
day_out o d n r ok = subst (λ x. output day_query (asked o d n ∷ x ∷ []) ≡ (int (day_of (stated_of x)) ∷ [], day_shown (stated_of x))) (sym ok) refl

day_answer : (db : Trees) (o d n : ℕ) (rows : List Row) → AreRows IsStated (db 5) → IsAnswer day_query (overlay db []) (asked o d n) rows
    → ((rows ≡ []) × (filter (is_from o d n) (map stated_of (db 5)) ≡ [])) ⊎ IsLeastOf (is_from o d n) day_of day_shown (map stated_of (db 5)) rows
day_answer db o d n rows ok a =
    let all = all_of IsStated (db 5) ok in
    least_answer 5 day_terms day_columns 3 (is_from o d n) day_of day_shown (asked o d n) stated_of IsStated (overlay db []) (db 5) rows (day_out o d n) all
    (matched IsStated (λ r. is_from o d n (stated_of r)) (asked o d n) day_terms (day_each o d n) (db 5) all) a

from_day : (o d n : ℕ) (s : StatementValue) → is_from o d n s ≡ true → (s.owner ≡ o) × (s.device ≡ d)
from_day o d n s h = grind (arith, nat_tests)

same_statement : (o d n : ℕ) (s u : StatementValue) (row : Row) → ShowsStatement row o d u → is_from o d n s ≡ true → row ≡ day_shown s → s ≡ u
same_statement o d n s u row shows from is =
    let lane = from_day o d n s from in
    let at : (k : ℕ) → column (day_shown s) k ≡ column row k = λ k. ap (λ r. column r k) (sym is) in
    λ i. record {
      device = (lane.1 ∙ sym shows.device_is) i;
      day = ap nat_in (at 0 ∙ shows.day) i;
      owner = (lane.0 ∙ sym shows.owner_is) i;
      count = ap nat_in (at 1 ∙ shows.count) i;
    }

pub next_day_row : (w : Layout) (old new : State) (o d n : ℕ) (s : StatementValue) (row : Row) → ShowsStatement row o d s → old.now.schema ≡ schema_in w → AreRows IsStated (ours w old.now.trees 5)
    → QueriesRow next_day_text (asked o d n) old new (Ok row) → IsNextStated (map stated_of (ours w old.now.trees 5)) o d n (Some s)
next_day_row w old new o d n s row shows has ok h =
    let got = (first_as next_day_text (asked o d n) old new (schema_in w) has _ (next_day_meant w).command_is (next_day_meant w).plain (next_day_meant w).unlisted row h).1 in
    let a : IsAnswer day_query (overlay (ours w old.now.trees) []) (asked o d n) (row ∷ got.0) = at_stated w day_query old.now.trees (asked o d n) (row ∷ got.0) (got.1 Null) in
    elim (day_answer (ours w old.now.trees) o d n (row ∷ got.0) ok a) [
      | inl none ↦ absurd (let e = none.0 in cc)
      | inr it ↦ (
          let first : row ≡ day_shown it.one = let e = it.is in cc in
          let from = (of_filter (is_from o d n) (map stated_of (ours w old.now.trees 5)) it.one it.has).1 in
          subst (λ u. IsNextStated (map stated_of (ours w old.now.trees 5)) o d n (Some u)) (same_statement o d n it.one s row shows from first) (it.has, it.least))
    ]

pub next_day_none : (w : Layout) (old new : State) (o d n : ℕ) → old.now.schema ≡ schema_in w → AreRows IsStated (ours w old.now.trees 5) → Shown next_day_text (asked o d n) old new [] → IsNextStated (map stated_of (ours w old.now.trees 5)) o d n None
next_day_none w old new o d n has ok shown =
    let read = reads_as next_day_text (asked o d n) old new (schema_in w) has _ (next_day_meant w).command_is (next_day_meant w).plain (next_day_meant w).unlisted [] shown in
    elim (day_answer (ours w old.now.trees) o d n [] ok (at_stated w day_query old.now.trees (asked o d n) [] (read.answer Null))) [
      | inl none ↦ none.1
      | inr it ↦ absurd (let e = it.is in cc)
    ]

-- ---- counts

-- with no condition each row counts
all_found : (rows : List Row) → length (flat_map (λ r. matches_as Null (λ _. []) [] end ([] ∷ r ∷ [])) rows) ≡ length rows
all_found [] = refl
all_found (r ∷ rows) = ap (λ n. suc n) (all_found rows)

pub rows_counted : (w : Layout) (old new : State) (row : Row) → old.now.schema ≡ schema_in w → QueriesRow rows_text [] old new (Ok row) → row ≡ int (counted (length (map tap_of (ours w old.now.trees 7)))) ∷ []
rows_counted w old new row has h =
    let got = (first_as rows_text [] old new (schema_in w) has _ (rows_meant w).command_is (rows_meant w).plain (rows_meant w).unlisted row h).1 in
    let a : IsAnswer (count_query 7 []) (overlay (ours w old.now.trees) []) [] (row ∷ got.0) = at_tap w (count_query 7 []) old.now.trees [] (row ∷ got.0) (got.1 Null) in
    let rows = count_answer 7 [] (overlay (ours w old.now.trees) []) [] (row ∷ got.0) a in
    let first : row ≡ int (counted (length (found 7 [] (overlay (ours w old.now.trees) []) []))) ∷ [] = cc in
    first ∙ ap (λ n. int (counted n) ∷ []) (all_found (ours w old.now.trees 7) ∙ sym (length-map (ours w old.now.trees 7) tap_of))

pub statements_counted : (w : Layout) (old new : State) (row : Row) → old.now.schema ≡ schema_in w → QueriesRow statements_text [] old new (Ok row) → row ≡ int (counted (length (map stated_of (ours w old.now.trees 5)))) ∷ []
statements_counted w old new row has h =
    let got = (first_as statements_text [] old new (schema_in w) has _ (statements_meant w).command_is (statements_meant w).plain (statements_meant w).unlisted row h).1 in
    let a : IsAnswer (count_query 5 []) (overlay (ours w old.now.trees) []) [] (row ∷ got.0) = at_stated w (count_query 5 []) old.now.trees [] (row ∷ got.0) (got.1 Null) in
    let rows = count_answer 5 [] (overlay (ours w old.now.trees) []) [] (row ∷ got.0) a in
    let first : row ≡ int (counted (length (found 5 [] (overlay (ours w old.now.trees) []) []))) ∷ [] = cc in
    first ∙ ap (λ n. int (counted n) ∷ []) (all_found (ours w old.now.trees 5) ∙ sym (length-map (ours w old.now.trees 5) stated_of))

seen_cell : (id upto : ℕ) → matches_as Null (λ _. []) seen_terms end ([] ∷ device_row id upto ∷ []) ≡ chosen (nat_lt 0 upto) ([] ∷ device_row id upto ∷ [])
seen_cell id upto = rw (gt_holds upto 0) (one_term (nat_lt 0 upto) ([] ∷ device_row id upto ∷ []))

seen_each : (r : Row) → IsDevice r → matches_as Null (λ _. []) seen_terms end ([] ∷ r ∷ []) ≡ chosen (is_seen r) ([] ∷ r ∷ [])
seen_each r ok = subst (λ x. matches_as Null (λ _. []) seen_terms end ([] ∷ x ∷ []) ≡ chosen (is_seen x) ([] ∷ x ∷ [])) (sym ok) (seen_cell (id_of r) (nat_in (column r 2)))

pub seen_counted : (w : Layout) (old new : State) (row : Row) → old.now.schema ≡ schema_in w → AreRows IsDevice (ours w old.now.trees 1) → QueriesRow seen_text [] old new (Ok row) → row ≡ int (counted (length (filter is_seen (ours w old.now.trees 1)))) ∷ []
seen_counted w old new row has ok h =
    let got = (first_as seen_text [] old new (schema_in w) has _ (seen_meant w).command_is (seen_meant w).plain (seen_meant w).unlisted row h).1 in
    let a : IsAnswer (count_query 1 seen_terms) (overlay (ours w old.now.trees) []) [] (row ∷ got.0) = at_device w (count_query 1 seen_terms) old.now.trees [] (row ∷ got.0) (got.1 Null) in
    let rows = count_answer 1 seen_terms (overlay (ours w old.now.trees) []) [] (row ∷ got.0) a in
    let first : row ≡ int (counted (length (found 1 seen_terms (overlay (ours w old.now.trees) []) []))) ∷ [] = cc in
    let all = matched IsDevice is_seen [] seen_terms seen_each (ours w old.now.trees 1) (all_of IsDevice (ours w old.now.trees 1) ok) in
    first ∙ ap (λ n. int (counted n) ∷ []) (ap length all ∙ length-map (filter is_seen (ours w old.now.trees 1)) (λ r. [] ∷ r ∷ []))
