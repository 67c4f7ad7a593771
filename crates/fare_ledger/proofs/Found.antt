-- What the questions of a ledger find.
use Rattle.std.proofs.Common.{◌≡◌, ◌⊎◌, inl, inr, ℕ, suc, pos, ◌==◌, ◌||◌, nat_lt, Bool, true, false, List, [], ◌∷◌, map, filter, length, Option, Some, None, Ok, Err, Result, IfOk, refl, sym, ap, subst, ◌∙◌, arith}
use Rattle.std.specs.Prelude.{is_some, not}
use Rattle.std.specs.List.{AllByRecursion, flat_map}
use Rattle.std.specs.List.Sorted.{IsPermutation}
use Rattle.std.proofs.lemmas.Bool.{cases_Bool}
use Rattle.std.proofs.lemmas.Bool.Decides.{nat_tests}
use Rattle.std.proofs.lemmas.List.{length-map}
use Rattle.sqlite.specs.declared.types.Value.TheVariants.{Null}
use Rattle.sqlite_value.specs.Order.{Row, column}
use Rattle.sqlite.specs.Tree.{Trees}
use Rattle.sqlite.specs.Ops.{binary, is_true, from_truth}
use Rattle.sqlite_sql.specs.declared.ops.BinaryOp.TheVariants as by
use Rattle.sqlite_sql.specs.declared.ops.CompareOp.TheVariants as cmp
use Rattle.sqlite.specs.Collation.TheVariants.{Binary}
use Rattle.std.specs.Ordering.{is_gt, int_cmp}
use Rattle.sqlite_value.proofs.OrderLemmas.{value_cmp-Int}
use Rattle.sqlite.specs.Query.{IsAnswer, Query, matches_as, end, output, page, Output}
use Rattle.sqlite.specs.Program.{overlay}
use Rattle.sqlite.specs.State.{State, QueriesRow, Shown}
use Rattle.sqlite.proofs.Callers.{first_as, reads_as, one_permutation}
use Rattle.fare_tables.specs.Cells.{nat_in, int, id_of, AreRows, held, counted}
use Rattle.fare_tables.specs.Queries.{count_query}
use Rattle.fare_tables.proofs.Lists.{empty_permutation, filter_of_map}
use Rattle.fare_tables.proofs.Terms.{chosen, matched, eq_holds, one_term, two_terms}
use Rattle.fare_tables.proofs.Rows.{all_of, held_one}
use Rattle.fare_tables.proofs.Counting.{found, count_answer}
use Rattle.fare_ledger.specs.declared.lane.Lane.{Lane}
use Rattle.fare_opening.specs.Numbers as kind
use Rattle.fare_ledger.specs.declared.layout.Layout.{Layout}
use Rattle.fare_ledger.specs.Layouts.{schema_in, tree_in, ours, at_tree}
use Rattle.fare_opening.proofs.Asked.{asked_at}
use Rattle.fare_ledger.proofs.Placed.{within}
use Rattle.fare_ledger.specs.Making.{site_of}
use Rattle.fare_ledger.specs.Statements.{Retired, Routed, Since, ledger_parts}
use Rattle.fare_ledger.specs.Tables.{lane_query, stated_terms, stated_query, day_terms, begun_terms, retired_terms, since_query, later_terms}
use Rattle.fare_ledger.specs.Held.{TapRow, StatedRow, lane_row, IsLane, lane_of, tap_cells, tap_of, IsTap, stated_cells, stated_of, IsStated, is_of, stated_in, is_on, is_begun, retired_row, IsRetired, since_row, IsSince, since_of, is_later}
use Rattle.fare_ledger.specs.Words.{AreApart}
use Rattle.fare_ledger.proofs.Texts.{lane_text, lane_meant, stated_text, stated_meant, day_text, day_meant, begun_text, begun_meant, later_text, later_meant, since_text, since_meant, statements_text, statements_meant, retired_text, retired_meant, all_retired_text, all_retired_meant}

pub lane_ids : (r : Row) → IsLane r → column r 0 ≡ int (id_of r)
lane_ids r ok = ap (λ x. column x 0) ok

-- ---- a table, wherever its tree is

pub at_lane : (w : Layout) (q : Query) (db : Trees) (params : Row) (rows : List Row) → IsAnswer (at_tree (tree_in w kind.Device) q) (overlay db []) params rows → IsAnswer (at_tree 1 q) (overlay (ours w db) []) params rows
unfolding ours
at_lane w q db params rows = asked_at ledger_parts (site_of w) w.fits kind.Device (within w kind.Device refl) q 1 db (overlay (ours w db) []) params rows refl

pub at_tap : (w : Layout) (q : Query) (db : Trees) (params : Row) (rows : List Row) → IsAnswer (at_tree (tree_in w Routed) q) (overlay db []) params rows → IsAnswer (at_tree 7 q) (overlay (ours w db) []) params rows
unfolding ours
at_tap w q db params rows = asked_at ledger_parts (site_of w) w.fits Routed (within w Routed refl) q 7 db (overlay (ours w db) []) params rows refl

pub at_stated : (w : Layout) (q : Query) (db : Trees) (params : Row) (rows : List Row) → IsAnswer (at_tree (tree_in w kind.Stated) q) (overlay db []) params rows → IsAnswer (at_tree 4 q) (overlay (ours w db) []) params rows
unfolding ours
at_stated w q db params rows = asked_at ledger_parts (site_of w) w.fits kind.Stated (within w kind.Stated refl) q 4 db (overlay (ours w db) []) params rows refl

pub at_retired : (w : Layout) (q : Query) (db : Trees) (params : Row) (rows : List Row) → IsAnswer (at_tree (tree_in w Retired) q) (overlay db []) params rows → IsAnswer (at_tree 6 q) (overlay (ours w db) []) params rows
unfolding ours
at_retired w q db params rows = asked_at ledger_parts (site_of w) w.fits Retired (within w Retired refl) q 6 db (overlay (ours w db) []) params rows refl

pub at_since : (w : Layout) (q : Query) (db : Trees) (params : Row) (rows : List Row) → IsAnswer (at_tree (tree_in w Since) q) (overlay db []) params rows → IsAnswer (at_tree 9 q) (overlay (ours w db) []) params rows
unfolding ours
at_since w q db params rows = asked_at ledger_parts (site_of w) w.fits Since (within w Since refl) q 9 db (overlay (ours w db) []) params rows refl

-- ---- the numbers of a device

lane_cell : (id k c d : ℕ) → matches_as Null (λ _. []) lane_query.filter end ((int d ∷ []) ∷ lane_row id k c ∷ []) ≡ chosen (id == d) ((int d ∷ []) ∷ lane_row id k c ∷ [])
lane_cell id k c d = rw (eq_holds id d) (one_term (id == d) ((int d ∷ []) ∷ lane_row id k c ∷ []))

lane_each : (d : ℕ) (r : Row) → IsLane r → matches_as Null (λ _. []) lane_query.filter end ((int d ∷ []) ∷ r ∷ []) ≡ chosen (id_of r == d) ((int d ∷ []) ∷ r ∷ [])
lane_each d r ok = subst (λ x. matches_as Null (λ _. []) lane_query.filter end ((int d ∷ []) ∷ x ∷ []) ≡ chosen (id_of x == d) ((int d ∷ []) ∷ x ∷ [])) (sym ok) (lane_cell (id_of r) (nat_in (column r 2)) (nat_in (column r 3)) d)

-- the two numbers in a row
abbrev pub shown_lane : Lane → Row
shown_lane lane = int lane.taken ∷ int lane.closed ∷ []

lane_answer : (db : Trees) (d : ℕ) (rows : List Row) → AreRows IsLane (db 1) → IsAnswer lane_query (overlay db []) (int d ∷ []) rows
    → ((rows ≡ []) × (held (db 1) d ≡ None)) ⊎ (rows ≡ shown_lane (lane_of (held (db 1) d)) ∷ [])
lane_answer db d rows ok a =
    let staged : a.staged ≡ map (λ r. (int d ∷ []) ∷ r ∷ []) (filter (λ r. id_of r == d) (db 1)) = a.grouped ∙ matched IsLane (λ r. id_of r == d) (int d ∷ []) lane_query.filter (lane_each d) (db 1) (all_of IsLane (db 1) ok) in
    let shown : (os : List Output) → a.ordered ≡ os → rows ≡ page lane_query (int d ∷ []) (map (λ (p : Output). p.1) os) = λ os e. a.shown ∙ ap (λ xs. page lane_query (int d ∷ []) (map (λ (p : Output). p.1) xs)) e in
    elim (held_one IsLane lane_ids (db 1) d ok) [
      | inl none ↦ (
          let kept : a.kept ≡ [] = a.distinct ∙ ap (map (output lane_query)) (staged ∙ ap (map (λ r. (int d ∷ []) ∷ r ∷ [])) none.0) in
          inl (shown [] (empty_permutation a.ordered (subst (λ k. IsPermutation k a.ordered) kept a.same)), none.1))
      | inr one ↦ (
          let o : Output = ([], column one.0 2 ∷ column one.0 3 ∷ []) in
          let kept : a.kept ≡ o ∷ [] = a.distinct ∙ ap (map (output lane_query)) (staged ∙ ap (map (λ r. (int d ∷ []) ∷ r ∷ [])) one.2) in
          let taken : column one.0 2 ≡ int (lane_of (held (db 1) d)).taken = ap (λ r. column r 2) one.1 ∙ ap (λ h. int (lane_of h).taken) (sym one.3) in
          let closed : column one.0 3 ≡ int (lane_of (held (db 1) d)).closed = ap (λ r. column r 3) one.1 ∙ ap (λ h. int (lane_of h).closed) (sym one.3) in
          inr (shown (o ∷ []) (one_permutation o a.ordered (subst (λ k. IsPermutation k a.ordered) kept a.same)) ∙ (λ i. (taken i ∷ closed i ∷ []) ∷ [])))
    ]

pub lane_row_is : (w : Layout) (old new : State) (d : ℕ) (row : Row) → old.now.schema ≡ schema_in w → AreRows IsLane (ours w old.now.trees 1) → QueriesRow lane_text (int d ∷ []) old new (Ok row) → row ≡ shown_lane (lane_of (held (ours w old.now.trees 1) d))
lane_row_is w old new d row has ok h =
    let got = (first_as lane_text (int d ∷ []) old new (schema_in w) has _ (lane_meant w).command_is (lane_meant w).plain (lane_meant w).unlisted row h).1 in
    let a : IsAnswer lane_query (overlay (ours w old.now.trees) []) (int d ∷ []) (row ∷ got.0) = at_lane w lane_query old.now.trees (int d ∷ []) (row ∷ got.0) (got.1 Null) in
    elim (lane_answer (ours w old.now.trees) d (row ∷ got.0) ok a) [
      | inl none ↦ absurd (let e = none.0 in cc)
      | inr one ↦ (let e = one in cc)
    ]

pub lane_none : (w : Layout) (old new : State) (d : ℕ) → old.now.schema ≡ schema_in w → AreRows IsLane (ours w old.now.trees 1) → Shown lane_text (int d ∷ []) old new [] → held (ours w old.now.trees 1) d ≡ None
lane_none w old new d has ok shown =
    let read = reads_as lane_text (int d ∷ []) old new (schema_in w) has _ (lane_meant w).command_is (lane_meant w).plain (lane_meant w).unlisted [] shown in
    elim (lane_answer (ours w old.now.trees) d [] ok (at_lane w lane_query old.now.trees (int d ∷ []) [] (read.answer Null))) [
      | inl none ↦ none.1
      | inr one ↦ absurd (let e = one in cc)
    ]

pub lane_read : {E : Type 0} (r : Result Lane E) (row : Row) (lane : Lane) → row ≡ shown_lane lane → IfOk r (λ l. column row 0 ≡ int l.taken) → IfOk r (λ l. column row 1 ≡ int l.closed) → IfOk r (λ l. l ≡ lane)
lane_read (Ok l) row lane is taken closed =
    let first : l.taken ≡ lane.taken = ap nat_in (sym taken ∙ ap (λ r. column r 0) is) in
    let second : l.closed ≡ lane.closed = ap nat_in (sym closed ∙ ap (λ r. column r 1) is) in
    λ i. record { taken = first i; closed = second i }
lane_read (Err e) row lane is taken closed = tt

-- ---- the day from which on all of a device is held

pub since_ids : (r : Row) → IsSince r → column r 0 ≡ int (id_of r)
since_ids r ok = ap (λ x. column x 0) ok

since_cell : (id f d : ℕ) → matches_as Null (λ _. []) since_query.filter end ((int d ∷ []) ∷ since_row id f ∷ []) ≡ chosen (id == d) ((int d ∷ []) ∷ since_row id f ∷ [])
since_cell id f d = rw (eq_holds id d) (one_term (id == d) ((int d ∷ []) ∷ since_row id f ∷ []))

since_each : (d : ℕ) (r : Row) → IsSince r → matches_as Null (λ _. []) since_query.filter end ((int d ∷ []) ∷ r ∷ []) ≡ chosen (id_of r == d) ((int d ∷ []) ∷ r ∷ [])
since_each d r ok = subst (λ x. matches_as Null (λ _. []) since_query.filter end ((int d ∷ []) ∷ x ∷ []) ≡ chosen (id_of x == d) ((int d ∷ []) ∷ x ∷ [])) (sym ok) (since_cell (id_of r) (nat_in (column r 2)) d)

since_answer : (db : Trees) (d : ℕ) (rows : List Row) → AreRows IsSince (db 9) → IsAnswer since_query (overlay db []) (int d ∷ []) rows
    → ((rows ≡ []) × (held (db 9) d ≡ None)) ⊎ (rows ≡ (int (since_of (held (db 9) d)) ∷ []) ∷ [])
since_answer db d rows ok a =
    let staged : a.staged ≡ map (λ r. (int d ∷ []) ∷ r ∷ []) (filter (λ r. id_of r == d) (db 9)) = a.grouped ∙ matched IsSince (λ r. id_of r == d) (int d ∷ []) since_query.filter (since_each d) (db 9) (all_of IsSince (db 9) ok) in
    let shown : (os : List Output) → a.ordered ≡ os → rows ≡ page since_query (int d ∷ []) (map (λ (p : Output). p.1) os) = λ os e. a.shown ∙ ap (λ xs. page since_query (int d ∷ []) (map (λ (p : Output). p.1) xs)) e in
    elim (held_one IsSince since_ids (db 9) d ok) [
      | inl none ↦ (
          let kept : a.kept ≡ [] = a.distinct ∙ ap (map (output since_query)) (staged ∙ ap (map (λ r. (int d ∷ []) ∷ r ∷ [])) none.0) in
          inl (shown [] (empty_permutation a.ordered (subst (λ k. IsPermutation k a.ordered) kept a.same)), none.1))
      | inr one ↦ (
          let o : Output = ([], column one.0 2 ∷ []) in
          let kept : a.kept ≡ o ∷ [] = a.distinct ∙ ap (map (output since_query)) (staged ∙ ap (map (λ r. (int d ∷ []) ∷ r ∷ [])) one.2) in
          let since : column one.0 2 ≡ int (since_of (held (db 9) d)) = ap (λ r. column r 2) one.1 ∙ ap (λ h. int (since_of h)) (sym one.3) in
          inr (shown (o ∷ []) (one_permutation o a.ordered (subst (λ k. IsPermutation k a.ordered) kept a.same)) ∙ (λ i. (since i ∷ []) ∷ [])))
    ]

pub since_row_is : (w : Layout) (old new : State) (d : ℕ) (row : Row) → old.now.schema ≡ schema_in w → AreRows IsSince (ours w old.now.trees 9) → QueriesRow since_text (int d ∷ []) old new (Ok row) → row ≡ int (since_of (held (ours w old.now.trees 9) d)) ∷ []
since_row_is w old new d row has ok h =
    let got = (first_as since_text (int d ∷ []) old new (schema_in w) has _ (since_meant w).command_is (since_meant w).plain (since_meant w).unlisted row h).1 in
    let a : IsAnswer since_query (overlay (ours w old.now.trees) []) (int d ∷ []) (row ∷ got.0) = at_since w since_query old.now.trees (int d ∷ []) (row ∷ got.0) (got.1 Null) in
    elim (since_answer (ours w old.now.trees) d (row ∷ got.0) ok a) [
      | inl none ↦ absurd (let e = none.0 in cc)
      | inr one ↦ (let e = one in cc)
    ]

pub since_none : (w : Layout) (old new : State) (d : ℕ) → old.now.schema ≡ schema_in w → AreRows IsSince (ours w old.now.trees 9) → Shown since_text (int d ∷ []) old new [] → held (ours w old.now.trees 9) d ≡ None
since_none w old new d has ok shown =
    let read = reads_as since_text (int d ∷ []) old new (schema_in w) has _ (since_meant w).command_is (since_meant w).plain (since_meant w).unlisted [] shown in
    elim (since_answer (ours w old.now.trees) d [] ok (at_since w since_query old.now.trees (int d ∷ []) [] (read.answer Null))) [
      | inl none ↦ none.1
      | inr one ↦ absurd (let e = one in cc)
    ]

-- ---- the stated count of a day

abbrev pub asked : ℕ → ℕ → Row
asked d y = int d ∷ int y ∷ []

said_cell : (id : ℕ) (s : StatedRow) (d y : ℕ) → matches_as Null (λ _. []) stated_terms end (asked d y ∷ (int id ∷ stated_cells s) ∷ []) ≡ chosen (is_of d y s) (asked d y ∷ (int id ∷ stated_cells s) ∷ [])
said_cell id s d y = rw (eq_holds s.device d, eq_holds s.day y) (two_terms (s.device == d) (s.day == y) (asked d y ∷ (int id ∷ stated_cells s) ∷ []))

said_each : (d y : ℕ) (r : Row) → IsStated r → matches_as Null (λ _. []) stated_terms end (asked d y ∷ r ∷ []) ≡ chosen (is_of d y (stated_of r)) (asked d y ∷ r ∷ [])
said_each d y r ok = subst (λ x. matches_as Null (λ _. []) stated_terms end (asked d y ∷ x ∷ []) ≡ chosen (is_of d y (stated_of x)) (asked d y ∷ x ∷ [])) (sym ok) (said_cell (id_of r) (stated_of r) d y)

none_of : (rows : List Row) (d y : ℕ) (s : StatedRow) → AllByRecursion (λ x. is_of s.device s.day x ≡ false) (map stated_of rows) → is_of d y s ≡ true → filter (λ r. is_of d y (stated_of r)) rows ≡ []
none_of [] d y s all is = refl
none_of (r ∷ rows) d y s all is =
    let here = all.0 in
    let other : is_of d y (stated_of r) ≡ false = grind (arith, nat_tests) in
    rw other (none_of rows d y s all.1 is)

-- no statement is of the day, or one
said_one : (rows : List Row) (d y : ℕ) → AreRows IsStated rows → AreApart (map stated_of rows)
    → ((filter (λ r. is_of d y (stated_of r)) rows ≡ []) × (stated_in (map stated_of rows) d y ≡ None)) ⊎ ((r : Row) × IsStated r × (filter (λ r. is_of d y (stated_of r)) rows ≡ r ∷ []) × (stated_in (map stated_of rows) d y ≡ Some (stated_of r).count))
said_one [] d y ok apart = inl (refl, refl)
said_one (r ∷ rows) d y ok apart = elim (cases_Bool (is_of d y (stated_of r))) [
  | inl here ↦ inr (r, ok.0, rw (here, none_of rows d y (stated_of r) apart.0 here) refl, rw here refl)
  | inr there ↦ rw there (said_one rows d y ok.2 apart.1)
]

said_answer : (db : Trees) (d y : ℕ) (rows : List Row) → AreRows IsStated (db 4) → AreApart (map stated_of (db 4)) → IsAnswer stated_query (overlay db []) (asked d y) rows
    → ((rows ≡ []) × (stated_in (map stated_of (db 4)) d y ≡ None)) ⊎ ((n : ℕ) × (rows ≡ (int n ∷ []) ∷ []) × (stated_in (map stated_of (db 4)) d y ≡ Some n))
said_answer db d y rows ok apart a =
    let staged : a.staged ≡ map (λ r. asked d y ∷ r ∷ []) (filter (λ r. is_of d y (stated_of r)) (db 4)) = a.grouped ∙ matched IsStated (λ r. is_of d y (stated_of r)) (asked d y) stated_terms (said_each d y) (db 4) (all_of IsStated (db 4) ok) in
    let shown : (os : List Output) → a.ordered ≡ os → rows ≡ page stated_query (asked d y) (map (λ (p : Output). p.1) os) = λ os e. a.shown ∙ ap (λ xs. page stated_query (asked d y) (map (λ (p : Output). p.1) xs)) e in
    elim (said_one (db 4) d y ok apart) [
      | inl none ↦ (
          let kept : a.kept ≡ [] = a.distinct ∙ ap (map (output stated_query)) (staged ∙ ap (map (λ r. asked d y ∷ r ∷ [])) none.0) in
          inl (shown [] (empty_permutation a.ordered (subst (λ k. IsPermutation k a.ordered) kept a.same)), none.1))
      | inr one ↦ (
          let o : Output = ([], column one.0 3 ∷ []) in
          let kept : a.kept ≡ o ∷ [] = a.distinct ∙ ap (map (output stated_query)) (staged ∙ ap (map (λ r. asked d y ∷ r ∷ [])) one.2) in
          let count : column one.0 3 ≡ int (stated_of one.0).count = ap (λ r. column r 3) one.1 in
          inr ((stated_of one.0).count, shown (o ∷ []) (one_permutation o a.ordered (subst (λ k. IsPermutation k a.ordered) kept a.same)) ∙ ap (λ v. (v ∷ []) ∷ []) count, one.3))
    ]

pub said_row : (w : Layout) (old new : State) (d y n : ℕ) (row : Row) → old.now.schema ≡ schema_in w → AreRows IsStated (ours w old.now.trees 4) → AreApart (map stated_of (ours w old.now.trees 4)) → QueriesRow stated_text (asked d y) old new (Ok row) → column row 0 ≡ int n
    → Some n ≡ stated_in (map stated_of (ours w old.now.trees 4)) d y
said_row w old new d y n row has ok apart h is =
    let got = (first_as stated_text (asked d y) old new (schema_in w) has _ (stated_meant w).command_is (stated_meant w).plain (stated_meant w).unlisted row h).1 in
    let a : IsAnswer stated_query (overlay (ours w old.now.trees) []) (asked d y) (row ∷ got.0) = at_stated w stated_query old.now.trees (asked d y) (row ∷ got.0) (got.1 Null) in
    elim (said_answer (ours w old.now.trees) d y (row ∷ got.0) ok apart a) [
      | inl none ↦ absurd (let e = none.0 in cc)
      | inr one ↦ (
          let same : row ≡ int one.0 ∷ [] = let e = one.1 in cc in
          let number : n ≡ one.0 = ap nat_in (sym is ∙ ap (λ r. column r 0) same) in
          ap {B = Option ℕ} Some number ∙ sym one.2)
    ]

pub said_none : (w : Layout) (old new : State) (d y : ℕ) → old.now.schema ≡ schema_in w → AreRows IsStated (ours w old.now.trees 4) → AreApart (map stated_of (ours w old.now.trees 4)) → Shown stated_text (asked d y) old new []
    → None ≡ stated_in (map stated_of (ours w old.now.trees 4)) d y
said_none w old new d y has ok apart shown =
    let read = reads_as stated_text (asked d y) old new (schema_in w) has _ (stated_meant w).command_is (stated_meant w).plain (stated_meant w).unlisted [] shown in
    elim (said_answer (ours w old.now.trees) d y [] ok apart (at_stated w stated_query old.now.trees (asked d y) [] (read.answer Null))) [
      | inl none ↦ sym none.1
      | inr one ↦ absurd (let e = one.1 in cc)
    ]

-- ---- how many

day_cell : (id : ℕ) (t : TapRow) (d y : ℕ) → matches_as Null (λ _. []) day_terms end (asked d y ∷ (int id ∷ tap_cells t) ∷ []) ≡ chosen (is_on d y t) (asked d y ∷ (int id ∷ tap_cells t) ∷ [])
day_cell id t d y = rw (eq_holds t.device d, eq_holds t.tap.day y) (two_terms (t.device == d) (t.tap.day == y) (asked d y ∷ (int id ∷ tap_cells t) ∷ []))

day_each : (d y : ℕ) (r : Row) → IsTap r → matches_as Null (λ _. []) day_terms end (asked d y ∷ r ∷ []) ≡ chosen (is_on d y (tap_of r)) (asked d y ∷ r ∷ [])
day_each d y r ok = subst (λ x. matches_as Null (λ _. []) day_terms end (asked d y ∷ x ∷ []) ≡ chosen (is_on d y (tap_of x)) (asked d y ∷ x ∷ [])) (sym ok) (day_cell (id_of r) (tap_of r) d y)

pub day_counted : (w : Layout) (old new : State) (d y : ℕ) (row : Row) → old.now.schema ≡ schema_in w → AreRows IsTap (ours w old.now.trees 7) → QueriesRow day_text (asked d y) old new (Ok row) → row ≡ int (counted (length (filter (is_on d y) (map tap_of (ours w old.now.trees 7))))) ∷ []
day_counted w old new d y row has ok h =
    let got = (first_as day_text (asked d y) old new (schema_in w) has _ (day_meant w).command_is (day_meant w).plain (day_meant w).unlisted row h).1 in
    let a : IsAnswer (count_query 7 day_terms) (overlay (ours w old.now.trees) []) (asked d y) (row ∷ got.0) = at_tap w (count_query 7 day_terms) old.now.trees (asked d y) (row ∷ got.0) (got.1 Null) in
    let rows = count_answer 7 day_terms (overlay (ours w old.now.trees) []) (asked d y) (row ∷ got.0) a in
    let first : row ≡ int (counted (length (found 7 day_terms (overlay (ours w old.now.trees) []) (asked d y)))) ∷ [] = cc in
    let all = matched IsTap (λ r. is_on d y (tap_of r)) (asked d y) day_terms (day_each d y) (ours w old.now.trees 7) (all_of IsTap (ours w old.now.trees 7) ok) in
    let some = filter (λ r. is_on d y (tap_of r)) (ours w old.now.trees 7) in
    let size : length (found 7 day_terms (overlay (ours w old.now.trees) []) (asked d y)) ≡ length (filter (is_on d y) (map tap_of (ours w old.now.trees 7))) =
    ap length all ∙ length-map some (λ r. asked d y ∷ r ∷ []) ∙ sym (length-map some tap_of) ∙ sym (ap length (filter_of_map tap_of (is_on d y) (ours w old.now.trees 7))) in
    first ∙ ap (λ n. int (counted n) ∷ []) size

or_truth : (a b : Bool) → is_true (binary by.Or (from_truth (Some a)) (from_truth (Some b))) ≡ (a || b)
unfolding binary
or_truth true true = refl
or_truth true false = refl
or_truth false true = refl
or_truth false false = refl

gt_is : (a : ℕ) → is_gt (int_cmp (pos a) (pos 0)) ≡ nat_lt 0 a
gt_is a = grind (arith, nat_tests)

or_holds : (a b : ℕ) → is_true (binary by.Or (binary (by.Compare cmp.Gt Binary) (int a) (int 0)) (binary (by.Compare cmp.Gt Binary) (int b) (int 0))) ≡ (nat_lt 0 a || nat_lt 0 b)
unfolding binary
or_holds a b = rw (value_cmp-Int (pos a) (pos 0), value_cmp-Int (pos b) (pos 0)) (or_truth (is_gt (int_cmp (pos a) (pos 0))) (is_gt (int_cmp (pos b) (pos 0))) ∙ (λ i. gt_is a i || gt_is b i))

begun_cell : (id k c : ℕ) → matches_as Null (λ _. []) begun_terms end ([] ∷ lane_row id k c ∷ []) ≡ chosen (nat_lt 0 k || nat_lt 0 c) ([] ∷ lane_row id k c ∷ [])
begun_cell id k c = rw (or_holds k c) (one_term (nat_lt 0 k || nat_lt 0 c) ([] ∷ lane_row id k c ∷ []))

begun_each : (r : Row) → IsLane r → matches_as Null (λ _. []) begun_terms end ([] ∷ r ∷ []) ≡ chosen (is_begun r) ([] ∷ r ∷ [])
begun_each r ok = subst (λ x. matches_as Null (λ _. []) begun_terms end ([] ∷ x ∷ []) ≡ chosen (is_begun x) ([] ∷ x ∷ [])) (sym ok) (begun_cell (id_of r) (nat_in (column r 2)) (nat_in (column r 3)))

pub begun_counted : (w : Layout) (old new : State) (row : Row) → old.now.schema ≡ schema_in w → AreRows IsLane (ours w old.now.trees 1) → QueriesRow begun_text [] old new (Ok row) → row ≡ int (counted (length (filter is_begun (ours w old.now.trees 1)))) ∷ []
begun_counted w old new row has ok h =
    let got = (first_as begun_text [] old new (schema_in w) has _ (begun_meant w).command_is (begun_meant w).plain (begun_meant w).unlisted row h).1 in
    let a : IsAnswer (count_query 1 begun_terms) (overlay (ours w old.now.trees) []) [] (row ∷ got.0) = at_lane w (count_query 1 begun_terms) old.now.trees [] (row ∷ got.0) (got.1 Null) in
    let rows = count_answer 1 begun_terms (overlay (ours w old.now.trees) []) [] (row ∷ got.0) a in
    let first : row ≡ int (counted (length (found 1 begun_terms (overlay (ours w old.now.trees) []) []))) ∷ [] = cc in
    let all = matched IsLane is_begun [] begun_terms begun_each (ours w old.now.trees 1) (all_of IsLane (ours w old.now.trees 1) ok) in
    first ∙ ap (λ n. int (counted n) ∷ []) (ap length all ∙ length-map (filter is_begun (ours w old.now.trees 1)) (λ r. [] ∷ r ∷ []))

later_truth : (a : Bool) → is_true (from_truth (Some a)) ≡ a
later_truth true = refl
later_truth false = refl

later_holds : (a : ℕ) → is_true (binary (by.Compare cmp.Gt Binary) (int a) (int 0)) ≡ nat_lt 0 a
unfolding binary
later_holds a = rw (value_cmp-Int (pos a) (pos 0)) (later_truth (is_gt (int_cmp (pos a) (pos 0))) ∙ gt_is a)

later_cell : (id f : ℕ) → matches_as Null (λ _. []) later_terms end ([] ∷ since_row id f ∷ []) ≡ chosen (nat_lt 0 f) ([] ∷ since_row id f ∷ [])
later_cell id f = rw (later_holds f) (one_term (nat_lt 0 f) ([] ∷ since_row id f ∷ []))

later_each : (r : Row) → IsSince r → matches_as Null (λ _. []) later_terms end ([] ∷ r ∷ []) ≡ chosen (is_later r) ([] ∷ r ∷ [])
later_each r ok = subst (λ x. matches_as Null (λ _. []) later_terms end ([] ∷ x ∷ []) ≡ chosen (is_later x) ([] ∷ x ∷ [])) (sym ok) (later_cell (id_of r) (nat_in (column r 2)))

pub later_counted : (w : Layout) (old new : State) (row : Row) → old.now.schema ≡ schema_in w → AreRows IsSince (ours w old.now.trees 9) → QueriesRow later_text [] old new (Ok row) → row ≡ int (counted (length (filter is_later (ours w old.now.trees 9)))) ∷ []
later_counted w old new row has ok h =
    let got = (first_as later_text [] old new (schema_in w) has _ (later_meant w).command_is (later_meant w).plain (later_meant w).unlisted row h).1 in
    let a : IsAnswer (count_query 9 later_terms) (overlay (ours w old.now.trees) []) [] (row ∷ got.0) = at_since w (count_query 9 later_terms) old.now.trees [] (row ∷ got.0) (got.1 Null) in
    let rows = count_answer 9 later_terms (overlay (ours w old.now.trees) []) [] (row ∷ got.0) a in
    let first : row ≡ int (counted (length (found 9 later_terms (overlay (ours w old.now.trees) []) []))) ∷ [] = cc in
    let all = matched IsSince is_later [] later_terms later_each (ours w old.now.trees 9) (all_of IsSince (ours w old.now.trees 9) ok) in
    first ∙ ap (λ n. int (counted n) ∷ []) (ap length all ∙ length-map (filter is_later (ours w old.now.trees 9)) (λ r. [] ∷ r ∷ []))

all_found : (rows : List Row) → length (flat_map (λ r. matches_as Null (λ _. []) [] end ([] ∷ r ∷ [])) rows) ≡ length rows
all_found [] = refl
all_found (r ∷ rows) = ap (λ n. suc n) (all_found rows)

pub statements_counted : (w : Layout) (old new : State) (row : Row) → old.now.schema ≡ schema_in w → QueriesRow statements_text [] old new (Ok row) → row ≡ int (counted (length (map stated_of (ours w old.now.trees 4)))) ∷ []
statements_counted w old new row has h =
    let got = (first_as statements_text [] old new (schema_in w) has _ (statements_meant w).command_is (statements_meant w).plain (statements_meant w).unlisted row h).1 in
    let a : IsAnswer (count_query 4 []) (overlay (ours w old.now.trees) []) [] (row ∷ got.0) = at_stated w (count_query 4 []) old.now.trees [] (row ∷ got.0) (got.1 Null) in
    let rows = count_answer 4 [] (overlay (ours w old.now.trees) []) [] (row ∷ got.0) a in
    let first : row ≡ int (counted (length (found 4 [] (overlay (ours w old.now.trees) []) []))) ∷ [] = cc in
    first ∙ ap (λ n. int (counted n) ∷ []) (all_found (ours w old.now.trees 4) ∙ sym (length-map (ours w old.now.trees 4) stated_of))

-- ---- a retired lane

pub retired_ids : (r : Row) → IsRetired r → column r 0 ≡ int (id_of r)
retired_ids r ok = ap (λ x. column x 0) ok

retired_cell : (id d : ℕ) → matches_as Null (λ _. []) retired_terms end ((int d ∷ []) ∷ retired_row id ∷ []) ≡ chosen (id == d) ((int d ∷ []) ∷ retired_row id ∷ [])
retired_cell id d = rw (eq_holds id d) (one_term (id == d) ((int d ∷ []) ∷ retired_row id ∷ []))

retired_each : (d : ℕ) (r : Row) → IsRetired r → matches_as Null (λ _. []) retired_terms end ((int d ∷ []) ∷ r ∷ []) ≡ chosen (id_of r == d) ((int d ∷ []) ∷ r ∷ [])
retired_each d r ok = subst (λ x. matches_as Null (λ _. []) retired_terms end ((int d ∷ []) ∷ x ∷ []) ≡ chosen (id_of x == d) ((int d ∷ []) ∷ x ∷ [])) (sym ok) (retired_cell (id_of r) d)

-- one row of a device, or none
abbrev pub rows_of : List Row → ℕ → List Row
rows_of rows d = filter (λ r. id_of r == d) rows

pub retired_counted : (w : Layout) (old new : State) (d : ℕ) (row : Row) → old.now.schema ≡ schema_in w → AreRows IsRetired (ours w old.now.trees 6) → QueriesRow retired_text (int d ∷ []) old new (Ok row) → row ≡ int (counted (length (rows_of (ours w old.now.trees 6) d))) ∷ []
retired_counted w old new d row has ok h =
    let got = (first_as retired_text (int d ∷ []) old new (schema_in w) has _ (retired_meant w).command_is (retired_meant w).plain (retired_meant w).unlisted row h).1 in
    let a : IsAnswer (count_query 6 retired_terms) (overlay (ours w old.now.trees) []) (int d ∷ []) (row ∷ got.0) = at_retired w (count_query 6 retired_terms) old.now.trees (int d ∷ []) (row ∷ got.0) (got.1 Null) in
    let rows = count_answer 6 retired_terms (overlay (ours w old.now.trees) []) (int d ∷ []) (row ∷ got.0) a in
    let first : row ≡ int (counted (length (found 6 retired_terms (overlay (ours w old.now.trees) []) (int d ∷ [])))) ∷ [] = cc in
    let all = matched IsRetired (λ r. id_of r == d) (int d ∷ []) retired_terms (retired_each d) (ours w old.now.trees 6) (all_of IsRetired (ours w old.now.trees 6) ok) in
    first ∙ ap (λ n. int (counted n) ∷ []) (ap length all ∙ length-map (rows_of (ours w old.now.trees 6) d) (λ r. (int d ∷ []) ∷ r ∷ []))

-- a count that isn't 0 says that the lane is retired
pub retired_is : (rows : List Row) (d n : ℕ) → AreRows IsRetired rows → n ≡ counted (length (rows_of rows d)) → not (n == 0) ≡ is_some (held rows d)
retired_is rows d n ok is = elim (held_one IsRetired retired_ids rows d ok) [
  | inl none ↦ (
      let n_is : n ≡ 0 = is ∙ ap (λ xs. counted (length xs)) none.0 in
      ap (λ k. not (k == 0)) n_is ∙ sym (ap is_some none.1))
  | inr one ↦ (
      let n_is : n ≡ 1 = is ∙ ap (λ xs. counted (length xs)) one.2 in
      ap (λ k. not (k == 0)) n_is ∙ sym (ap is_some one.3))
]

pub all_retired_counted : (w : Layout) (old new : State) (row : Row) → old.now.schema ≡ schema_in w → QueriesRow all_retired_text [] old new (Ok row) → row ≡ int (counted (length (ours w old.now.trees 6))) ∷ []
all_retired_counted w old new row has h =
    let got = (first_as all_retired_text [] old new (schema_in w) has _ (all_retired_meant w).command_is (all_retired_meant w).plain (all_retired_meant w).unlisted row h).1 in
    let a : IsAnswer (count_query 6 []) (overlay (ours w old.now.trees) []) [] (row ∷ got.0) = at_retired w (count_query 6 []) old.now.trees [] (row ∷ got.0) (got.1 Null) in
    let rows = count_answer 6 [] (overlay (ours w old.now.trees) []) [] (row ∷ got.0) a in
    let first : row ≡ int (counted (length (found 6 [] (overlay (ours w old.now.trees) []) []))) ∷ [] = cc in
    first ∙ ap (λ n. int (counted n) ∷ []) (all_found (ours w old.now.trees 6))
