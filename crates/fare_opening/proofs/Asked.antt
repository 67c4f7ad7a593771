-- What questions find: a table wherever it stands, and the row of meta.
use Rattle.std.proofs.Common.{◌≡◌, ◌<◌, ℕ, List, [], ◌∷◌, length, map, filter, false, true, nat_le, ◌^◌, Ok, Err, Result, IfOk, refl, sym, ap, subst, ◌∙◌, arith}
use Rattle.std.proofs.lemmas.Bool.Decides.{nat_tests}
use Rattle.std.specs.List.{AllByRecursion}
use Rattle.std.specs.List.Sorted.{IsPermutation}
use Rattle.std.proofs.lemmas.List.Sorted.{IsPermutation-sym}
use Rattle.sqlite_value.specs.Order.{Row, column}
use Rattle.sqlite.specs.declared.types.Value.TheVariants.{Null}
use Rattle.sqlite.specs.Tree.{Trees}
use Rattle.sqlite.specs.Query.{IsAnswer, Query, matches_as, inner, end, output, Output}
use Rattle.sqlite_sql.specs.Group.{IsGrouped}
use Rattle.sqlite.specs.Program.{overlay}
use Rattle.sqlite.specs.State.{State, Shown}
use Rattle.sqlite.proofs.Callers.{reads_as, one_permutation}
use Rattle.fare_tables.specs.Cells.{nat_in, int, counted}
use Rattle.fare_tables.proofs.Terms.{matched}
use Rattle.fare_layout.specs.declared.place.TableNumber.{TableNumber}
use Rattle.fare_layout.specs.Commands.{moved_query}
use Rattle.fare_layout.specs.Places.{all_of}
use Rattle.fare_opening.specs.declared.site.Site.{Site}
use Rattle.fare_opening.specs.Parts.{Parts, IsDesign, meta_query}
use Rattle.fare_opening.specs.Numbers.{Meta}
use Rattle.fare_opening.specs.Sites.{IsSite, tree_at, rows_at}
use Rattle.fare_opening.specs.MetaRow.{AreMeta, IsMeta}
use Rattle.fare_opening.proofs.Standing.{meta_stands, low_tree, asks_meant}

-- ---- what a cell shows

pub number_is : {E : Type 0} (r : Result ℕ E) (row : Row) (n : ℕ) → row ≡ int n ∷ [] → IfOk r (λ k. column row 0 ≡ int k) → IfOk r (λ k. k ≡ n)
number_is (Ok k) row n is h = ap nat_in (sym h ∙ ap (λ r. column r 0) is)
number_is (Err e) row n is h = tt

-- a count below the greatest integer is exact
pub total_is : {E : Type 0} (r : Result ℕ E) (row : Row) (size : ℕ) → row ≡ int (counted size) ∷ [] → IfOk r (λ k. column row 0 ≡ int k) → IfOk r (λ k. k < 9223372036854775807) → IfOk r (λ k. k ≡ size)
total_is (Ok k) row size is shown low =
    let k_is : k ≡ counted size = ap nat_in (sym shown ∙ ap (λ r. column r 0) is) in
    grind (arith, nat_tests)
total_is (Err e) row size is shown low = tt

-- ---- a table, wherever its tree is

-- the rows of a query over one table are read of that table alone
pub moved : (q : Query) (tree number : ℕ) (db other : Trees) (params : Row) (rows : List Row) → overlay db [] tree ≡ other number → IsAnswer (moved_query tree q) (overlay db []) params rows → IsAnswer (moved_query number q) other params rows
moved q tree number db other params rows same a = record {
  staged = a.staged;
  grouped = subst (λ (table : List Row). IsGrouped q.group params (matches_as Null (λ _. table) q.filter (inner 0 end) (params ∷ [])) a.staged) same a.grouped;
  kept = a.kept;
  distinct = a.distinct;
  ordered = a.ordered;
  same = a.same;
  sorted = a.sorted;
  shown = a.shown;
}

-- no tree is one of the tables that a statement computes
pub over : (db : Trees) (tree : ℕ) → nat_le (2 ^ 31) tree ≡ false → overlay db [] tree ≡ db tree
over db tree low = rw low refl

pub asked_at : (d : Parts) (w : Site) → IsSite d w → (k : TableNumber) → k.number < length (all_of w.places) → (q : Query) (number : ℕ) (db other : Trees) (params : Row) (rows : List Row) → db (tree_at w k) ≡ other number → IsAnswer (moved_query (tree_at w k) q) (overlay db []) params rows
    → IsAnswer (moved_query number q) other params rows
asked_at d w site k within q number db other params rows same = moved q (tree_at w k) number db other params rows (over db (tree_at w k) (low_tree d w site k within) ∙ same)

-- ---- the row of meta

pub all_rows : (rows : List Row) → AllByRecursion (λ r. Unit {0}) rows
all_rows [] = tt
all_rows (r ∷ rows) = (tt, all_rows rows)

pub filter_all : (rows : List Row) → filter (λ r. true) rows ≡ rows
filter_all [] = refl
filter_all (r ∷ rows) = ap (λ more. r ∷ more) (filter_all rows)

abbrev shown : Row → Output
shown r = ([], column r 0 ∷ column r 1 ∷ column r 2 ∷ [])

shown_all : (tree : ℕ) (rows : List Row) → map (output (meta_query tree)) (map (λ r. [] ∷ r ∷ []) rows) ≡ map shown rows
shown_all tree [] = refl
shown_all tree (r ∷ rows) = ap (λ more. shown r ∷ more) (shown_all tree rows)

-- one output is of one row
one_row : (format owner : ℕ) (stored : List Row) (ordered : List Output) → IsPermutation (map shown stored) ordered → AreMeta format owner (map (λ (p : Output). p.1) ordered) → (r : Row) × (stored ≡ r ∷ []) × AreMeta format owner ((column r 0 ∷ column r 1 ∷ column r 2 ∷ []) ∷ [])
one_row format owner stored [] same are = absurd are
one_row format owner stored (o ∷ x ∷ more) same are = absurd are
one_row format owner stored (o ∷ []) same are = by stored (one_permutation o (map shown stored) (IsPermutation-sym (map shown stored) (o ∷ []) same))
  where
    by : (rows : List Row) → map shown rows ≡ o ∷ [] → (r : Row) × (rows ≡ r ∷ []) × AreMeta format owner ((column r 0 ∷ column r 1 ∷ column r 2 ∷ []) ∷ [])
    by [] is = absurd cc
    by (r ∷ []) is = let one : shown r ≡ o = cc in (r, refl, subst (λ (y : Output). AreMeta format owner (y.1 ∷ [])) (sym one) are)
    by (r ∷ s ∷ rows) is = absurd cc

-- what is kept of the rows of meta is each row's format and owner
kept_rows : (d : Parts) (w : Site) (old new : State) (rows : List Row) → IsDesign d → IsSite d w → old.now.schema ≡ w.schema → Shown d.meta.read [] old new rows → (a : IsAnswer (meta_query (tree_at w Meta)) (overlay old.now.trees []) [] rows) × (a.kept ≡ map shown (rows_at w Meta old.now.trees))
kept_rows d w old new rows design site has shows =
    let meant = asks_meant d w design site in
    let read = reads_as d.meta.read [] old new w.schema has _ meant.command_is meant.plain meant.unlisted rows shows in
    let tree = tree_at w Meta in
    let a : IsAnswer (meta_query tree) (overlay old.now.trees []) [] rows = read.answer Null in
    let stored = overlay old.now.trees [] tree in
    let staged : a.staged ≡ map (λ r. [] ∷ r ∷ []) stored = a.grouped ∙ matched (λ r. Unit {0}) (λ r. true) [] [] (λ r ok. refl) stored (all_rows stored) ∙ ap (map (λ r. [] ∷ r ∷ [])) (filter_all stored) in
    let kept : a.kept ≡ map shown stored = a.distinct ∙ ap (map (output (meta_query tree))) staged ∙ shown_all tree stored in
    (a, kept ∙ ap (map shown) (over old.now.trees tree (meta_stands d w design site).low))

pub meta_is : (d : Parts) (format owner : ℕ) (w : Site) (old new : State) (rows : List Row) → IsDesign d → IsSite d w → old.now.schema ≡ w.schema → Shown d.meta.read [] old new rows → AreMeta format owner rows → IsMeta format owner (rows_at w Meta old.now.trees)
meta_is d format owner w old new rows design site has shows are =
    let k = kept_rows d w old new rows design site has shows in
    let a = k.0 in
    let it = one_row format owner (rows_at w Meta old.now.trees) a.ordered (subst (λ x. IsPermutation x a.ordered) k.1 a.same) (subst (AreMeta format owner) a.shown are) in
    record { row = it.0; only = it.1; is = record { id_is = it.2.id_is; format_is = it.2.format_is; owner_is = it.2.owner_is } }

-- and where meta holds the row, the answer is that row
pub meta_found : (d : Parts) (format owner : ℕ) (w : Site) (old new : State) (rows : List Row) → IsDesign d → IsSite d w → old.now.schema ≡ w.schema → Shown d.meta.read [] old new rows → IsMeta format owner (rows_at w Meta old.now.trees) → AreMeta format owner rows
meta_found d format owner w old new rows design site has shows it =
    let k = kept_rows d w old new rows design site has shows in
    let a = k.0 in
    let kept : a.kept ≡ shown it.row ∷ [] = k.1 ∙ ap (map shown) it.only in
    let one : a.ordered ≡ shown it.row ∷ [] = one_permutation (shown it.row) a.ordered (subst (λ x. IsPermutation x a.ordered) kept a.same) in
    subst (AreMeta format owner) (sym (a.shown ∙ ap (map (λ (p : Output). p.1)) one)) (record { id_is = it.is.id_is; format_is = it.is.format_is; owner_is = it.is.owner_is })
