-- The table that a format doesn't use: whether it has no row.
use Rattle.std.proofs.Common.{◌≡◌, ◌<◌, ℕ, suc, List, [], ◌∷◌, length, Some, refl, sym, ap, subst, ◌∙◌, arith}
use Rattle.std.specs.Prelude.{IfSome}
use Rattle.std.specs.List.{flat_map}
use Rattle.std.proofs.lemmas.Bool.Decides.{nat_tests}
use Rattle.sqlite.specs.declared.types.Value.TheVariants.{Null}
use Rattle.sqlite_value.specs.Order.{Row}
use Rattle.sqlite.specs.Query.{IsAnswer, matches_as, end}
use Rattle.sqlite.specs.Program.{overlay}
use Rattle.sqlite.specs.State.{State, Shown}
use Rattle.sqlite.proofs.Callers.{reads_as}
use Rattle.fare_tables.specs.Asking.{Reads}
use Rattle.fare_tables.specs.Cells.{nat_in, int, counted}
use Rattle.fare_tables.specs.Queries.{count_query}
use Rattle.fare_tables.proofs.Counting.{count_answer}
use Rattle.fare_layout.specs.declared.place.TableNumber.{TableNumber}
use Rattle.fare_layout.specs.Commands.{KeepsMeaning}
use Rattle.fare_layout.specs.Places.{place_of, all_of}
use Rattle.fare_layout.proofs.Meant.{Meant, meant}
use Rattle.fare_opening.specs.declared.site.Site.{Site}
use Rattle.fare_opening.specs.Moving.{counts_rows, CountsNone}
use Rattle.fare_opening.specs.Parts.{Parts, IsDesign, IsCounted}
use Rattle.fare_opening.specs.Sites.{IsSite, tree_at, rows_at}
use Rattle.fare_opening.proofs.Asked.{over}
use Rattle.fare_opening.proofs.Standing.{all_has, low_tree, place_count}

-- with no condition each row counts
all_found : (rows : List Row) → length (flat_map (λ r. matches_as Null (λ _. []) [] end ([] ∷ r ∷ [])) rows) ≡ length rows
all_found [] = refl
all_found (r ∷ rows) = ap suc (all_found rows)

none_counted : (rows : List Row) → counted (length rows) ≡ 0 → rows ≡ []
none_counted [] is = refl
none_counted (r ∷ rows) is = absurd (grind (arith, nat_tests))

-- a design's text counts
pub counts_it : (d : Parts) (u : TableNumber × List ℕ) → IsDesign d → d.unused ≡ Some u → IsCounted d u
counts_it d u design is = subst (λ x. IfSome x (IsCounted d)) is design.counted

module _ (d : Parts) (u : TableNumber × List ℕ) (w : Site) (it : IsCounted d u) (site : IsSite d w) where
  count_meant : Meant w.schema u.1 (counts_rows it.names (tree_at w u.0))
  count_meant =
      let keeps = all_has (λ (t : TableNumber × List ℕ). KeepsMeaning d.own w.schema (place_of w.places t.0) t.1) d.texts u site.keeps it.counts in
      meant w.schema u.1 (counts_rows it.names (tree_at w u.0)) (keeps (counts_rows it.names it.tree) it.counts_meant)

  pub count_reads : Reads w.schema u.1
  count_reads = (count_meant.plain, count_meant.selects)

  count_is : (old new : State) (rows : List Row) → old.now.schema ≡ w.schema → Shown u.1 [] old new rows → rows ≡ (int (counted (length (rows_at w u.0 old.now.trees))) ∷ []) ∷ []
  count_is old new rows has shows =
      let db = old.now.trees in
      let tree = tree_at w u.0 in
      let low : u.0.number < length (all_of w.places) = subst (λ n. u.0.number < n) (place_count w.schema d.own.tables (all_of w.places) site.stands) it.within in
      let read = reads_as u.1 [] old new w.schema has _ count_meant.command_is count_meant.plain count_meant.unlisted rows shows in
      let a : IsAnswer (count_query tree []) (overlay db []) [] rows = read.answer Null in
      count_answer tree [] (overlay db []) [] rows a ∙ ap (λ n. (int (counted n) ∷ []) ∷ []) (all_found (overlay db [] tree) ∙ ap length (over db tree (low_tree d w site u.0 low)))

  pub none_there : (old new : State) (rows : List Row) → old.now.schema ≡ w.schema → Shown u.1 [] old new rows → CountsNone rows → rows_at w u.0 old.now.trees ≡ []
  none_there old new rows has shows counts =
      let zero : int (counted (length (rows_at w u.0 old.now.trees))) ≡ int 0 = subst CountsNone (count_is old new rows has shows) counts in
      none_counted (rows_at w u.0 old.now.trees) (ap nat_in zero)

  pub counts_there : (old new : State) (rows : List Row) → old.now.schema ≡ w.schema → Shown u.1 [] old new rows → rows_at w u.0 old.now.trees ≡ [] → CountsNone rows
  counts_there old new rows has shows none = subst CountsNone (sym (count_is old new rows has shows)) (ap (λ (all : List Row). int (counted (length all))) none)
