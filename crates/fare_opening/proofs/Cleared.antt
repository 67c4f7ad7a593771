-- What the removal of all rows of a table leaves.
use Rattle.std.proofs.Common.{◌≡◌, ◌≢◌, ◌<◌, ◌+◌, arith, ℕ, suc, List, [], ◌∷◌, map, filter, length, true, false, None, Ok, refl, sym, ap, subst, ◌∙◌}
use Rattle.std.specs.List.{AllByRecursion}
use Rattle.std.proofs.lemmas.List.{length-append}
use Rattle.std.specs.List.Sorted.{IsPermutation}
use Rattle.sqlite.specs.declared.types.Value.TheVariants.{Null}
use Rattle.sqlite_value.specs.Order.{Row}
use Rattle.sqlite.specs.Tree.{Trees}
use Rattle.sqlite_rules.specs.Edit.{without_all}
use Rattle.sqlite_rules.specs.Calls.{ids_of}
use Rattle.sqlite.specs.Query.{IsAnswer, output}
use Rattle.sqlite.specs.Program.{overlay}
use Rattle.sqlite.specs.Edit.{edit_of}
use Rattle.sqlite.specs.Rowids.TheVariants.{Given}
use Rattle.sqlite.specs.Does.{Does}
use Rattle.sqlite.specs.Rows.{Written, Task}
use Rattle.sqlite.specs.Table.{Table}
use Rattle.sqlite_schema.specs.declared.schema.Keys.TheVariants.{Enforced}
use Rattle.sqlite.specs.Listing.{understood}
use Rattle.sqlite.specs.Effect.{Database}
use Rattle.sqlite.specs.State.{State, mode_of, Executes}
use Rattle.sqlite.proofs.Callers.{statement_of, runs_as, one_step}
use Rattle.fare_tables.proofs.Removing.{id_shown, left_over}
use Rattle.fare_tables.proofs.Statements.{made, went, same_value}
use Rattle.fare_tables.proofs.Terms.{matched}
use Rattle.fare_layout.specs.declared.place.TableNumber.{TableNumber}
use Rattle.fare_layout.specs.Commands.{KeepsMeaning}
use Rattle.fare_layout.specs.Places.{place_of, all_of}
use Rattle.fare_layout.proofs.Meant.{Meant, meant}
use Rattle.fare_opening.specs.declared.site.Site.{Site}
use Rattle.fare_opening.specs.Listed.{IsClearing}
use Rattle.fare_opening.specs.Moves.{Clears}
use Rattle.fare_opening.specs.Moving.{MovingParts, ids_query, clears_rows, IsNumbered, AreNumbered}
use Rattle.fare_opening.specs.Parts.{Parts, OlderParts, IsDesign, IsOlder, IsMoving}
use Rattle.fare_opening.specs.Sites.{IsSite, tree_at}
use Rattle.fare_opening.proofs.Asked.{all_rows, filter_all, over}
use Rattle.fare_opening.proofs.Numbered.{numbered_ids}
use Rattle.fare_opening.proofs.Standing.{all_has, at_found, no_works, low_tree, each_stands, place_count}

shown : (tree : ℕ) (rows : List Row) → map (output (ids_query tree)) (map (λ r. [] ∷ r ∷ []) rows) ≡ map id_shown rows
shown tree [] = refl
shown tree (r ∷ rows) = ap (λ more. id_shown r ∷ more) (shown tree rows)

none_left : (rows : List Row) → filter (λ r. false) rows ≡ []
none_left [] = refl
none_left (r ∷ rows) = none_left rows

-- what is left where the rowids of all rows go
left : (columns tree : ℕ) (db : Trees) (out : List Row) → overlay db [] tree ≡ db tree → AreNumbered columns (db tree) → IsAnswer (ids_query tree) (overlay db []) [] out → without_all (db tree) (ids_of out) ≡ []
left columns tree db out same ok a =
    let stored = overlay db [] tree in
    let staged : a.staged ≡ map (λ r. [] ∷ r ∷ []) stored = a.grouped ∙ matched (λ r. Unit {0}) (λ r. true) [] [] (λ r ok. refl) stored (all_rows stored) ∙ ap (map (λ r. [] ∷ r ∷ [])) (filter_all stored) in
    let kept : a.kept ≡ map id_shown (filter (λ r. true) (db tree)) = a.distinct ∙ ap (map (output (ids_query tree))) staged ∙ shown tree stored ∙ ap (map id_shown) (same ∙ sym (filter_all (db tree))) in
    ap (λ rows. without_all (db tree) (ids_of rows)) a.shown ∙ left_over (IsNumbered (suc columns)) (numbered_ids columns) (λ r. true) (db tree) a.ordered ok (subst (λ k. IsPermutation k a.ordered) kept a.same) ∙ none_left (db tree)

module _ (p : Parts) (k : TableNumber) (text : List ℕ) (w : Site) (it : IsClearing p k text) (site : IsSite p w) where
  in_site : k.number < length (all_of w.places)
  in_site = subst (λ n. k.number < n) (place_count w.schema p.own.tables (all_of w.places) site.stands) it.within

  clears_meant : Meant w.schema text (clears_rows (place_of w.places k).at (tree_at w k))
  clears_meant =
      let keeps = all_has (λ (t : TableNumber × List ℕ). KeepsMeaning p.own w.schema (place_of w.places t.0) t.1) p.texts (k, text) site.keeps it.has in
      meant w.schema text (clears_rows (place_of w.places k).at (tree_at w k)) (keeps (clears_rows it.at it.tree) it.meant)

  pub clears_all : (columns : ℕ) (old new : State) (count : ℕ) → old.now.schema ≡ w.schema → Executes text [] old new (Ok count) → Clears w k columns old.now new.now
  clears_all columns old new count has h =
      let db = old.now.trees in
      let tree = tree_at w k in
      let stands = each_stands w.schema p.own.tables w.places site.stands k in_site in
      let table : Table = record stands.0 { tree = tree } in
      let command = clears_rows (place_of w.places k).at tree in
      let run = runs_as text [] old new w.schema has command clears_meant.command_is clears_meant.plain count h in
      let read = statement_of text (understood w.schema text) in
      let task : Task = record { limit = old.step_limit; keys = Enforced; schema = w.schema; table = table; params = [] } in
      let done = made task (mode_of old) command db run.tally new.now (at_found task (mode_of old) command db _ (run.tally, new.now) stands.1.there (subst (λ s. Does old.step_limit (mode_of old) [] (record old.now { schema = s }) read None command (Ok (run.tally, new.now))) has run.changed)) in
      let given = went done.wrote in
      let step = went given.2 in
      let trees : new.now.trees ≡ step.0 = ap (λ (d : Database). d.trees) done.after_is ∙ ap (λ (x : Written). x.trees) (same_value step.2) in
      let edit = edit_of db table (ids_of given.0) Given 0 [] in
      let one = one_step w.schema Enforced db step.0 edit (no_works p w site k in_site Enforced db edit refl) step.1 in
      record {
        schema = ap (λ (d : Database). d.schema) done.after_is;
        others = subst (λ (t : Trees). AllByRecursion (λ (x : Table). x.tree ≢ tree → t x.tree ≡ db x.tree) w.schema.tables) (sym trees) one.tables;
        cleared = λ ok. ap (λ (t : Trees). t tree) trees ∙ one.rows ∙ left columns tree db given.0 (over db tree (low_tree p w site k in_site)) ok (given.1.answer Null);
        database = λ sound. run.sound;
      }

-- what a raise removes of the table whose rows move
pub clears_moving : (d : Parts) (o : OlderParts) (m : MovingParts) → IsDesign d → IsOlder d o → IsMoving d o m → IsClearing d m.from m.clear
clears_moving d o m design older it = record {
  within = (
      let has = it.has in
      let many = design.many in
      let long : length d.tables ≡ length o.tables + length o.missing = ap length older.tables_are ∙ length-append o.tables o.missing in
      omega (arith, has, many, long));
  has = it.clears;
  at = it.clear_at;
  tree = it.clear_tree;
  meant = it.clears_meant;
}
