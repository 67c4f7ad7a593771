-- The row of meta, after the tables.
use Rattle.std.proofs.Common.{◌≡◌, ◌≢◌, ◌<◌, ℕ, List, [], ◌∷◌, length, None, Ok, Err, Result, OnOk, refl, ap, sym, subst, ◌∙◌, arith}
use Rattle.std.specs.Prelude.{slice_get}
use Rattle.std.specs.List.{AllByRecursion}
use Rattle.sqlite.specs.declared.types.Value.TheVariants.{Null}
use Rattle.sqlite_value.specs.Order.{Row}
use Rattle.sqlite.specs.Tree.{Trees}
use Rattle.sqlite.specs.Edit.{edit_of, edited}
use Rattle.sqlite.specs.Rowids.TheVariants.{Chosen}
use Rattle.sqlite.specs.Does.{Does}
use Rattle.sqlite.specs.Rows.{Written, Task}
use Rattle.sqlite.specs.Schema.{Schema}
use Rattle.sqlite.specs.Table.{Table}
use Rattle.sqlite.specs.Change.{next_tree}
use Rattle.sqlite_schema.specs.declared.schema.Keys.TheVariants.{Enforced}
use Rattle.sqlite.specs.Listing.{understood}
use Rattle.sqlite.specs.Effect.{Database}
use Rattle.sqlite.specs.State.{State, mode_of, Executes}
use Rattle.sqlite.proofs.Callers.{statement_of, runs_as, one_step}
use Rattle.fare_tables.specs.Cells.{int}
use Rattle.fare_tables.proofs.Statements.{made, cast_int, cast_null, went, same_value}
use Rattle.fare_layout.specs.declared.place.Place.{Place}
use Rattle.fare_layout.specs.Places.{place_of, all_of, or_nowhere}
use Rattle.fare_layout.specs.Growing.{GrowsBy, AreFrom}
use Rattle.fare_layout.proofs.Others.{all_two, all_below, grown_all, tree_next}
use Rattle.fare_opening.specs.declared.site.Site.{Site}
use Rattle.fare_opening.specs.Parts.{Parts, IsDesign, meta_named, puts_meta}
use Rattle.fare_opening.specs.Numbers.{Meta}
use Rattle.fare_opening.specs.Sites.{IsSite, tree_at}
use Rattle.fare_opening.specs.Making.{Makes, MayGrow, KeepsOthers, KeepsAllButMeta, IsBlank, IsNew, MakesNew}
use Rattle.fare_opening.proofs.Standing.{meta_stands, meta_placed, meta_within, each_tree, is_not_meta, no_works, at_found, puts_meant}

inserted : (name : List ℕ) (format owner : ℕ) (db : Trees) (tree : ℕ) (rows : List Row) → db tree ≡ [] → rows ≡ (Null ∷ int format ∷ int owner ∷ []) ∷ [] → edited db (edit_of db (meta_named name tree) [] Chosen 0 rows) ≡ (int 1 ∷ int format ∷ int owner ∷ []) ∷ []
inserted name format owner db tree rows none is = ap (λ all. edited db (edit_of db (meta_named name tree) [] Chosen 0 all)) is ∙ rw none (simp (cast_int, cast_null))

pub puts_row : (d : Parts) (owner : ℕ) (w : Site) (old new : State) (count : ℕ) → IsDesign d → IsSite d w → IsBlank w old.now → Executes d.meta.put (int d.format ∷ int owner ∷ []) old new (Ok count) → IsNew d owner w new.now × KeepsAllButMeta w old.now new.now
puts_row d owner w old new count design site blank h =
    let params = int d.format ∷ int owner ∷ [] in
    let db = old.now.trees in
    let tree = tree_at w Meta in
    let table = meta_named d.meta.table.0 tree in
    let command = puts_meta (place_of w.places Meta).at in
    let means = puts_meant d w design site in
    let run = runs_as d.meta.put params old new w.schema blank.schema command means.command_is means.plain count h in
    let text = statement_of d.meta.put (understood w.schema d.meta.put) in
    let task : Task = record { limit = old.step_limit; keys = Enforced; schema = w.schema; table = table; params = params } in
    let done = made task (mode_of old) command db run.tally new.now (at_found task (mode_of old) command db _ (run.tally, new.now) (meta_placed d w design site) (subst (λ s. Does old.step_limit (mode_of old) params (record old.now { schema = s }) text None command (Ok (run.tally, new.now))) blank.schema run.changed)) in
    let given = went done.wrote in
    let written = went (went given.2).2 in
    let counted = went written.2 in
    let trees : new.now.trees ≡ written.0 = ap (λ (d : Database). d.trees) done.after_is ∙ ap (λ (it : Written). it.trees) (same_value counted.2) ∙ same_value counted.1 in
    let step = one_step w.schema Enforced db written.0 (edit_of db table [] Chosen 0 given.0) (no_works d w site Meta (meta_within d w design site) Enforced db (edit_of db table [] Chosen 0 given.0) refl) written.1 in
    let at : (k : ℕ) → new.now.trees k ≡ written.0 k = λ k. ap (λ (t : Trees). t k) trees in (
      record {
        schema = ap (λ (d : Database). d.schema) done.after_is;
        meta = at tree ∙ step.rows ∙ inserted d.meta.table.0 d.format owner db tree given.0 blank.meta given.1.1;
        bare = λ k past low. at (tree_at w k) ∙ each_tree (λ n. n ≢ tree → written.0 n ≡ db n) d w site step.tables k low (is_not_meta d w site k past low) ∙ blank.bare k past low;
        database = run.sound;
      },
      subst (λ (t : Trees). AllByRecursion (λ (x : Table). x.tree ≢ tree → t x.tree ≡ db x.tree) w.schema.tables) (sym trees) step.tables,
    )

first_at : (at : ℕ) (ps : List Place) → AreFrom at ps → 0 < length ps → (or_nowhere (slice_get ps 0)).at ≡ at
first_at at [] from low = absurd (omega (arith, low))
first_at at (p ∷ ps) from low = from.0

-- the tree of meta is a new one
meta_tree : (d : Parts) (w : Site) (s : Schema) → IsDesign d → Makes d s w → tree_at w Meta ≡ next_tree s
meta_tree d w s design makes =
    let grows = subst (λ tables. GrowsBy s tables w.schema) design.tables_are makes.grows in
    tree_next design.rest (meta_named d.meta.table.0 0) (place_of w.places Meta) s grows.0 w.schema _ (meta_stands d w design makes.site) (first_at (length s.tables) (all_of w.places) makes.last (meta_within d w design makes.site)) grows.1 grows.2

-- so what was there before keeps its rows
pub others_kept : (d : Parts) (w : Site) (a b c : Database) → IsDesign d → Makes d a.schema w → KeepsOthers a b → KeepsAllButMeta w b c → KeepsOthers a c
others_kept d w a b c design makes first second =
    let meta = meta_tree d w a.schema design makes in
    let rest = grown_all (λ t. t.tree ≢ tree_at w Meta → c.trees t.tree ≡ b.trees t.tree) d.tables a.schema w.schema makes.grows second in
    let later = all_two (λ t. t.tree < next_tree a.schema) (λ t. t.tree ≢ tree_at w Meta → c.trees t.tree ≡ b.trees t.tree) (λ t. c.trees t.tree ≡ b.trees t.tree) (λ t low step. step (λ e. omega (arith, low, meta, e))) a.schema.tables (all_below a.schema) rest in
    all_two (λ t. b.trees t.tree ≡ a.trees t.tree) (λ t. c.trees t.tree ≡ b.trees t.tree) (λ t. c.trees t.tree ≡ a.trees t.tree) (λ t one two. two ∙ one) a.schema.tables first later

pub all_new : {X E : Type 0} (d : Parts) (owner : ℕ) (r : Result X E) (a b : Database) (Q : Type 0) → MayGrow d a.schema → ((w : Site) → Makes d a.schema w → OnOk r (IsNew d owner w b × KeepsOthers a b × Q)) → OnOk r (MakesNew d owner a b × Q)
all_new d owner (Ok x) a b Q grows h = (let now = h grows.site grows.makes in (record { each = λ w makes. (h w makes).0; others = now.1 }, now.2))
all_new d owner (Err e) a b Q grows h = tt
