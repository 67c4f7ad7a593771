-- What raising a store of an older format makes of it.
use Rattle.std.proofs.Common.{is_eq, ◌≡◌, ◌≢◌, ◌≤◌, ◌<◌, ℕ, ℤ, true, List, [], ◌∷◌, map, length, Option, None, Some, Ok, Err, Result, OnOk, refl, sym, ap, subst, ◌∙◌, arith}
use Rattle.std.specs.Prelude.{IfSome}
use Rattle.std.specs.List.{AllByRecursion}
use Rattle.std.specs.List.Sorted.{IsPermutation}
use Rattle.sqlite.specs.declared.types.Value.{Value}
use Rattle.sqlite.specs.declared.types.Value.TheVariants.{Null, Int, Real, Text, Blob}
use Rattle.std.proofs.lemmas.Cmp.{tied_itself}
use Rattle.sqlite_value.proofs.OrderLemmas.{value_cmp_total}
use Rattle.sqlite_value.specs.Order.{Row, column, value_cmp}
use Rattle.sqlite.specs.Change.{next_tree}
use Rattle.sqlite.specs.Tree.{Trees}
use Rattle.sqlite.specs.Edit.{edit_of, edited}
use Rattle.sqlite.specs.Rowids.TheVariants.{Given}
use Rattle.sqlite.specs.Does.{Does}
use Rattle.sqlite.specs.Query.{IsAnswer, output, Output}
use Rattle.sqlite.specs.Program.{overlay}
use Rattle.sqlite.specs.Rows.{Written, Task}
use Rattle.sqlite.specs.Schema.{Schema}
use Rattle.sqlite.specs.Table.{Table}
use Rattle.sqlite_rules.specs.Calls.{ids_of}
use Rattle.sqlite_schema.specs.declared.schema.Keys.TheVariants.{Enforced}
use Rattle.sqlite.specs.Listing.{understood}
use Rattle.sqlite.specs.Effect.{Database}
use Rattle.sqlite.specs.State.{State, mode_of, Executes}
use Rattle.sqlite.proofs.Callers.{statement_of, runs_as, one_step, one_permutation}
use Rattle.fare_tables.specs.Cells.{int}
use Rattle.fare_tables.proofs.Statements.{made, cast_int, went, same_value}
use Rattle.fare_tables.proofs.Terms.{matched}
use Rattle.fare_layout.specs.declared.place.TableNumber.{TableNumber}
use Rattle.fare_layout.specs.Places.{place_of, all_of}
use Rattle.fare_layout.proofs.Others.{all_two, all_below, grown_all}
use Rattle.fare_opening.specs.declared.design.Older.{Older}
use Rattle.fare_opening.specs.declared.site.Site.{Site}
use Rattle.fare_opening.specs.MetaRow.{IsNumber, IsMeta}
use Rattle.fare_opening.specs.Moves.{MovesAny}
use Rattle.fare_opening.specs.Moving.{MovingParts, columns_of, AreNumbered, copies, shaped}
use Rattle.fare_opening.specs.Numbers.{Meta}
use Rattle.fare_opening.specs.Parts.{Parts, OlderParts, IsDesign, IsOlder, IsMoving, IsTold, meta_named, sets_meta, set_query, parts_of}
use Rattle.fare_opening.specs.Raising.{IsKept, IsNotFilled, HasMoved, AreRead, CanRise, SetsMeta, IsRaised, IsRising, RaisesAll}
use Rattle.fare_opening.specs.Making.{HasGrown}
use Rattle.fare_opening.specs.Sites.{IsSite, tree_at, rows_at}
use Rattle.fare_opening.proofs.Asked.{all_rows, filter_all, over}
use Rattle.fare_opening.proofs.Moved.{new_trees}
use Rattle.fare_opening.proofs.Risen.{past_go, nth_goes}
use Rattle.fare_opening.proofs.Standing.{meta_stands, meta_placed, meta_within, is_within, older_within, each_stands, each_tree, comes_first, two_trees, is_not_meta, no_works, at_found, sets_means, place_count}

-- ---- the row of meta, with another format

same_id : (n : ℤ) → is_eq (value_cmp (Int n) (Int n)) ≡ true
same_id n = ap is_eq (tied_itself value_cmp_total (Int n))

-- the row takes the place of the one that has its number
replaced : (name : List ℕ) (format owner : ℕ) (row : Row) (v : Value) (db : Trees) (tree : ℕ) → IsNumber v → column row 0 ≡ v → db tree ≡ row ∷ []
    → edited db (edit_of db (meta_named name tree) (ids_of ((v ∷ v ∷ int format ∷ int owner ∷ []) ∷ [])) Given 1 ((v ∷ v ∷ int format ∷ int owner ∷ []) ∷ [])) ≡ (v ∷ int format ∷ int owner ∷ []) ∷ []
replaced name format owner row Null db tree number is one = absurd number
replaced name format owner row (Real x) db tree number is one = absurd number
replaced name format owner row (Text t) db tree number is one = absurd number
replaced name format owner row (Blob b) db tree number is one = absurd number
replaced name format owner row (Int n) db tree number is one = rw one (rw is (simp (cast_int, same_id n)))

-- what the statement reads of the one row
reads_row : (d : Parts) (w : Site) (db : Trees) (format owner : ℕ) (params : Row) (rows : List Row) → IsDesign d → IsSite d w → (it : IsMeta format owner (rows_at w Meta db)) → params ≡ int d.format ∷ [] → IsAnswer (set_query (tree_at w Meta)) (overlay db []) params rows
    → rows ≡ (column it.row 0 ∷ column it.row 0 ∷ int d.format ∷ int owner ∷ []) ∷ []
reads_row d w db format owner params rows design site it given a =
    let tree = tree_at w Meta in
    let stored = overlay db [] tree in
    let one : stored ≡ it.row ∷ [] = over db tree (meta_stands d w design site).low ∙ it.only in
    let staged : a.staged ≡ map (λ r. params ∷ r ∷ []) stored = a.grouped ∙ matched (λ r. Unit {0}) (λ r. true) params [] (λ r ok. refl) stored (all_rows stored) ∙ ap (map (λ r. params ∷ r ∷ [])) (filter_all stored) in
    let shown : Output = ([], column it.row 0 ∷ column it.row 0 ∷ column params 0 ∷ column it.row 2 ∷ []) in
    let kept : a.kept ≡ shown ∷ [] = a.distinct ∙ ap (map (output (set_query tree))) (staged ∙ ap (map (λ r. params ∷ r ∷ [])) one) in
    let ordered : a.ordered ≡ shown ∷ [] = one_permutation shown a.ordered (subst (λ k. IsPermutation k a.ordered) kept a.same) in
    a.shown ∙ ap (map (λ (p : Output). p.1)) ordered ∙ (λ i. (column it.row 0 ∷ column it.row 0 ∷ column (given i) 0 ∷ it.is.owner_is i ∷ []) ∷ [])

pub sets_row : (d : Parts) (w : Site) (old new : State) (format owner count : ℕ) → IsDesign d → IsSite d w → old.now.schema ≡ w.schema → IsMeta format owner (rows_at w Meta old.now.trees) → Executes d.meta.set (int d.format ∷ []) old new (Ok count) → SetsMeta d owner w old.now new.now
sets_row d w old new format owner count design site has meta h =
    let params = int d.format ∷ [] in
    let db = old.now.trees in
    let tree = tree_at w Meta in
    let table = meta_named d.meta.table.0 tree in
    let command = sets_meta (place_of w.places Meta).at tree in
    let means = sets_means d w design site in
    let run = runs_as d.meta.set params old new w.schema has command means.command_is means.plain count h in
    let text = statement_of d.meta.set (understood w.schema d.meta.set) in
    let task : Task = record { limit = old.step_limit; keys = Enforced; schema = w.schema; table = table; params = params } in
    let done = made task (mode_of old) command db run.tally new.now (at_found task (mode_of old) command db _ (run.tally, new.now) (meta_placed d w design site) (subst (λ s. Does old.step_limit (mode_of old) params (record old.now { schema = s }) text None command (Ok (run.tally, new.now))) has run.changed)) in
    let it = went done.wrote in
    let rows = reads_row d w db format owner params it.0 design site meta refl (it.1.answer Null) in
    let v = column meta.row 0 in
    let step = went it.2 in
    let trees : new.now.trees ≡ step.0 = ap (λ (d : Database). d.trees) done.after_is ∙ ap (λ (x : Written). x.trees) (same_value step.2) in
    let edit = edit_of db table (ids_of it.0) Given 1 it.0 in
    let one = one_step w.schema Enforced db step.0 edit (no_works d w site Meta (meta_within d w design site) Enforced db edit refl) step.1 in
    let is : edited db edit ≡ (v ∷ int d.format ∷ int owner ∷ []) ∷ [] = ap (λ all. edited db (edit_of db table (ids_of all) Given 1 all)) rows ∙ replaced d.meta.table.0 d.format owner meta.row v db tree meta.is.id_is refl meta.only in
    record {
      schema = ap (λ (d : Database). d.schema) done.after_is;
      meta = record { row = v ∷ int d.format ∷ int owner ∷ []; only = ap (λ (t : Trees). t tree) trees ∙ one.rows ∙ is; is = record { id_is = meta.is.id_is; format_is = refl; owner_is = refl } };
      others = subst (λ (t : Trees). AllByRecursion (λ (x : Table). x.tree ≢ tree → t x.tree ≡ db x.tree) w.schema.tables) (sym trees) one.tables;
      database = run.sound;
    }

-- ---- the tables that are made, the rows that move, and then the format

-- a tree isn't that of the table that gets rows
abbrev IsApart : Option MovingParts → Site → ℕ → Type 0
IsApart None w tree = Unit {0}
IsApart (Some m) w tree = tree ≢ tree_at w m.to

-- the schema is as it was, and each table but the two keeps its rows
through_schema : (o : OlderParts) (w : Site) (rows : List Row) (b c : Database) (x : Option MovingParts) → b.schema ≡ w.schema → MovesAny o w rows b c x → c.schema ≡ w.schema
through_schema o w rows b c None has same = ap (λ (db : Database). db.schema) same ∙ has
through_schema o w rows b c (Some m) has it = it.schema

through : (o : OlderParts) (w : Site) (rows : List Row) (b c : Database) (x : Option MovingParts) → MovesAny o w rows b c x → AllByRecursion (λ (t : Table). IsApart x w t.tree → IsKept x w t.tree → c.trees t.tree ≡ b.trees t.tree) w.schema.tables
through o w rows b c None same = all_same w.schema.tables
  where
    all_same : (tables : List Table) → AllByRecursion (λ (t : Table). Unit {0} → Unit {0} → c.trees t.tree ≡ b.trees t.tree) tables
    all_same [] = tt
    all_same (t ∷ tables) = ((λ one two. ap (λ (db : Database). db.trees t.tree) same), all_same tables)
through o w rows b c (Some m) it = it.others

module _ (d : Parts) (o : OlderParts) (owner : ℕ) (v w : Site) (a b c : Database) (design : IsDesign d) (older : IsOlder d o) (can : CanRise d o owner a v w) (grown : HasGrown w.schema a b) where
  -- each table of the older format stands where it stood
  same_tree : (k : TableNumber) → k.number < length (all_of v.places) → tree_at v k ≡ tree_at w k
  same_tree k low = ap (λ p. p.tree) (nth_goes a.schema (all_of v.places) (all_of w.places) can.rises.places k.number low)

  -- and had its rows when the others were made
  made_keeps : (k : TableNumber) → k.number < length (all_of v.places) → rows_at w k b.trees ≡ rows_at w k a.trees
  made_keeps k low =
      let others = subst (λ (s : Schema). AllByRecursion (λ (t : Table). b.trees t.tree ≡ a.trees t.tree) s.tables) can.rises.has grown.others in
      subst (λ n. b.trees n ≡ a.trees n) (same_tree k low) (each_tree (λ n. b.trees n ≡ a.trees n) (parts_of o) v can.rises.from others k low)

  old_meta : 0 < length (all_of v.places)
  old_meta = meta_within (parts_of o) v older.design can.rises.from

  old_count : length o.tables ≡ length (all_of v.places)
  old_count = sym older.design.many ∙ place_count v.schema o.own.tables (all_of v.places) can.rises.from.stands

  -- a table that was made has no row
  none_there : (k : TableNumber) → length o.tables ≤ k.number → k.number < length (all_of w.places) → rows_at w k b.trees ≡ []
  none_there k past low =
      let s = each_stands w.schema d.own.tables w.places can.rises.site.stands k low in
      grown.empty (place_of w.places k).at (record s.0 { tree = (place_of w.places k).tree }) (past_go a.schema (all_of v.places) (all_of w.places) can.rises.places k.number (subst (λ n. n ≤ k.number) old_count past) low) s.1.there

  -- and a tree that no table had
  new_tree : (k : TableNumber) → length o.tables ≤ k.number → k.number < length (all_of w.places) → next_tree a.schema ≤ tree_at w k
  new_tree k past low =
      let s = each_stands w.schema d.own.tables w.places can.rises.site.stands k low in
      new_trees o.missing a.schema w.schema can.rises.grows (place_of w.places k).at (record s.0 { tree = (place_of w.places k).tree }) (past_go a.schema (all_of v.places) (all_of w.places) can.rises.places k.number (subst (λ n. n ≤ k.number) old_count past) low) s.1.there

  to_within : (m : MovingParts) → IsMoving d o m → m.to.number < length (all_of w.places)
  to_within m it = is_within d w can.rises.site m.to (shaped it.shape it.tree) it.shape_is

  from_within : (m : MovingParts) → IsMoving d o m → m.from.number < length (all_of w.places)
  from_within m it = older_within d o w design older can.rises.site m.from it.has

  old_apart : (x : Option MovingParts) → IfSome x (IsMoving d o) → (tree : ℕ) → tree < next_tree a.schema → IsApart x w tree
  old_apart None it tree low = tt
  old_apart (Some m) it tree low = λ same. (let high = new_tree m.to it.lacks (to_within m it) in omega (arith, low, high, same))

  meta_apart : (x : Option MovingParts) → IfSome x (IsMoving d o) → IsApart x w (tree_at w Meta) × IsKept x w (tree_at w Meta)
  meta_apart None it = (tt, tt)
  meta_apart (Some m) it =
      let past = it.past in
      let lacks = it.lacks in
      let has = it.has in (
        comes_first d w can.rises.site Meta m.to (omega (arith, past, lacks, has)) (to_within m it),
        comes_first d w can.rises.site Meta m.from past (from_within m it),
      )

  -- a table that was made and gets no rows is none of the two
  made_apart : (x : Option MovingParts) → IfSome x (IsMoving d o) → (k : TableNumber) → length o.tables ≤ k.number → k.number < length (all_of w.places) → IsNotFilled x k → IsApart x w (tree_at w k) × IsKept x w (tree_at w k)
  made_apart None it k past low other = (tt, tt)
  made_apart (Some m) it k past low other =
      let has = it.has in (
        two_trees d w can.rises.site k m.to other low (to_within m it),
        (λ same. comes_first d w can.rises.site m.from k (omega (arith, has, past)) low (sym same)),
      )

  module _ (rows : List Row) (moves : MovesAny o w rows b c o.moving) where
    -- the row of meta is as it was
    pub meta_stays : IsMeta o.format owner (rows_at w Meta c.trees)
    meta_stays =
        let apart = meta_apart o.moving older.moves in
        let moved : rows_at w Meta c.trees ≡ rows_at w Meta b.trees = each_tree (λ n. IsApart o.moving w n → IsKept o.moving w n → c.trees n ≡ b.trees n) d w can.rises.site (through o w rows b c o.moving moves) Meta (meta_within d w design can.rises.site) apart.0 apart.1 in
        subst (IsMeta o.format owner) (ap a.trees (same_tree Meta old_meta) ∙ sym (moved ∙ made_keeps Meta old_meta)) can.meta

    pub schema_stays : c.schema ≡ w.schema
    schema_stays = through_schema o w rows b c o.moving grown.schema moves

    module _ (e : Database) (sets : SetsMeta d owner w c e) where
      -- a table but meta is as it was before the format was set
      set_keeps : (k : TableNumber) → 0 < k.number → k.number < length (all_of w.places) → rows_at w k e.trees ≡ rows_at w k c.trees
      set_keeps k high low = each_tree (λ n. n ≢ tree_at w Meta → e.trees n ≡ c.trees n) d w can.rises.site sets.others k low (is_not_meta d w can.rises.site k high low)

      has_moved : (x : Option MovingParts) → IfSome x (IsMoving d o) → MovesAny o w rows b c x → IfSome x (λ (m : MovingParts). AreNumbered (columns_of o.own m.from) (rows_at v m.from a.trees) → rows ≡ rows_at v m.from a.trees) → IfSome x (HasMoved o w a e)
      has_moved None it move read = tt
      has_moved (Some m) it move read =
          let columns = columns_of o.own m.from in
          let has = it.has in
          let lacks = it.lacks in
          let past = it.past in
          let old_low = subst (λ n. m.from.number < n) old_count it.has in
          let from_is : rows_at v m.from a.trees ≡ rows_at w m.from a.trees = ap a.trees (same_tree m.from old_low) in
          let kept = made_keeps m.from old_low in
          record {
            emptied = λ ok. set_keeps m.from past (from_within m it) ∙ move.cleared (subst (AreNumbered columns) (sym kept) ok);
            copied = λ ok. (
                let are : rows ≡ rows_at w m.from a.trees = read (subst (AreNumbered columns) (sym from_is) ok) ∙ from_is in
                set_keeps m.to (omega (arith, past, has, lacks)) (to_within m it) ∙ move.filled (subst (AreNumbered columns) (sym are) ok) (none_there m.to lacks (to_within m it)) ∙ ap copies are);
          }

      pub is_raised : AreRead o v a rows → IsRaised d o owner w a e
      is_raised read =
          let later = grown_all (λ (t : Table). t.tree ≢ tree_at w Meta → e.trees t.tree ≡ c.trees t.tree) o.missing a.schema w.schema can.rises.grows sets.others in
          let mid = grown_all (λ (t : Table). IsApart o.moving w t.tree → IsKept o.moving w t.tree → c.trees t.tree ≡ b.trees t.tree) o.missing a.schema w.schema can.rises.grows (through o w rows b c o.moving moves) in
          let first = all_two (λ (t : Table). t.tree < next_tree a.schema) (λ (t : Table). IsApart o.moving w t.tree → IsKept o.moving w t.tree → c.trees t.tree ≡ b.trees t.tree) (λ (t : Table). IsKept o.moving w t.tree → c.trees t.tree ≡ b.trees t.tree) (λ t low step. step (old_apart o.moving older.moves t.tree low)) a.schema.tables (all_below a.schema) mid in
          let both = all_two (λ (t : Table). b.trees t.tree ≡ a.trees t.tree) (λ (t : Table). IsKept o.moving w t.tree → c.trees t.tree ≡ b.trees t.tree) (λ (t : Table). IsKept o.moving w t.tree → c.trees t.tree ≡ a.trees t.tree) (λ t one two kept. two kept ∙ one) a.schema.tables grown.others first in
          record {
            schema = sets.schema;
            meta = sets.meta;
            others = all_two (λ (t : Table). IsKept o.moving w t.tree → c.trees t.tree ≡ a.trees t.tree) (λ (t : Table). t.tree ≢ tree_at w Meta → e.trees t.tree ≡ c.trees t.tree) (λ (t : Table). t.tree ≢ tree_at w Meta → IsKept o.moving w t.tree → e.trees t.tree ≡ a.trees t.tree) (λ t one two not kept. two not ∙ one kept) a.schema.tables both later;
            empty = λ k past low other. (
                let some = older.design.tables_are in
                let least : 0 < length o.tables = subst (λ (ts : List (List ℕ × List ℕ)). 0 < length ts) (sym some) (omega arith) in
                let high : 0 < k.number = omega (arith, least, past) in
                let apart = made_apart o.moving older.moves k past low other in
                let moved : rows_at w k c.trees ≡ rows_at w k b.trees = each_tree (λ n. IsApart o.moving w n → IsKept o.moving w n → c.trees n ≡ b.trees n) d w can.rises.site (through o w rows b c o.moving moves) k low apart.0 apart.1 in
                set_keeps k high low ∙ moved ∙ none_there k past low);
            moved = has_moved o.moving older.moves moves read;
            database = sets.database;
          }

-- whoever's store it is
pub all_raised : {X E : Type 0} (d : Parts) (told : Older) (r : Result X E) (a e : Database) (rows : List Row) (Q : Type 0) → IsRising d told a rows
    → ((o : OlderParts) → IsOlder d o → IsTold told o → (owner : ℕ) (v w : Site) → CanRise d o owner a v w → OnOk r (IsRaised d o owner w a e × Q)) → OnOk r (RaisesAll d told a e × Q)
all_raised d told (Ok x) a e rows Q it h = (record { each = λ o older is owner v w can. (h o older is owner v w can).0 }, (h it.o it.older it.is_told it.owner it.from it.to it.can).1)
all_raised d told (Err x) a e rows Q it h = tt
