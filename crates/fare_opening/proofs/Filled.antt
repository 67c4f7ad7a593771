-- What a table gets where copies of rows are put into it.
use Rattle.std.proofs.Common.{◌≡◌, ◌≢◌, ◌+◌, ◌++◌, ℕ, zero, suc, List, [], ◌∷◌, length, pos, append-nil, None, Some, Ok, refl, sym, ap, subst, ◌∙◌, arith}
use Rattle.std.specs.Prelude.{take, ◌/◌, slice_get}
use Rattle.std.specs.List.{AllByRecursion}
use Rattle.std.proofs.Math.Nat.{div_self}
use Rattle.std.proofs.Math.Seq.{take-length}
use Rattle.std.proofs.lemmas.List.{append_assoc, map-append}
use Rattle.sqlite.specs.declared.types.Value.{Value}
use Rattle.sqlite_value.specs.Order.{Row}
use Rattle.sqlite.specs.Tree.{Trees, put_row}
use Rattle.sqlite.specs.Term.{Term}
use Rattle.sqlite_sql.specs.Term.{eval_all}
use Rattle.sqlite.specs.Kind.TheVariants.{Integer}
use Rattle.sqlite.specs.Cast.{cast, cast_all}
use Rattle.sqlite.specs.Edit.{edit_of, edited}
use Rattle.sqlite.specs.Rowids.TheVariants.{Chosen}
use Rattle.sqlite.specs.Does.{Does}
use Rattle.sqlite.specs.Rows.{Written, Task}
use Rattle.sqlite.specs.Table.{Table}
use Rattle.sqlite_schema.specs.declared.schema.Column.{Column}
use Rattle.sqlite_schema.specs.declared.schema.Keys.TheVariants.{Enforced}
use Rattle.sqlite.specs.Listing.{understood}
use Rattle.sqlite.specs.Effect.{Database, value_rows}
use Rattle.sqlite.specs.State.{State, mode_of, Executes}
use Rattle.sqlite.proofs.Callers.{statement_of, runs_as, one_step}
use Rattle.fare_tables.specs.Cells.{nat_in, int}
use Rattle.fare_tables.proofs.Statements.{made, cast_int, went, same_value}
use Rattle.fare_layout.specs.declared.place.TableNumber.{TableNumber}
use Rattle.fare_layout.specs.Commands.{KeepsMeaning}
use Rattle.fare_layout.specs.Places.{place_of}
use Rattle.fare_layout.proofs.Meant.{Meant, meant}
use Rattle.fare_layout.proofs.Others.{all_two}
use Rattle.fare_opening.specs.declared.site.Site.{Site}
use Rattle.fare_opening.specs.Listed.{IsPutting, Puts}
use Rattle.fare_opening.specs.Moves.{Fills}
use Rattle.fare_opening.specs.Moving.{MovingParts, cells_from, puts_cells, columns_of, AreIntegers, Shape, shaped, IsNumbered, AreNumbered, copy_of, copies}
use Rattle.fare_opening.specs.Parts.{Parts, OlderParts, IsMoving}
use Rattle.fare_opening.specs.Sites.{IsSite, tree_at}
use Rattle.fare_opening.proofs.Cells.{cells_in, numbered_long}
use Rattle.fare_opening.proofs.Numbered.{rows_front, rows_last, copied_numbered, put_last}
use Rattle.fare_opening.proofs.Standing.{all_has, at_found, no_works, is_within, this_stands}

-- ---- the parameters make one row

cells_count : (slot at n : ℕ) → length (cells_from slot at n) ≡ n
cells_count slot at zero = refl
cells_count slot at (suc n) = ap suc (cells_count slot (at + 1) n)

all_taken : (n : ℕ) (terms : List Term) → length terms ≡ n → take n terms ≡ terms
all_taken n terms long = subst (λ k. take k terms ≡ terms) long (take-length terms)

pub one_row : (n : ℕ) (params : Row) → length params ≡ suc n → value_rows (params ++ []) (suc n) (length (cells_from 0 0 (suc n)) / suc n) (cells_from 0 0 (suc n)) ≡ params ∷ []
one_row n params long =
    let terms = cells_from 0 0 (suc n) in
    let count : length terms / suc n ≡ 1 = ap (λ k. k / suc n) (cells_count 0 0 (suc n)) ∙ div_self (omega arith) in
    ap (λ p. value_rows p (suc n) (length terms / suc n) terms) (append-nil params)
    ∙ ap (λ k. value_rows params (suc n) k terms) count
    ∙ ap (λ (ts : List Term). eval_all ts (params ∷ []) ∷ []) (all_taken (suc n) terms (cells_count 0 0 (suc n)))
    ∙ ap (λ (r : Row). r ∷ []) (cells_in 0 0 (suc n) (params ∷ []) params refl (omega (arith, long)))

-- ---- it is put as it is

number_cast : (v : Value) → v ≡ int (nat_in v) → cast Integer v ≡ v
number_cast v is = ap (cast Integer) is ∙ cast_int (pos (nat_in v)) ∙ sym is

pub all_cast : (n : ℕ) (columns : List Column) (row : Row) → AreIntegers n columns → IsNumbered n row → cast_all columns row ≡ row
all_cast zero [] [] integers ok = refl
all_cast zero [] (v ∷ row) integers ok = absurd ok
all_cast zero (c ∷ columns) row integers ok = absurd integers
all_cast (suc n) [] row integers ok = absurd integers
all_cast (suc n) (c ∷ columns) [] integers ok = absurd ok
all_cast (suc n) (c ∷ columns) (v ∷ row) integers ok = λ i. (ap (λ k. cast k v) integers.0 ∙ number_cast v ok.0) i ∷ all_cast n columns row integers.1 ok.1 i

-- a row with its rowid is put in its place
pub put_as : (s : Shape) (tree n : ℕ) (db : Trees) (row : Row) → AreIntegers n s.columns → IsNumbered (suc n) row → edited db (edit_of db (shaped s tree) [] Chosen 0 (row ∷ [])) ≡ put_row row (db tree)
put_as s tree n db [] integers ok = absurd ok
put_as s tree n db (v ∷ row) integers ok =
    let cells : cast_all s.columns row ≡ row = all_cast n s.columns row integers ok.1 in
    let id : cast Integer v ≡ int (nat_in v) = number_cast v ok.0 ∙ ok.0 in
    rw (id, cells) (ap (λ x. put_row (x ∷ row) (db tree)) (sym ok.0))

-- ---- one row

module _ (p : Parts) (k : TableNumber) (columns : ℕ) (text : List ℕ) (w : Site) (it : IsPutting p k columns text) (site : IsSite p w) where
  puts_meant : Meant w.schema text (puts_cells (suc columns) (place_of w.places k).at)
  puts_meant =
      let keeps = all_has (λ (t : TableNumber × List ℕ). KeepsMeaning p.own w.schema (place_of w.places t.0) t.1) p.texts (k, text) site.keeps it.has in
      meant w.schema text (puts_cells (suc columns) (place_of w.places k).at) (keeps (puts_cells (suc columns) it.at) it.meant)

  pub puts_row : (old new : State) (params : Row) (count : ℕ) → old.now.schema ≡ w.schema → Executes text params old new (Ok count) → Puts w k columns (params ∷ []) old.now new.now
  puts_row old new params count has h =
      let db = old.now.trees in
      let tree = tree_at w k in
      let table = shaped it.shape tree in
      let command = puts_cells (suc columns) (place_of w.places k).at in
      let run = runs_as text params old new w.schema has command puts_meant.command_is puts_meant.plain count h in
      let read = statement_of text (understood w.schema text) in
      let task : Task = record { limit = old.step_limit; keys = Enforced; schema = w.schema; table = table; params = params } in
      let placed : slice_get w.schema.tables (place_of w.places k).at ≡ Some table = (this_stands p w site k (shaped it.shape it.tree) it.shape_is).there in
      let done = made task (mode_of old) command db run.tally new.now (at_found task (mode_of old) command db _ (run.tally, new.now) placed (subst (λ s. Does old.step_limit (mode_of old) params (record old.now { schema = s }) read None command (Ok (run.tally, new.now))) has run.changed)) in
      let given = went done.wrote in
      let written = went (went given.2).2 in
      let counted = went written.2 in
      let trees : new.now.trees ≡ written.0 = ap (λ (d : Database). d.trees) done.after_is ∙ ap (λ (it : Written). it.trees) (same_value counted.2) ∙ same_value counted.1 in
      let step = one_step w.schema Enforced db written.0 (edit_of db table [] Chosen 0 given.0) (no_works p w site k (is_within p w site k (shaped it.shape it.tree) it.shape_is) Enforced db (edit_of db table [] Chosen 0 given.0) refl) written.1 in
      record {
        schema = ap (λ (d : Database). d.schema) done.after_is;
        others = subst (λ (t : Trees). AllByRecursion (λ (x : Table). x.tree ≢ tree → t x.tree ≡ db x.tree) w.schema.tables) (sym trees) step.tables;
        put = λ before ok is. (
            let all = (rows_last (IsNumbered (suc columns)) before params ok).0 in
            let rows : given.0 ≡ params ∷ [] = given.1.1 ∙ one_row columns params (numbered_long (suc columns) params all) in
            let edit : edited db (edit_of db table [] Chosen 0 given.0) ≡ put_row params (db tree) = ap (λ all. edited db (edit_of db table [] Chosen 0 all)) rows ∙ put_as it.shape tree columns db params it.integers all in
            ap (λ (t : Trees). t tree) trees ∙ step.rows ∙ edit ∙ ap (put_row params) is ∙ put_last columns before params ok);
        database = λ sound. run.sound;
      }

-- ---- several rows

pub none_put : (w : Site) (k : TableNumber) (columns : ℕ) (a : Database) → a.schema ≡ w.schema → Puts w k columns [] a a
none_put w k columns a has = record {
  schema = has;
  others = all_same w.schema.tables;
  put = λ done ok is. is ∙ sym (append-nil done);
  database = λ sound. sound;
}
  where
    all_same : (tables : List Table) → AllByRecursion (λ (t : Table). t.tree ≢ tree_at w k → a.trees t.tree ≡ a.trees t.tree) tables
    all_same [] = tt
    all_same (t ∷ tables) = ((λ not. refl), all_same tables)

pub put_behind : (w : Site) (k : TableNumber) (columns : ℕ) (rows : List Row) (r : Row) (a b e : Database) → Puts w k columns rows a b → Puts w k columns (r ∷ []) b e → Puts w k columns (rows ++ r ∷ []) a e
put_behind w k columns rows r a b e first one = record {
  schema = one.schema;
  others = all_two (λ (t : Table). t.tree ≢ tree_at w k → b.trees t.tree ≡ a.trees t.tree) (λ (t : Table). t.tree ≢ tree_at w k → e.trees t.tree ≡ b.trees t.tree) (λ (t : Table). t.tree ≢ tree_at w k → e.trees t.tree ≡ a.trees t.tree) (λ t early late not. late not ∙ early not) w.schema.tables first.others one.others;
  put = λ done ok is. (
      let same : done ++ (rows ++ r ∷ []) ≡ (done ++ rows) ++ r ∷ [] = sym (append_assoc done rows (r ∷ [])) in
      let all : AreNumbered columns ((done ++ rows) ++ r ∷ []) = subst (AreNumbered columns) same ok in
      let early = first.put done (rows_front (IsNumbered (suc columns)) (done ++ rows) (r ∷ []) all) is in
      one.put (done ++ rows) all early ∙ sym same);
  database = λ sound. one.database (first.database sound);
}

-- ---- copies, with a 0 behind each row

pub puts_moving : (d : Parts) (o : OlderParts) (m : MovingParts) → IsMoving d o m → IsPutting d m.to (suc (columns_of o.own m.from)) m.put
puts_moving d o m it = record { has = it.puts; at = it.put_at; meant = it.puts_meant; shape = it.shape; tree = it.tree; shape_is = it.shape_is; integers = it.integers }

-- that is what a table gets to which rows move
pub fills : (w : Site) (k : TableNumber) (columns : ℕ) (rows : List Row) (a b : Database) → Puts w k (suc columns) (copies rows) a b → Fills w k columns rows a b
fills w k columns rows a b it = record { schema = it.schema; others = it.others; filled = it.put; database = it.database }

pub filled : (w : Site) (k : TableNumber) (columns : ℕ) (rows : List Row) (a b : Database) → Fills w k columns rows a b → Puts w k (suc columns) (copies rows) a b
filled w k columns rows a b it = record { schema = it.schema; others = it.others; put = it.filled; database = it.database }

pub none_filled : (w : Site) (k : TableNumber) (columns : ℕ) (a : Database) → a.schema ≡ w.schema → Fills w k columns [] a a
none_filled w k columns a has = fills w k columns [] a a (none_put w k (suc columns) a has)

pub filled_behind : (w : Site) (k : TableNumber) (columns : ℕ) (rows : List Row) (r : Row) (a b e : Database) → Fills w k columns rows a b → Fills w k columns (r ∷ []) b e → Fills w k columns (rows ++ r ∷ []) a e
filled_behind w k columns rows r a b e first one =
    fills w k columns (rows ++ r ∷ []) a e (subst (λ all. Puts w k (suc columns) all a e) (sym (map-append copy_of rows (r ∷ []))) (put_behind w k (suc columns) (copies rows) (copy_of r) a b e (filled w k columns rows a b first) (filled w k columns (r ∷ []) b e one)))

-- the row that was put is a copy, where it can be one
pub fills_with : (w : Site) (k : TableNumber) (columns : ℕ) (row params : Row) (a b : Database) → ((n : ℕ) → IsNumbered n row → params ≡ copy_of row) → Puts w k (suc columns) (params ∷ []) a b → Fills w k columns (row ∷ []) a b
fills_with w k columns row params a b cells it = record {
  schema = it.schema;
  others = it.others;
  filled = λ done ok is. (
      let from = copied_numbered (suc (suc columns)) row (rows_last (IsNumbered (suc (suc columns))) done (copy_of row) ok).0 in
      let same : params ≡ copy_of row = cells from.0 from.1 in
      it.put done (subst (λ r. AreNumbered (suc columns) (done ++ r ∷ [])) (sym same) ok) is ∙ ap (λ r. done ++ r ∷ []) same);
  database = it.database;
}
