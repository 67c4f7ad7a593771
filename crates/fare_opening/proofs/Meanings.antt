-- What a statement over one table means, where its name is found.
use Rattle.std.proofs.Common.{◌≡◌, ◌+◌, ◌==◌, ◌&&◌, ◌^◌, ℕ, true, false, not, length, List, [], ◌∷◌, map, Option, Some, None, Ok, nat_le, refl, ap, ◌∙◌}
use Rattle.std.specs.Prelude.{find, slice_get, unwrap_or}
use Rattle.sqlite_ast.specs.declared.Source.{Source, out-Source}
use Rattle.sqlite_ast.specs.declared.Core.{Core, out-Core}
use Rattle.sqlite_ast.specs.declared.Select.{Select as Selection, out-Select}
use Rattle.sqlite_ast.specs.declared.Sort.{Sort}
use Rattle.sqlite_ast.specs.declared.Origin.TheVariants as origin
use Rattle.sqlite_ast.specs.declared.Statement.TheVariants as written
use Rattle.sqlite_ast.specs.declared.Conflict.TheVariants as conflict
use Rattle.sqlite_ast.specs.declared.Expr.{Expr}
use Rattle.sqlite_ast.specs.declared.Rows.{Rows}
use Rattle.sqlite_ast.specs.declared.Upsert.{Upsert}
use Rattle.sqlite_sql.specs.Term.{Term}
use Rattle.sqlite_sql.specs.Query.{inner, end}
use Rattle.sqlite_value.specs.declared.keys.Collation.{Collation}
use Rattle.sqlite_draft.specs.declared.query.Draft.{Draft}
use Rattle.sqlite_draft.specs.Query.{query_of}
use Rattle.sqlite_typing.specs.Types.{accepts_after, is_count, row_classes}
use Rattle.sqlite_syntax.specs.declared.statement.Parsed.{Parsed}
use Rattle.sqlite_schema.specs.declared.schema.Schema.{Schema}
use Rattle.sqlite_schema.specs.declared.schema.Table.{Table}
use Rattle.sqlite_schema.specs.declared.command.Command.TheVariants.{Select, Insert, InsertOr, Update, Delete}
use Rattle.sqlite_schema.specs.declared.command.Source.{Source as Rows'}
use Rattle.sqlite_schema.specs.declared.command.Conflict.TheVariants as how
use Rattle.sqlite_schema.specs.Names.{table_named}
use Rattle.sqlite_resolve.specs.declared.scope.Bound.{Bound}
use Rattle.sqlite_resolve.specs.declared.body.Body.{Body}
use Rattle.sqlite_resolve.specs.declared.select.Clauses.{Clauses}
use Rattle.sqlite_resolve.specs.declared.state.State.{State}
use Rattle.sqlite_resolve.specs.Lowering.{Checked, and_then, ◌>>=◌, pure, get, fresh, max_budget, take_slot}
use Rattle.sqlite_resolve.specs.Scope.{Name, Context}
use Rattle.sqlite_resolve.specs.Body.{bounds, bound, table_in, body, result, matching}
use Rattle.sqlite_resolve.specs.Order.{keys, sorts}
use Rattle.sqlite_resolve.specs.Expr.{lower}
use Rattle.sqlite_resolve.specs.Select.{outermost, inside, having, parts, assembled, named, paging}
use Rattle.sqlite_resolve.specs.Program.{program, query, query_to, level, with, whole, alone, single, sources, source, viewing}
use Rattle.sqlite_resolve.specs.Compile.{compiled, first, planned, meaning, command, returning, timed, read, small, new_rows, insert_or_abort, insert, insert_or, update, delete, shows}
use Rattle.sqlite_resolve.specs.Write.{updated, deleted}
use Rattle.sqlite_resolve.specs.Given as given
use Rattle.fare_layout.specs.Commands.{essence}

-- ---- FROM finds the table

abbrev pub bound_of : Source → Name → ℕ → Bound
bound_of src name at = record { name = unwrap_or (out-Source src).alias name; table = at; slot = 1; shared = (out-Source src).using }

bounds_one : (s : Schema) (src : Source) (name : Name) (at : ℕ) → (out-Source src).origin ≡ origin.Table name → table_named s name ≡ Some at → bounds s (src ∷ []) (fresh 1 max_budget) ≡ Ok (bound_of src name at ∷ [], fresh 2 max_budget)
unfolding bounds bound table_in take_slot
bounds_one s src name at is found = rw (is, found) refl

-- ---- what follows

abbrev body_after : Context → Core → List Bound × State → Checked (Body × State)
body_after cx core r =
    (result lower cx (record { tables = r.0; shown = [] }) core >>= (λ columns.
    matching lower cx (record { tables = r.0; shown = columns }) core >>= (λ joined.
    pure (record { level = record { tables = r.0; shown = columns }; steps = joined.steps; filter = joined.filter })))) r.1

body_is : (cx : Context) (core : Core) (st : State) → body lower cx core st ≡ and_then (bounds cx.schema (out-Core core).from st) (body_after cx core)
unfolding body
body_is cx core st = refl

abbrev parts_after : Schema → Core → List Sort → Body × State → Checked (Clauses × State)
parts_after s core by_order r =
    (get >>= (λ so_far.
    let is_grouped = not (length (out-Core core).group == 0 && length so_far.aggregates == 0) in
    keys lower (inside s r.0.level false) r.0.level.shown (out-Core core).group >>= (λ by.
    having (inside s r.0.level is_grouped) (out-Core core).having >>= (λ kept.
    sorts lower (inside s r.0.level is_grouped) r.0.level.shown by_order >>= (λ order.
    pure (record { body = r.0; is_grouped = is_grouped; keys = by.0; collations = by.1; having = kept; order = order })))))) r.1

parts_is : (s : Schema) (core : Core) (by_order : List Sort) (st : State) → parts s core by_order st ≡ and_then (body lower (outermost s) core st) (parts_after s core by_order)
unfolding parts
parts_is s core by_order st = refl

abbrev named_after : Core → Term × Term → Clauses × State → Checked (Draft × List Name × List (Option Collation))
named_after core page r = and_then (assembled (out-Core core).distinct page.0 page.1 r.0 r.1) (λ d. Ok (d, map (λ o. o.name) r.0.body.level.shown, map (λ o. o.carried.collation) r.0.body.level.shown))

abbrev pub named_at : Schema → Core → List Sort → Term × Term → Bound → Checked (Draft × List Name × List (Option Collation))
named_at s core order page b = and_then (and_then (body_after (outermost s) core (b ∷ [], fresh 2 max_budget)) (parts_after s core order)) (named_after core page)

pub named_is : (s : Schema) (core : Core) (order : List Sort) (page : Term × Term) (src : Source) (name : Name) (at : ℕ) → (out-Core core).from ≡ src ∷ [] → (out-Source src).origin ≡ origin.Table name → table_named s name ≡ Some at
    → named s core order page ≡ named_at s core order page (bound_of src name at)
unfolding named
named_is s core order page src name at from is found =
    let one : bounds s (out-Core core).from (fresh 1 max_budget) ≡ Ok (bound_of src name at ∷ [], fresh 2 max_budget) = ap (λ f. bounds s f (fresh 1 max_budget)) from ∙ bounds_one s src name at is found in
    ap (λ r. and_then r (named_after core page)) (parts_is s core order (fresh 1 max_budget) ∙ ap (λ r. and_then r (parts_after s core order)) (body_is (outermost s) core (fresh 1 max_budget) ∙ ap (λ r. and_then r (body_after (outermost s) core)) one))

-- ---- a SELECT of one part

query_is : (s : Schema) (sel : Selection) (src : Source) (name : Name) (page : Term × Term) (shown : Draft × List Name × List (Option Collation)) → (out-Select sel).with ≡ [] → (out-Select sel).others ≡ [] → (out-Core (out-Select sel).first).from ≡ src ∷ [] → (out-Source src).origin ≡ origin.Table name
    → paging s sel ≡ Ok page → named s (out-Select sel).first (out-Select sel).order page ≡ Ok shown → query s sel ≡ Ok (shown, [])
unfolding query query_to level with whole alone single sources source viewing
query_is s sel src name page shown none one from is pages names = rw (none, pages, one, from, is, names) refl

pub program_is : (s : Schema) (d : Draft) (tree : ℕ) (table : Table) → d.from ≡ inner tree end → nat_le (2 ^ 31) tree ≡ false → find (λ (t : Table). t.tree == tree) s.tables ≡ Some table
    → (accepts_after [] (query_of d) (Some (row_classes table ∷ [])) && (is_count [] d.limit && is_count [] d.offset)) ≡ true → program s [] d ≡ Ok (record { lets = []; body = query_of d })
unfolding program
program_is s d tree table from low found ok = rw (from, low, found, ok) refl

-- the table's tree is its own
pub record IsRead (s : Schema) (tree : ℕ) (table : Table) : Type 0 where
  pub low : nat_le (2 ^ 31) tree ≡ false
  pub found : find (λ (t : Table). t.tree == tree) s.tables ≡ Some table

abbrev Accepted : Table → Draft → Type 0
Accepted table d = (accepts_after [] (query_of d) (Some (row_classes table ∷ [])) && (is_count [] d.limit && is_count [] d.offset)) ≡ true

pub select_means : (s : Schema) (sql : List ℕ) (name : Name) (at tree : ℕ) (table : Table) → table_named s name ≡ Some at → IsRead s tree table → (p : Parsed) (sel : Selection) (src : Source) (page : Term × Term) (shown : Draft × List Name × List (Option Collation)) → first sql ≡ Ok p → p.formats ≡ [] → p.statement ≡ written.Select sel
    → (out-Select sel).with ≡ [] → (out-Select sel).others ≡ [] → (out-Core (out-Select sel).first).from ≡ src ∷ [] → (out-Source src).origin ≡ origin.Table name → paging s sel ≡ Ok page
    → named_at s (out-Select sel).first (out-Select sel).order page (bound_of src name at) ≡ Ok shown → shown.0.from ≡ inner tree end → Accepted table shown.0 → essence (compiled s sql) ≡ Some (Select (record { lets = []; body = query_of shown.0 }) shown.1, None, [])
unfolding compiled planned meaning command returning timed read
select_means s sql name at tree table found read p sel src page shown text plain is none one from origin_is pages names joins ok =
    let asked : query s sel ≡ Ok (shown, []) = query_is s sel src name page shown none one from origin_is pages (named_is s (out-Select sel).first (out-Select sel).order page src name at from origin_is found ∙ names) in
    let compiles = program_is s shown.0 tree table joins read.low read.found ok in
    rw (text, is, asked, compiles, plain) refl

-- ---- a write

-- no format is wanted
timed_is : (s : Schema) (name : Name) (at : ℕ) (table : Table) (p : Parsed) (columns : List Name) (rows : Rows) (clauses : List Upsert) → table_named s name ≡ Some at → slice_get s.tables at ≡ Some table → p.formats ≡ [] → p.statement ≡ written.Insert conflict.Abort name columns rows clauses [] → table.stamps.formats ≡ []
    → timed s p.formats p.statement ≡ []
unfolding timed
timed_is s name at table p columns rows clauses found there plain is timeless = rw (is, plain, found, there, timeless) refl

pub insert_means : (s : Schema) (sql : List ℕ) (name : Name) (at : ℕ) (table : Table) → table_named s name ≡ Some at → slice_get s.tables at ≡ Some table → (p : Parsed) (columns : List Name) (rows : Rows) (src : Rows') → first sql ≡ Ok p → p.formats ≡ []
    → p.statement ≡ written.Insert conflict.Abort name columns rows [] [] → table.stamps.formats ≡ [] → new_rows s table (small p.names + 0) columns rows ≡ Ok src → essence (compiled s sql) ≡ Some (Insert at src, None, [])
unfolding compiled planned meaning command returning insert_or_abort insert shows
insert_means s sql name at table found there p columns rows src text plain is timeless rows_are =
    let formats = timed_is s name at table p columns rows [] found there plain is timeless in
    rw (text, formats, is, found, there, rows_are) refl

pub upsert_means : (s : Schema) (sql : List ℕ) (name : Name) (at tree : ℕ) (table : Table) → table_named s name ≡ Some at → slice_get s.tables at ≡ Some table → IsRead s tree table → (p : Parsed) (columns : List Name) (rows : Rows) (src : Rows') (u : Upsert) (key : Option (List ℕ)) (d : Draft) → first sql ≡ Ok p → p.formats ≡ []
    → p.statement ≡ written.Insert conflict.Abort name columns rows (u ∷ []) [] → table.stamps.formats ≡ [] → new_rows s table (small p.names + 0) columns rows ≡ Ok src
    → (length u.target == 0) ≡ false → (length u.sets == 0) ≡ false → given.key_meant s table u.target ≡ Ok key → given.do_update s at table (small p.names + 0) u ≡ Ok d → d.from ≡ inner tree end → Accepted table d
    → essence (compiled s sql) ≡ Some (InsertOr at how.Abort src (record { target = key; update = Some (record { lets = []; body = query_of d }) } ∷ []), None, [])
unfolding compiled planned meaning command returning insert_or_abort insert_or shows given.upserts given.upsert given.update
upsert_means s sql name at tree table found there read p columns rows src u key d text plain is timeless rows_are targets sets key_is drafts joins ok =
    let compiles = program_is s d tree table joins read.low read.found ok in
    let formats = timed_is s name at table p columns rows (u ∷ []) found there plain is timeless in
    rw (text, formats, is, found, there, rows_are, targets, sets, key_is, drafts, compiles) refl

pub update_means : (s : Schema) (sql : List ℕ) (name : Name) (at tree : ℕ) (table : Table) → table_named s name ≡ Some at → slice_get s.tables at ≡ Some table → IsRead s tree table → (p : Parsed) (sets : List (Name × Expr)) (test : Option Expr) (d : Draft) → first sql ≡ Ok p → p.formats ≡ []
    → p.statement ≡ written.Update name sets test [] → updated s at table sets test ≡ Ok d → d.from ≡ inner tree end → Accepted table d → essence (compiled s sql) ≡ Some (Update at (record { lets = []; body = query_of d }), None, [])
unfolding compiled planned meaning command returning timed update shows
update_means s sql name at tree table found there read p sets test d text plain is drafts joins ok =
    let compiles = program_is s d tree table joins read.low read.found ok in
    rw (text, is, plain, found, there, drafts, compiles) refl

pub delete_means : (s : Schema) (sql : List ℕ) (name : Name) (at tree : ℕ) (table : Table) → table_named s name ≡ Some at → slice_get s.tables at ≡ Some table → IsRead s tree table → (p : Parsed) (test : Option Expr) (d : Draft) → first sql ≡ Ok p → p.formats ≡ []
    → p.statement ≡ written.Delete name test [] → deleted s at table test ≡ Ok d → d.from ≡ inner tree end → Accepted table d → essence (compiled s sql) ≡ Some (Delete at (record { lets = []; body = query_of d }), None, [])
unfolding compiled planned meaning command returning timed delete shows
delete_means s sql name at tree table found there read p test d text plain is drafts joins ok =
    let compiles = program_is s d tree table joins read.low read.found ok in
    rw (text, is, plain, found, there, drafts, compiles) refl
