-- What holds where a store's tables stand.
use Rattle.std.proofs.Common.{◌≡◌, ◌≢◌, ◌<◌, ◌⊎◌, inl, inr, ℕ, zero, suc, length, IsSome, arith, List, [], ◌∷◌, Option, Some, None, Ok, Result, IfSome, IfOk, OnOk, OnErr, Bool, false, IsTrue, refl, sym, ap, subst, ◌∙◌, Err, nat_le, ◌^◌}
use Rattle.std.specs.Prelude.{slice_get, MatchOption}
use Rattle.std.specs.List.{AllByRecursion, AllZip}
use Rattle.std.proofs.lemmas.List.{length-append}
use Rattle.sqlite.specs.Compile.{table_defined_by}
use Rattle.sqlite.specs.Does.{AtPlace, OnRows, Tally}
use Rattle.sqlite.specs.Effect.{Database}
use Rattle.sqlite.specs.Rows.{Task}
use Rattle.sqlite.specs.declared.run.Mode.{Mode}
use Rattle.sqlite.specs.Schema.{Schema}
use Rattle.sqlite.specs.Table.{Table}
use Rattle.sqlite.specs.Tree.{Trees}
use Rattle.sqlite_schema.specs.declared.command.Command.{Command}
use Rattle.sqlite_schema.specs.declared.schema.Keys.{Keys}
use Rattle.sqlite_rules.specs.Action.{works}
use Rattle.sqlite_rules.specs.Edit.{Edit, taken_by}
use Rattle.sqlite_rules.specs.Lists.{Has}
use Rattle.sqlite_trees.proofs.ListLemmas.{all-slice_get}
use Rattle.fare_tables.specs.Asking.{Reads}
use Rattle.fare_layout.specs.declared.place.Place.{Place}
use Rattle.fare_layout.specs.declared.place.Places.{Places}
use Rattle.fare_layout.specs.declared.place.TableNumber.{TableNumber}
use Rattle.fare_layout.specs.Places.{place_of, all_of, or_nowhere, AreApart}
use Rattle.fare_layout.specs.Commands.{KeepsMeaning}
use Rattle.fare_layout.specs.Layouts.{Stands, IsFree, HasNoRowidIndex, Fits, AreUnderstood}
use Rattle.fare_layout.specs.Schemas.{IsSimpleTable}
use Rattle.fare_layout.proofs.Untouched as untouched
use Rattle.fare_layout.proofs.Grown.{same_places}
use Rattle.fare_layout.proofs.Meant.{Meant, meant, same_some}
use Rattle.fare_opening.specs.declared.site.Site.{Site}
use Rattle.fare_opening.specs.Parts.{Parts, OlderParts, IsDesign, IsOlder, HasFewKeys, meta_named, reads_meta, puts_meta, sets_meta}
use Rattle.fare_opening.specs.Numbers.{Meta}
use Rattle.fare_opening.specs.Sites.{IsSite, IsEmptied, tree_at, rows_at}

-- ---- a table's keys

pub few_keys : (sql : List ℕ) (table : Table) → table_defined_by sql ≡ Ok table → length table.uniques < 1000 → HasFewKeys sql
few_keys sql table is low = subst (λ r. IfOk r (λ t. length t.uniques < 1000)) (sym is) low

-- ---- what an answer holds

pub some_weaker : {X : Type 0} (o : Option X) (P Q : X → Type 0) → ((x : X) → P x → Q x) → IfSome o P → IfSome o Q
some_weaker (Some x) P Q f p = f x p
some_weaker None P Q f p = tt

pub none_some : {X : Type 0} (o : Option X) (x : X) → o ≡ None → o ≡ Some x → ⊥
none_some o x none some = absurd (let e = sym none ∙ some in cc)

not_some : {X : Type 0} (o : Option X) → o ≡ None → IsSome o → ⊥
not_some o none some = absurd (let e = subst IsSome none some in cc)

pub not_true : (b : Bool) → b ≡ false → IsTrue b → ⊥
not_true b fails holds = absurd (let e = sym fails ∙ holds in cc)

pub matched_some : {X : Type 0} (o : Option X) (x : X) (P : Type 0) (Q : X → Type 0) → o ≡ Some x → MatchOption o P Q → Q x
matched_some o x P Q is m = subst (λ y. MatchOption y P Q) is m

pub matched_none : {X : Type 0} (o : Option X) (P : Type 0) (Q : X → Type 0) → o ≡ None → MatchOption o P Q → P
matched_none o P Q is m = subst (λ y. MatchOption y P Q) is m

pub for_none : {T E : Type 0} (r : Result (Option T) E) (P : Type 0) → P → IfOk r (λ found. found ≡ None → P)
for_none (Ok x) P p = λ none. p
for_none (Err e) P p = tt

pub for_err : {T E : Type 0} (r : Result T E) (P : Type 0) → P → OnErr r P
for_err (Ok x) P p = tt
for_err (Err e) P p = p

pub on_any : {T E : Type 0} (r : Result T E) (P : T → Type 0) (Q : Type 0) → ((x : T) → P x → Q) → IfOk r P → OnOk r Q
on_any (Ok x) P Q f p = f x p
on_any (Err e) P Q f p = tt

-- ---- each table is where it stands

-- there are as many places as tables
pub place_count : (s : Schema) (tables : List Table) (ps : List Place) → AllZip (Stands s) tables ps → length tables ≡ length ps
place_count s [] [] z = refl
place_count s [] (p ∷ ps) z = absurd z
place_count s (t ∷ ts) [] z = absurd z
place_count s (t ∷ ts) (p ∷ ps) z = ap suc (place_count s ts ps z.1)

-- some table of the store stands at each of its places
nth_stands : (s : Schema) (tables : List Table) (ps : List Place) → AllZip (Stands s) tables ps → (k : ℕ) → k < length ps → (t : Table) × (slice_get tables k ≡ Some t) × Stands s t (or_nowhere (slice_get ps k))
nth_stands s [] [] z k low = absurd (omega (arith, low))
nth_stands s [] (p ∷ ps) z k low = absurd z
nth_stands s (t ∷ ts) [] z k low = absurd z
nth_stands s (t ∷ ts) (p ∷ ps) z zero low = (t, refl, z.0)
nth_stands s (t ∷ ts) (p ∷ ps) z (suc k) low = nth_stands s ts ps z.1 k (omega (arith, low))

pub each_stands : (s : Schema) (tables : List Table) (p : Places) → AllZip (Stands s) tables (all_of p) → (k : TableNumber) → k.number < length (all_of p) → (t : Table) × Stands s t (place_of p k)
each_stands s tables p z k low = let it = nth_stands s tables (all_of p) z k.number low in (it.0, it.2)

within : {X : Type 0} (xs : List X) (k : ℕ) (x : X) → slice_get xs k ≡ Some x → k < length xs
within [] k x is = absurd (let e = is in cc)
within (y ∷ ys) zero x is = omega arith
within (y ∷ ys) (suc k) x is = let low = within ys k x is in omega (arith, low)

pub is_within : (d : Parts) (w : Site) → IsSite d w → (k : TableNumber) (t : Table) → slice_get d.own.tables k.number ≡ Some t → k.number < length (all_of w.places)
is_within d w site k t is = subst (λ n. k.number < n) (place_count w.schema d.own.tables (all_of w.places) site.stands) (within d.own.tables k.number t is)

-- a table of an older format is one of the newest too
pub older_within : (d : Parts) (o : OlderParts) (w : Site) → IsDesign d → IsOlder d o → IsSite d w → (k : TableNumber) → k.number < length o.tables → k.number < length (all_of w.places)
older_within d o w design older site k low =
    let many = design.many in
    let placed = place_count w.schema d.own.tables (all_of w.places) site.stands in
    let all = ap length older.tables_are ∙ length-append o.tables o.missing in
    omega (arith, low, many, placed, all)

-- and a table at its own
pub this_stands : (d : Parts) (w : Site) → IsSite d w → (k : TableNumber) (t : Table) → slice_get d.own.tables k.number ≡ Some t → Stands w.schema t (place_of w.places k)
this_stands d w site k t is =
    let low : k.number < length (all_of w.places) = subst (λ n. k.number < n) (place_count w.schema d.own.tables (all_of w.places) site.stands) (within d.own.tables k.number t is) in
    let it = nth_stands w.schema d.own.tables (all_of w.places) site.stands k.number low in
    subst (λ x. Stands w.schema x (place_of w.places k)) (same_some (sym it.1 ∙ is)) it.2

pub meta_within : (d : Parts) (w : Site) → IsDesign d → IsSite d w → 0 < length (all_of w.places)
meta_within d w design site = subst (λ n. 0 < n) (place_count w.schema d.own.tables (all_of w.places) site.stands) (within d.own.tables 0 (meta_named d.meta.table.0 0) design.meta_is)

pub meta_stands : (d : Parts) (w : Site) → IsDesign d → IsSite d w → Stands w.schema (meta_named d.meta.table.0 0) (place_of w.places Meta)
meta_stands d w design site = this_stands d w site Meta (meta_named d.meta.table.0 0) design.meta_is

pub meta_placed : (d : Parts) (w : Site) → IsDesign d → IsSite d w → slice_get w.schema.tables (place_of w.places Meta).at ≡ Some (meta_named d.meta.table.0 (tree_at w Meta))
meta_placed d w design site = (meta_stands d w design site).there

-- what holds of the tree of each table of the schema
pub each_tree : (P : ℕ → Type 0) (d : Parts) (w : Site) → IsSite d w → AllByRecursion (λ (t : Table). P t.tree) w.schema.tables → (k : TableNumber) → k.number < length (all_of w.places) → P (tree_at w k)
each_tree P d w site all k low =
    let s = each_stands w.schema d.own.tables w.places site.stands k low in
    all-slice_get (λ (t : Table). P t.tree) w.schema.tables (place_of w.places k).at (record s.0 { tree = (place_of w.places k).tree }) s.1.there all

-- no tree is one of a table that a statement computes
pub low_tree : (d : Parts) (w : Site) → IsSite d w → (k : TableNumber) → k.number < length (all_of w.places) → nat_le (2 ^ 31) (tree_at w k) ≡ false
low_tree d w site k low = (each_stands w.schema d.own.tables w.places site.stands k low).1.low

all_nth : (P : Place → Type 0) (ps : List Place) → AllByRecursion P ps → (k : ℕ) → k < length ps → P (or_nowhere (slice_get ps k))
all_nth P [] all k low = absurd (omega (arith, low))
all_nth P (p ∷ ps) all zero low = all.0
all_nth P (p ∷ ps) all (suc k) low = all_nth P ps all.1 k (omega (arith, low))

apart_nth : (ps : List Place) → AreApart ps → (k j : ℕ) → k < j → j < length ps → (or_nowhere (slice_get ps k)).tree ≢ (or_nowhere (slice_get ps j)).tree
apart_nth [] apart k j less low = absurd (omega (arith, low))
apart_nth (p ∷ ps) apart k zero less low = absurd (omega (arith, less))
apart_nth (p ∷ ps) apart zero (suc j) less low = all_nth (λ (q : Place). p.tree ≢ q.tree) ps apart.0 j (omega (arith, low))
apart_nth (p ∷ ps) apart (suc k) (suc j) less low = apart_nth ps apart.1 k j (omega (arith, less)) (omega (arith, low))

-- two tables have two trees
pub comes_first : (d : Parts) (w : Site) → IsSite d w → (k j : TableNumber) → k.number < j.number → j.number < length (all_of w.places) → tree_at w k ≢ tree_at w j
comes_first d w site k j less low = apart_nth (all_of w.places) site.untouched.apart k.number j.number less low

pub two_trees : (d : Parts) (w : Site) → IsSite d w → (k j : TableNumber) → k.number ≢ j.number → k.number < length (all_of w.places) → j.number < length (all_of w.places) → tree_at w k ≢ tree_at w j
two_trees d w site k j other low_k low_j = elim (apart_or k.number j.number other) [
  | inl less ↦ comes_first d w site k j less low_j
  | inr more ↦ (λ same. comes_first d w site j k more low_k (sym same))
]
  where
    apart_or : (a b : ℕ) → a ≢ b → (a < b) ⊎ (b < a)
    apart_or zero zero other = absurd (other refl)
    apart_or zero (suc b) other = inl (omega arith)
    apart_or (suc a) zero other = inr (omega arith)
    apart_or (suc a) (suc b) other = elim (apart_or a b (λ e. other (ap suc e))) [ inl l ↦ inl (omega (arith, l)) | inr l ↦ inr (omega (arith, l)) ]

-- no other table has the tree of meta
pub is_not_meta : (d : Parts) (w : Site) → IsSite d w → (k : TableNumber) → 0 < k.number → k.number < length (all_of w.places) → tree_at w k ≢ tree_at w Meta
is_not_meta d w site k past low = λ e. comes_first d w site Meta k past low (sym e)

-- ---- nothing else reaches into them

free_of : (d : Parts) (w : Site) → IsSite d w → (k : TableNumber) → k.number < length (all_of w.places) → IsFree w.schema (tree_at w k)
free_of d w site k low = all_nth (λ (p : Place). IsFree w.schema p.tree) (all_of w.places) site.untouched.free k.number low

-- no index is by the rowid
pub none_by_rowid : (d : Parts) (w : Site) → IsSite d w → (k : TableNumber) → k.number < length (all_of w.places) → HasNoRowidIndex w.schema (tree_at w k)
none_by_rowid d w site k low = all_nth (λ (p : Place). HasNoRowidIndex w.schema p.tree) (all_of w.places) site.untouched.by_rowid k.number low

-- no foreign key acts
pub no_works : (d : Parts) (w : Site) → IsSite d w → (k : TableNumber) → k.number < length (all_of w.places) → (keys : Keys) (db : Trees) (edit : Edit) → edit.table.tree ≡ tree_at w k → works w.schema keys 0 edit.table.tree (taken_by db edit) edit.news ≡ []
no_works d w site k low keys db edit is =
    ap (λ tree. works w.schema keys 0 tree (taken_by db edit) edit.news) is ∙ untouched.no_works w.schema keys 0 (tree_at w k) (taken_by db edit) edit.news (free_of d w site k low)

-- a statement on a table runs on the one at its place
pub at_found : (task : Task) (mode : Mode) (command : Command) (db : Trees) (found : Option Table) (out : Tally × Database) → found ≡ Some task.table
    → AtPlace (λ table. OnRows (record { limit = task.limit; keys = task.keys; schema = task.schema; table = table; params = task.params }) mode None command db) found (Ok out) → OnRows task mode None command db (Ok out)
at_found task mode command db found out is = subst (λ f. AtPlace (λ table. OnRows (record { limit = task.limit; keys = task.keys; schema = task.schema; table = table; params = task.params }) mode None command db) f (Ok out)) is

-- ---- a schema has them at one place

pub same_at : (d : Parts) (v w : Site) → IsSite d v → IsSite d w → v.schema ≡ w.schema → all_of v.places ≡ all_of w.places
same_at d v w one two same = same_places v.schema d.own.tables (all_of v.places) (all_of w.places) one.stands (subst (λ (s : Schema). AllZip (Stands s) d.own.tables (all_of w.places)) (sym same) two.stands)

pub same_rows : (d : Parts) (v w : Site) (k : TableNumber) (trees : Trees) → IsSite d v → IsSite d w → v.schema ≡ w.schema → rows_at v k trees ≡ rows_at w k trees
same_rows d v w k trees one two same = ap (λ (ps : List Place). trees (or_nowhere (slice_get ps k.number)).tree) (same_at d v w one two same)

-- so it is with the table that isn't used
pub same_emptied : (d : Parts) (v w : Site) (trees : Trees) → IsSite d v → IsSite d w → v.schema ≡ w.schema → IsEmptied d v trees → IsEmptied d w trees
same_emptied d v w trees one two same none = some_weaker d.unused _ _ (λ u is. sym (same_rows d v w u.0 trees one two same) ∙ is) none

-- ---- what the texts of meta mean there

pub all_has : {X : Type 0} (P : X → Type 0) (xs : List X) (x : X) → AllByRecursion P xs → Has xs x → P x
all_has P [] x all has = absurd has
all_has P (y ∷ ys) x all (inl is) = subst P (sym is) all.0
all_has P (y ∷ ys) x all (inr has) = all_has P ys x all.1 has

pub asks_meant : (d : Parts) (w : Site) → IsDesign d → IsSite d w → Meant w.schema d.meta.read (reads_meta (tree_at w Meta))
asks_meant d w design site =
    let keeps = all_has (λ (t : TableNumber × List ℕ). KeepsMeaning d.own w.schema (place_of w.places t.0) t.1) d.texts (Meta, d.meta.read) site.keeps design.asks in
    meant w.schema d.meta.read (reads_meta (tree_at w Meta)) (keeps (reads_meta 0) design.asks_meant)

pub meta_reads : (d : Parts) (w : Site) → IsDesign d → IsSite d w → Reads w.schema d.meta.read
meta_reads d w design site = let m = asks_meant d w design site in (m.plain, m.selects)

pub puts_meant : (d : Parts) (w : Site) → IsDesign d → IsSite d w → Meant w.schema d.meta.put (puts_meta (place_of w.places Meta).at)
puts_meant d w design site =
    let keeps = all_has (λ (t : TableNumber × List ℕ). KeepsMeaning d.own w.schema (place_of w.places t.0) t.1) d.texts (Meta, d.meta.put) site.keeps design.puts in
    meant w.schema d.meta.put (puts_meta (place_of w.places Meta).at) (keeps (puts_meta 0) design.puts_meant)

pub sets_means : (d : Parts) (w : Site) → IsDesign d → IsSite d w → Meant w.schema d.meta.set (sets_meta (place_of w.places Meta).at (tree_at w Meta))
sets_means d w design site =
    let keeps = all_has (λ (t : TableNumber × List ℕ). KeepsMeaning d.own w.schema (place_of w.places t.0) t.1) d.texts (Meta, d.meta.set) site.keeps design.sets in
    meant w.schema d.meta.set (sets_meta (place_of w.places Meta).at (tree_at w Meta)) (keeps (sets_meta 0 0) design.sets_meant)

-- ---- where no place is found, the tables stand nowhere

pub none_stands : (d : Parts) (w : Site) (own schema : Schema) (texts : List (TableNumber × List ℕ)) (found : Option Places) → IsDesign d → IsSite d w → own ≡ d.own → texts ≡ d.texts → schema ≡ w.schema
    → (AllByRecursion IsSimpleTable own.tables → AreUnderstood own texts → (p : Places) → Fits own texts schema p → IfSome found (λ q. all_of q ≡ all_of p) × IsSome found) → found ≡ None → ⊥
none_stands d w own schema texts found design site own_is texts_are schema_is finds none =
    let simple = subst (λ (s : Schema). AllByRecursion IsSimpleTable s.tables) (sym own_is) design.simple in
    let understood : AreUnderstood own texts = subst (λ s. AreUnderstood s texts) (sym own_is) (subst (AreUnderstood d.own) (sym texts_are) design.understood) in
    let fits : Fits own texts schema w.places = subst (λ s. Fits s texts schema w.places) (sym own_is) (subst (λ t. Fits d.own t schema w.places) (sym texts_are) (subst (λ s. Fits d.own d.texts s w.places) (sym schema_is) site)) in
    not_some found none (finds simple understood w.places fits).1
