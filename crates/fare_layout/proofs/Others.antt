-- The other tables keep their rows where a store makes its own.
use Rattle.std.proofs.Common.{◌≡◌, ◌<◌, ◌+◌, ◌++◌, ℕ, [], ◌∷◌, List, length, Some, inl, inr, refl, sym, ap, subst, ◌∙◌}
use Rattle.std.specs.Prelude.{slice_get}
use Rattle.std.specs.List.{AllByRecursion}
use Rattle.std.proofs.lemmas.List.{length-append}
use Rattle.sqlite.specs.Change.{next_tree, KeepsRows}
use Rattle.sqlite.specs.Effect.{Database}
use Rattle.sqlite.specs.Schema.{Schema}
use Rattle.sqlite.specs.Table.{Table}
use Rattle.sqlite.specs.Tree.{Trees}
use Rattle.sqlite_catalog.proofs.StepLemmas.{table_below}
use Rattle.sqlite_rules.specs.Lists.{Has}
use Rattle.fare_tables.specs.Making.{Made}
use Rattle.fare_layout.specs.declared.place.Place.{Place}
use Rattle.fare_layout.specs.Growing.{Grows, GrowsBy}
use Rattle.fare_layout.specs.Layouts.{Stands}
use Rattle.fare_layout.proofs.Grown.{kept_at, last_at}
use Rattle.fare_layout.proofs.Meant.{same_some}

-- ---- lists of tables

kept_front : (P : Table → Type 0) (xs ys : List Table) → AllByRecursion P (xs ++ ys) → AllByRecursion P xs
kept_front P [] ys all = tt
kept_front P (x ∷ xs) ys all = (all.0, kept_front P xs ys all.1)

pub all_two : (P Q R : Table → Type 0) → ((t : Table) → P t → Q t → R t) → (xs : List Table) → AllByRecursion P xs → AllByRecursion Q xs → AllByRecursion R xs
all_two P Q R f [] ps qs = tt
all_two P Q R f (x ∷ xs) ps qs = (f x ps.0 qs.0, all_two P Q R f xs ps.1 qs.1)

all_has : (P : Table → Type 0) (xs : List Table) → ((t : Table) → Has xs t → P t) → AllByRecursion P xs
all_has P [] f = tt
all_has P (x ∷ xs) f = (f x (inl refl), all_has P xs (λ t h. f t (inr h)))

pub all_kept : (tables : List Table) (old new : Trees) → new ≡ old → KeepsRows tables old new
all_kept [] old new same = tt
all_kept (t ∷ tables) old new same = (ap (λ (trees : Trees). trees t.tree) same, all_kept tables old new same)

-- ---- a schema that grows

-- each tree of a table is below the next one
pub all_below : (s : Schema) → AllByRecursion (λ (t : Table). t.tree < next_tree s) s.tables
all_below s = all_has (λ (t : Table). t.tree < next_tree s) s.tables (table_below s)

-- a new table comes after those that are there
pub new_at : (s next : Schema) (sql : List ℕ) (g : Grows s sql next) → slice_get next.tables (length s.tables) ≡ Some (record g.table { tree = next_tree s })
new_at s next sql g = ap (λ (x : Schema). slice_get x.tables (length s.tables)) g.next_is ∙ last_at s.tables (record g.table { tree = next_tree s })

-- those stay where they are
pub grown_at : (texts : List (List ℕ × List ℕ)) (s last : Schema) → GrowsBy s texts last → (at : ℕ) (t : Table) → slice_get s.tables at ≡ Some t → slice_get last.tables at ≡ Some t
grown_at [] s last same at t is = subst (λ (x : Schema). slice_get x.tables at ≡ Some t) same is
grown_at (text ∷ texts) s last grows at t is =
    grown_at texts grows.0 last grows.2 at t (ap (λ (x : Schema). slice_get x.tables at) grows.1.next_is ∙ kept_at s.tables (record grows.1.table { tree = next_tree s } ∷ []) at t is)

-- so its tree is the next one
pub tree_next : (rest : List (List ℕ × List ℕ)) (table : Table) (place : Place) (s next last : Schema) (sql : List ℕ) → Stands last table place → place.at ≡ length s.tables → Grows s sql next → GrowsBy next rest last → place.tree ≡ next_tree s
tree_next rest table place s next last sql stands here g grows =
    let there = grown_at rest next last grows (length s.tables) (record g.table { tree = next_tree s }) (new_at s next sql g) in
    let placed = sym stands.there ∙ ap (slice_get last.tables) here ∙ there in
    ap (λ (t : Table). t.tree) (same_some placed)

-- there is one more
pub longer : (s next : Schema) (sql : List ℕ) → Grows s sql next → length next.tables ≡ length s.tables + 1
longer s next sql g = ap (λ (x : Schema). length x.tables) g.next_is ∙ length-append s.tables (record g.table { tree = next_tree s } ∷ [])

-- and what holds of all tables then holds of them
pub grown_all : (P : Table → Type 0) (texts : List (List ℕ × List ℕ)) (s last : Schema) → GrowsBy s texts last → AllByRecursion P last.tables → AllByRecursion P s.tables
grown_all P [] s last same all = subst (λ (x : Schema). AllByRecursion P x.tables) (sym same) all
grown_all P (text ∷ texts) s last grows all =
    let next = grown_all P texts grows.0 last grows.2 all in
    kept_front P s.tables (record grows.1.table { tree = next_tree s } ∷ []) (subst (λ (x : Schema). AllByRecursion P x.tables) grows.1.next_is next)

-- ---- a table that is made

pub others_then : (a b c : Database) (table : Table) → Made a b table → KeepsRows b.schema.tables b.trees c.trees → KeepsRows a.schema.tables a.trees c.trees
others_then a b c table made later =
    let now = subst (λ (s : Schema). KeepsRows s.tables b.trees c.trees) made.schema later in
    let front = kept_front (λ (t : Table). c.trees t.tree ≡ b.trees t.tree) a.schema.tables (record table { tree = next_tree a.schema } ∷ []) now in
    all_two (λ (t : Table). b.trees t.tree ≡ a.trees t.tree) (λ (t : Table). c.trees t.tree ≡ b.trees t.tree) (λ (t : Table). c.trees t.tree ≡ a.trees t.tree) (λ t first second. second ∙ first) a.schema.tables made.others front
