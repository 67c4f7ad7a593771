-- What holds where the tables of an outbox stand.
use Rattle.std.proofs.Common.{◌≡◌, ◌≢◌, ◌<◌, inl, inr, [], ◌∷◌, ℕ, List, length, nat_lt, true, false, ◌==◌, Some, sym, ap, arith, refl}
use Rattle.std.specs.Prelude.{slice_get}
use Rattle.std.specs.List.{AllByRecursion, list_any}
use Rattle.std.proofs.lemmas.Bool.{cases_Bool}
use Rattle.std.proofs.lemmas.Bool.Decides.{nat_tests}
use Rattle.sqlite_value.specs.Order.{Row}
use Rattle.sqlite.specs.Table.{Table}
use Rattle.sqlite.specs.Tree.{Trees}
use Rattle.sqlite_rules.specs.Action.{works}
use Rattle.sqlite_rules.specs.Edit.{Edit, taken_by}
use Rattle.sqlite_rules.specs.Keys.{shares}
use Rattle.sqlite_schema.specs.declared.schema.Keys.{Keys}
use Rattle.fare_layout.specs.declared.place.TableNumber.{TableNumber}
use Rattle.fare_opening.specs.Numbers.{Device, Stated}
use Rattle.fare_layout.specs.declared.place.Place.{Place}
use Rattle.fare_layout.specs.Places.{all_of, place_of, or_nowhere}
use Rattle.fare_layout.specs.Layouts.{Stands}
use Rattle.fare_layout.proofs.Untouched as untouched
use Rattle.fare_opening.proofs.Standing as standing
use Rattle.fare_outbox_rows.specs.declared.layout.Layout.{Layout}
use Rattle.fare_outbox_rows.specs.Layouts.{schema_in, tree_in, place_in, table_at, ours}
use Rattle.fare_outbox_rows.specs.Making.{site_of}
use Rattle.fare_outbox_rows.specs.Statements.{Routed, outbox_parts}
use Rattle.fare_outbox_rows.specs.Tables.{outbox_schema, device_table, stated_table, routed_table}

-- each table is where it stands
pub device_placed : (w : Layout) → slice_get (schema_in w).tables (place_in w Device) ≡ Some (device_table (tree_in w Device))
unfolding outbox_schema
device_placed w = (standing.this_stands outbox_parts (site_of w) w.fits Device (device_table 1) refl).there

pub routed_stands : (w : Layout) → Stands (schema_in w) (routed_table 7) (place_of w.places Routed)
unfolding outbox_schema
routed_stands w = standing.this_stands outbox_parts (site_of w) w.fits Routed (routed_table 7) refl

pub routed_placed : (w : Layout) → slice_get (schema_in w).tables (place_in w Routed) ≡ Some (routed_table (tree_in w Routed))
routed_placed w = (routed_stands w).there

pub stated_placed : (w : Layout) → slice_get (schema_in w).tables (place_in w Stated) ≡ Some (stated_table (tree_in w Stated))
unfolding outbox_schema
stated_placed w = (standing.this_stands outbox_parts (site_of w) w.fits Stated (stated_table 5) refl).there

-- each table has a place
pub within : (w : Layout) (k : TableNumber) → nat_lt k.number 5 ≡ true → k.number < length (all_of w.places)
unfolding outbox_schema
within w k low =
    let five : 5 ≡ length (all_of w.places) = standing.place_count (schema_in w) outbox_schema.tables (all_of w.places) w.fits.stands in
    grind (arith, nat_tests)

-- what holds of each tree
pub each : (P : ℕ → Type 0) (w : Layout) → AllByRecursion (λ (t : Table). P t.tree) (schema_in w).tables → (k : TableNumber) → nat_lt k.number 5 ≡ true → P (tree_in w k)
each P w all k low = standing.each_tree P outbox_parts (site_of w) w.fits all k (within w k low)

-- two tables have two trees
pub apart : (w : Layout) (k j : TableNumber) → (k.number == j.number) ≡ false → nat_lt k.number 5 ≡ true → nat_lt j.number 5 ≡ true → tree_in w k ≢ tree_in w j
apart w k j other low high = elim (cases_Bool (nat_lt k.number j.number)) [
  | inl first ↦ standing.comes_first outbox_parts (site_of w) w.fits k j (grind (arith, nat_tests)) (within w j high)
  | inr last ↦ (λ e. standing.comes_first outbox_parts (site_of w) w.fits j k (grind (arith, nat_tests)) (within w k low) (sym e))
]

-- no foreign key acts
pub no_works : (w : Layout) (k : TableNumber) → nat_lt k.number 5 ≡ true → (keys : Keys) (db : Trees) (edit : Edit) → edit.table.tree ≡ tree_in w k → works (schema_in w) keys 0 edit.table.tree (taken_by db edit) edit.news ≡ []
no_works w k low = standing.no_works outbox_parts (site_of w) w.fits k (within w k low)

-- no index has the rowid for its key
pub no_shares : (w : Layout) (new row : Row) → list_any (shares (Some (0 ∷ [])) (device_table (tree_in w Device)) new row) (schema_in w).indexes ≡ false
no_shares w new row = untouched.no_shares (device_table (tree_in w Device)) new row w.schema.indexes (standing.none_by_rowid outbox_parts (site_of w) w.fits Device (within w Device refl))

-- a schema has them at one place
pub same_trees : (v w : Layout) (trees : Trees) → schema_in v ≡ schema_in w → ours v trees ≡ ours w trees
unfolding ours
same_trees v w trees same = ap (λ (ps : List Place). λ tree. trees (or_nowhere (slice_get ps (table_at tree).number)).tree) (standing.same_at outbox_parts (site_of v) (site_of w) v.fits w.fits same)
