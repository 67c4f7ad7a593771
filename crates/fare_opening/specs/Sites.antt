-- Where a store's tables stand.
use Rattle.std.specs.Prelude.{◌≡◌, ◌<◌, ℕ, List, [], length, Option, IfSome}
use Rattle.sqlite_value.specs.Order.{Row}
use Rattle.sqlite.specs.Tree.{Trees}
use Rattle.fare_layout.specs.declared.place.TableNumber.{TableNumber}
use Rattle.fare_layout.specs.Layouts.{Fits}
use Rattle.fare_layout.specs.Places.{place_of, all_of}
use Rattle.fare_opening.specs.declared.site.Site.{Site}
use Rattle.fare_opening.specs.Parts.{Parts}

-- the store's tables stand there, nothing else reaches into them, and its statements mean there what they should
abbrev pub IsSite : Parts → Site → Type 0
IsSite d w = Fits d.own d.texts w.schema w.places

-- the tree of a table
abbrev pub tree_at : Site → TableNumber → ℕ
tree_at w table = (place_of w.places table).tree

-- its rows
abbrev pub rows_at : Site → TableNumber → Trees → List Row
rows_at w table trees = trees (tree_at w table)

-- each table but meta has no row
abbrev pub IsBare : Site → Trees → Type 0
IsBare w trees = (k : TableNumber) → 0 < k.number → k.number < length (all_of w.places) → rows_at w k trees ≡ []

-- a table that a format doesn't use, if there is one, has no row
abbrev pub HasNoRow : Option (TableNumber × List ℕ) → Site → Trees → Type 0
HasNoRow unused w trees = IfSome unused (λ u. rows_at w u.0 trees ≡ [])

-- the one that the store's format doesn't use
abbrev pub IsEmptied : Parts → Site → Trees → Type 0
IsEmptied d = HasNoRow d.unused
