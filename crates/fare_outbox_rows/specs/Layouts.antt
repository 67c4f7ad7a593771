-- Where the tables of an outbox stand.
use Rattle.std.specs.Prelude.{ℕ, ◌==◌, if◌then◌else◌}
use Rattle.sqlite.specs.Query.{Query, inner, end}
use Rattle.sqlite.specs.Schema.{Schema}
use Rattle.sqlite.specs.Tree.{Trees}
use Rattle.fare_layout.specs.declared.place.TableNumber.{TableNumber}
use Rattle.fare_opening.specs.Numbers.{Meta, Device, Tap, Stated}
use Rattle.fare_layout.specs.Places.{place_of}
use Rattle.fare_outbox_rows.specs.declared.layout.Layout.{Layout}
use Rattle.fare_outbox_rows.specs.Statements.{Routed}

abbrev pub schema_in : Layout → Schema
schema_in w = w.schema

-- the tree of a table
abbrev pub tree_in : Layout → TableNumber → ℕ
tree_in w table = (place_of w.places table).tree

-- its place among the tables
abbrev pub place_in : Layout → TableNumber → ℕ
place_in w table = (place_of w.places table).at

-- the table that has this tree in a database of an outbox alone
abbrev pub table_at : ℕ → TableNumber
table_at tree = if tree == 0 then Meta else (if tree == 1 then Device else (if tree == 2 then Tap else (if tree == 5 then Stated else Routed)))

-- the trees of the tables, numbered as in a database of an outbox alone
unfoldable pub ours : Layout → Trees → Trees
ours w trees tree = trees (tree_in w (table_at tree))

-- the query, over the table where it stands
abbrev pub at_tree : ℕ → Query → Query
at_tree tree q = record q { from = inner tree end }
