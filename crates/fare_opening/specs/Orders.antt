-- The tables of a store alone in a database, made in any order.
use Rattle.std.specs.Prelude.{ℕ, ◌+◌, length, [], ◌∷◌, ◌++◌, List}
use Rattle.std.specs.List.{AllByRecursion}
use Rattle.sqlite.specs.Schema.{Schema}
use Rattle.sqlite.specs.Table.{Table}
use Rattle.sqlite_catalog.specs.Change.{automatics}
use Rattle.sqlite_schema.specs.declared.schema.Index.{Index}
use Rattle.fare_layout.specs.declared.place.Places.{Places}
use Rattle.fare_layout.specs.Layouts.{Fits}
use Rattle.fare_opening.specs.Parts.{Parts}

-- the tables of a store, each by its tree
abbrev pub Tables : Type 0
Tables = ℕ → ℕ → Table

-- a table and the indexes of its keys take as many trees
abbrev pub width : Tables → ℕ → ℕ
width table_of k = 1 + length (table_of k 0).uniques

-- from a tree on, tables that are made in turn, and their indexes
abbrev pub tables_from : Tables → ℕ → List ℕ → List Table
tables_from table_of tree [] = []
tables_from table_of tree (k ∷ ks) = table_of k tree ∷ tables_from table_of (tree + width table_of k) ks

abbrev pub indexes_from : Tables → ℕ → List ℕ → List Index
indexes_from table_of tree [] = []
indexes_from table_of tree (k ∷ ks) = automatics (table_of k tree) 0 (tree + 1) (table_of k tree).uniques ++ indexes_from table_of (tree + width table_of k) ks

abbrev pub made_of : Tables → List ℕ → Schema
made_of table_of ks = record { tables = tables_from table_of 0 ks; indexes = indexes_from table_of 0 ks; views = [] }

abbrev pub orders : List (List ℕ)
orders =
    (0 ∷ 1 ∷ 2 ∷ 3 ∷ [])
    ∷ (0 ∷ 1 ∷ 3 ∷ 2 ∷ [])
    ∷ (0 ∷ 2 ∷ 1 ∷ 3 ∷ [])
    ∷ (0 ∷ 2 ∷ 3 ∷ 1 ∷ [])
    ∷ (0 ∷ 3 ∷ 1 ∷ 2 ∷ [])
    ∷ (0 ∷ 3 ∷ 2 ∷ 1 ∷ [])
    ∷ (1 ∷ 0 ∷ 2 ∷ 3 ∷ [])
    ∷ (1 ∷ 0 ∷ 3 ∷ 2 ∷ [])
    ∷ (1 ∷ 2 ∷ 0 ∷ 3 ∷ [])
    ∷ (1 ∷ 2 ∷ 3 ∷ 0 ∷ [])
    ∷ (1 ∷ 3 ∷ 0 ∷ 2 ∷ [])
    ∷ (1 ∷ 3 ∷ 2 ∷ 0 ∷ [])
    ∷ (2 ∷ 0 ∷ 1 ∷ 3 ∷ [])
    ∷ (2 ∷ 0 ∷ 3 ∷ 1 ∷ [])
    ∷ (2 ∷ 1 ∷ 0 ∷ 3 ∷ [])
    ∷ (2 ∷ 1 ∷ 3 ∷ 0 ∷ [])
    ∷ (2 ∷ 3 ∷ 0 ∷ 1 ∷ [])
    ∷ (2 ∷ 3 ∷ 1 ∷ 0 ∷ [])
    ∷ (3 ∷ 0 ∷ 1 ∷ 2 ∷ [])
    ∷ (3 ∷ 0 ∷ 2 ∷ 1 ∷ [])
    ∷ (3 ∷ 1 ∷ 0 ∷ 2 ∷ [])
    ∷ (3 ∷ 1 ∷ 2 ∷ 0 ∷ [])
    ∷ (3 ∷ 2 ∷ 0 ∷ 1 ∷ [])
    ∷ (3 ∷ 2 ∷ 1 ∷ 0 ∷ [])
    ∷ []

-- in each order the tables fit, where they stand
abbrev pub FitInAnyOrder : Parts → Tables → Type 0
FitInAnyOrder d table_of = AllByRecursion (λ ks. (p : Places) × Fits d.own d.texts (made_of table_of ks) p) orders
