-- The tables of a ledger alone in a database, made in any order.
use Rattle.std.specs.Prelude.{ℕ, ◌==◌, if◌then◌else◌, [], ◌∷◌, List, map, IsPermutation}
use Rattle.std.specs.List.{AllByRecursion, flat_map}
use Rattle.sqlite.specs.Table.{Table}
use Rattle.fare_tables.specs.Queries.{meta_table}
use Rattle.fare_layout.specs.declared.place.Places.{Places}
use Rattle.fare_opening.specs.declared.site.Site.{Site}
use Rattle.fare_opening.specs.Orders.{made_of, orders}
use Rattle.fare_ledger.specs.Opening.{Rises}
use Rattle.fare_ledger.specs.Statements.{FitsLedger, first_format, second_format, third_format}
use Rattle.fare_ledger.specs.Tables.{lane_table, tap_table, stated_table, retired_table, routed_table, held_table}

abbrev pub table_of : ℕ → ℕ → Table
table_of number tree =
    if number == 0 then meta_table tree else (if number == 1 then lane_table tree else (if number == 2 then tap_table tree else (if number == 3 then stated_table tree else (if number == 4 then retired_table tree else (if number == 5 then routed_table tree else held_table tree)))))

-- a number at each place of a list
abbrev pub at_each_place : ℕ → List ℕ → List (List ℕ)
at_each_place x [] = (x ∷ []) ∷ []
at_each_place x (y ∷ ys) = (x ∷ y ∷ ys) ∷ map (λ zs. y ∷ zs) (at_each_place x ys)

-- the orders of five tables: the last one at each place of those of the first four
abbrev pub five_orders : List (List ℕ)
five_orders = flat_map (at_each_place 4) orders

-- of six
abbrev pub six_orders : List (List ℕ)
six_orders = flat_map (at_each_place 5) five_orders

-- in each order of all seven the tables fit, where they stand
abbrev pub FitInAnyOrder : Type 0
FitInAnyOrder = (ks : List ℕ) → IsPermutation (0 ∷ 1 ∷ 2 ∷ 3 ∷ 4 ∷ 5 ∷ 6 ∷ []) ks → (p : Places) × FitsLedger (made_of table_of ks) p

-- a ledger of the first format can be raised in whichever order its four tables were made: its tables stand there, and
-- once the other three are made behind them, those of a ledger do
abbrev pub FirstsRise : Type 0
FirstsRise = AllByRecursion (λ ks. (v : Site) × (w : Site) × Rises first_format (made_of table_of ks) v w) orders

-- so can one of the second, in whichever order its five tables were
abbrev pub SecondsRise : Type 0
SecondsRise = AllByRecursion (λ ks. (v : Site) × (w : Site) × Rises second_format (made_of table_of ks) v w) five_orders

-- and one of the third, in whichever order its six tables were
abbrev pub ThirdsRise : Type 0
ThirdsRise = AllByRecursion (λ ks. (v : Site) × (w : Site) × Rises third_format (made_of table_of ks) v w) six_orders
