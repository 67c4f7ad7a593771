-- The tables of an outbox alone in a database, made in any order.
use Rattle.std.specs.Prelude.{ℕ, ◌==◌, if◌then◌else◌, [], ◌∷◌, List, map}
use Rattle.std.specs.List.{AllByRecursion, flat_map}
use Rattle.sqlite.specs.Table.{Table}
use Rattle.fare_tables.specs.Queries.{meta_table}
use Rattle.fare_layout.specs.declared.place.Places.{Places}
use Rattle.fare_opening.specs.declared.site.Site.{Site}
use Rattle.fare_opening.specs.Orders.{made_of, orders}
use Rattle.fare_outbox.specs.Opening.{Rises}
use Rattle.fare_outbox_rows.specs.Statements.{FitsOutbox}
use Rattle.fare_outbox_rows.specs.Tables.{device_table, tap_table, stated_table, routed_table}

abbrev pub table_of : ℕ → ℕ → Table
table_of number tree = if number == 0 then meta_table tree else (if number == 1 then device_table tree else (if number == 2 then tap_table tree else (if number == 3 then stated_table tree else routed_table tree)))

-- a number at each place of a list
abbrev pub at_each_place : ℕ → List ℕ → List (List ℕ)
at_each_place x [] = (x ∷ []) ∷ []
at_each_place x (y ∷ ys) = (x ∷ y ∷ ys) ∷ map (λ zs. y ∷ zs) (at_each_place x ys)

-- the orders of five tables: the last one at each place of those of the first four
abbrev pub all_orders : List (List ℕ)
all_orders = flat_map (at_each_place 4) orders

-- in each order the tables fit, where they stand
abbrev pub FitInAnyOrder : Type 0
FitInAnyOrder = AllByRecursion (λ ks. (p : Places) × FitsOutbox (made_of table_of ks) p) all_orders

-- an outbox of the first format can be raised in whichever order its four tables were made: its tables stand there, and
-- once the fifth is made behind them, those of an outbox do
abbrev pub RiseInAnyOrder : Type 0
RiseInAnyOrder = AllByRecursion (λ ks. (v : Site) × (w : Site) × Rises (made_of table_of ks) v w) orders
