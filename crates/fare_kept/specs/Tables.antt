-- The tables of a kept scheme.
use Rattle.std.specs.Prelude.{ℕ, [], ◌∷◌, None, codes}
use Rattle.sqlite.specs.Table.{Table}
use Rattle.sqlite.specs.Schema.{Schema}
use Rattle.fare_tables.specs.Queries.{number, table}
use Rattle.fare_opening.specs.Parts.{meta_named}

abbrev pub scheme_table : ℕ → Table
scheme_table tree = table (codes "kept_scheme") tree (number (codes "start") ∷ number (codes "inbox") ∷ []) None [] [] [] []

abbrev pub zone_table : ℕ → Table
zone_table tree = table (codes "kept_zone") tree (number (codes "byte") ∷ []) None [] [] [] []

abbrev pub owner_table : ℕ → Table
owner_table tree = table (codes "kept_owner") tree (number (codes "owner") ∷ number (codes "lane") ∷ []) None [] [] [] []

abbrev pub operator_table : ℕ → Table
operator_table tree = table (codes "kept_operator") tree (number (codes "operator") ∷ []) None [] [] [] []

abbrev pub station_table : ℕ → Table
station_table tree = table (codes "kept_station") tree (number (codes "station") ∷ number (codes "operator") ∷ []) None [] [] [] []

abbrev pub product_table : ℕ → Table
product_table tree = table (codes "kept_product") tree (number (codes "product") ∷ number (codes "owner") ∷ number (codes "fare") ∷ number (codes "daily") ∷ number (codes "weekly") ∷ number (codes "hop") ∷ []) None [] [] [] []

abbrev pub device_table : ℕ → Table
device_table tree = table (codes "kept_device") tree (number (codes "device") ∷ number (codes "station") ∷ number (codes "buffer") ∷ []) None [] [] [] []

-- after one CREATE TABLE, two and so on
abbrev pub one_made : Schema
one_made = record { tables = meta_named (codes "kept") 0 ∷ []; indexes = []; views = [] }

abbrev pub two_made : Schema
two_made = record { tables = meta_named (codes "kept") 0 ∷ scheme_table 1 ∷ []; indexes = []; views = [] }

abbrev pub three_made : Schema
three_made = record { tables = meta_named (codes "kept") 0 ∷ scheme_table 1 ∷ zone_table 2 ∷ []; indexes = []; views = [] }

abbrev pub four_made : Schema
four_made = record { tables = meta_named (codes "kept") 0 ∷ scheme_table 1 ∷ zone_table 2 ∷ owner_table 3 ∷ []; indexes = []; views = [] }

abbrev pub five_made : Schema
five_made = record { tables = meta_named (codes "kept") 0 ∷ scheme_table 1 ∷ zone_table 2 ∷ owner_table 3 ∷ operator_table 4 ∷ []; indexes = []; views = [] }

abbrev pub six_made : Schema
six_made = record { tables = meta_named (codes "kept") 0 ∷ scheme_table 1 ∷ zone_table 2 ∷ owner_table 3 ∷ operator_table 4 ∷ station_table 5 ∷ []; indexes = []; views = [] }

abbrev pub seven_made : Schema
seven_made = record { tables = meta_named (codes "kept") 0 ∷ scheme_table 1 ∷ zone_table 2 ∷ owner_table 3 ∷ operator_table 4 ∷ station_table 5 ∷ product_table 6 ∷ []; indexes = []; views = [] }

-- after all eight
unfoldable pub kept_schema : Schema
kept_schema = record { tables = meta_named (codes "kept") 0 ∷ scheme_table 1 ∷ zone_table 2 ∷ owner_table 3 ∷ operator_table 4 ∷ station_table 5 ∷ product_table 6 ∷ device_table 7 ∷ []; indexes = []; views = [] }
