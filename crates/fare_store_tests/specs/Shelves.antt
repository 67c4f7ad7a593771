-- A store of books in two formats: the first has books, the second loans too.
use Rattle.std.specs.Prelude.{ℕ, [], ◌∷◌, None, codes, List}
use Rattle.sqlite.specs.Schema.{Schema}
use Rattle.sqlite.specs.Table.{Table}
use Rattle.fare_layout.specs.declared.place.TableNumber.{TableNumber}
use Rattle.fare_opening.specs.Numbers.{Meta}
use Rattle.fare_opening.specs.Parts.{Parts, OlderParts, meta_name, meta_text, read_meta, put_meta, set_meta, plain_meta}
use Rattle.fare_tables.specs.Queries.{number, table, meta_table}

abbrev pub book_table : ℕ → Table
book_table tree = table (codes "book") tree (number (codes "number") ∷ []) None [] [] [] []

abbrev pub loan_table : ℕ → Table
loan_table tree = table (codes "loan") tree (number (codes "number") ∷ number (codes "reader") ∷ []) None [] [] [] []

abbrev pub meta_alone : Schema
meta_alone = record { tables = meta_table 0 ∷ []; indexes = []; views = [] }

-- of the first format
unfoldable pub old_schema : Schema
old_schema = record { tables = meta_table 0 ∷ book_table 1 ∷ []; indexes = []; views = [] }

-- of the second
unfoldable pub new_schema : Schema
new_schema = record { tables = meta_table 0 ∷ book_table 1 ∷ loan_table 2 ∷ []; indexes = []; views = [] }

abbrev pub book_text : List ℕ
book_text = codes "CREATE TABLE book (number INTEGER NOT NULL) STRICT"

abbrev pub loan_text : List ℕ
loan_text = codes "CREATE TABLE loan (number INTEGER NOT NULL, reader INTEGER NOT NULL) STRICT"

abbrev pub old_tables : List (List ℕ × List ℕ)
old_tables = (meta_name, meta_text) ∷ (codes "book", book_text) ∷ []

abbrev pub missing_tables : List (List ℕ × List ℕ)
missing_tables = (codes "loan", loan_text) ∷ []

abbrev pub new_tables : List (List ℕ × List ℕ)
new_tables = (meta_name, meta_text) ∷ (codes "book", book_text) ∷ (codes "loan", loan_text) ∷ []

abbrev pub shelf_texts : List (TableNumber × List ℕ)
shelf_texts = (Meta, read_meta) ∷ (Meta, put_meta) ∷ (Meta, set_meta) ∷ []

abbrev pub old_parts : Parts
old_parts = record { own = old_schema; meta = plain_meta; tables = old_tables; texts = shelf_texts; format = 1; older = []; unused = None }

abbrev pub first_format : OlderParts
first_format = record { own = old_schema; meta = plain_meta; tables = old_tables; texts = shelf_texts; format = 1; missing = missing_tables; moving = None; unused = None }

abbrev pub new_parts : Parts
new_parts = record { own = new_schema; meta = plain_meta; tables = new_tables; texts = shelf_texts; format = 2; older = first_format ∷ []; unused = None }
