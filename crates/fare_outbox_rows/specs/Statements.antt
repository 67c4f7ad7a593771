-- The statements of an outbox, and the schemas that they are made for.
use Rattle.std.specs.Prelude.{ℕ, [], ◌∷◌, ◌++◌, codes, List, Some, None}
use Rattle.sqlite.specs.Schema.{Schema}
use Rattle.fare_layout.specs.declared.place.TableNumber.{TableNumber}
use Rattle.fare_opening.specs.Numbers.{Meta, Device, Tap, Stated}
use Rattle.fare_layout.specs.declared.place.Places.{Places}
use Rattle.fare_layout.specs.Layouts.{Fits}
use Rattle.fare_opening.specs.Moving.{MovingParts}
use Rattle.fare_opening.specs.Parts.{Parts, OlderParts, plain_meta}
use Rattle.fare_outbox_rows.specs.Tables.{first_schema, outbox_schema}

-- the table of the taps, each with its route; Tap, where the first format has them, holds no row
abbrev pub Routed : TableNumber
Routed = record { number = 4 }

-- what makes the tables of the first format, each with its name
abbrev pub first_tables : List (List ℕ × List ℕ)
first_tables =
    (codes "meta", codes "CREATE TABLE meta (format INTEGER NOT NULL, owner INTEGER NOT NULL) STRICT")
    ∷ (codes "device", codes "CREATE TABLE device (id INTEGER PRIMARY KEY, upto INTEGER NOT NULL CHECK (upto >= 0)) STRICT")
    ∷ (codes "tap", codes "CREATE TABLE tap (owner INTEGER NOT NULL, device INTEGER NOT NULL, lane INTEGER NOT NULL, link INTEGER NOT NULL, product INTEGER NOT NULL, token INTEGER NOT NULL, moment INTEGER NOT NULL, day INTEGER NOT NULL, PRIMARY KEY (owner, device, lane), UNIQUE (device, link)) STRICT")
    ∷ (codes "stated", codes "CREATE TABLE stated (owner INTEGER NOT NULL, device INTEGER NOT NULL, day INTEGER NOT NULL, total INTEGER NOT NULL, PRIMARY KEY (owner, device, day)) STRICT")
    ∷ []

-- what makes the table that it lacks
abbrev pub later_tables : List (List ℕ × List ℕ)
later_tables = (codes "tap2", codes "CREATE TABLE tap2 (owner INTEGER NOT NULL, device INTEGER NOT NULL, lane INTEGER NOT NULL, link INTEGER NOT NULL, product INTEGER NOT NULL, token INTEGER NOT NULL, moment INTEGER NOT NULL, day INTEGER NOT NULL, route INTEGER NOT NULL, PRIMARY KEY (owner, device, lane), UNIQUE (device, link)) STRICT") ∷ []

-- what makes the tables, in the order in which they are made
abbrev pub tables : List (List ℕ × List ℕ)
tables = first_tables ++ later_tables

-- what an open needs of the tables of the first format, each text with its table
abbrev pub first_texts : List (TableNumber × List ℕ)
first_texts =
    (Meta, codes "SELECT rowid, format, owner FROM meta")
    ∷ (Meta, codes "INSERT INTO meta (format, owner) VALUES (?1, ?2)")
    ∷ (Meta, codes "UPDATE meta SET format = ?1")
    ∷ (Tap, codes "SELECT rowid, owner, device, lane, link, product, token, moment, day FROM tap ORDER BY rowid")
    ∷ []

-- what is asked of the tables and written to them
abbrev pub texts : List (TableNumber × List ℕ)
texts =
    (Device, codes "SELECT upto FROM device WHERE id = ?1")
    ∷ (Routed, codes "SELECT lane, link, product, token, moment, day, route FROM tap2 WHERE owner = ?1 AND device = ?2 AND lane > ?3 ORDER BY lane LIMIT 1")
    ∷ (Stated, codes "SELECT day, total FROM stated WHERE owner = ?1 AND device = ?2 AND day >= ?3 ORDER BY day LIMIT 1")
    ∷ (Routed, codes "SELECT count(*) FROM tap2")
    ∷ (Stated, codes "SELECT count(*) FROM stated")
    ∷ (Device, codes "SELECT count(*) FROM device WHERE upto > 0")
    ∷ (Meta, codes "SELECT rowid, format, owner FROM meta")
    ∷ (Meta, codes "INSERT INTO meta (format, owner) VALUES (?1, ?2)")
    ∷ (Meta, codes "UPDATE meta SET format = ?1")
    ∷ (Device, codes "INSERT INTO device (id, upto) VALUES (?1, ?2) ON CONFLICT (id) DO UPDATE SET upto = excluded.upto")
    ∷ (Routed, codes "INSERT INTO tap2 (owner, device, lane, link, product, token, moment, day, route) VALUES (?1, ?2, ?3, ?4, ?5, ?6, ?7, ?8, ?9)")
    ∷ (Stated, codes "INSERT INTO stated (owner, device, day, total) VALUES (?1, ?2, ?3, ?4)")
    ∷ (Routed, codes "DELETE FROM tap2 WHERE owner = ?1 AND device = ?2 AND lane <= ?3")
    ∷ (Tap, codes "SELECT count(*) FROM tap")
    ∷ (Routed, codes "INSERT INTO tap2 (rowid, owner, device, lane, link, product, token, moment, day, route) VALUES (?1, ?2, ?3, ?4, ?5, ?6, ?7, ?8, ?9, ?10)")
    ∷ (Tap, codes "DELETE FROM tap")
    ∷ (Stated, codes "DELETE FROM stated WHERE owner = ?1 AND device = ?2 AND day < ?3")
    ∷ []

-- a schema has the outbox's tables at these places, and its statements mean there what they should
abbrev pub FitsOutbox : Schema → Places → Type 0
FitsOutbox schema places = Fits outbox_schema texts schema places

-- how the taps of the first format are moved
abbrev pub moving_taps : MovingParts
moving_taps = record { from = Tap; to = Routed; read = codes "SELECT rowid, owner, device, lane, link, product, token, moment, day FROM tap ORDER BY rowid"; put = codes "INSERT INTO tap2 (rowid, owner, device, lane, link, product, token, moment, day, route) VALUES (?1, ?2, ?3, ?4, ?5, ?6, ?7, ?8, ?9, ?10)"; clear = codes "DELETE FROM tap" }

-- what an outbox of the first format is made of
abbrev pub first_format : OlderParts
first_format = record { own = first_schema; meta = plain_meta; tables = first_tables; texts = first_texts; format = 1; missing = later_tables; moving = Some moving_taps; unused = None }

-- what an outbox is made of
abbrev pub outbox_parts : Parts
outbox_parts = record { own = outbox_schema; meta = plain_meta; tables = tables; texts = texts; format = 2; older = first_format ∷ []; unused = Some (Tap, codes "SELECT count(*) FROM tap") }
