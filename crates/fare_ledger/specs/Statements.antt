-- The statements of a ledger, and the schemas that they are made for.
use Rattle.std.specs.Prelude.{ℕ, [], ◌∷◌, ◌++◌, codes, List, Some, None}
use Rattle.sqlite.specs.Schema.{Schema}
use Rattle.fare_layout.specs.declared.place.TableNumber.{TableNumber}
use Rattle.fare_opening.specs.Numbers.{Meta, Device, Tap, Stated}
use Rattle.fare_layout.specs.declared.place.Places.{Places}
use Rattle.fare_layout.specs.Layouts.{Fits}
use Rattle.fare_opening.specs.Moving.{MovingParts}
use Rattle.fare_opening.specs.Parts.{Parts, OlderParts, plain_meta}
use Rattle.fare_ledger.specs.Tables.{first_schema, second_schema, third_schema, ledger_schema}

-- the table of the retired lanes
abbrev pub Retired : TableNumber
Retired = record { number = 4 }

-- the table of the taps, each with its route; Tap, where older formats have them, holds no row
abbrev pub Routed : TableNumber
Routed = record { number = 5 }

-- the table of the days from which on all of a device is held
abbrev pub Since : TableNumber
Since = record { number = 6 }

-- what makes the tables of the first format, each with its name
abbrev pub first_tables : List (List ℕ × List ℕ)
first_tables =
    (codes "meta", codes "CREATE TABLE meta (format INTEGER NOT NULL, owner INTEGER NOT NULL) STRICT")
    ∷ (codes "lane", codes "CREATE TABLE lane (device INTEGER PRIMARY KEY, taken INTEGER NOT NULL CHECK (taken >= 0), closed INTEGER NOT NULL CHECK (closed >= 0)) STRICT")
    ∷ (codes "tap", codes "CREATE TABLE tap (device INTEGER NOT NULL, lane INTEGER NOT NULL, link INTEGER NOT NULL, product INTEGER NOT NULL, token INTEGER NOT NULL, moment INTEGER NOT NULL, day INTEGER NOT NULL, PRIMARY KEY (device, lane)) STRICT")
    ∷ (codes "stated", codes "CREATE TABLE stated (device INTEGER NOT NULL, day INTEGER NOT NULL, total INTEGER NOT NULL, PRIMARY KEY (device, day)) STRICT")
    ∷ []

-- what makes the table that the second has more
abbrev pub retired_tables : List (List ℕ × List ℕ)
retired_tables = (codes "retired", codes "CREATE TABLE retired (device INTEGER PRIMARY KEY) STRICT") ∷ []

-- what makes the table that the third has more
abbrev pub routed_tables : List (List ℕ × List ℕ)
routed_tables = (codes "tap2", codes "CREATE TABLE tap2 (device INTEGER NOT NULL, lane INTEGER NOT NULL, link INTEGER NOT NULL, product INTEGER NOT NULL, token INTEGER NOT NULL, moment INTEGER NOT NULL, day INTEGER NOT NULL, route INTEGER NOT NULL, PRIMARY KEY (device, lane)) STRICT") ∷ []

-- what makes the table that the third lacks
abbrev pub held_tables : List (List ℕ × List ℕ)
held_tables = (codes "held", codes "CREATE TABLE held (device INTEGER PRIMARY KEY, since INTEGER NOT NULL CHECK (since >= 0)) STRICT") ∷ []

-- what makes the tables, in the order in which they are made
abbrev pub tables : List (List ℕ × List ℕ)
tables = first_tables ++ retired_tables ++ routed_tables ++ held_tables

-- what an open needs of the tables of an older format that has the taps in Tap, each text with its table
abbrev pub older_texts : List (TableNumber × List ℕ)
older_texts =
    (Meta, codes "SELECT rowid, format, owner FROM meta")
    ∷ (Meta, codes "INSERT INTO meta (format, owner) VALUES (?1, ?2)")
    ∷ (Meta, codes "UPDATE meta SET format = ?1")
    ∷ (Tap, codes "SELECT rowid, device, lane, link, product, token, moment, day FROM tap ORDER BY rowid")
    ∷ []

-- and of those of one that has the taps where the newest has them
abbrev pub third_texts : List (TableNumber × List ℕ)
third_texts =
    (Meta, codes "SELECT rowid, format, owner FROM meta")
    ∷ (Meta, codes "INSERT INTO meta (format, owner) VALUES (?1, ?2)")
    ∷ (Meta, codes "UPDATE meta SET format = ?1")
    ∷ (Tap, codes "SELECT count(*) FROM tap")
    ∷ []

-- what is asked of all tables and written to them, each with its table: Device is lane here
abbrev pub texts : List (TableNumber × List ℕ)
texts =
    (Device, codes "SELECT taken, closed FROM lane WHERE device = ?1")
    ∷ (Stated, codes "SELECT total FROM stated WHERE device = ?1 AND day = ?2")
    ∷ (Routed, codes "SELECT count(*) FROM tap2 WHERE device = ?1 AND day = ?2")
    ∷ (Routed, codes "SELECT device, lane, link, product, token, moment, day, route FROM tap2 WHERE day >= ?1 AND day <= ?2 ORDER BY day, moment, device, lane")
    ∷ (Device, codes "SELECT count(*) FROM lane WHERE taken > 0 OR closed > 0")
    ∷ (Since, codes "SELECT count(*) FROM held WHERE since > 0")
    ∷ (Stated, codes "SELECT count(*) FROM stated")
    ∷ (Meta, codes "SELECT rowid, format, owner FROM meta")
    ∷ (Meta, codes "INSERT INTO meta (format, owner) VALUES (?1, ?2)")
    ∷ (Meta, codes "UPDATE meta SET format = ?1")
    ∷ (Device, codes "INSERT INTO lane (device, taken, closed) VALUES (?1, ?2, ?3) ON CONFLICT (device) DO UPDATE SET taken = excluded.taken, closed = excluded.closed")
    ∷ (Routed, codes "INSERT INTO tap2 (device, lane, link, product, token, moment, day, route) VALUES (?1, ?2, ?3, ?4, ?5, ?6, ?7, ?8)")
    ∷ (Stated, codes "INSERT INTO stated (device, day, total) VALUES (?1, ?2, ?3)")
    ∷ (Retired, codes "SELECT count(*) FROM retired WHERE device = ?1")
    ∷ (Retired, codes "INSERT INTO retired (device) VALUES (?1)")
    ∷ (Retired, codes "SELECT count(*) FROM retired")
    ∷ (Tap, codes "SELECT count(*) FROM tap")
    ∷ (Routed, codes "INSERT INTO tap2 (rowid, device, lane, link, product, token, moment, day, route) VALUES (?1, ?2, ?3, ?4, ?5, ?6, ?7, ?8, ?9)")
    ∷ (Tap, codes "DELETE FROM tap")
    ∷ (Since, codes "SELECT since FROM held WHERE device = ?1")
    ∷ (Since, codes "INSERT INTO held (device, since) VALUES (?1, ?2) ON CONFLICT (device) DO UPDATE SET since = excluded.since")
    ∷ (Routed, codes "SELECT lane FROM tap2 WHERE device = ?1 AND day >= ?2 ORDER BY lane LIMIT 1")
    ∷ (Routed, codes "DELETE FROM tap2 WHERE device = ?1 AND lane <= ?2")
    ∷ (Stated, codes "DELETE FROM stated WHERE device = ?1 AND day < ?2")
    ∷ []

-- a schema has the ledger's tables at these places, and its statements mean there what they should
abbrev pub FitsLedger : Schema → Places → Type 0
FitsLedger schema places = Fits ledger_schema texts schema places

-- how the taps of an older format are moved
abbrev pub moving_taps : MovingParts
moving_taps = record {
  from = Tap;
  to = Routed;
  read = codes "SELECT rowid, device, lane, link, product, token, moment, day FROM tap ORDER BY rowid";
  put = codes "INSERT INTO tap2 (rowid, device, lane, link, product, token, moment, day, route) VALUES (?1, ?2, ?3, ?4, ?5, ?6, ?7, ?8, ?9)";
  clear = codes "DELETE FROM tap";
}

-- what a ledger of the first format is made of
abbrev pub first_format : OlderParts
first_format = record { own = first_schema; meta = plain_meta; tables = first_tables; texts = older_texts; format = 1; missing = retired_tables ++ routed_tables ++ held_tables; moving = Some moving_taps; unused = None }

-- one of the second
abbrev pub second_format : OlderParts
second_format = record { own = second_schema; meta = plain_meta; tables = first_tables ++ retired_tables; texts = older_texts; format = 2; missing = routed_tables ++ held_tables; moving = Some moving_taps; unused = None }

-- and one of the third, which doesn't use Tap either
abbrev pub third_format : OlderParts
third_format = record { own = third_schema; meta = plain_meta; tables = first_tables ++ retired_tables ++ routed_tables; texts = third_texts; format = 3; missing = held_tables; moving = None; unused = Some (Tap, codes "SELECT count(*) FROM tap") }

-- what a ledger is made of
abbrev pub ledger_parts : Parts
ledger_parts = record { own = ledger_schema; meta = plain_meta; tables = tables; texts = texts; format = 4; older = first_format ∷ second_format ∷ third_format ∷ []; unused = Some (Tap, codes "SELECT count(*) FROM tap") }
