-- The texts of a kept scheme's tables, and what the store is made of.
use Rattle.std.specs.Prelude.{ℕ, [], ◌∷◌, codes, List, None}
use Rattle.fare_layout.specs.declared.place.TableNumber.{TableNumber}
use Rattle.fare_opening.specs.Numbers.{Meta}
use Rattle.fare_opening.specs.Parts.{MetaParts, Parts}
use Rattle.fare_kept.specs.Tables.{kept_schema}

abbrev pub Setting : TableNumber
Setting = record { number = 1 }

abbrev pub Zone : TableNumber
Zone = record { number = 2 }

abbrev pub Owner : TableNumber
Owner = record { number = 3 }

abbrev pub Operator : TableNumber
Operator = record { number = 4 }

abbrev pub Station : TableNumber
Station = record { number = 5 }

abbrev pub Product : TableNumber
Product = record { number = 6 }

abbrev pub Device : TableNumber
Device = record { number = 7 }

-- the table that says whose tables these are
abbrev pub kept_meta : MetaParts
kept_meta = record { table = (codes "kept", codes "CREATE TABLE kept (format INTEGER NOT NULL, owner INTEGER NOT NULL) STRICT"); read = codes "SELECT rowid, format, owner FROM kept"; put = codes "INSERT INTO kept (format, owner) VALUES (?1, ?2)"; set = codes "UPDATE kept SET format = ?1" }

-- what makes the tables, each with its name
abbrev pub tables : List (List ℕ × List ℕ)
tables =
    (codes "kept", codes "CREATE TABLE kept (format INTEGER NOT NULL, owner INTEGER NOT NULL) STRICT")
    ∷ (codes "kept_scheme", codes "CREATE TABLE kept_scheme (start INTEGER NOT NULL, inbox INTEGER NOT NULL) STRICT")
    ∷ (codes "kept_zone", codes "CREATE TABLE kept_zone (byte INTEGER NOT NULL) STRICT")
    ∷ (codes "kept_owner", codes "CREATE TABLE kept_owner (owner INTEGER NOT NULL, lane INTEGER NOT NULL) STRICT")
    ∷ (codes "kept_operator", codes "CREATE TABLE kept_operator (operator INTEGER NOT NULL) STRICT")
    ∷ (codes "kept_station", codes "CREATE TABLE kept_station (station INTEGER NOT NULL, operator INTEGER NOT NULL) STRICT")
    ∷ (codes "kept_product", codes "CREATE TABLE kept_product (product INTEGER NOT NULL, owner INTEGER NOT NULL, fare INTEGER NOT NULL, daily INTEGER NOT NULL, weekly INTEGER NOT NULL, hop INTEGER NOT NULL) STRICT")
    ∷ (codes "kept_device", codes "CREATE TABLE kept_device (device INTEGER NOT NULL, station INTEGER NOT NULL, buffer INTEGER NOT NULL) STRICT")
    ∷ []

-- what is asked of them and written to them
abbrev pub texts : List (TableNumber × List ℕ)
texts =
    (Meta, codes "SELECT rowid, format, owner FROM kept")
    ∷ (Meta, codes "INSERT INTO kept (format, owner) VALUES (?1, ?2)")
    ∷ (Meta, codes "UPDATE kept SET format = ?1")
    ∷ (Setting, codes "SELECT rowid, start, inbox FROM kept_scheme ORDER BY rowid")
    ∷ (Setting, codes "INSERT INTO kept_scheme (rowid, start, inbox) VALUES (?1, ?2, ?3)")
    ∷ (Setting, codes "DELETE FROM kept_scheme")
    ∷ (Zone, codes "SELECT rowid, byte FROM kept_zone ORDER BY rowid")
    ∷ (Zone, codes "INSERT INTO kept_zone (rowid, byte) VALUES (?1, ?2)")
    ∷ (Zone, codes "DELETE FROM kept_zone")
    ∷ (Owner, codes "SELECT rowid, owner, lane FROM kept_owner ORDER BY rowid")
    ∷ (Owner, codes "INSERT INTO kept_owner (rowid, owner, lane) VALUES (?1, ?2, ?3)")
    ∷ (Owner, codes "DELETE FROM kept_owner")
    ∷ (Operator, codes "SELECT rowid, operator FROM kept_operator ORDER BY rowid")
    ∷ (Operator, codes "INSERT INTO kept_operator (rowid, operator) VALUES (?1, ?2)")
    ∷ (Operator, codes "DELETE FROM kept_operator")
    ∷ (Station, codes "SELECT rowid, station, operator FROM kept_station ORDER BY rowid")
    ∷ (Station, codes "INSERT INTO kept_station (rowid, station, operator) VALUES (?1, ?2, ?3)")
    ∷ (Station, codes "DELETE FROM kept_station")
    ∷ (Product, codes "SELECT rowid, product, owner, fare, daily, weekly, hop FROM kept_product ORDER BY rowid")
    ∷ (Product, codes "INSERT INTO kept_product (rowid, product, owner, fare, daily, weekly, hop) VALUES (?1, ?2, ?3, ?4, ?5, ?6, ?7)")
    ∷ (Product, codes "DELETE FROM kept_product")
    ∷ (Device, codes "SELECT rowid, device, station, buffer FROM kept_device ORDER BY rowid")
    ∷ (Device, codes "INSERT INTO kept_device (rowid, device, station, buffer) VALUES (?1, ?2, ?3, ?4)")
    ∷ (Device, codes "DELETE FROM kept_device")
    ∷ []

-- what a kept scheme is made of
abbrev pub kept_parts : Parts
kept_parts = record { own = kept_schema; meta = kept_meta; tables = tables; texts = texts; format = 1; older = []; unused = None }
