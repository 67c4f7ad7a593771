-- What the texts mean in a database of a kept scheme alone.
use Rattle.std.proofs.Common.{[], ◌∷◌, codes, List, ℕ, refl}
use Rattle.sqlite_tied.specs.Compute.{everything}
use Rattle.fare_layout.specs.Commands.{IsMeant, IsSimpleCommand}
use Rattle.fare_layout.specs.Layouts.{AreUnderstood}
use Rattle.fare_opening.specs.Moving.{reads_rows, puts_cells, clears_rows}
use Rattle.fare_opening.specs.Parts.{reads_meta, puts_meta, sets_meta}
use Rattle.fare_kept.specs.Statements.{texts}
use Rattle.fare_kept.specs.Tables.{kept_schema}

abbrev pub scheme_names : List (List ℕ)
scheme_names = codes "rowid" ∷ codes "start" ∷ codes "inbox" ∷ []

abbrev pub zone_names : List (List ℕ)
zone_names = codes "rowid" ∷ codes "byte" ∷ []

abbrev pub owner_names : List (List ℕ)
owner_names = codes "rowid" ∷ codes "owner" ∷ codes "lane" ∷ []

abbrev pub operator_names : List (List ℕ)
operator_names = codes "rowid" ∷ codes "operator" ∷ []

abbrev pub station_names : List (List ℕ)
station_names = codes "rowid" ∷ codes "station" ∷ codes "operator" ∷ []

abbrev pub product_names : List (List ℕ)
product_names = codes "rowid" ∷ codes "product" ∷ codes "owner" ∷ codes "fare" ∷ codes "daily" ∷ codes "weekly" ∷ codes "hop" ∷ []

abbrev pub device_names : List (List ℕ)
device_names = codes "rowid" ∷ codes "device" ∷ codes "station" ∷ codes "buffer" ∷ []

abbrev pub read_meta_text : List ℕ
read_meta_text = codes "SELECT rowid, format, owner FROM kept"

pub read_meta_own : IsMeant kept_schema read_meta_text (reads_meta 0)
unfolding everything kept_schema
read_meta_own = refl

pub read_meta_simple : IsSimpleCommand (reads_meta 0)
read_meta_simple = search

abbrev pub put_meta_text : List ℕ
put_meta_text = codes "INSERT INTO kept (format, owner) VALUES (?1, ?2)"

pub put_meta_own : IsMeant kept_schema put_meta_text (puts_meta 0)
unfolding everything kept_schema
put_meta_own = refl

pub put_meta_simple : IsSimpleCommand (puts_meta 0)
put_meta_simple = search

abbrev pub set_meta_text : List ℕ
set_meta_text = codes "UPDATE kept SET format = ?1"

pub set_meta_own : IsMeant kept_schema set_meta_text (sets_meta 0 0)
unfolding everything kept_schema
set_meta_own = refl

pub set_meta_simple : IsSimpleCommand (sets_meta 0 0)
set_meta_simple = search

abbrev pub read_scheme_text : List ℕ
read_scheme_text = codes "SELECT rowid, start, inbox FROM kept_scheme ORDER BY rowid"

pub read_scheme_own : IsMeant kept_schema read_scheme_text (reads_rows 3 scheme_names 1)
unfolding everything kept_schema
read_scheme_own = refl

pub read_scheme_simple : IsSimpleCommand (reads_rows 3 scheme_names 1)
read_scheme_simple = search

abbrev pub put_scheme_text : List ℕ
put_scheme_text = codes "INSERT INTO kept_scheme (rowid, start, inbox) VALUES (?1, ?2, ?3)"

pub put_scheme_own : IsMeant kept_schema put_scheme_text (puts_cells 3 1)
unfolding everything kept_schema
put_scheme_own = refl

pub put_scheme_simple : IsSimpleCommand (puts_cells 3 1)
put_scheme_simple = search

abbrev pub clear_scheme_text : List ℕ
clear_scheme_text = codes "DELETE FROM kept_scheme"

pub clear_scheme_own : IsMeant kept_schema clear_scheme_text (clears_rows 1 1)
unfolding everything kept_schema
clear_scheme_own = refl

pub clear_scheme_simple : IsSimpleCommand (clears_rows 1 1)
clear_scheme_simple = search

abbrev pub read_zone_text : List ℕ
read_zone_text = codes "SELECT rowid, byte FROM kept_zone ORDER BY rowid"

pub read_zone_own : IsMeant kept_schema read_zone_text (reads_rows 2 zone_names 2)
unfolding everything kept_schema
read_zone_own = refl

pub read_zone_simple : IsSimpleCommand (reads_rows 2 zone_names 2)
read_zone_simple = search

abbrev pub put_zone_text : List ℕ
put_zone_text = codes "INSERT INTO kept_zone (rowid, byte) VALUES (?1, ?2)"

pub put_zone_own : IsMeant kept_schema put_zone_text (puts_cells 2 2)
unfolding everything kept_schema
put_zone_own = refl

pub put_zone_simple : IsSimpleCommand (puts_cells 2 2)
put_zone_simple = search

abbrev pub clear_zone_text : List ℕ
clear_zone_text = codes "DELETE FROM kept_zone"

pub clear_zone_own : IsMeant kept_schema clear_zone_text (clears_rows 2 2)
unfolding everything kept_schema
clear_zone_own = refl

pub clear_zone_simple : IsSimpleCommand (clears_rows 2 2)
clear_zone_simple = search

abbrev pub read_owner_text : List ℕ
read_owner_text = codes "SELECT rowid, owner, lane FROM kept_owner ORDER BY rowid"

pub read_owner_own : IsMeant kept_schema read_owner_text (reads_rows 3 owner_names 3)
unfolding everything kept_schema
read_owner_own = refl

pub read_owner_simple : IsSimpleCommand (reads_rows 3 owner_names 3)
read_owner_simple = search

abbrev pub put_owner_text : List ℕ
put_owner_text = codes "INSERT INTO kept_owner (rowid, owner, lane) VALUES (?1, ?2, ?3)"

pub put_owner_own : IsMeant kept_schema put_owner_text (puts_cells 3 3)
unfolding everything kept_schema
put_owner_own = refl

pub put_owner_simple : IsSimpleCommand (puts_cells 3 3)
put_owner_simple = search

abbrev pub clear_owner_text : List ℕ
clear_owner_text = codes "DELETE FROM kept_owner"

pub clear_owner_own : IsMeant kept_schema clear_owner_text (clears_rows 3 3)
unfolding everything kept_schema
clear_owner_own = refl

pub clear_owner_simple : IsSimpleCommand (clears_rows 3 3)
clear_owner_simple = search

abbrev pub read_operator_text : List ℕ
read_operator_text = codes "SELECT rowid, operator FROM kept_operator ORDER BY rowid"

pub read_operator_own : IsMeant kept_schema read_operator_text (reads_rows 2 operator_names 4)
unfolding everything kept_schema
read_operator_own = refl

pub read_operator_simple : IsSimpleCommand (reads_rows 2 operator_names 4)
read_operator_simple = search

abbrev pub put_operator_text : List ℕ
put_operator_text = codes "INSERT INTO kept_operator (rowid, operator) VALUES (?1, ?2)"

pub put_operator_own : IsMeant kept_schema put_operator_text (puts_cells 2 4)
unfolding everything kept_schema
put_operator_own = refl

pub put_operator_simple : IsSimpleCommand (puts_cells 2 4)
put_operator_simple = search

abbrev pub clear_operator_text : List ℕ
clear_operator_text = codes "DELETE FROM kept_operator"

pub clear_operator_own : IsMeant kept_schema clear_operator_text (clears_rows 4 4)
unfolding everything kept_schema
clear_operator_own = refl

pub clear_operator_simple : IsSimpleCommand (clears_rows 4 4)
clear_operator_simple = search

abbrev pub read_station_text : List ℕ
read_station_text = codes "SELECT rowid, station, operator FROM kept_station ORDER BY rowid"

pub read_station_own : IsMeant kept_schema read_station_text (reads_rows 3 station_names 5)
unfolding everything kept_schema
read_station_own = refl

pub read_station_simple : IsSimpleCommand (reads_rows 3 station_names 5)
read_station_simple = search

abbrev pub put_station_text : List ℕ
put_station_text = codes "INSERT INTO kept_station (rowid, station, operator) VALUES (?1, ?2, ?3)"

pub put_station_own : IsMeant kept_schema put_station_text (puts_cells 3 5)
unfolding everything kept_schema
put_station_own = refl

pub put_station_simple : IsSimpleCommand (puts_cells 3 5)
put_station_simple = search

abbrev pub clear_station_text : List ℕ
clear_station_text = codes "DELETE FROM kept_station"

pub clear_station_own : IsMeant kept_schema clear_station_text (clears_rows 5 5)
unfolding everything kept_schema
clear_station_own = refl

pub clear_station_simple : IsSimpleCommand (clears_rows 5 5)
clear_station_simple = search

abbrev pub read_product_text : List ℕ
read_product_text = codes "SELECT rowid, product, owner, fare, daily, weekly, hop FROM kept_product ORDER BY rowid"

pub read_product_own : IsMeant kept_schema read_product_text (reads_rows 7 product_names 6)
unfolding everything kept_schema
read_product_own = refl

pub read_product_simple : IsSimpleCommand (reads_rows 7 product_names 6)
read_product_simple = search

abbrev pub put_product_text : List ℕ
put_product_text = codes "INSERT INTO kept_product (rowid, product, owner, fare, daily, weekly, hop) VALUES (?1, ?2, ?3, ?4, ?5, ?6, ?7)"

pub put_product_own : IsMeant kept_schema put_product_text (puts_cells 7 6)
unfolding everything kept_schema
put_product_own = refl

pub put_product_simple : IsSimpleCommand (puts_cells 7 6)
put_product_simple = search

abbrev pub clear_product_text : List ℕ
clear_product_text = codes "DELETE FROM kept_product"

pub clear_product_own : IsMeant kept_schema clear_product_text (clears_rows 6 6)
unfolding everything kept_schema
clear_product_own = refl

pub clear_product_simple : IsSimpleCommand (clears_rows 6 6)
clear_product_simple = search

abbrev pub read_device_text : List ℕ
read_device_text = codes "SELECT rowid, device, station, buffer FROM kept_device ORDER BY rowid"

pub read_device_own : IsMeant kept_schema read_device_text (reads_rows 4 device_names 7)
unfolding everything kept_schema
read_device_own = refl

pub read_device_simple : IsSimpleCommand (reads_rows 4 device_names 7)
read_device_simple = search

abbrev pub put_device_text : List ℕ
put_device_text = codes "INSERT INTO kept_device (rowid, device, station, buffer) VALUES (?1, ?2, ?3, ?4)"

pub put_device_own : IsMeant kept_schema put_device_text (puts_cells 4 7)
unfolding everything kept_schema
put_device_own = refl

pub put_device_simple : IsSimpleCommand (puts_cells 4 7)
put_device_simple = search

abbrev pub clear_device_text : List ℕ
clear_device_text = codes "DELETE FROM kept_device"

pub clear_device_own : IsMeant kept_schema clear_device_text (clears_rows 7 7)
unfolding everything kept_schema
clear_device_own = refl

pub clear_device_simple : IsSimpleCommand (clears_rows 7 7)
clear_device_simple = search

unfoldable pub understood_all : AreUnderstood kept_schema texts
understood_all = ((reads_meta 0, read_meta_own, read_meta_simple), ((puts_meta 0, put_meta_own, put_meta_simple), ((sets_meta 0 0, set_meta_own, set_meta_simple), ((reads_rows 3 scheme_names 1, read_scheme_own, read_scheme_simple), ((puts_cells 3 1, put_scheme_own, put_scheme_simple), ((clears_rows 1 1, clear_scheme_own, clear_scheme_simple), ((reads_rows 2 zone_names 2, read_zone_own, read_zone_simple), ((puts_cells 2 2, put_zone_own, put_zone_simple), ((clears_rows 2 2, clear_zone_own, clear_zone_simple), ((reads_rows 3 owner_names 3, read_owner_own, read_owner_simple), ((puts_cells 3 3, put_owner_own, put_owner_simple), ((clears_rows 3 3, clear_owner_own, clear_owner_simple), ((reads_rows 2 operator_names 4, read_operator_own, read_operator_simple), ((puts_cells 2 4, put_operator_own, put_operator_simple), ((clears_rows 4 4, clear_operator_own, clear_operator_simple), ((reads_rows 3 station_names 5, read_station_own, read_station_simple), ((puts_cells 3 5, put_station_own, put_station_simple), ((clears_rows 5 5, clear_station_own, clear_station_simple), ((reads_rows 7 product_names 6, read_product_own, read_product_simple), ((puts_cells 7 6, put_product_own, put_product_simple), ((clears_rows 6 6, clear_product_own, clear_product_simple), ((reads_rows 4 device_names 7, read_device_own, read_device_simple), ((puts_cells 4 7, put_device_own, put_device_simple), ((clears_rows 7 7, clear_device_own, clear_device_simple), tt))))))))))))))))))))))))
