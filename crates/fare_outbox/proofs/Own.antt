-- A database of an outbox alone.
use Rattle.std.proofs.Common.{◌≡◌, [], ◌∷◌, codes, List, ℕ, None, Ok, inl, inr, refl, arith}
use Rattle.std.specs.Prelude.{drop}
use Rattle.std.specs.List.{AllByRecursion}
use Rattle.sqlite.specs.Compile.{table_defined_by}
use Rattle.sqlite.specs.Listing.{understood}
use Rattle.sqlite_tied.specs.Compute.{everything}
use Rattle.sqlite_schema.specs.Names.{same_name}
use Rattle.sqlite_value.specs.Keys.{plain}
use Rattle.fare_tables.specs.Making.{no_schema}
use Rattle.fare_tables.specs.Queries.{meta_table}
use Rattle.fare_layout.specs.Schemas.{IsSimpleTable}
use Rattle.fare_layout.specs.declared.place.Places.{Places}
use Rattle.fare_layout.specs.Layouts.{Fits}
use Rattle.fare_layout.specs.Places.{all_of}
use Rattle.fare_layout.specs.Growing.{CanMake, CanMakeAll, Grows, GrowsBy, AreLast}
use Rattle.fare_opening.proofs.Standing.{few_keys}
use Rattle.fare_opening.specs.Moving.{Shape}
use Rattle.fare_opening.specs.Numbers.{Tap}
use Rattle.fare_opening.specs.Parts.{IsCounted, IsDesign, IsMoving, IsOlder, HasFewKeys, parts_of}
use Rattle.fare_opening.proofs.Orders.{fit_as}
use Rattle.fare_outbox_rows.specs.Statements.{first_tables, tables, first_texts, texts, FitsOutbox, moving_taps, first_format, outbox_parts}
use Rattle.fare_outbox_rows.specs.Tables.{one_table, two_tables, three_tables, first_schema, outbox_schema, device_table, tap_table, stated_table, routed_table}
use Rattle.fare_outbox_rows.proofs.Texts.{own_places, meta_own, put_meta_own, set_meta_own, unused_text, unused_own, first_names, put_first_own, clear_first_own, understood_all}
use Rattle.fare_outbox.proofs.FirstTexts.{meta_first, put_meta_first, set_meta_first, read_first, understood_first}

-- TABLES
abbrev pub meta_text : List ℕ
meta_text = codes "CREATE TABLE meta (format INTEGER NOT NULL, owner INTEGER NOT NULL) STRICT"

abbrev pub device_text : List ℕ
device_text = codes "CREATE TABLE device (id INTEGER PRIMARY KEY, upto INTEGER NOT NULL CHECK (upto >= 0)) STRICT"

abbrev pub tap_text : List ℕ
tap_text = codes "CREATE TABLE tap (owner INTEGER NOT NULL, device INTEGER NOT NULL, lane INTEGER NOT NULL, link INTEGER NOT NULL, product INTEGER NOT NULL, token INTEGER NOT NULL, moment INTEGER NOT NULL, day INTEGER NOT NULL, PRIMARY KEY (owner, device, lane), UNIQUE (device, link)) STRICT"

abbrev pub stated_text : List ℕ
stated_text = codes "CREATE TABLE stated (owner INTEGER NOT NULL, device INTEGER NOT NULL, day INTEGER NOT NULL, total INTEGER NOT NULL, PRIMARY KEY (owner, device, day)) STRICT"

abbrev pub routed_text : List ℕ
routed_text = codes "CREATE TABLE tap2 (owner INTEGER NOT NULL, device INTEGER NOT NULL, lane INTEGER NOT NULL, link INTEGER NOT NULL, product INTEGER NOT NULL, token INTEGER NOT NULL, moment INTEGER NOT NULL, day INTEGER NOT NULL, route INTEGER NOT NULL, PRIMARY KEY (owner, device, lane), UNIQUE (device, link)) STRICT"

meta_is : table_defined_by meta_text ≡ Ok (meta_table 0)
unfolding understood everything
meta_is = refl

device_is : table_defined_by device_text ≡ Ok (device_table 0)
unfolding understood everything
device_is = refl

tap_is : table_defined_by tap_text ≡ Ok (tap_table 0)
unfolding understood everything
tap_is = refl

stated_is : table_defined_by stated_text ≡ Ok (stated_table 0)
unfolding understood everything
stated_is = refl

routed_is : table_defined_by routed_text ≡ Ok (routed_table 0)
unfolding understood everything
routed_is = refl

-- MADE
pub meta_can : CanMake no_schema (codes "meta") meta_text (meta_table 0)
unfolding everything
meta_can = record { creates = record { creates = refl; silent = refl; timeless = refl; begins = refl; ends = refl }; defined = meta_is; named = refl; uncounted = refl; room = omega arith }

pub device_can : CanMake one_table (codes "device") device_text (device_table 0)
unfolding everything
device_can = record { creates = record { creates = refl; silent = refl; timeless = refl; begins = refl; ends = refl }; defined = device_is; named = refl; uncounted = refl; room = omega arith }

pub tap_can : CanMake two_tables (codes "tap") tap_text (tap_table 0)
unfolding everything
tap_can = record { creates = record { creates = refl; silent = refl; timeless = refl; begins = refl; ends = refl }; defined = tap_is; named = refl; uncounted = refl; room = omega arith }

pub stated_can : CanMake three_tables (codes "stated") stated_text (stated_table 0)
unfolding everything
stated_can = record { creates = record { creates = refl; silent = refl; timeless = refl; begins = refl; ends = refl }; defined = stated_is; named = refl; uncounted = refl; room = omega arith }

pub routed_can : CanMake first_schema (codes "tap2") routed_text (routed_table 0)
unfolding first_schema everything
routed_can = record { creates = record { creates = refl; silent = refl; timeless = refl; begins = refl; ends = refl }; defined = routed_is; named = refl; uncounted = refl; room = omega arith }

first_can : CanMakeAll no_schema first_tables
first_can = (meta_table 0, meta_can, (device_table 0, device_can, (tap_table 0, tap_can, (stated_table 0, stated_can, tt))))

pub can_make : CanMakeAll no_schema tables
unfolding first_schema
can_make = (meta_table 0, meta_can, (device_table 0, device_can, (tap_table 0, tap_can, (stated_table 0, stated_can, (routed_table 0, routed_can, tt)))))

meta_grows : Grows no_schema meta_text one_table
unfolding understood everything
meta_grows = record { table = meta_table 0; defines = record { plain = (refl, refl); whole = (refl, refl); defined = meta_is; uncounted = refl }; next_is = refl }

device_grows : Grows one_table device_text two_tables
unfolding understood everything
device_grows = record { table = device_table 0; defines = record { plain = (refl, refl); whole = (refl, refl); defined = device_is; uncounted = refl }; next_is = refl }

tap_grows : Grows two_tables tap_text three_tables
unfolding understood everything
tap_grows = record { table = tap_table 0; defines = record { plain = (refl, refl); whole = (refl, refl); defined = tap_is; uncounted = refl }; next_is = refl }

stated_grows : Grows three_tables stated_text first_schema
unfolding first_schema understood everything
stated_grows = record { table = stated_table 0; defines = record { plain = (refl, refl); whole = (refl, refl); defined = stated_is; uncounted = refl }; next_is = refl }

routed_grows : Grows first_schema routed_text outbox_schema
unfolding first_schema outbox_schema understood everything
routed_grows = record { table = routed_table 0; defines = record { plain = (refl, refl); whole = (refl, refl); defined = routed_is; uncounted = refl }; next_is = refl }

first_grows : GrowsBy no_schema first_tables first_schema
first_grows = (one_table, meta_grows, (two_tables, device_grows, (three_tables, tap_grows, (first_schema, stated_grows, refl))))

own_grows : GrowsBy no_schema tables outbox_schema
own_grows = (one_table, meta_grows, (two_tables, device_grows, (three_tables, tap_grows, (first_schema, stated_grows, (outbox_schema, routed_grows, refl)))))

first_few : AllByRecursion (λ t. HasFewKeys t.1) first_tables
first_few = (few_keys meta_text (meta_table 0) meta_is (omega arith), (few_keys device_text (device_table 0) device_is (omega arith), (few_keys tap_text (tap_table 0) tap_is (omega arith), (few_keys stated_text (stated_table 0) stated_is (omega arith), tt))))

own_few : AllByRecursion (λ t. HasFewKeys t.1) tables
own_few = (few_keys meta_text (meta_table 0) meta_is (omega arith), (few_keys device_text (device_table 0) device_is (omega arith), (few_keys tap_text (tap_table 0) tap_is (omega arith), (few_keys stated_text (stated_table 0) stated_is (omega arith), (few_keys routed_text (routed_table 0) routed_is (omega arith), tt)))))

-- IT FITS
-- where the tables stand in a database of an outbox of the first format alone
abbrev pub first_places : Places
first_places = record { all = record { at = 0; tree = 0 } ∷ record { at = 1; tree = 1 } ∷ record { at = 2; tree = 2 } ∷ record { at = 3; tree = 5 } ∷ [] }

first_fits : Fits first_schema first_texts first_schema first_places
unfolding everything first_schema same_name understood_first
first_fits = fit_as first_schema first_texts understood_first first_schema first_places refl refl refl (refl, (refl, (refl, (refl, tt)))) refl refl

pub own_fits : FitsOutbox outbox_schema own_places
unfolding everything outbox_schema same_name understood_all
own_fits = fit_as outbox_schema texts understood_all outbox_schema own_places refl refl refl (refl, (refl, (refl, (refl, (refl, tt))))) refl refl

first_last : AreLast no_schema (all_of first_places)
first_last = (refl, (refl, (refl, (refl, tt))))

own_last : AreLast no_schema (all_of own_places)
own_last = (refl, (refl, (refl, (refl, (refl, tt)))))

-- the tables refer to no other, and have no default
meta_simple : IsSimpleTable (meta_table 0)
meta_simple = record { columns = (tt, (tt, tt)); checks = tt; references = refl; stamps = tt; formats = refl }

device_simple : IsSimpleTable (device_table 1)
device_simple = record { columns = (tt, (tt, tt)); checks = ((tt, tt), tt); references = refl; stamps = tt; formats = refl }

tap_simple : IsSimpleTable (tap_table 2)
tap_simple = record { columns = (tt, (tt, (tt, (tt, (tt, (tt, (tt, (tt, tt)))))))); checks = tt; references = refl; stamps = tt; formats = refl }

stated_simple : IsSimpleTable (stated_table 5)
stated_simple = record { columns = (tt, (tt, (tt, (tt, tt)))); checks = tt; references = refl; stamps = tt; formats = refl }

routed_simple : IsSimpleTable (routed_table 7)
routed_simple = record { columns = (tt, (tt, (tt, (tt, (tt, (tt, (tt, (tt, (tt, tt))))))))); checks = tt; references = refl; stamps = tt; formats = refl }

first_simple : AllByRecursion IsSimpleTable first_schema.tables
unfolding first_schema
first_simple = (meta_simple, (device_simple, (tap_simple, (stated_simple, tt))))

pub simple_tables : AllByRecursion IsSimpleTable outbox_schema.tables
unfolding outbox_schema
simple_tables = (meta_simple, (device_simple, (tap_simple, (stated_simple, (routed_simple, tt)))))

-- AN OUTBOX IS A STORE
-- the table that holds no row, and what counts its rows
unused_counted : IsCounted outbox_parts (Tap, unused_text)
unfolding outbox_schema
unused_counted = record { past = omega arith; within = omega arith; counts = inr (inr (inr (inr (inr (inr (inr (inr (inr (inr (inr (inr (inr (inl refl))))))))))))); names = codes "count(*)" ∷ []; tree = 2; counts_meant = unused_own }

-- the table that the taps move to
abbrev routed_shape : Shape
routed_shape = record {
  name = codes "tap2";
  columns = (routed_table 0).columns;
  key = None;
  primary = 1 ∷ 2 ∷ 3 ∷ [];
  uniques = (1 ∷ 2 ∷ 3 ∷ []) ∷ (2 ∷ 4 ∷ []) ∷ [];
  orders = plain ∷ plain ∷ [];
  checks = [];
}

first_moves : IsMoving outbox_parts first_format moving_taps
unfolding first_schema outbox_schema
first_moves = record {
  past = omega arith;
  has = omega arith;
  lacks = omega arith;
  shape = routed_shape;
  tree = 7;
  shape_is = refl;
  integers = (refl, (refl, (refl, (refl, (refl, (refl, (refl, (refl, (refl, tt)))))))));
  names = first_names;
  read_tree = 2;
  put_at = 4;
  clear_at = 2;
  clear_tree = 2;
  reads = inr (inr (inr (inl refl)));
  reads_meant = read_first;
  puts = inr (inr (inr (inr (inr (inr (inr (inr (inr (inr (inr (inr (inr (inr (inl refl))))))))))))));
  puts_meant = put_first_own;
  clears = inr (inr (inr (inr (inr (inr (inr (inr (inr (inr (inr (inr (inr (inr (inr (inl refl)))))))))))))));
  clears_meant = clear_first_own;
}

pub first_design : IsDesign (parts_of first_format)
unfolding first_schema
first_design = record {
  rest = drop 1 first_tables;
  tables_are = refl;
  meta_is = refl;
  many = refl;
  can = first_can;
  grows = first_grows;
  few = first_few;
  simple = first_simple;
  understood = understood_first;
  home = first_places;
  at_home = first_fits;
  last = first_last;
  asks = inl refl;
  asks_meant = meta_first;
  puts = inr (inl refl);
  puts_meant = put_meta_first;
  sets = inr (inr (inl refl));
  sets_meant = set_meta_first;
  counted = tt;
}

pub outbox_design : IsDesign outbox_parts
unfolding outbox_schema
outbox_design = record {
  rest = drop 1 tables;
  tables_are = refl;
  meta_is = refl;
  many = refl;
  can = can_make;
  grows = own_grows;
  few = own_few;
  simple = simple_tables;
  understood = understood_all;
  home = own_places;
  at_home = own_fits;
  last = own_last;
  asks = inr (inr (inr (inr (inr (inr (inl refl))))));
  asks_meant = meta_own;
  puts = inr (inr (inr (inr (inr (inr (inr (inl refl)))))));
  puts_meant = put_meta_own;
  sets = inr (inr (inr (inr (inr (inr (inr (inr (inl refl))))))));
  sets_meant = set_meta_own;
  counted = unused_counted;
}

-- the first format is one that is raised
pub outbox_older : AllByRecursion (IsOlder outbox_parts) outbox_parts.older
outbox_older = (record { design = first_design; tables_are = refl; moves = first_moves }, tt)
