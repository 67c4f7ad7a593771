-- A database of a ledger alone.
use Rattle.std.proofs.Common.{◌≡◌, [], ◌∷◌, codes, List, ℕ, None, Ok, inl, inr, refl, arith}
use Rattle.std.specs.Prelude.{drop}
use Rattle.std.specs.List.{AllByRecursion}
use Rattle.sqlite.specs.Compile.{table_defined_by}
use Rattle.sqlite.specs.Listing.{understood}
use Rattle.sqlite_tied.specs.Compute.{everything}
use Rattle.sqlite_value.specs.Keys.{plain}
use Rattle.sqlite_schema.specs.Names.{same_name}
use Rattle.fare_tables.specs.Making.{no_schema}
use Rattle.fare_tables.specs.Queries.{meta_table}
use Rattle.fare_layout.specs.Schemas.{IsSimpleTable}
use Rattle.fare_layout.specs.declared.place.Places.{Places}
use Rattle.fare_layout.specs.Layouts.{Fits}
use Rattle.fare_layout.specs.Places.{all_of}
use Rattle.fare_layout.specs.Growing.{CanMake, CanMakeAll, Grows, GrowsBy, AreLast}
use Rattle.fare_opening.proofs.Standing.{few_keys}
use Rattle.fare_opening.specs.Moving.{Shape}
use Rattle.fare_opening.specs.Numbers.{Tap}
use Rattle.fare_opening.specs.Parts.{IsDesign, IsCounted, IsMoving, IsOlder, HasFewKeys, parts_of}
use Rattle.fare_opening.proofs.Orders.{fit_as}
use Rattle.fare_ledger.specs.Statements.{tables, texts, FitsLedger, moving_taps, first_format, second_format, third_format, ledger_parts}
use Rattle.fare_ledger.specs.Tables.{one_table, two_tables, three_tables, first_schema, second_schema, third_schema, ledger_schema, lane_table, tap_table, stated_table, retired_table, routed_table, held_table}
use Rattle.fare_ledger.proofs.Texts.{own_places, meta_own, put_meta_own, set_meta_own, unused_text, unused_own, put_older_own, clear_older_own, understood_all}
use Rattle.fare_ledger.proofs.OlderTexts.{meta_first, put_meta_first, set_meta_first, older_first, understood_first, meta_second, put_meta_second, set_meta_second, older_second, understood_second, meta_third, put_meta_third, set_meta_third, unused_third, understood_third}

-- TABLES
abbrev pub make_meta_text : List ℕ
make_meta_text = codes "CREATE TABLE meta (format INTEGER NOT NULL, owner INTEGER NOT NULL) STRICT"

abbrev pub make_lane_text : List ℕ
make_lane_text = codes "CREATE TABLE lane (device INTEGER PRIMARY KEY, taken INTEGER NOT NULL CHECK (taken >= 0), closed INTEGER NOT NULL CHECK (closed >= 0)) STRICT"

abbrev pub make_tap_text : List ℕ
make_tap_text = codes "CREATE TABLE tap (device INTEGER NOT NULL, lane INTEGER NOT NULL, link INTEGER NOT NULL, product INTEGER NOT NULL, token INTEGER NOT NULL, moment INTEGER NOT NULL, day INTEGER NOT NULL, PRIMARY KEY (device, lane)) STRICT"

abbrev pub make_stated_text : List ℕ
make_stated_text = codes "CREATE TABLE stated (device INTEGER NOT NULL, day INTEGER NOT NULL, total INTEGER NOT NULL, PRIMARY KEY (device, day)) STRICT"

abbrev pub make_retired_text : List ℕ
make_retired_text = codes "CREATE TABLE retired (device INTEGER PRIMARY KEY) STRICT"

abbrev pub make_routed_text : List ℕ
make_routed_text = codes "CREATE TABLE tap2 (device INTEGER NOT NULL, lane INTEGER NOT NULL, link INTEGER NOT NULL, product INTEGER NOT NULL, token INTEGER NOT NULL, moment INTEGER NOT NULL, day INTEGER NOT NULL, route INTEGER NOT NULL, PRIMARY KEY (device, lane)) STRICT"

abbrev pub make_held_text : List ℕ
make_held_text = codes "CREATE TABLE held (device INTEGER PRIMARY KEY, since INTEGER NOT NULL CHECK (since >= 0)) STRICT"

meta_is : table_defined_by make_meta_text ≡ Ok (meta_table 0)
unfolding understood everything
meta_is = refl

lane_is : table_defined_by make_lane_text ≡ Ok (lane_table 0)
unfolding understood everything
lane_is = refl

tap_is : table_defined_by make_tap_text ≡ Ok (tap_table 0)
unfolding understood everything
tap_is = refl

stated_is : table_defined_by make_stated_text ≡ Ok (stated_table 0)
unfolding understood everything
stated_is = refl

retired_is : table_defined_by make_retired_text ≡ Ok (retired_table 0)
unfolding understood everything
retired_is = refl

routed_is : table_defined_by make_routed_text ≡ Ok (routed_table 0)
unfolding understood everything
routed_is = refl

held_is : table_defined_by make_held_text ≡ Ok (held_table 0)
unfolding understood everything
held_is = refl

-- MADE
pub meta_can : CanMake no_schema (codes "meta") make_meta_text (meta_table 0)
unfolding everything
meta_can = record { creates = record { creates = refl; silent = refl; timeless = refl; begins = refl; ends = refl }; defined = meta_is; named = refl; uncounted = refl; room = omega arith }

pub lane_can : CanMake one_table (codes "lane") make_lane_text (lane_table 0)
unfolding everything
lane_can = record { creates = record { creates = refl; silent = refl; timeless = refl; begins = refl; ends = refl }; defined = lane_is; named = refl; uncounted = refl; room = omega arith }

pub tap_can : CanMake two_tables (codes "tap") make_tap_text (tap_table 0)
unfolding everything
tap_can = record { creates = record { creates = refl; silent = refl; timeless = refl; begins = refl; ends = refl }; defined = tap_is; named = refl; uncounted = refl; room = omega arith }

pub stated_can : CanMake three_tables (codes "stated") make_stated_text (stated_table 0)
unfolding everything
stated_can = record { creates = record { creates = refl; silent = refl; timeless = refl; begins = refl; ends = refl }; defined = stated_is; named = refl; uncounted = refl; room = omega arith }

pub retired_can : CanMake first_schema (codes "retired") make_retired_text (retired_table 0)
unfolding first_schema everything
retired_can = record { creates = record { creates = refl; silent = refl; timeless = refl; begins = refl; ends = refl }; defined = retired_is; named = refl; uncounted = refl; room = omega arith }

pub routed_can : CanMake second_schema (codes "tap2") make_routed_text (routed_table 0)
unfolding second_schema everything
routed_can = record { creates = record { creates = refl; silent = refl; timeless = refl; begins = refl; ends = refl }; defined = routed_is; named = refl; uncounted = refl; room = omega arith }

pub held_can : CanMake third_schema (codes "held") make_held_text (held_table 0)
unfolding third_schema everything
held_can = record { creates = record { creates = refl; silent = refl; timeless = refl; begins = refl; ends = refl }; defined = held_is; named = refl; uncounted = refl; room = omega arith }

first_can : CanMakeAll no_schema first_format.tables
first_can = (meta_table 0, meta_can, (lane_table 0, lane_can, (tap_table 0, tap_can, (stated_table 0, stated_can, tt))))

second_can : CanMakeAll no_schema second_format.tables
unfolding first_schema
second_can = (meta_table 0, meta_can, (lane_table 0, lane_can, (tap_table 0, tap_can, (stated_table 0, stated_can, (retired_table 0, retired_can, tt)))))

third_can : CanMakeAll no_schema third_format.tables
unfolding first_schema second_schema
third_can = (meta_table 0, meta_can, (lane_table 0, lane_can, (tap_table 0, tap_can, (stated_table 0, stated_can, (retired_table 0, retired_can, (routed_table 0, routed_can, tt))))))

pub can_make : CanMakeAll no_schema tables
unfolding first_schema second_schema third_schema
can_make = (meta_table 0, meta_can, (lane_table 0, lane_can, (tap_table 0, tap_can, (stated_table 0, stated_can, (retired_table 0, retired_can, (routed_table 0, routed_can, (held_table 0, held_can, tt)))))))

meta_grows : Grows no_schema make_meta_text one_table
unfolding understood everything
meta_grows = record { table = meta_table 0; defines = record { plain = (refl, refl); whole = (refl, refl); defined = meta_is; uncounted = refl }; next_is = refl }

lane_grows : Grows one_table make_lane_text two_tables
unfolding understood everything
lane_grows = record { table = lane_table 0; defines = record { plain = (refl, refl); whole = (refl, refl); defined = lane_is; uncounted = refl }; next_is = refl }

tap_grows : Grows two_tables make_tap_text three_tables
unfolding understood everything
tap_grows = record { table = tap_table 0; defines = record { plain = (refl, refl); whole = (refl, refl); defined = tap_is; uncounted = refl }; next_is = refl }

stated_grows : Grows three_tables make_stated_text first_schema
unfolding first_schema understood everything
stated_grows = record { table = stated_table 0; defines = record { plain = (refl, refl); whole = (refl, refl); defined = stated_is; uncounted = refl }; next_is = refl }

retired_grows : Grows first_schema make_retired_text second_schema
unfolding first_schema second_schema understood everything
retired_grows = record { table = retired_table 0; defines = record { plain = (refl, refl); whole = (refl, refl); defined = retired_is; uncounted = refl }; next_is = refl }

routed_grows : Grows second_schema make_routed_text third_schema
unfolding second_schema third_schema understood everything
routed_grows = record { table = routed_table 0; defines = record { plain = (refl, refl); whole = (refl, refl); defined = routed_is; uncounted = refl }; next_is = refl }

held_grows : Grows third_schema make_held_text ledger_schema
unfolding third_schema ledger_schema understood everything
held_grows = record { table = held_table 0; defines = record { plain = (refl, refl); whole = (refl, refl); defined = held_is; uncounted = refl }; next_is = refl }

first_grows : GrowsBy no_schema first_format.tables first_schema
first_grows = (one_table, meta_grows, (two_tables, lane_grows, (three_tables, tap_grows, (first_schema, stated_grows, refl))))

second_grows : GrowsBy no_schema second_format.tables second_schema
second_grows = (one_table, meta_grows, (two_tables, lane_grows, (three_tables, tap_grows, (first_schema, stated_grows, (second_schema, retired_grows, refl)))))

third_grows : GrowsBy no_schema third_format.tables third_schema
third_grows = (one_table, meta_grows, (two_tables, lane_grows, (three_tables, tap_grows, (first_schema, stated_grows, (second_schema, retired_grows, (third_schema, routed_grows, refl))))))

own_grows : GrowsBy no_schema tables ledger_schema
own_grows = (one_table, meta_grows, (two_tables, lane_grows, (three_tables, tap_grows, (first_schema, stated_grows, (second_schema, retired_grows, (third_schema, routed_grows, (ledger_schema, held_grows, refl)))))))

first_few : AllByRecursion (λ t. HasFewKeys t.1) first_format.tables
first_few = (few_keys make_meta_text (meta_table 0) meta_is (omega arith), (few_keys make_lane_text (lane_table 0) lane_is (omega arith), (few_keys make_tap_text (tap_table 0) tap_is (omega arith), (few_keys make_stated_text (stated_table 0) stated_is (omega arith), tt))))

second_few : AllByRecursion (λ t. HasFewKeys t.1) second_format.tables
second_few = (few_keys make_meta_text (meta_table 0) meta_is (omega arith), (few_keys make_lane_text (lane_table 0) lane_is (omega arith), (few_keys make_tap_text (tap_table 0) tap_is (omega arith), (few_keys make_stated_text (stated_table 0) stated_is (omega arith), (few_keys make_retired_text (retired_table 0) retired_is (omega arith), tt)))))

third_few : AllByRecursion (λ t. HasFewKeys t.1) third_format.tables
third_few = (few_keys make_meta_text (meta_table 0) meta_is (omega arith), (few_keys make_lane_text (lane_table 0) lane_is (omega arith), (few_keys make_tap_text (tap_table 0) tap_is (omega arith), (few_keys make_stated_text (stated_table 0) stated_is (omega arith), (few_keys make_retired_text (retired_table 0) retired_is (omega arith), (few_keys make_routed_text (routed_table 0) routed_is (omega arith), tt))))))

own_few : AllByRecursion (λ t. HasFewKeys t.1) tables
own_few = (few_keys make_meta_text (meta_table 0) meta_is (omega arith), (few_keys make_lane_text (lane_table 0) lane_is (omega arith), (few_keys make_tap_text (tap_table 0) tap_is (omega arith), (few_keys make_stated_text (stated_table 0) stated_is (omega arith), (few_keys make_retired_text (retired_table 0) retired_is (omega arith), (few_keys make_routed_text (routed_table 0) routed_is (omega arith), (few_keys make_held_text (held_table 0) held_is (omega arith), tt)))))))

-- IT FITS
-- where the tables stand in a database of a ledger of an older format alone
abbrev pub first_places : Places
first_places = record { all = record { at = 0; tree = 0 } ∷ record { at = 1; tree = 1 } ∷ record { at = 2; tree = 2 } ∷ record { at = 3; tree = 4 } ∷ [] }

abbrev pub second_places : Places
second_places = record { all = record { at = 0; tree = 0 } ∷ record { at = 1; tree = 1 } ∷ record { at = 2; tree = 2 } ∷ record { at = 3; tree = 4 } ∷ record { at = 4; tree = 6 } ∷ [] }

abbrev pub third_places : Places
third_places = record { all = record { at = 0; tree = 0 } ∷ record { at = 1; tree = 1 } ∷ record { at = 2; tree = 2 } ∷ record { at = 3; tree = 4 } ∷ record { at = 4; tree = 6 } ∷ record { at = 5; tree = 7 } ∷ [] }

first_fits : Fits first_schema first_format.texts first_schema first_places
unfolding everything first_schema same_name understood_first
first_fits = fit_as first_schema first_format.texts understood_first first_schema first_places refl refl refl (refl, (refl, (refl, (refl, tt)))) refl refl

second_fits : Fits second_schema second_format.texts second_schema second_places
unfolding everything second_schema same_name understood_second
second_fits = fit_as second_schema second_format.texts understood_second second_schema second_places refl refl refl (refl, (refl, (refl, (refl, (refl, tt))))) refl refl

third_fits : Fits third_schema third_format.texts third_schema third_places
unfolding everything third_schema same_name understood_third
third_fits = fit_as third_schema third_format.texts understood_third third_schema third_places refl refl refl (refl, (refl, (refl, (refl, (refl, (refl, tt)))))) refl refl

pub own_fits : FitsLedger ledger_schema own_places
unfolding everything ledger_schema same_name understood_all
own_fits = fit_as ledger_schema texts understood_all ledger_schema own_places refl refl refl (refl, (refl, (refl, (refl, (refl, (refl, (refl, tt))))))) refl refl

first_last : AreLast no_schema (all_of first_places)
first_last = (refl, (refl, (refl, (refl, tt))))

second_last : AreLast no_schema (all_of second_places)
second_last = (refl, (refl, (refl, (refl, (refl, tt)))))

third_last : AreLast no_schema (all_of third_places)
third_last = (refl, (refl, (refl, (refl, (refl, (refl, tt))))))

own_last : AreLast no_schema (all_of own_places)
own_last = (refl, (refl, (refl, (refl, (refl, (refl, (refl, tt)))))))

-- the tables refer to no other, and have no default
first_simple : AllByRecursion IsSimpleTable first_schema.tables
unfolding first_schema
first_simple = (record { columns = (tt, (tt, tt)); checks = tt; references = refl; stamps = tt; formats = refl }, (record { columns = (tt, (tt, (tt, tt))); checks = ((tt, tt), ((tt, tt), tt)); references = refl; stamps = tt; formats = refl }, (record { columns = (tt, (tt, (tt, (tt, (tt, (tt, (tt, tt))))))); checks = tt; references = refl; stamps = tt; formats = refl }, (record { columns = (tt, (tt, (tt, tt))); checks = tt; references = refl; stamps = tt; formats = refl }, tt))))

second_simple : AllByRecursion IsSimpleTable second_schema.tables
unfolding second_schema
second_simple = (record { columns = (tt, (tt, tt)); checks = tt; references = refl; stamps = tt; formats = refl }, (record { columns = (tt, (tt, (tt, tt))); checks = ((tt, tt), ((tt, tt), tt)); references = refl; stamps = tt; formats = refl }, (record { columns = (tt, (tt, (tt, (tt, (tt, (tt, (tt, tt))))))); checks = tt; references = refl; stamps = tt; formats = refl }, (record { columns = (tt, (tt, (tt, tt))); checks = tt; references = refl; stamps = tt; formats = refl }, (record { columns = (tt, tt); checks = tt; references = refl; stamps = tt; formats = refl }, tt)))))

third_simple : AllByRecursion IsSimpleTable third_schema.tables
unfolding third_schema
third_simple = (record { columns = (tt, (tt, tt)); checks = tt; references = refl; stamps = tt; formats = refl }, (record { columns = (tt, (tt, (tt, tt))); checks = ((tt, tt), ((tt, tt), tt)); references = refl; stamps = tt; formats = refl }, (record { columns = (tt, (tt, (tt, (tt, (tt, (tt, (tt, tt))))))); checks = tt; references = refl; stamps = tt; formats = refl }, (record { columns = (tt, (tt, (tt, tt))); checks = tt; references = refl; stamps = tt; formats = refl }, (record { columns = (tt, tt); checks = tt; references = refl; stamps = tt; formats = refl }, (record { columns = (tt, (tt, (tt, (tt, (tt, (tt, (tt, (tt, tt)))))))); checks = tt; references = refl; stamps = tt; formats = refl }, tt))))))

pub simple_tables : AllByRecursion IsSimpleTable ledger_schema.tables
unfolding ledger_schema
simple_tables = (record { columns = (tt, (tt, tt)); checks = tt; references = refl; stamps = tt; formats = refl }, (record { columns = (tt, (tt, (tt, tt))); checks = ((tt, tt), ((tt, tt), tt)); references = refl; stamps = tt; formats = refl }, (record { columns = (tt, (tt, (tt, (tt, (tt, (tt, (tt, tt))))))); checks = tt; references = refl; stamps = tt; formats = refl }, (record { columns = (tt, (tt, (tt, tt))); checks = tt; references = refl; stamps = tt; formats = refl }, (record { columns = (tt, tt); checks = tt; references = refl; stamps = tt; formats = refl }, (record { columns = (tt, (tt, (tt, (tt, (tt, (tt, (tt, (tt, tt)))))))); checks = tt; references = refl; stamps = tt; formats = refl }, (record { columns = (tt, (tt, tt)); checks = ((tt, tt), tt); references = refl; stamps = tt; formats = refl }, tt)))))))

-- A LEDGER IS A STORE
-- the table that holds no row, and what counts its rows
unused_counted : IsCounted ledger_parts (Tap, unused_text)
unfolding ledger_schema
unused_counted = record { past = omega arith; within = omega arith; counts = inr (inr (inr (inr (inr (inr (inr (inr (inr (inr (inr (inr (inr (inr (inr (inr (inl refl)))))))))))))))); names = codes "count(*)" ∷ []; tree = 2; counts_meant = unused_own }

-- the table that the taps move to
abbrev routed_shape : Shape
routed_shape = record {
  name = codes "tap2";
  columns = (routed_table 0).columns;
  key = None;
  primary = 1 ∷ 2 ∷ [];
  uniques = (1 ∷ 2 ∷ []) ∷ [];
  orders = plain ∷ [];
  checks = [];
}

abbrev older_names : List (List ℕ)
older_names = codes "rowid" ∷ codes "device" ∷ codes "lane" ∷ codes "link" ∷ codes "product" ∷ codes "token" ∷ codes "moment" ∷ codes "day" ∷ []

first_moves : IsMoving ledger_parts first_format moving_taps
unfolding first_schema ledger_schema
first_moves = record {
  past = omega arith;
  has = omega arith;
  lacks = omega arith;
  shape = routed_shape;
  tree = 7;
  shape_is = refl;
  integers = (refl, (refl, (refl, (refl, (refl, (refl, (refl, (refl, tt))))))));
  names = older_names;
  read_tree = 2;
  put_at = 5;
  clear_at = 2;
  clear_tree = 2;
  reads = inr (inr (inr (inl refl)));
  reads_meant = older_first;
  puts = inr (inr (inr (inr (inr (inr (inr (inr (inr (inr (inr (inr (inr (inr (inr (inr (inr (inl refl)))))))))))))))));
  puts_meant = put_older_own;
  clears = inr (inr (inr (inr (inr (inr (inr (inr (inr (inr (inr (inr (inr (inr (inr (inr (inr (inr (inl refl))))))))))))))))));
  clears_meant = clear_older_own;
}

second_moves : IsMoving ledger_parts second_format moving_taps
unfolding second_schema ledger_schema
second_moves = record {
  past = omega arith;
  has = omega arith;
  lacks = omega arith;
  shape = routed_shape;
  tree = 7;
  shape_is = refl;
  integers = (refl, (refl, (refl, (refl, (refl, (refl, (refl, (refl, tt))))))));
  names = older_names;
  read_tree = 2;
  put_at = 5;
  clear_at = 2;
  clear_tree = 2;
  reads = inr (inr (inr (inl refl)));
  reads_meant = older_second;
  puts = inr (inr (inr (inr (inr (inr (inr (inr (inr (inr (inr (inr (inr (inr (inr (inr (inr (inl refl)))))))))))))))));
  puts_meant = put_older_own;
  clears = inr (inr (inr (inr (inr (inr (inr (inr (inr (inr (inr (inr (inr (inr (inr (inr (inr (inr (inl refl))))))))))))))))));
  clears_meant = clear_older_own;
}

pub first_design : IsDesign (parts_of first_format)
unfolding first_schema
first_design = record {
  rest = drop 1 first_format.tables;
  tables_are = refl;
  meta_is = refl;
  many = refl;
  can = first_can;
  grows = first_grows;
  few = first_few;
  simple = first_simple;
  understood = understood_first;
  home = first_places;
  at_home = first_fits;
  last = first_last;
  asks = inl refl;
  asks_meant = meta_first;
  puts = inr (inl refl);
  puts_meant = put_meta_first;
  sets = inr (inr (inl refl));
  sets_meant = set_meta_first;
  counted = tt;
}

pub second_design : IsDesign (parts_of second_format)
unfolding second_schema
second_design = record {
  rest = drop 1 second_format.tables;
  tables_are = refl;
  meta_is = refl;
  many = refl;
  can = second_can;
  grows = second_grows;
  few = second_few;
  simple = second_simple;
  understood = understood_second;
  home = second_places;
  at_home = second_fits;
  last = second_last;
  asks = inl refl;
  asks_meant = meta_second;
  puts = inr (inl refl);
  puts_meant = put_meta_second;
  sets = inr (inr (inl refl));
  sets_meant = set_meta_second;
  counted = tt;
}

third_counted : IsCounted (parts_of third_format) (Tap, unused_text)
unfolding third_schema
third_counted = record { past = omega arith; within = omega arith; counts = inr (inr (inr (inl refl))); names = codes "count(*)" ∷ []; tree = 2; counts_meant = unused_third }

pub third_design : IsDesign (parts_of third_format)
unfolding third_schema
third_design = record {
  rest = drop 1 third_format.tables;
  tables_are = refl;
  meta_is = refl;
  many = refl;
  can = third_can;
  grows = third_grows;
  few = third_few;
  simple = third_simple;
  understood = understood_third;
  home = third_places;
  at_home = third_fits;
  last = third_last;
  asks = inl refl;
  asks_meant = meta_third;
  puts = inr (inl refl);
  puts_meant = put_meta_third;
  sets = inr (inr (inl refl));
  sets_meant = set_meta_third;
  counted = third_counted;
}

pub ledger_design : IsDesign ledger_parts
unfolding ledger_schema
ledger_design = record {
  rest = drop 1 tables;
  tables_are = refl;
  meta_is = refl;
  many = refl;
  can = can_make;
  grows = own_grows;
  few = own_few;
  simple = simple_tables;
  understood = understood_all;
  home = own_places;
  at_home = own_fits;
  last = own_last;
  asks = inr (inr (inr (inr (inr (inr (inr (inl refl)))))));
  asks_meant = meta_own;
  puts = inr (inr (inr (inr (inr (inr (inr (inr (inl refl))))))));
  puts_meant = put_meta_own;
  sets = inr (inr (inr (inr (inr (inr (inr (inr (inr (inl refl)))))))));
  sets_meant = set_meta_own;
  counted = unused_counted;
}

-- the older formats are such as are raised
pub ledger_older : AllByRecursion (IsOlder ledger_parts) ledger_parts.older
ledger_older = (record { design = first_design; tables_are = refl; moves = first_moves }, (record { design = second_design; tables_are = refl; moves = second_moves }, (record { design = third_design; tables_are = refl; moves = tt }, tt)))
