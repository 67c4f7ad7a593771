-- A kept scheme is a store: its tables in a database of their own.
use Rattle.std.proofs.Common.{◌≡◌, [], ◌∷◌, codes, List, ℕ, Ok, inl, inr, refl, arith}
use Rattle.std.specs.Prelude.{drop}
use Rattle.std.specs.List.{AllByRecursion}
use Rattle.sqlite.specs.Compile.{table_defined_by}
use Rattle.sqlite.specs.Listing.{understood}
use Rattle.sqlite_tied.specs.Compute.{everything}
use Rattle.sqlite_schema.specs.Names.{same_name}
use Rattle.fare_tables.specs.Making.{no_schema}
use Rattle.fare_layout.specs.declared.place.Places.{Places}
use Rattle.fare_layout.specs.Growing.{CanMake, CanMakeAll, Grows, GrowsBy, AreLast}
use Rattle.fare_layout.specs.Layouts.{Fits}
use Rattle.fare_layout.specs.Places.{all_of}
use Rattle.fare_layout.specs.Schemas.{IsSimpleTable}
use Rattle.fare_opening.proofs.Orders.{fit_as}
use Rattle.fare_opening.proofs.Standing.{few_keys}
use Rattle.fare_opening.specs.Parts.{IsDesign, HasFewKeys, meta_named}
use Rattle.fare_kept.specs.Statements.{tables, texts, kept_parts}
use Rattle.fare_kept.specs.Tables.{one_made, two_made, three_made, four_made, five_made, six_made, seven_made, kept_schema, scheme_table, zone_table, owner_table, operator_table, station_table, product_table, device_table}
use Rattle.fare_kept.proofs.Texts.{read_meta_own, put_meta_own, set_meta_own, understood_all}

abbrev meta_text : List ℕ
meta_text = codes "CREATE TABLE kept (format INTEGER NOT NULL, owner INTEGER NOT NULL) STRICT"

meta_is : table_defined_by meta_text ≡ Ok (meta_named (codes "kept") 0)
unfolding understood everything
meta_is = refl

abbrev scheme_text : List ℕ
scheme_text = codes "CREATE TABLE kept_scheme (start INTEGER NOT NULL, inbox INTEGER NOT NULL) STRICT"

scheme_is : table_defined_by scheme_text ≡ Ok (scheme_table 0)
unfolding understood everything
scheme_is = refl

abbrev zone_text : List ℕ
zone_text = codes "CREATE TABLE kept_zone (byte INTEGER NOT NULL) STRICT"

zone_is : table_defined_by zone_text ≡ Ok (zone_table 0)
unfolding understood everything
zone_is = refl

abbrev owner_text : List ℕ
owner_text = codes "CREATE TABLE kept_owner (owner INTEGER NOT NULL, lane INTEGER NOT NULL) STRICT"

owner_is : table_defined_by owner_text ≡ Ok (owner_table 0)
unfolding understood everything
owner_is = refl

abbrev operator_text : List ℕ
operator_text = codes "CREATE TABLE kept_operator (operator INTEGER NOT NULL) STRICT"

operator_is : table_defined_by operator_text ≡ Ok (operator_table 0)
unfolding understood everything
operator_is = refl

abbrev station_text : List ℕ
station_text = codes "CREATE TABLE kept_station (station INTEGER NOT NULL, operator INTEGER NOT NULL) STRICT"

station_is : table_defined_by station_text ≡ Ok (station_table 0)
unfolding understood everything
station_is = refl

abbrev product_text : List ℕ
product_text = codes "CREATE TABLE kept_product (product INTEGER NOT NULL, owner INTEGER NOT NULL, fare INTEGER NOT NULL, daily INTEGER NOT NULL, weekly INTEGER NOT NULL, hop INTEGER NOT NULL) STRICT"

product_is : table_defined_by product_text ≡ Ok (product_table 0)
unfolding understood everything
product_is = refl

abbrev device_text : List ℕ
device_text = codes "CREATE TABLE kept_device (device INTEGER NOT NULL, station INTEGER NOT NULL, buffer INTEGER NOT NULL) STRICT"

device_is : table_defined_by device_text ≡ Ok (device_table 0)
unfolding understood everything
device_is = refl

meta_can : CanMake no_schema (codes "kept") meta_text (meta_named (codes "kept") 0)
unfolding everything
meta_can = record { creates = record { creates = refl; silent = refl; timeless = refl; begins = refl; ends = refl }; defined = meta_is; named = refl; uncounted = refl; room = omega arith }

scheme_can : CanMake one_made (codes "kept_scheme") scheme_text (scheme_table 0)
unfolding everything
scheme_can = record { creates = record { creates = refl; silent = refl; timeless = refl; begins = refl; ends = refl }; defined = scheme_is; named = refl; uncounted = refl; room = omega arith }

zone_can : CanMake two_made (codes "kept_zone") zone_text (zone_table 0)
unfolding everything
zone_can = record { creates = record { creates = refl; silent = refl; timeless = refl; begins = refl; ends = refl }; defined = zone_is; named = refl; uncounted = refl; room = omega arith }

owner_can : CanMake three_made (codes "kept_owner") owner_text (owner_table 0)
unfolding everything
owner_can = record { creates = record { creates = refl; silent = refl; timeless = refl; begins = refl; ends = refl }; defined = owner_is; named = refl; uncounted = refl; room = omega arith }

operator_can : CanMake four_made (codes "kept_operator") operator_text (operator_table 0)
unfolding everything
operator_can = record { creates = record { creates = refl; silent = refl; timeless = refl; begins = refl; ends = refl }; defined = operator_is; named = refl; uncounted = refl; room = omega arith }

station_can : CanMake five_made (codes "kept_station") station_text (station_table 0)
unfolding everything
station_can = record { creates = record { creates = refl; silent = refl; timeless = refl; begins = refl; ends = refl }; defined = station_is; named = refl; uncounted = refl; room = omega arith }

product_can : CanMake six_made (codes "kept_product") product_text (product_table 0)
unfolding everything
product_can = record { creates = record { creates = refl; silent = refl; timeless = refl; begins = refl; ends = refl }; defined = product_is; named = refl; uncounted = refl; room = omega arith }

device_can : CanMake seven_made (codes "kept_device") device_text (device_table 0)
unfolding everything
device_can = record { creates = record { creates = refl; silent = refl; timeless = refl; begins = refl; ends = refl }; defined = device_is; named = refl; uncounted = refl; room = omega arith }

can_make : CanMakeAll no_schema tables
can_make = (meta_named (codes "kept") 0, meta_can, (scheme_table 0, scheme_can, (zone_table 0, zone_can, (owner_table 0, owner_can, (operator_table 0, operator_can, (station_table 0, station_can, (product_table 0, product_can, (device_table 0, device_can, tt))))))))

meta_grows : Grows no_schema meta_text one_made
unfolding understood everything
meta_grows = record { table = meta_named (codes "kept") 0; defines = record { plain = (refl, refl); whole = (refl, refl); defined = meta_is; uncounted = refl }; next_is = refl }

scheme_grows : Grows one_made scheme_text two_made
unfolding understood everything
scheme_grows = record { table = scheme_table 0; defines = record { plain = (refl, refl); whole = (refl, refl); defined = scheme_is; uncounted = refl }; next_is = refl }

zone_grows : Grows two_made zone_text three_made
unfolding understood everything
zone_grows = record { table = zone_table 0; defines = record { plain = (refl, refl); whole = (refl, refl); defined = zone_is; uncounted = refl }; next_is = refl }

owner_grows : Grows three_made owner_text four_made
unfolding understood everything
owner_grows = record { table = owner_table 0; defines = record { plain = (refl, refl); whole = (refl, refl); defined = owner_is; uncounted = refl }; next_is = refl }

operator_grows : Grows four_made operator_text five_made
unfolding understood everything
operator_grows = record { table = operator_table 0; defines = record { plain = (refl, refl); whole = (refl, refl); defined = operator_is; uncounted = refl }; next_is = refl }

station_grows : Grows five_made station_text six_made
unfolding understood everything
station_grows = record { table = station_table 0; defines = record { plain = (refl, refl); whole = (refl, refl); defined = station_is; uncounted = refl }; next_is = refl }

product_grows : Grows six_made product_text seven_made
unfolding understood everything
product_grows = record { table = product_table 0; defines = record { plain = (refl, refl); whole = (refl, refl); defined = product_is; uncounted = refl }; next_is = refl }

device_grows : Grows seven_made device_text kept_schema
unfolding kept_schema understood everything
device_grows = record { table = device_table 0; defines = record { plain = (refl, refl); whole = (refl, refl); defined = device_is; uncounted = refl }; next_is = refl }

own_grows : GrowsBy no_schema tables kept_schema
own_grows = (one_made, meta_grows, (two_made, scheme_grows, (three_made, zone_grows, (four_made, owner_grows, (five_made, operator_grows, (six_made, station_grows, (seven_made, product_grows, (kept_schema, device_grows, refl))))))))

own_few : AllByRecursion (λ t. HasFewKeys t.1) tables
own_few = (few_keys meta_text (meta_named (codes "kept") 0) meta_is (omega arith), (few_keys scheme_text (scheme_table 0) scheme_is (omega arith), (few_keys zone_text (zone_table 0) zone_is (omega arith), (few_keys owner_text (owner_table 0) owner_is (omega arith), (few_keys operator_text (operator_table 0) operator_is (omega arith), (few_keys station_text (station_table 0) station_is (omega arith), (few_keys product_text (product_table 0) product_is (omega arith), (few_keys device_text (device_table 0) device_is (omega arith), tt))))))))

-- where the tables stand in it
abbrev pub own_places : Places
own_places = record { all = record { at = 0; tree = 0 } ∷ record { at = 1; tree = 1 } ∷ record { at = 2; tree = 2 } ∷ record { at = 3; tree = 3 } ∷ record { at = 4; tree = 4 } ∷ record { at = 5; tree = 5 } ∷ record { at = 6; tree = 6 } ∷ record { at = 7; tree = 7 } ∷ [] }

own_fits : Fits kept_schema texts kept_schema own_places
unfolding everything kept_schema same_name understood_all
own_fits = fit_as kept_schema texts understood_all kept_schema own_places refl refl refl (refl, (refl, (refl, (refl, (refl, (refl, (refl, (refl, tt)))))))) refl refl

own_last : AreLast no_schema (all_of own_places)
own_last = (refl, (refl, (refl, (refl, (refl, (refl, (refl, (refl, tt))))))))

meta_simple : IsSimpleTable (meta_named (codes "kept") 0)
meta_simple = record { columns = (tt, (tt, tt)); checks = tt; references = refl; stamps = tt; formats = refl }

scheme_simple : IsSimpleTable (scheme_table 1)
scheme_simple = record { columns = (tt, (tt, tt)); checks = tt; references = refl; stamps = tt; formats = refl }

zone_simple : IsSimpleTable (zone_table 2)
zone_simple = record { columns = (tt, tt); checks = tt; references = refl; stamps = tt; formats = refl }

owner_simple : IsSimpleTable (owner_table 3)
owner_simple = record { columns = (tt, (tt, tt)); checks = tt; references = refl; stamps = tt; formats = refl }

operator_simple : IsSimpleTable (operator_table 4)
operator_simple = record { columns = (tt, tt); checks = tt; references = refl; stamps = tt; formats = refl }

station_simple : IsSimpleTable (station_table 5)
station_simple = record { columns = (tt, (tt, tt)); checks = tt; references = refl; stamps = tt; formats = refl }

product_simple : IsSimpleTable (product_table 6)
product_simple = record { columns = (tt, (tt, (tt, (tt, (tt, (tt, tt)))))); checks = tt; references = refl; stamps = tt; formats = refl }

device_simple : IsSimpleTable (device_table 7)
device_simple = record { columns = (tt, (tt, (tt, tt))); checks = tt; references = refl; stamps = tt; formats = refl }

own_simple : AllByRecursion IsSimpleTable kept_schema.tables
unfolding kept_schema
own_simple = (meta_simple, (scheme_simple, (zone_simple, (owner_simple, (operator_simple, (station_simple, (product_simple, (device_simple, tt))))))))

pub kept_design : IsDesign kept_parts
unfolding kept_schema
kept_design = record {
  rest = drop 1 tables;
  tables_are = refl;
  meta_is = refl;
  many = refl;
  can = can_make;
  grows = own_grows;
  few = own_few;
  simple = own_simple;
  understood = understood_all;
  home = own_places;
  at_home = own_fits;
  last = own_last;
  asks = inl refl;
  asks_meant = read_meta_own;
  puts = inr (inl refl);
  puts_meant = put_meta_own;
  sets = inr (inr (inl refl));
  sets_meant = set_meta_own;
  counted = tt;
}
