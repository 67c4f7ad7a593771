-- The store of books is a store, in both formats.
use Rattle.std.proofs.Common.{◌≡◌, ◌<◌, [], ◌∷◌, List, ℕ, codes, length, Ok, IfOk, inl, inr, refl, sym, subst, arith}
use Rattle.std.specs.Prelude.{drop}
use Rattle.std.specs.List.{AllByRecursion}
use Rattle.sqlite.specs.Compile.{table_defined_by}
use Rattle.sqlite.specs.Listing.{understood}
use Rattle.sqlite.specs.Table.{Table}
use Rattle.sqlite_tied.specs.Compute.{everything}
use Rattle.sqlite_schema.specs.Names.{same_name}
use Rattle.fare_tables.specs.Making.{no_schema}
use Rattle.fare_tables.specs.Queries.{meta_table}
use Rattle.fare_layout.specs.declared.place.Places.{Places}
use Rattle.fare_layout.specs.Commands.{IsMeant, IsSimpleCommand}
use Rattle.fare_layout.specs.Growing.{CanMake, CanMakeAll, Grows, GrowsBy}
use Rattle.fare_layout.specs.Layouts.{AreUnderstood, Fits}
use Rattle.fare_layout.specs.Schemas.{IsSimpleTable}
use Rattle.fare_opening.proofs.Standing.{few_keys}
use Rattle.fare_opening.specs.Parts.{IsDesign, IsOlder, HasFewKeys, meta_name, meta_text, read_meta, put_meta, set_meta, reads_meta, puts_meta, sets_meta}
use Rattle.fare_opening.proofs.Orders.{fit_as}
use Rattle.fare_store_tests.specs.Shelves.{book_table, loan_table, meta_alone, old_schema, new_schema, book_text, loan_text, old_tables, new_tables, shelf_texts, old_parts, first_format, new_parts}

-- ---- what the texts make

meta_is : table_defined_by meta_text ≡ Ok (meta_table 0)
unfolding understood everything
meta_is = refl

book_is : table_defined_by book_text ≡ Ok (book_table 0)
unfolding understood everything
book_is = refl

loan_is : table_defined_by loan_text ≡ Ok (loan_table 0)
unfolding understood everything
loan_is = refl

meta_can : CanMake no_schema meta_name meta_text (meta_table 0)
unfolding everything
meta_can = record { creates = record { creates = refl; silent = refl; timeless = refl; begins = refl; ends = refl }; defined = meta_is; named = refl; uncounted = refl; room = omega arith }

book_can : CanMake meta_alone (codes "book") book_text (book_table 0)
unfolding everything
book_can = record { creates = record { creates = refl; silent = refl; timeless = refl; begins = refl; ends = refl }; defined = book_is; named = refl; uncounted = refl; room = omega arith }

loan_can : CanMake old_schema (codes "loan") loan_text (loan_table 0)
unfolding old_schema everything
loan_can = record { creates = record { creates = refl; silent = refl; timeless = refl; begins = refl; ends = refl }; defined = loan_is; named = refl; uncounted = refl; room = omega arith }

old_can : CanMakeAll no_schema old_tables
old_can = (meta_table 0, meta_can, (book_table 0, book_can, tt))

new_can : CanMakeAll no_schema new_tables
unfolding old_schema
new_can = (meta_table 0, meta_can, (book_table 0, book_can, (loan_table 0, loan_can, tt)))

meta_grows : Grows no_schema meta_text meta_alone
unfolding understood everything
meta_grows = record { table = meta_table 0; defines = record { plain = (refl, refl); whole = (refl, refl); defined = meta_is; uncounted = refl }; next_is = refl }

book_grows : Grows meta_alone book_text old_schema
unfolding old_schema understood everything
book_grows = record { table = book_table 0; defines = record { plain = (refl, refl); whole = (refl, refl); defined = book_is; uncounted = refl }; next_is = refl }

loan_grows : Grows old_schema loan_text new_schema
unfolding old_schema new_schema understood everything
loan_grows = record { table = loan_table 0; defines = record { plain = (refl, refl); whole = (refl, refl); defined = loan_is; uncounted = refl }; next_is = refl }

old_grows : GrowsBy no_schema old_tables old_schema
old_grows = (meta_alone, meta_grows, (old_schema, book_grows, refl))

new_grows : GrowsBy no_schema new_tables new_schema
new_grows = (meta_alone, meta_grows, (old_schema, book_grows, (new_schema, loan_grows, refl)))

old_few : AllByRecursion (λ t. HasFewKeys t.1) old_tables
old_few = (few_keys meta_text (meta_table 0) meta_is (omega arith), (few_keys book_text (book_table 0) book_is (omega arith), tt))

new_few : AllByRecursion (λ t. HasFewKeys t.1) new_tables
new_few = (few_keys meta_text (meta_table 0) meta_is (omega arith), (few_keys book_text (book_table 0) book_is (omega arith), (few_keys loan_text (loan_table 0) loan_is (omega arith), tt)))

old_simple : AllByRecursion IsSimpleTable old_schema.tables
unfolding old_schema
old_simple = (record { columns = (tt, (tt, tt)); checks = tt; references = refl; stamps = tt; formats = refl }, (record { columns = (tt, tt); checks = tt; references = refl; stamps = tt; formats = refl }, tt))

new_simple : AllByRecursion IsSimpleTable new_schema.tables
unfolding new_schema
new_simple = (
  record { columns = (tt, (tt, tt)); checks = tt; references = refl; stamps = tt; formats = refl },
  (record { columns = (tt, tt); checks = tt; references = refl; stamps = tt; formats = refl }, (record { columns = (tt, (tt, tt)); checks = tt; references = refl; stamps = tt; formats = refl }, tt)),
)

-- ---- what the statements mean

old_asks : IsMeant old_schema read_meta (reads_meta 0)
unfolding old_schema everything
old_asks = refl

old_puts : IsMeant old_schema put_meta (puts_meta 0)
unfolding old_schema everything
old_puts = refl

old_sets : IsMeant old_schema set_meta (sets_meta 0 0)
unfolding old_schema everything
old_sets = refl

new_asks : IsMeant new_schema read_meta (reads_meta 0)
unfolding new_schema everything
new_asks = refl

new_puts : IsMeant new_schema put_meta (puts_meta 0)
unfolding new_schema everything
new_puts = refl

new_sets : IsMeant new_schema set_meta (sets_meta 0 0)
unfolding new_schema everything
new_sets = refl

asks_simple : IsSimpleCommand (reads_meta 0)
asks_simple = search

puts_simple : IsSimpleCommand (puts_meta 0)
puts_simple = search

sets_simple : IsSimpleCommand (sets_meta 0 0)
sets_simple = search

unfoldable old_understood : AreUnderstood old_schema shelf_texts
old_understood = ((reads_meta 0, old_asks, asks_simple), ((puts_meta 0, old_puts, puts_simple), ((sets_meta 0 0, old_sets, sets_simple), tt)))

unfoldable new_understood : AreUnderstood new_schema shelf_texts
new_understood = ((reads_meta 0, new_asks, asks_simple), ((puts_meta 0, new_puts, puts_simple), ((sets_meta 0 0, new_sets, sets_simple), tt)))

-- ---- they fit in a database of their own

abbrev old_home : Places
old_home = record { all = record { at = 0; tree = 0 } ∷ record { at = 1; tree = 1 } ∷ [] }

abbrev new_home : Places
new_home = record { all = record { at = 0; tree = 0 } ∷ record { at = 1; tree = 1 } ∷ record { at = 2; tree = 2 } ∷ [] }

old_fits : Fits old_schema shelf_texts old_schema old_home
unfolding everything old_schema same_name old_understood
old_fits = fit_as old_schema shelf_texts old_understood old_schema old_home refl refl refl (refl, (refl, tt)) refl refl

new_fits : Fits new_schema shelf_texts new_schema new_home
unfolding everything new_schema same_name new_understood
new_fits = fit_as new_schema shelf_texts new_understood new_schema new_home refl refl refl (refl, (refl, (refl, tt))) refl refl

pub old_design : IsDesign old_parts
unfolding old_schema
old_design = record {
  rest = drop 1 old_tables;
  tables_are = refl;
  meta_is = refl;
  many = refl;
  can = old_can;
  grows = old_grows;
  few = old_few;
  simple = old_simple;
  understood = old_understood;
  home = old_home;
  at_home = old_fits;
  last = (refl, (refl, tt));
  asks = inl refl;
  asks_meant = old_asks;
  puts = inr (inl refl);
  puts_meant = old_puts;
  sets = inr (inr (inl refl));
  sets_meant = old_sets;
  counted = tt;
}

pub new_design : IsDesign new_parts
unfolding new_schema
new_design = record {
  rest = drop 1 new_tables;
  tables_are = refl;
  meta_is = refl;
  many = refl;
  can = new_can;
  grows = new_grows;
  few = new_few;
  simple = new_simple;
  understood = new_understood;
  home = new_home;
  at_home = new_fits;
  last = (refl, (refl, (refl, tt)));
  asks = inl refl;
  asks_meant = new_asks;
  puts = inr (inl refl);
  puts_meant = new_puts;
  sets = inr (inr (inl refl));
  sets_meant = new_sets;
  counted = tt;
}

pub new_older : AllByRecursion (IsOlder new_parts) new_parts.older
new_older = (record { design = old_design; tables_are = refl; moves = tt }, tt)
