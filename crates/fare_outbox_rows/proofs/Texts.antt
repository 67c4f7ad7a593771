-- What the texts of the outbox mean where its tables stand.
use Rattle.std.proofs.Common.{[], ◌∷◌, codes, List, ℕ, refl, Some}
use Rattle.sqlite_tied.specs.Compute.{everything}
use Rattle.sqlite.specs.declared.types.Value.TheVariants.{Null}
use Rattle.sqlite.specs.Term.{Term, lit, col}
use Rattle.sqlite.specs.Command.TheVariants.{Insert, InsertOr, Select, Delete}
use Rattle.sqlite.specs.Source.TheVariants.{Values}
use Rattle.sqlite_schema.specs.declared.command.Conflict.TheVariants.{Abort}
use Rattle.fare_tables.specs.Queries.{count_query}
use Rattle.sqlite_schema.specs.declared.command.Command.{Command}
use Rattle.fare_tables.specs.Asking.{Reads}
use Rattle.fare_opening.specs.Numbers.{Meta, Device, Tap, Stated}
use Rattle.fare_layout.specs.declared.place.Place.{Place}
use Rattle.fare_layout.specs.declared.place.Places.{Places}
use Rattle.fare_layout.specs.Places.{place_of}
use Rattle.fare_layout.specs.Commands.{IsMeant, IsSimpleCommand}
use Rattle.fare_layout.proofs.Meant.{Meant, meant}
use Rattle.fare_layout.specs.Layouts.{AreUnderstood}
use Rattle.fare_opening.specs.Moving.{reads_rows, puts_cells, clears_rows, counts_rows}
use Rattle.fare_opening.specs.Parts.{reads_meta, puts_meta, sets_meta}
use Rattle.fare_outbox_rows.specs.declared.layout.Layout.{Layout}
use Rattle.fare_outbox_rows.specs.Layouts.{schema_in, at_tree}
use Rattle.fare_outbox_rows.specs.Statements.{Routed, texts}
use Rattle.fare_outbox_rows.specs.Tables.{outbox_schema, link_query, row_query, day_query, cut_query, told_query, renew_query, seen_terms}

-- where the tables stand in a database of an outbox alone
abbrev pub own_places : Places
own_places = record { all = record { at = 0; tree = 0 } ∷ record { at = 1; tree = 1 } ∷ record { at = 2; tree = 2 } ∷ record { at = 3; tree = 5 } ∷ record { at = 4; tree = 7 } ∷ [] }

abbrev pub tap_terms : List Term
tap_terms = lit Null ∷ col 0 0 ∷ col 0 1 ∷ col 0 2 ∷ col 0 3 ∷ col 0 4 ∷ col 0 5 ∷ col 0 6 ∷ col 0 7 ∷ col 0 8 ∷ []

abbrev pub stated_terms : List Term
stated_terms = lit Null ∷ col 0 0 ∷ col 0 1 ∷ col 0 2 ∷ col 0 3 ∷ []

abbrev pub link_text : List ℕ
link_text = codes "SELECT upto FROM device WHERE id = ?1"

abbrev pub link_at : Place → Command
link_at p = Select (record { lets = []; body = at_tree p.tree link_query }) (codes "upto" ∷ [])

abbrev pub link_command : Layout → Command
link_command o = link_at (place_of o.places Device)

pub link_own : IsMeant outbox_schema link_text (link_at (place_of own_places Device))
unfolding everything outbox_schema
link_own = refl

link_means : (o : Layout) → IsMeant (schema_in o) link_text (link_command o)
link_means o = o.fits.keeps.0 (link_at (place_of own_places Device)) link_own

pub link_meant : (o : Layout) → Meant (schema_in o) link_text (link_command o)
link_meant o = meant (schema_in o) link_text (link_command o) (link_means o)

pub link_reads : (o : Layout) → Reads (schema_in o) link_text
link_reads o = ((link_meant o).plain, (link_meant o).selects)

abbrev pub next_text : List ℕ
next_text = codes "SELECT lane, link, product, token, moment, day, route FROM tap2 WHERE owner = ?1 AND device = ?2 AND lane > ?3 ORDER BY lane LIMIT 1"

abbrev pub next_at : Place → Command
next_at p = Select (record { lets = []; body = at_tree p.tree row_query }) (codes "lane" ∷ codes "link" ∷ codes "product" ∷ codes "token" ∷ codes "moment" ∷ codes "day" ∷ codes "route" ∷ [])

abbrev pub next_command : Layout → Command
next_command o = next_at (place_of o.places Routed)

pub next_own : IsMeant outbox_schema next_text (next_at (place_of own_places Routed))
unfolding everything outbox_schema
next_own = refl

next_means : (o : Layout) → IsMeant (schema_in o) next_text (next_command o)
next_means o = o.fits.keeps.1.0 (next_at (place_of own_places Routed)) next_own

pub next_meant : (o : Layout) → Meant (schema_in o) next_text (next_command o)
next_meant o = meant (schema_in o) next_text (next_command o) (next_means o)

pub next_reads : (o : Layout) → Reads (schema_in o) next_text
next_reads o = ((next_meant o).plain, (next_meant o).selects)

abbrev pub next_day_text : List ℕ
next_day_text = codes "SELECT day, total FROM stated WHERE owner = ?1 AND device = ?2 AND day >= ?3 ORDER BY day LIMIT 1"

abbrev pub next_day_at : Place → Command
next_day_at p = Select (record { lets = []; body = at_tree p.tree day_query }) (codes "day" ∷ codes "total" ∷ [])

abbrev pub next_day_command : Layout → Command
next_day_command o = next_day_at (place_of o.places Stated)

pub next_day_own : IsMeant outbox_schema next_day_text (next_day_at (place_of own_places Stated))
unfolding everything outbox_schema
next_day_own = refl

next_day_means : (o : Layout) → IsMeant (schema_in o) next_day_text (next_day_command o)
next_day_means o = o.fits.keeps.1.1.0 (next_day_at (place_of own_places Stated)) next_day_own

pub next_day_meant : (o : Layout) → Meant (schema_in o) next_day_text (next_day_command o)
next_day_meant o = meant (schema_in o) next_day_text (next_day_command o) (next_day_means o)

pub next_day_reads : (o : Layout) → Reads (schema_in o) next_day_text
next_day_reads o = ((next_day_meant o).plain, (next_day_meant o).selects)

abbrev pub rows_text : List ℕ
rows_text = codes "SELECT count(*) FROM tap2"

abbrev pub rows_at : Place → Command
rows_at p = Select (record { lets = []; body = at_tree p.tree (count_query 7 []) }) (codes "count(*)" ∷ [])

abbrev pub rows_command : Layout → Command
rows_command o = rows_at (place_of o.places Routed)

pub rows_own : IsMeant outbox_schema rows_text (rows_at (place_of own_places Routed))
unfolding everything outbox_schema
rows_own = refl

rows_means : (o : Layout) → IsMeant (schema_in o) rows_text (rows_command o)
rows_means o = o.fits.keeps.1.1.1.0 (rows_at (place_of own_places Routed)) rows_own

pub rows_meant : (o : Layout) → Meant (schema_in o) rows_text (rows_command o)
rows_meant o = meant (schema_in o) rows_text (rows_command o) (rows_means o)

pub rows_reads : (o : Layout) → Reads (schema_in o) rows_text
rows_reads o = ((rows_meant o).plain, (rows_meant o).selects)

abbrev pub statements_text : List ℕ
statements_text = codes "SELECT count(*) FROM stated"

abbrev pub statements_at : Place → Command
statements_at p = Select (record { lets = []; body = at_tree p.tree (count_query 5 []) }) (codes "count(*)" ∷ [])

abbrev pub statements_command : Layout → Command
statements_command o = statements_at (place_of o.places Stated)

pub statements_own : IsMeant outbox_schema statements_text (statements_at (place_of own_places Stated))
unfolding everything outbox_schema
statements_own = refl

statements_means : (o : Layout) → IsMeant (schema_in o) statements_text (statements_command o)
statements_means o = o.fits.keeps.1.1.1.1.0 (statements_at (place_of own_places Stated)) statements_own

pub statements_meant : (o : Layout) → Meant (schema_in o) statements_text (statements_command o)
statements_meant o = meant (schema_in o) statements_text (statements_command o) (statements_means o)

pub statements_reads : (o : Layout) → Reads (schema_in o) statements_text
statements_reads o = ((statements_meant o).plain, (statements_meant o).selects)

abbrev pub seen_text : List ℕ
seen_text = codes "SELECT count(*) FROM device WHERE upto > 0"

abbrev pub seen_at : Place → Command
seen_at p = Select (record { lets = []; body = at_tree p.tree (count_query 1 seen_terms) }) (codes "count(*)" ∷ [])

abbrev pub seen_command : Layout → Command
seen_command o = seen_at (place_of o.places Device)

pub seen_own : IsMeant outbox_schema seen_text (seen_at (place_of own_places Device))
unfolding everything outbox_schema
seen_own = refl

seen_means : (o : Layout) → IsMeant (schema_in o) seen_text (seen_command o)
seen_means o = o.fits.keeps.1.1.1.1.1.0 (seen_at (place_of own_places Device)) seen_own

pub seen_meant : (o : Layout) → Meant (schema_in o) seen_text (seen_command o)
seen_meant o = meant (schema_in o) seen_text (seen_command o) (seen_means o)

pub seen_reads : (o : Layout) → Reads (schema_in o) seen_text
seen_reads o = ((seen_meant o).plain, (seen_meant o).selects)

abbrev pub meta_asked_text : List ℕ
meta_asked_text = codes "SELECT rowid, format, owner FROM meta"

abbrev pub meta_at : Place → Command
meta_at p = reads_meta p.tree

pub meta_own : IsMeant outbox_schema meta_asked_text (meta_at (place_of own_places Meta))
unfolding everything outbox_schema
meta_own = refl

abbrev pub put_meta_text : List ℕ
put_meta_text = codes "INSERT INTO meta (format, owner) VALUES (?1, ?2)"

abbrev pub put_meta_at : Place → Command
put_meta_at p = puts_meta p.at

pub put_meta_own : IsMeant outbox_schema put_meta_text (put_meta_at (place_of own_places Meta))
unfolding everything outbox_schema
put_meta_own = refl

abbrev pub set_meta_text : List ℕ
set_meta_text = codes "UPDATE meta SET format = ?1"

abbrev pub set_meta_at : Place → Command
set_meta_at p = sets_meta p.at p.tree

pub set_meta_own : IsMeant outbox_schema set_meta_text (set_meta_at (place_of own_places Meta))
unfolding everything outbox_schema
set_meta_own = refl

abbrev pub put_link_text : List ℕ
put_link_text = codes "INSERT INTO device (id, upto) VALUES (?1, ?2) ON CONFLICT (id) DO UPDATE SET upto = excluded.upto"

abbrev pub put_link_at : Place → Command
put_link_at p = InsertOr p.at Abort (Values (col 0 0 ∷ lit Null ∷ col 0 1 ∷ []) 3) (record { target = Some (0 ∷ []); update = Some (record { lets = []; body = at_tree p.tree renew_query }) } ∷ [])

abbrev pub put_link_command : Layout → Command
put_link_command o = put_link_at (place_of o.places Device)

pub put_link_own : IsMeant outbox_schema put_link_text (put_link_at (place_of own_places Device))
unfolding everything outbox_schema
put_link_own = refl

put_link_means : (o : Layout) → IsMeant (schema_in o) put_link_text (put_link_command o)
put_link_means o = o.fits.keeps.1.1.1.1.1.1.1.1.1.0 (put_link_at (place_of own_places Device)) put_link_own

pub put_link_meant : (o : Layout) → Meant (schema_in o) put_link_text (put_link_command o)
put_link_meant o = meant (schema_in o) put_link_text (put_link_command o) (put_link_means o)

abbrev pub put_tap_text : List ℕ
put_tap_text = codes "INSERT INTO tap2 (owner, device, lane, link, product, token, moment, day, route) VALUES (?1, ?2, ?3, ?4, ?5, ?6, ?7, ?8, ?9)"

abbrev pub put_tap_at : Place → Command
put_tap_at p = Insert p.at (Values tap_terms 10)

abbrev pub put_tap_command : Layout → Command
put_tap_command o = put_tap_at (place_of o.places Routed)

pub put_tap_own : IsMeant outbox_schema put_tap_text (put_tap_at (place_of own_places Routed))
unfolding everything outbox_schema
put_tap_own = refl

put_tap_means : (o : Layout) → IsMeant (schema_in o) put_tap_text (put_tap_command o)
put_tap_means o = o.fits.keeps.1.1.1.1.1.1.1.1.1.1.0 (put_tap_at (place_of own_places Routed)) put_tap_own

pub put_tap_meant : (o : Layout) → Meant (schema_in o) put_tap_text (put_tap_command o)
put_tap_meant o = meant (schema_in o) put_tap_text (put_tap_command o) (put_tap_means o)

abbrev pub put_statement_text : List ℕ
put_statement_text = codes "INSERT INTO stated (owner, device, day, total) VALUES (?1, ?2, ?3, ?4)"

abbrev pub put_statement_at : Place → Command
put_statement_at p = Insert p.at (Values stated_terms 5)

abbrev pub put_statement_command : Layout → Command
put_statement_command o = put_statement_at (place_of o.places Stated)

pub put_statement_own : IsMeant outbox_schema put_statement_text (put_statement_at (place_of own_places Stated))
unfolding everything outbox_schema
put_statement_own = refl

put_statement_means : (o : Layout) → IsMeant (schema_in o) put_statement_text (put_statement_command o)
put_statement_means o = o.fits.keeps.1.1.1.1.1.1.1.1.1.1.1.0 (put_statement_at (place_of own_places Stated)) put_statement_own

pub put_statement_meant : (o : Layout) → Meant (schema_in o) put_statement_text (put_statement_command o)
put_statement_meant o = meant (schema_in o) put_statement_text (put_statement_command o) (put_statement_means o)

abbrev pub cut_text : List ℕ
cut_text = codes "DELETE FROM tap2 WHERE owner = ?1 AND device = ?2 AND lane <= ?3"

abbrev pub cut_at : Place → Command
cut_at p = Delete p.at (record { lets = []; body = at_tree p.tree cut_query })

abbrev pub cut_command : Layout → Command
cut_command o = cut_at (place_of o.places Routed)

pub cut_own : IsMeant outbox_schema cut_text (cut_at (place_of own_places Routed))
unfolding everything outbox_schema
cut_own = refl

cut_means : (o : Layout) → IsMeant (schema_in o) cut_text (cut_command o)
cut_means o = o.fits.keeps.1.1.1.1.1.1.1.1.1.1.1.1.0 (cut_at (place_of own_places Routed)) cut_own

pub cut_meant : (o : Layout) → Meant (schema_in o) cut_text (cut_command o)
cut_meant o = meant (schema_in o) cut_text (cut_command o) (cut_means o)

-- where the first format has the taps, and how they move

abbrev pub unused_text : List ℕ
unused_text = codes "SELECT count(*) FROM tap"

abbrev pub unused_at : Place → Command
unused_at p = counts_rows (codes "count(*)" ∷ []) p.tree

pub unused_own : IsMeant outbox_schema unused_text (unused_at (place_of own_places Tap))
unfolding everything outbox_schema
unused_own = refl

abbrev pub first_names : List (List ℕ)
first_names = codes "rowid" ∷ codes "owner" ∷ codes "device" ∷ codes "lane" ∷ codes "link" ∷ codes "product" ∷ codes "token" ∷ codes "moment" ∷ codes "day" ∷ []

abbrev pub first_text : List ℕ
first_text = codes "SELECT rowid, owner, device, lane, link, product, token, moment, day FROM tap ORDER BY rowid"

abbrev pub first_at : Place → Command
first_at p = reads_rows 9 first_names p.tree

abbrev pub put_first_text : List ℕ
put_first_text = codes "INSERT INTO tap2 (rowid, owner, device, lane, link, product, token, moment, day, route) VALUES (?1, ?2, ?3, ?4, ?5, ?6, ?7, ?8, ?9, ?10)"

abbrev pub put_first_at : Place → Command
put_first_at p = puts_cells 10 p.at

pub put_first_own : IsMeant outbox_schema put_first_text (put_first_at (place_of own_places Routed))
unfolding everything outbox_schema
put_first_own = refl

abbrev pub clear_first_text : List ℕ
clear_first_text = codes "DELETE FROM tap"

abbrev pub clear_first_at : Place → Command
clear_first_at p = clears_rows p.at p.tree

pub clear_first_own : IsMeant outbox_schema clear_first_text (clear_first_at (place_of own_places Tap))
unfolding everything outbox_schema
clear_first_own = refl

-- the statements that go

abbrev pub told_text : List ℕ
told_text = codes "DELETE FROM stated WHERE owner = ?1 AND device = ?2 AND day < ?3"

abbrev pub told_at : Place → Command
told_at p = Delete p.at (record { lets = []; body = at_tree p.tree told_query })

abbrev pub told_command : Layout → Command
told_command o = told_at (place_of o.places Stated)

pub told_own : IsMeant outbox_schema told_text (told_at (place_of own_places Stated))
unfolding everything outbox_schema
told_own = refl

told_means : (o : Layout) → IsMeant (schema_in o) told_text (told_command o)
told_means o = o.fits.keeps.1.1.1.1.1.1.1.1.1.1.1.1.1.1.1.1.0 (told_at (place_of own_places Stated)) told_own

pub told_meant : (o : Layout) → Meant (schema_in o) told_text (told_command o)
told_meant o = meant (schema_in o) told_text (told_command o) (told_means o)

-- each means something of the usual form
pub link_simple : IsSimpleCommand (link_at (place_of own_places Device))
link_simple = search

pub next_simple : IsSimpleCommand (next_at (place_of own_places Routed))
next_simple = search

pub next_day_simple : IsSimpleCommand (next_day_at (place_of own_places Stated))
next_day_simple = search

pub rows_simple : IsSimpleCommand (rows_at (place_of own_places Routed))
rows_simple = search

pub statements_simple : IsSimpleCommand (statements_at (place_of own_places Stated))
statements_simple = search

pub seen_simple : IsSimpleCommand (seen_at (place_of own_places Device))
seen_simple = search

pub meta_simple : IsSimpleCommand (meta_at (place_of own_places Meta))
meta_simple = search

pub put_meta_simple : IsSimpleCommand (put_meta_at (place_of own_places Meta))
put_meta_simple = search

pub set_meta_simple : IsSimpleCommand (set_meta_at (place_of own_places Meta))
set_meta_simple = search

pub put_link_simple : IsSimpleCommand (put_link_at (place_of own_places Device))
put_link_simple = search

pub put_tap_simple : IsSimpleCommand (put_tap_at (place_of own_places Routed))
put_tap_simple = search

pub put_statement_simple : IsSimpleCommand (put_statement_at (place_of own_places Stated))
put_statement_simple = search

pub cut_simple : IsSimpleCommand (cut_at (place_of own_places Routed))
cut_simple = search

pub unused_simple : IsSimpleCommand (unused_at (place_of own_places Tap))
unused_simple = search

pub first_simple : IsSimpleCommand (first_at (place_of own_places Tap))
first_simple = search

pub put_first_simple : IsSimpleCommand (put_first_at (place_of own_places Routed))
put_first_simple = search

pub clear_first_simple : IsSimpleCommand (clear_first_at (place_of own_places Tap))
clear_first_simple = search

pub told_simple : IsSimpleCommand (told_at (place_of own_places Stated))
told_simple = search

unfoldable pub understood_all : AreUnderstood outbox_schema texts
understood_all = ((link_at (place_of own_places Device), link_own, link_simple), ((next_at (place_of own_places Routed), next_own, next_simple), ((next_day_at (place_of own_places Stated), next_day_own, next_day_simple), ((rows_at (place_of own_places Routed), rows_own, rows_simple), ((statements_at (place_of own_places Stated), statements_own, statements_simple), ((seen_at (place_of own_places Device), seen_own, seen_simple), ((meta_at (place_of own_places Meta), meta_own, meta_simple), ((put_meta_at (place_of own_places Meta), put_meta_own, put_meta_simple), ((set_meta_at (place_of own_places Meta), set_meta_own, set_meta_simple), ((put_link_at (place_of own_places Device), put_link_own, put_link_simple), ((put_tap_at (place_of own_places Routed), put_tap_own, put_tap_simple), ((put_statement_at (place_of own_places Stated), put_statement_own, put_statement_simple), ((cut_at (place_of own_places Routed), cut_own, cut_simple), ((unused_at (place_of own_places Tap), unused_own, unused_simple), ((put_first_at (place_of own_places Routed), put_first_own, put_first_simple), ((clear_first_at (place_of own_places Tap), clear_first_own, clear_first_simple), ((told_at (place_of own_places Stated), told_own, told_simple), tt)))))))))))))))))
