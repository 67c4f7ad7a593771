-- What the texts of a ledger mean where its tables stand.
use Rattle.std.proofs.Common.{[], ◌∷◌, codes, List, ℕ, refl, Some}
use Rattle.sqlite_tied.specs.Compute.{everything}
use Rattle.sqlite.specs.declared.types.Value.TheVariants.{Null}
use Rattle.sqlite.specs.Term.{Term, lit, col}
use Rattle.sqlite.specs.Command.TheVariants.{Delete, Insert, InsertOr, Select}
use Rattle.sqlite.specs.Source.TheVariants.{Values}
use Rattle.sqlite_schema.specs.declared.command.Conflict.TheVariants.{Abort}
use Rattle.fare_tables.specs.Queries.{count_query}
use Rattle.sqlite_schema.specs.declared.command.Command.{Command}
use Rattle.fare_tables.specs.Asking.{Reads}
use Rattle.fare_opening.specs.Numbers.{Meta, Device, Tap, Stated}
use Rattle.fare_layout.specs.declared.place.Place.{Place}
use Rattle.fare_layout.specs.declared.place.Places.{Places}
use Rattle.fare_layout.specs.Places.{place_of}
use Rattle.fare_layout.specs.Commands.{IsMeant, IsSimpleCommand}
use Rattle.fare_layout.proofs.Meant.{Meant, meant}
use Rattle.fare_layout.specs.Layouts.{AreUnderstood}
use Rattle.fare_opening.specs.Parts.{reads_meta, puts_meta, sets_meta}
use Rattle.fare_ledger.specs.declared.layout.Layout.{Layout}
use Rattle.fare_ledger.specs.Layouts.{schema_in, at_tree}
use Rattle.fare_ledger.specs.Statements.{Retired, Routed, Since, texts}
use Rattle.fare_ledger.specs.Tables.{ledger_schema, lane_query, stated_query, day_terms, between_query, renew_query, begun_terms, retired_terms, since_query, renew_since_query, later_terms, kept_query, cut_query, told_query, older_query, clear_query}

-- where the tables stand in a database of a ledger alone
abbrev pub own_places : Places
own_places = record { all = record { at = 0; tree = 0 } ∷ record { at = 1; tree = 1 } ∷ record { at = 2; tree = 2 } ∷ record { at = 3; tree = 4 } ∷ record { at = 4; tree = 6 } ∷ record { at = 5; tree = 7 } ∷ record { at = 6; tree = 9 } ∷ [] }

abbrev pub tap_terms : List Term
tap_terms = lit Null ∷ col 0 0 ∷ col 0 1 ∷ col 0 2 ∷ col 0 3 ∷ col 0 4 ∷ col 0 5 ∷ col 0 6 ∷ col 0 7 ∷ []

abbrev pub stated_cells_terms : List Term
stated_cells_terms = lit Null ∷ col 0 0 ∷ col 0 1 ∷ col 0 2 ∷ []

abbrev pub lane_terms : List Term
lane_terms = col 0 0 ∷ lit Null ∷ col 0 1 ∷ col 0 2 ∷ []

abbrev pub since_terms : List Term
since_terms = col 0 0 ∷ lit Null ∷ col 0 1 ∷ []

abbrev pub retired_cells_terms : List Term
retired_cells_terms = col 0 0 ∷ lit Null ∷ []

abbrev pub lane_text : List ℕ
lane_text = codes "SELECT taken, closed FROM lane WHERE device = ?1"

abbrev pub lane_at : Place → Command
lane_at p = Select (record { lets = []; body = at_tree p.tree lane_query }) (codes "taken" ∷ codes "closed" ∷ [])

abbrev pub lane_command : Layout → Command
lane_command o = lane_at (place_of o.places Device)

pub lane_own : IsMeant ledger_schema lane_text (lane_at (place_of own_places Device))
unfolding everything ledger_schema
lane_own = refl

lane_means : (o : Layout) → IsMeant (schema_in o) lane_text (lane_command o)
lane_means o = o.fits.keeps.0 (lane_at (place_of own_places Device)) lane_own

pub lane_meant : (o : Layout) → Meant (schema_in o) lane_text (lane_command o)
lane_meant o = meant (schema_in o) lane_text (lane_command o) (lane_means o)

pub lane_reads : (o : Layout) → Reads (schema_in o) lane_text
lane_reads o = ((lane_meant o).plain, (lane_meant o).selects)

abbrev pub stated_text : List ℕ
stated_text = codes "SELECT total FROM stated WHERE device = ?1 AND day = ?2"

abbrev pub stated_at : Place → Command
stated_at p = Select (record { lets = []; body = at_tree p.tree stated_query }) (codes "total" ∷ [])

abbrev pub stated_command : Layout → Command
stated_command o = stated_at (place_of o.places Stated)

pub stated_own : IsMeant ledger_schema stated_text (stated_at (place_of own_places Stated))
unfolding everything ledger_schema
stated_own = refl

stated_means : (o : Layout) → IsMeant (schema_in o) stated_text (stated_command o)
stated_means o = o.fits.keeps.1.0 (stated_at (place_of own_places Stated)) stated_own

pub stated_meant : (o : Layout) → Meant (schema_in o) stated_text (stated_command o)
stated_meant o = meant (schema_in o) stated_text (stated_command o) (stated_means o)

pub stated_reads : (o : Layout) → Reads (schema_in o) stated_text
stated_reads o = ((stated_meant o).plain, (stated_meant o).selects)

abbrev pub day_text : List ℕ
day_text = codes "SELECT count(*) FROM tap2 WHERE device = ?1 AND day = ?2"

abbrev pub day_at : Place → Command
day_at p = Select (record { lets = []; body = at_tree p.tree (count_query 7 day_terms) }) (codes "count(*)" ∷ [])

abbrev pub day_command : Layout → Command
day_command o = day_at (place_of o.places Routed)

pub day_own : IsMeant ledger_schema day_text (day_at (place_of own_places Routed))
unfolding everything ledger_schema
day_own = refl

day_means : (o : Layout) → IsMeant (schema_in o) day_text (day_command o)
day_means o = o.fits.keeps.1.1.0 (day_at (place_of own_places Routed)) day_own

pub day_meant : (o : Layout) → Meant (schema_in o) day_text (day_command o)
day_meant o = meant (schema_in o) day_text (day_command o) (day_means o)

pub day_reads : (o : Layout) → Reads (schema_in o) day_text
day_reads o = ((day_meant o).plain, (day_meant o).selects)

abbrev pub between_text : List ℕ
between_text = codes "SELECT device, lane, link, product, token, moment, day, route FROM tap2 WHERE day >= ?1 AND day <= ?2 ORDER BY day, moment, device, lane"

abbrev pub between_at : Place → Command
between_at p = Select (record { lets = []; body = at_tree p.tree between_query }) (codes "device" ∷ codes "lane" ∷ codes "link" ∷ codes "product" ∷ codes "token" ∷ codes "moment" ∷ codes "day" ∷ codes "route" ∷ [])

abbrev pub between_command : Layout → Command
between_command o = between_at (place_of o.places Routed)

pub between_own : IsMeant ledger_schema between_text (between_at (place_of own_places Routed))
unfolding everything ledger_schema
between_own = refl

between_means : (o : Layout) → IsMeant (schema_in o) between_text (between_command o)
between_means o = o.fits.keeps.1.1.1.0 (between_at (place_of own_places Routed)) between_own

pub between_meant : (o : Layout) → Meant (schema_in o) between_text (between_command o)
between_meant o = meant (schema_in o) between_text (between_command o) (between_means o)

pub between_reads : (o : Layout) → Reads (schema_in o) between_text
between_reads o = ((between_meant o).plain, (between_meant o).selects)

abbrev pub begun_text : List ℕ
begun_text = codes "SELECT count(*) FROM lane WHERE taken > 0 OR closed > 0"

abbrev pub begun_at : Place → Command
begun_at p = Select (record { lets = []; body = at_tree p.tree (count_query 1 begun_terms) }) (codes "count(*)" ∷ [])

abbrev pub begun_command : Layout → Command
begun_command o = begun_at (place_of o.places Device)

pub begun_own : IsMeant ledger_schema begun_text (begun_at (place_of own_places Device))
unfolding everything ledger_schema
begun_own = refl

begun_means : (o : Layout) → IsMeant (schema_in o) begun_text (begun_command o)
begun_means o = o.fits.keeps.1.1.1.1.0 (begun_at (place_of own_places Device)) begun_own

pub begun_meant : (o : Layout) → Meant (schema_in o) begun_text (begun_command o)
begun_meant o = meant (schema_in o) begun_text (begun_command o) (begun_means o)

pub begun_reads : (o : Layout) → Reads (schema_in o) begun_text
begun_reads o = ((begun_meant o).plain, (begun_meant o).selects)

abbrev pub later_text : List ℕ
later_text = codes "SELECT count(*) FROM held WHERE since > 0"

abbrev pub later_at : Place → Command
later_at p = Select (record { lets = []; body = at_tree p.tree (count_query 9 later_terms) }) (codes "count(*)" ∷ [])

abbrev pub later_command : Layout → Command
later_command o = later_at (place_of o.places Since)

pub later_own : IsMeant ledger_schema later_text (later_at (place_of own_places Since))
unfolding everything ledger_schema
later_own = refl

later_means : (o : Layout) → IsMeant (schema_in o) later_text (later_command o)
later_means o = o.fits.keeps.1.1.1.1.1.0 (later_at (place_of own_places Since)) later_own

pub later_meant : (o : Layout) → Meant (schema_in o) later_text (later_command o)
later_meant o = meant (schema_in o) later_text (later_command o) (later_means o)

pub later_reads : (o : Layout) → Reads (schema_in o) later_text
later_reads o = ((later_meant o).plain, (later_meant o).selects)

abbrev pub statements_text : List ℕ
statements_text = codes "SELECT count(*) FROM stated"

abbrev pub statements_at : Place → Command
statements_at p = Select (record { lets = []; body = at_tree p.tree (count_query 4 []) }) (codes "count(*)" ∷ [])

abbrev pub statements_command : Layout → Command
statements_command o = statements_at (place_of o.places Stated)

pub statements_own : IsMeant ledger_schema statements_text (statements_at (place_of own_places Stated))
unfolding everything ledger_schema
statements_own = refl

statements_means : (o : Layout) → IsMeant (schema_in o) statements_text (statements_command o)
statements_means o = o.fits.keeps.1.1.1.1.1.1.0 (statements_at (place_of own_places Stated)) statements_own

pub statements_meant : (o : Layout) → Meant (schema_in o) statements_text (statements_command o)
statements_meant o = meant (schema_in o) statements_text (statements_command o) (statements_means o)

pub statements_reads : (o : Layout) → Reads (schema_in o) statements_text
statements_reads o = ((statements_meant o).plain, (statements_meant o).selects)

abbrev pub meta_text : List ℕ
meta_text = codes "SELECT rowid, format, owner FROM meta"

abbrev pub meta_at : Place → Command
meta_at p = reads_meta p.tree

pub meta_own : IsMeant ledger_schema meta_text (meta_at (place_of own_places Meta))
unfolding everything ledger_schema
meta_own = refl

abbrev pub put_meta_text : List ℕ
put_meta_text = codes "INSERT INTO meta (format, owner) VALUES (?1, ?2)"

abbrev pub put_meta_at : Place → Command
put_meta_at p = puts_meta p.at

pub put_meta_own : IsMeant ledger_schema put_meta_text (put_meta_at (place_of own_places Meta))
unfolding everything ledger_schema
put_meta_own = refl

abbrev pub set_meta_text : List ℕ
set_meta_text = codes "UPDATE meta SET format = ?1"

abbrev pub set_meta_at : Place → Command
set_meta_at p = sets_meta p.at p.tree

pub set_meta_own : IsMeant ledger_schema set_meta_text (set_meta_at (place_of own_places Meta))
unfolding everything ledger_schema
set_meta_own = refl

abbrev pub put_lane_text : List ℕ
put_lane_text = codes "INSERT INTO lane (device, taken, closed) VALUES (?1, ?2, ?3) ON CONFLICT (device) DO UPDATE SET taken = excluded.taken, closed = excluded.closed"

abbrev pub put_lane_at : Place → Command
put_lane_at p = InsertOr p.at Abort (Values lane_terms 4) (record { target = Some (0 ∷ []); update = Some (record { lets = []; body = at_tree p.tree renew_query }) } ∷ [])

abbrev pub put_lane_command : Layout → Command
put_lane_command o = put_lane_at (place_of o.places Device)

pub put_lane_own : IsMeant ledger_schema put_lane_text (put_lane_at (place_of own_places Device))
unfolding everything ledger_schema
put_lane_own = refl

put_lane_means : (o : Layout) → IsMeant (schema_in o) put_lane_text (put_lane_command o)
put_lane_means o = o.fits.keeps.1.1.1.1.1.1.1.1.1.1.0 (put_lane_at (place_of own_places Device)) put_lane_own

pub put_lane_meant : (o : Layout) → Meant (schema_in o) put_lane_text (put_lane_command o)
put_lane_meant o = meant (schema_in o) put_lane_text (put_lane_command o) (put_lane_means o)

abbrev pub put_tap_text : List ℕ
put_tap_text = codes "INSERT INTO tap2 (device, lane, link, product, token, moment, day, route) VALUES (?1, ?2, ?3, ?4, ?5, ?6, ?7, ?8)"

abbrev pub put_tap_at : Place → Command
put_tap_at p = Insert p.at (Values tap_terms 9)

abbrev pub put_tap_command : Layout → Command
put_tap_command o = put_tap_at (place_of o.places Routed)

pub put_tap_own : IsMeant ledger_schema put_tap_text (put_tap_at (place_of own_places Routed))
unfolding everything ledger_schema
put_tap_own = refl

put_tap_means : (o : Layout) → IsMeant (schema_in o) put_tap_text (put_tap_command o)
put_tap_means o = o.fits.keeps.1.1.1.1.1.1.1.1.1.1.1.0 (put_tap_at (place_of own_places Routed)) put_tap_own

pub put_tap_meant : (o : Layout) → Meant (schema_in o) put_tap_text (put_tap_command o)
put_tap_meant o = meant (schema_in o) put_tap_text (put_tap_command o) (put_tap_means o)

abbrev pub put_stated_text : List ℕ
put_stated_text = codes "INSERT INTO stated (device, day, total) VALUES (?1, ?2, ?3)"

abbrev pub put_stated_at : Place → Command
put_stated_at p = Insert p.at (Values stated_cells_terms 4)

abbrev pub put_stated_command : Layout → Command
put_stated_command o = put_stated_at (place_of o.places Stated)

pub put_stated_own : IsMeant ledger_schema put_stated_text (put_stated_at (place_of own_places Stated))
unfolding everything ledger_schema
put_stated_own = refl

put_stated_means : (o : Layout) → IsMeant (schema_in o) put_stated_text (put_stated_command o)
put_stated_means o = o.fits.keeps.1.1.1.1.1.1.1.1.1.1.1.1.0 (put_stated_at (place_of own_places Stated)) put_stated_own

pub put_stated_meant : (o : Layout) → Meant (schema_in o) put_stated_text (put_stated_command o)
put_stated_meant o = meant (schema_in o) put_stated_text (put_stated_command o) (put_stated_means o)

abbrev pub retired_text : List ℕ
retired_text = codes "SELECT count(*) FROM retired WHERE device = ?1"

abbrev pub retired_at : Place → Command
retired_at p = Select (record { lets = []; body = at_tree p.tree (count_query 6 retired_terms) }) (codes "count(*)" ∷ [])

abbrev pub retired_command : Layout → Command
retired_command o = retired_at (place_of o.places Retired)

pub retired_own : IsMeant ledger_schema retired_text (retired_at (place_of own_places Retired))
unfolding everything ledger_schema
retired_own = refl

retired_means : (o : Layout) → IsMeant (schema_in o) retired_text (retired_command o)
retired_means o = o.fits.keeps.1.1.1.1.1.1.1.1.1.1.1.1.1.0 (retired_at (place_of own_places Retired)) retired_own

pub retired_meant : (o : Layout) → Meant (schema_in o) retired_text (retired_command o)
retired_meant o = meant (schema_in o) retired_text (retired_command o) (retired_means o)

pub retired_reads : (o : Layout) → Reads (schema_in o) retired_text
retired_reads o = ((retired_meant o).plain, (retired_meant o).selects)

abbrev pub put_retired_text : List ℕ
put_retired_text = codes "INSERT INTO retired (device) VALUES (?1)"

abbrev pub put_retired_at : Place → Command
put_retired_at p = Insert p.at (Values retired_cells_terms 2)

abbrev pub put_retired_command : Layout → Command
put_retired_command o = put_retired_at (place_of o.places Retired)

pub put_retired_own : IsMeant ledger_schema put_retired_text (put_retired_at (place_of own_places Retired))
unfolding everything ledger_schema
put_retired_own = refl

put_retired_means : (o : Layout) → IsMeant (schema_in o) put_retired_text (put_retired_command o)
put_retired_means o = o.fits.keeps.1.1.1.1.1.1.1.1.1.1.1.1.1.1.0 (put_retired_at (place_of own_places Retired)) put_retired_own

pub put_retired_meant : (o : Layout) → Meant (schema_in o) put_retired_text (put_retired_command o)
put_retired_meant o = meant (schema_in o) put_retired_text (put_retired_command o) (put_retired_means o)

abbrev pub all_retired_text : List ℕ
all_retired_text = codes "SELECT count(*) FROM retired"

abbrev pub all_retired_at : Place → Command
all_retired_at p = Select (record { lets = []; body = at_tree p.tree (count_query 6 []) }) (codes "count(*)" ∷ [])

abbrev pub all_retired_command : Layout → Command
all_retired_command o = all_retired_at (place_of o.places Retired)

pub all_retired_own : IsMeant ledger_schema all_retired_text (all_retired_at (place_of own_places Retired))
unfolding everything ledger_schema
all_retired_own = refl

all_retired_means : (o : Layout) → IsMeant (schema_in o) all_retired_text (all_retired_command o)
all_retired_means o = o.fits.keeps.1.1.1.1.1.1.1.1.1.1.1.1.1.1.1.0 (all_retired_at (place_of own_places Retired)) all_retired_own

pub all_retired_meant : (o : Layout) → Meant (schema_in o) all_retired_text (all_retired_command o)
all_retired_meant o = meant (schema_in o) all_retired_text (all_retired_command o) (all_retired_means o)

pub all_retired_reads : (o : Layout) → Reads (schema_in o) all_retired_text
all_retired_reads o = ((all_retired_meant o).plain, (all_retired_meant o).selects)

-- what is asked of the table in which older formats have the taps, and how they are moved
abbrev pub unused_text : List ℕ
unused_text = codes "SELECT count(*) FROM tap"

abbrev pub unused_at : Place → Command
unused_at p = Select (record { lets = []; body = at_tree p.tree (count_query 2 []) }) (codes "count(*)" ∷ [])

pub unused_own : IsMeant ledger_schema unused_text (unused_at (place_of own_places Tap))
unfolding everything ledger_schema
unused_own = refl

abbrev pub older_text : List ℕ
older_text = codes "SELECT rowid, device, lane, link, product, token, moment, day FROM tap ORDER BY rowid"

abbrev pub older_at : Place → Command
older_at p = Select (record { lets = []; body = at_tree p.tree older_query }) (codes "rowid" ∷ codes "device" ∷ codes "lane" ∷ codes "link" ∷ codes "product" ∷ codes "token" ∷ codes "moment" ∷ codes "day" ∷ [])

abbrev pub older_terms : List Term
older_terms = col 0 0 ∷ col 0 1 ∷ col 0 2 ∷ col 0 3 ∷ col 0 4 ∷ col 0 5 ∷ col 0 6 ∷ col 0 7 ∷ col 0 8 ∷ []

abbrev pub put_older_text : List ℕ
put_older_text = codes "INSERT INTO tap2 (rowid, device, lane, link, product, token, moment, day, route) VALUES (?1, ?2, ?3, ?4, ?5, ?6, ?7, ?8, ?9)"

abbrev pub put_older_at : Place → Command
put_older_at p = Insert p.at (Values older_terms 9)

pub put_older_own : IsMeant ledger_schema put_older_text (put_older_at (place_of own_places Routed))
unfolding everything ledger_schema
put_older_own = refl

abbrev pub clear_older_text : List ℕ
clear_older_text = codes "DELETE FROM tap"

abbrev pub clear_older_at : Place → Command
clear_older_at p = Delete p.at (record { lets = []; body = at_tree p.tree clear_query })

pub clear_older_own : IsMeant ledger_schema clear_older_text (clear_older_at (place_of own_places Tap))
unfolding everything ledger_schema
clear_older_own = refl

abbrev pub since_text : List ℕ
since_text = codes "SELECT since FROM held WHERE device = ?1"

abbrev pub since_at : Place → Command
since_at p = Select (record { lets = []; body = at_tree p.tree since_query }) (codes "since" ∷ [])

abbrev pub since_command : Layout → Command
since_command o = since_at (place_of o.places Since)

pub since_own : IsMeant ledger_schema since_text (since_at (place_of own_places Since))
unfolding everything ledger_schema
since_own = refl

since_means : (o : Layout) → IsMeant (schema_in o) since_text (since_command o)
since_means o = o.fits.keeps.1.1.1.1.1.1.1.1.1.1.1.1.1.1.1.1.1.1.1.0 (since_at (place_of own_places Since)) since_own

pub since_meant : (o : Layout) → Meant (schema_in o) since_text (since_command o)
since_meant o = meant (schema_in o) since_text (since_command o) (since_means o)

pub since_reads : (o : Layout) → Reads (schema_in o) since_text
since_reads o = ((since_meant o).plain, (since_meant o).selects)

abbrev pub put_since_text : List ℕ
put_since_text = codes "INSERT INTO held (device, since) VALUES (?1, ?2) ON CONFLICT (device) DO UPDATE SET since = excluded.since"

abbrev pub put_since_at : Place → Command
put_since_at p = InsertOr p.at Abort (Values since_terms 3) (record { target = Some (0 ∷ []); update = Some (record { lets = []; body = at_tree p.tree renew_since_query }) } ∷ [])

abbrev pub put_since_command : Layout → Command
put_since_command o = put_since_at (place_of o.places Since)

pub put_since_own : IsMeant ledger_schema put_since_text (put_since_at (place_of own_places Since))
unfolding everything ledger_schema
put_since_own = refl

put_since_means : (o : Layout) → IsMeant (schema_in o) put_since_text (put_since_command o)
put_since_means o = o.fits.keeps.1.1.1.1.1.1.1.1.1.1.1.1.1.1.1.1.1.1.1.1.0 (put_since_at (place_of own_places Since)) put_since_own

pub put_since_meant : (o : Layout) → Meant (schema_in o) put_since_text (put_since_command o)
put_since_meant o = meant (schema_in o) put_since_text (put_since_command o) (put_since_means o)

abbrev pub kept_text : List ℕ
kept_text = codes "SELECT lane FROM tap2 WHERE device = ?1 AND day >= ?2 ORDER BY lane LIMIT 1"

abbrev pub kept_at : Place → Command
kept_at p = Select (record { lets = []; body = at_tree p.tree kept_query }) (codes "lane" ∷ [])

abbrev pub kept_command : Layout → Command
kept_command o = kept_at (place_of o.places Routed)

pub kept_own : IsMeant ledger_schema kept_text (kept_at (place_of own_places Routed))
unfolding everything ledger_schema
kept_own = refl

kept_means : (o : Layout) → IsMeant (schema_in o) kept_text (kept_command o)
kept_means o = o.fits.keeps.1.1.1.1.1.1.1.1.1.1.1.1.1.1.1.1.1.1.1.1.1.0 (kept_at (place_of own_places Routed)) kept_own

pub kept_meant : (o : Layout) → Meant (schema_in o) kept_text (kept_command o)
kept_meant o = meant (schema_in o) kept_text (kept_command o) (kept_means o)

pub kept_reads : (o : Layout) → Reads (schema_in o) kept_text
kept_reads o = ((kept_meant o).plain, (kept_meant o).selects)

abbrev pub cut_text : List ℕ
cut_text = codes "DELETE FROM tap2 WHERE device = ?1 AND lane <= ?2"

abbrev pub cut_at : Place → Command
cut_at p = Delete p.at (record { lets = []; body = at_tree p.tree cut_query })

abbrev pub cut_command : Layout → Command
cut_command o = cut_at (place_of o.places Routed)

pub cut_own : IsMeant ledger_schema cut_text (cut_at (place_of own_places Routed))
unfolding everything ledger_schema
cut_own = refl

cut_means : (o : Layout) → IsMeant (schema_in o) cut_text (cut_command o)
cut_means o = o.fits.keeps.1.1.1.1.1.1.1.1.1.1.1.1.1.1.1.1.1.1.1.1.1.1.0 (cut_at (place_of own_places Routed)) cut_own

pub cut_meant : (o : Layout) → Meant (schema_in o) cut_text (cut_command o)
cut_meant o = meant (schema_in o) cut_text (cut_command o) (cut_means o)

abbrev pub told_text : List ℕ
told_text = codes "DELETE FROM stated WHERE device = ?1 AND day < ?2"

abbrev pub told_at : Place → Command
told_at p = Delete p.at (record { lets = []; body = at_tree p.tree told_query })

abbrev pub told_command : Layout → Command
told_command o = told_at (place_of o.places Stated)

pub told_own : IsMeant ledger_schema told_text (told_at (place_of own_places Stated))
unfolding everything ledger_schema
told_own = refl

told_means : (o : Layout) → IsMeant (schema_in o) told_text (told_command o)
told_means o = o.fits.keeps.1.1.1.1.1.1.1.1.1.1.1.1.1.1.1.1.1.1.1.1.1.1.1.0 (told_at (place_of own_places Stated)) told_own

pub told_meant : (o : Layout) → Meant (schema_in o) told_text (told_command o)
told_meant o = meant (schema_in o) told_text (told_command o) (told_means o)

-- each means something of the usual form
pub lane_simple : IsSimpleCommand (lane_at (place_of own_places Device))
lane_simple = search

pub stated_simple : IsSimpleCommand (stated_at (place_of own_places Stated))
stated_simple = search

pub day_simple : IsSimpleCommand (day_at (place_of own_places Routed))
day_simple = search

pub between_simple : IsSimpleCommand (between_at (place_of own_places Routed))
between_simple = search

pub begun_simple : IsSimpleCommand (begun_at (place_of own_places Device))
begun_simple = search

pub later_simple : IsSimpleCommand (later_at (place_of own_places Since))
later_simple = search

pub statements_simple : IsSimpleCommand (statements_at (place_of own_places Stated))
statements_simple = search

pub meta_simple : IsSimpleCommand (meta_at (place_of own_places Meta))
meta_simple = search

pub put_meta_simple : IsSimpleCommand (put_meta_at (place_of own_places Meta))
put_meta_simple = search

pub set_meta_simple : IsSimpleCommand (set_meta_at (place_of own_places Meta))
set_meta_simple = search

pub put_lane_simple : IsSimpleCommand (put_lane_at (place_of own_places Device))
put_lane_simple = search

pub put_tap_simple : IsSimpleCommand (put_tap_at (place_of own_places Routed))
put_tap_simple = search

pub put_stated_simple : IsSimpleCommand (put_stated_at (place_of own_places Stated))
put_stated_simple = search

pub retired_simple : IsSimpleCommand (retired_at (place_of own_places Retired))
retired_simple = search

pub put_retired_simple : IsSimpleCommand (put_retired_at (place_of own_places Retired))
put_retired_simple = search

pub all_retired_simple : IsSimpleCommand (all_retired_at (place_of own_places Retired))
all_retired_simple = search

pub unused_simple : IsSimpleCommand (unused_at (place_of own_places Tap))
unused_simple = search

pub older_simple : IsSimpleCommand (older_at (place_of own_places Tap))
older_simple = search

pub put_older_simple : IsSimpleCommand (put_older_at (place_of own_places Routed))
put_older_simple = search

pub clear_older_simple : IsSimpleCommand (clear_older_at (place_of own_places Tap))
clear_older_simple = search

pub since_simple : IsSimpleCommand (since_at (place_of own_places Since))
since_simple = search

pub put_since_simple : IsSimpleCommand (put_since_at (place_of own_places Since))
put_since_simple = search

pub kept_simple : IsSimpleCommand (kept_at (place_of own_places Routed))
kept_simple = search

pub cut_simple : IsSimpleCommand (cut_at (place_of own_places Routed))
cut_simple = search

pub told_simple : IsSimpleCommand (told_at (place_of own_places Stated))
told_simple = search

unfoldable pub understood_all : AreUnderstood ledger_schema texts
understood_all = ((lane_at (place_of own_places Device), lane_own, lane_simple), ((stated_at (place_of own_places Stated), stated_own, stated_simple), ((day_at (place_of own_places Routed), day_own, day_simple), ((between_at (place_of own_places Routed), between_own, between_simple), ((begun_at (place_of own_places Device), begun_own, begun_simple), ((later_at (place_of own_places Since), later_own, later_simple), ((statements_at (place_of own_places Stated), statements_own, statements_simple), ((meta_at (place_of own_places Meta), meta_own, meta_simple), ((put_meta_at (place_of own_places Meta), put_meta_own, put_meta_simple), ((set_meta_at (place_of own_places Meta), set_meta_own, set_meta_simple), ((put_lane_at (place_of own_places Device), put_lane_own, put_lane_simple), ((put_tap_at (place_of own_places Routed), put_tap_own, put_tap_simple), ((put_stated_at (place_of own_places Stated), put_stated_own, put_stated_simple), ((retired_at (place_of own_places Retired), retired_own, retired_simple), ((put_retired_at (place_of own_places Retired), put_retired_own, put_retired_simple), ((all_retired_at (place_of own_places Retired), all_retired_own, all_retired_simple), ((unused_at (place_of own_places Tap), unused_own, unused_simple), ((put_older_at (place_of own_places Routed), put_older_own, put_older_simple), ((clear_older_at (place_of own_places Tap), clear_older_own, clear_older_simple), ((since_at (place_of own_places Since), since_own, since_simple), ((put_since_at (place_of own_places Since), put_since_own, put_since_simple), ((kept_at (place_of own_places Routed), kept_own, kept_simple), ((cut_at (place_of own_places Routed), cut_own, cut_simple), ((told_at (place_of own_places Stated), told_own, told_simple), tt))))))))))))))))))))))))
