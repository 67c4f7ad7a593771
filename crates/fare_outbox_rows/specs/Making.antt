-- The empty outbox.
use Rattle.sqlite.specs.Effect.{Database}
use Rattle.sqlite.specs.Schema.{Schema}
use Rattle.fare_opening.specs.declared.site.Site.{Site}
use Rattle.fare_opening.specs.Making as store
use Rattle.fare_outbox_rows.specs.declared.layout.Layout.{Layout}
use Rattle.fare_outbox_rows.specs.Statements.{outbox_parts}

-- where the tables stand
abbrev pub site_of : Layout → Site
site_of w = record { schema = w.schema; places = w.places }

-- where the tables stand once they are made in a schema: after those that are there
abbrev pub Makes : Schema → Layout → Type 0
Makes schema w = store.Makes outbox_parts schema (site_of w)

-- the tables can be made in a schema
abbrev pub MayGrow : Schema → Type 0
MayGrow = store.MayGrow outbox_parts

-- the tables that were there keep their rows
abbrev pub KeepsOthers : Database → Database → Type 0
KeepsOthers = store.KeepsOthers
