-- An outbox of the first format, whose taps have no route.
use Rattle.std.specs.Prelude.{ℕ, ◌==◌, [], if◌then◌else◌}
use Rattle.sqlite.specs.Tree.{Trees}
use Rattle.fare_store.specs.OutboxWords.{OutboxValue}
use Rattle.fare_layout.specs.Growing.{HasNone}
use Rattle.fare_opening.specs.declared.site.Site.{Site}
use Rattle.fare_opening.specs.Moving.{copies}
use Rattle.fare_opening.specs.Numbers.{Tap}
use Rattle.fare_opening.specs.Parts.{parts_of}
use Rattle.fare_opening.specs.Sites.{IsSite, rows_at}
use Rattle.fare_outbox_rows.specs.Held.{AreReadable, held_of}
use Rattle.fare_outbox_rows.specs.Layouts.{table_at}
use Rattle.fare_outbox_rows.specs.Statements.{later_tables, first_format}
use Rattle.fare_outbox.specs.Words.{value_in, FitInFormat}

-- the trees of its tables, numbered as in a database of an outbox alone, and its taps where the newest format has them,
-- each with route 0
unfoldable pub firsts : Site → Trees → Trees
firsts v trees tree = if tree == 7 then copies (rows_at v Tap trees) else (if tree == 2 then [] else rows_at v (table_at tree) trees)

-- what it holds: each tap is of route 0
abbrev pub value_first : Site → Trees → OutboxValue
value_first v trees = value_in (held_of (firsts v trees))

-- its tables stand there, nothing has the name of the one that it lacks, and its rows can be read and fit together
pub record IsLawfulFirst (v : Site) (trees : Trees) : Type 0 where
  pub site : IsSite (parts_of first_format) v
  pub free : HasNone later_tables v.schema
  pub readable : AreReadable (firsts v trees)
  pub together : FitInFormat 1 (held_of (firsts v trees))
