-- A ledger of an older format: none says from which day on all of a device is held, in the first two taps have no route,
-- and in the first no lane is retired.
use Rattle.std.specs.Prelude.{ℕ, ◌==◌, nat_lt, Bool, List, [], length, if◌then◌else◌, is_some}
use Rattle.sqlite_value.specs.Order.{Row}
use Rattle.sqlite.specs.Tree.{Trees}
use Rattle.fare_store.specs.LedgerWords.{LedgerValue}
use Rattle.fare_layout.specs.declared.place.TableNumber.{TableNumber}
use Rattle.fare_layout.specs.Growing.{HasNone}
use Rattle.fare_opening.specs.declared.site.Site.{Site}
use Rattle.fare_opening.specs.Moving.{copies}
use Rattle.fare_opening.specs.Numbers.{Tap}
use Rattle.fare_opening.specs.Parts.{OlderParts, parts_of}
use Rattle.fare_opening.specs.Sites.{IsSite, rows_at}
use Rattle.fare_ledger.specs.Held.{AreReadable, held_of}
use Rattle.fare_ledger.specs.Layouts.{table_at}
use Rattle.fare_ledger.specs.Statements.{Routed}
use Rattle.fare_ledger.specs.Words.{value_in, FitInFormat}

-- the rows of one of its tables; one that it lacks has none
abbrev pub rows_in : OlderParts → Site → TableNumber → Trees → List Row
rows_in o v k trees = if nat_lt k.number (length o.tables) then rows_at v k trees else []

-- its taps, where the newest format has them: each with route 0 where they move
abbrev pub taps_in : OlderParts → Site → Trees → List Row
taps_in o v trees = if is_some o.moving then copies (rows_at v Tap trees) else rows_in o v Routed trees

-- and those that stay in the table that they move from
abbrev pub unmoved_in : OlderParts → Site → Trees → List Row
unmoved_in o v trees = if is_some o.moving then [] else rows_in o v Tap trees

-- the trees of its tables, numbered as in a database of a ledger alone, with its taps where the newest format has them
unfoldable pub olders : OlderParts → Site → Trees → Trees
olders o v trees tree = if tree == 7 then taps_in o v trees else (if tree == 2 then unmoved_in o v trees else rows_in o v (table_at tree) trees)

-- what it holds: all of each device from day 0 on; in the first two formats each tap is of route 0, and in the first no
-- lane is retired
abbrev pub value_older : OlderParts → Site → ℕ → ℕ → (ℕ → Bool) → Trees → LedgerValue
value_older o v owner start known trees = value_in owner start known (held_of (olders o v trees))

-- its tables stand there, nothing has the name of one that it lacks, and its rows can be read and fit together
pub record IsLawfulOlder (o : OlderParts) (v : Site) (owner start : ℕ) (trees : Trees) : Type 0 where
  pub site : IsSite (parts_of o) v
  pub free : HasNone o.missing v.schema
  pub readable : AreReadable (olders o v trees)
  pub together : FitInFormat o.format owner start (held_of (olders o v trees))
