-- What an open finds in a database, and what it makes of it.
use Rattle.std.specs.Prelude.{◌≡◌, ◌≢◌, ◌⊎◌, ℕ, length}
use Rattle.std.specs.List.{AllByRecursion}
use Rattle.sqlite.specs.Effect.{Database}
use Rattle.sqlite.specs.Schema.{Schema}
use Rattle.sqlite.specs.State.{State}
use Rattle.sqlite.specs.Table.{Table}
use Rattle.sqlite.specs.Tree.{Trees}
use Rattle.fare_store.specs.OutboxWords.{IsEmptyOutbox}
use Rattle.fare_tables.specs.Asking.{SameRows}
use Rattle.fare_tables.specs.Tabled.{IsLeft}
use Rattle.fare_opening.specs.declared.site.Site.{Site}
use Rattle.fare_opening.specs.Numbers.{Meta, Tap}
use Rattle.fare_opening.specs.Opening as store
use Rattle.fare_opening.specs.Raising as raising
use Rattle.fare_opening.specs.Sites.{tree_at}
use Rattle.fare_outbox_rows.specs.declared.layout.Layout.{Layout}
use Rattle.fare_outbox_rows.specs.Layouts.{ours, schema_in}
use Rattle.fare_outbox.specs.Words.{IsLawful, value_at}
use Rattle.fare_outbox.specs.First.{IsLawfulFirst, value_first}
use Rattle.fare_outbox_rows.specs.Statements.{first_format, outbox_parts}
use Rattle.fare_outbox_rows.specs.Held.{AreReadable, IsReady, held_of}
use Rattle.fare_outbox_rows.specs.Making.{Makes, KeepsOthers, site_of}

-- it has an outbox's tables, wherever they stand, with its row of meta: format 2, owner 0
abbrev pub IsOutbox : State → Type 0
IsOutbox = store.IsStore outbox_parts 0

-- a database has no table, or an outbox's
abbrev pub IsBlankOrOurs : State → Type 0
IsBlankOrOurs = store.IsBlankOrStore outbox_parts 0

-- the first format's tables stand in a schema, nothing has the name of the one that it lacks, and once this is made,
-- past all tables that are there, an outbox's tables stand there
abbrev pub Rises : Schema → Site → Site → Type 0
Rises = raising.Rises outbox_parts first_format

-- so it is of a database, with the row of meta: format 1, owner 0
abbrev pub CanRise : State → Site → Site → Type 0
CanRise s = raising.CanRise outbox_parts first_format 0 s.now

-- it has an outbox of the first format, wherever its tables stand, which can be raised
abbrev pub IsFirstOutbox : State → Type 0
IsFirstOutbox s = (v : Site) × (w : Site) × CanRise s v w

-- no table, index or view in it has the name of a table of an outbox
abbrev pub IsVacant : State → Type 0
IsVacant = store.IsVacant outbox_parts

-- what an open may commit: the empty outbox, where nothing has a name of its tables, beside the rows that were there; or
-- the outbox that one of the first format was raised to, whole
abbrev pub MayOpen : State → Trees → Type 0
MayOpen = store.MayOpen outbox_parts 0

-- the trees of an empty outbox that an open takes, wherever its tables stand
abbrev pub IsLeftEmpty : Trees → Type 0
IsLeftEmpty trees = (w : Layout) × IsLeft (schema_in w) (IsLawful w) trees × IsEmptyOutbox (value_at w trees)

-- the trees of the outbox that one of the first format was raised to: where that was lawful, an open takes them for an
-- outbox that holds the same
pub record IsLeftRaised (old : State) (trees : Trees) : Type 0 where
  pub raised : raising.MayRaise outbox_parts 0 old trees
  pub same : (v : Site) → old.now.schema ≡ v.schema → IsLawfulFirst v old.now.trees → (w : Layout) × IsLeft (schema_in w) (IsLawful w) trees × (value_at w trees ≡ value_first v old.now.trees)

-- each table but an outbox's meta and tap keeps its rows
abbrev pub KeepsAllButTwo : Site → Database → Database → Type 0
KeepsAllButTwo v old new = AllByRecursion (λ (t : Table). t.tree ≢ tree_at v Meta → t.tree ≢ tree_at v Tap → new.trees t.tree ≡ old.trees t.tree) v.schema.tables

-- it had an outbox of the first format, which can be raised, and each table but that outbox's meta and tap keeps its
-- rows
abbrev pub KeepsAllButRaised : State → State → Type 0
KeepsAllButRaised old new = (v : Site) × (w : Site) × CanRise old v w × KeepsAllButTwo v old.now new.now

-- an outbox of the first format is one of the newest now
abbrev pub WasRaised : State → State → Layout → Type 0
WasRaised old new w = raising.IsRaised outbox_parts first_format 0 (site_of w) old.now new.now × (new.now ≡ new.committed)

-- so it is, wherever its tables stand
abbrev pub IsRaisedFirst : State → State → Type 0
IsRaisedFirst old new = (v : Site) × (w : Layout) × CanRise old v (site_of w) × WasRaised old new w

pub record IsCounted (w : Layout) (trees : Trees) (rows statements : ℕ) : Type 0 where
  pub rows_are : rows ≡ length (held_of (ours w trees)).taps
  pub statements_are : statements ≡ length (held_of (ours w trees)).statements

-- a database without the outbox's names gets the tables of an empty outbox beside its own, one that has them stays as it
-- is, one of the first format is raised, and what it holds then is counted
pub record Settles (old new : State) (w : Layout) (rows statements : ℕ) : Type 0 where
  pub made : IsVacant old → Makes old.now.schema w × store.WasMade outbox_parts 0 old new (site_of w) × (rows ≡ 0) × (statements ≡ 0)
  pub kept : IsReady w old → SameRows old new × IsCounted w old.now.trees rows statements
  pub raised : (v : Site) → CanRise old v (site_of w) → WasRaised old new w × (AreReadable (ours w new.now.trees) → IsCounted w new.now.trees rows statements)
  pub others : old.now ≡ old.committed → KeepsOthers old.now new.now ⊎ KeepsAllButRaised old new

-- the database had none of the names, or is an outbox whose tables stand there, or one of the first format, whose tables
-- would
abbrev pub IsOpened : State → Layout → Type 0
IsOpened s w = IsVacant s ⊎ (store.StandsAt outbox_parts 0 s (site_of w) ⊎ ((v : Site) × CanRise s v (site_of w)))
