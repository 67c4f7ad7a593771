-- What an open finds in a database, and what it makes of it.
use Rattle.std.specs.Prelude.{◌≡◌, ◌≢◌, ◌⊎◌, ℕ, Bool}
use Rattle.std.specs.List.{AllByRecursion}
use Rattle.sqlite.specs.Effect.{Database}
use Rattle.sqlite.specs.Schema.{Schema}
use Rattle.sqlite.specs.State.{State}
use Rattle.sqlite.specs.Table.{Table}
use Rattle.sqlite.specs.Tree.{Trees}
use Rattle.sqlite_rules.specs.Lists.{Has}
use Rattle.fare_store.specs.LedgerWords.{IsEmptyLedger}
use Rattle.fare_tables.specs.Asking.{SameRows}
use Rattle.fare_tables.specs.Tabled.{IsLeft}
use Rattle.fare_opening.specs.declared.site.Site.{Site}
use Rattle.fare_opening.specs.Numbers.{Meta, Tap}
use Rattle.fare_opening.specs.Opening as store
use Rattle.fare_opening.specs.Parts.{OlderParts}
use Rattle.fare_opening.specs.Raising as raising
use Rattle.fare_opening.specs.Sites.{tree_at}
use Rattle.fare_ledger.specs.declared.layout.Layout.{Layout}
use Rattle.fare_ledger.specs.Layouts.{schema_in}
use Rattle.fare_ledger.specs.Words.{IsLawful, value_at}
use Rattle.fare_ledger.specs.Older.{IsLawfulOlder, value_older}
use Rattle.fare_ledger.specs.Statements.{ledger_parts}
use Rattle.fare_ledger.specs.Held.{IsReady}
use Rattle.fare_ledger.specs.Making.{Makes, KeepsOthers, site_of}

-- it has a ledger's tables, wherever they stand, with the row of meta of this owner: format 4, and the owner
abbrev pub IsLedger : ℕ → State → Type 0
IsLedger = store.IsStore ledger_parts

-- a database has no table, or this owner's ledger
abbrev pub IsBlankOrOurs : ℕ → State → Type 0
IsBlankOrOurs = store.IsBlankOrStore ledger_parts

-- the tables of an older format stand in a schema, nothing has a name of those that it lacks, and once these are made,
-- past all tables that are there, a ledger's tables stand there
abbrev pub Rises : OlderParts → Schema → Site → Site → Type 0
Rises = raising.Rises ledger_parts

-- so it is of a database, with the row of meta of this owner: that format, and the owner
abbrev pub CanRise : OlderParts → ℕ → State → Site → Site → Type 0
CanRise o owner s = raising.CanRise ledger_parts o owner s.now

-- it has this owner's ledger of an older format, wherever its tables stand, which can be raised
abbrev pub IsOlderLedger : ℕ → State → Type 0
IsOlderLedger = raising.IsOlderStore ledger_parts

-- no table, index or view in it has the name of a table of a ledger
abbrev pub IsVacant : State → Type 0
IsVacant = store.IsVacant ledger_parts

-- what an open may commit: the empty ledger, where nothing has a name of its tables, beside the rows that were there;
-- or the ledger that one of an older format was raised to, whole
abbrev pub MayOpen : ℕ → State → Trees → Type 0
MayOpen = store.MayOpen ledger_parts

-- the trees of an empty ledger of this owner that an open takes, wherever its tables stand
abbrev pub IsLeftEmpty : ℕ → ℕ → (ℕ → Bool) → Trees → Type 0
IsLeftEmpty owner start known trees = (w : Layout) × IsLeft (schema_in w) (IsLawful w owner start) trees × IsEmptyLedger (value_at w owner start known trees)

-- the trees of the ledger that this owner's of an older format was raised to: where that was lawful, an open takes
-- them for a ledger with the same lists
pub record IsLeftRaised (owner start : ℕ) (known : ℕ → Bool) (old : State) (trees : Trees) : Type 0 where
  pub raised : raising.MayRaise ledger_parts owner old trees
  pub same : (o : OlderParts) → Has ledger_parts.older o → (v : Site) → old.now.schema ≡ v.schema → IsLawfulOlder o v owner start old.now.trees → (w : Layout) × IsLeft (schema_in w) (IsLawful w owner start) trees × (value_at w owner start known trees ≡ value_older o v owner start known old.now.trees)

-- each table but a ledger's meta and tap keeps its rows
abbrev pub KeepsAllButTwo : Site → Database → Database → Type 0
KeepsAllButTwo v old new = AllByRecursion (λ (t : Table). t.tree ≢ tree_at v Meta → t.tree ≢ tree_at v Tap → new.trees t.tree ≡ old.trees t.tree) v.schema.tables

-- it had this owner's ledger of an older format, which can be raised, and each table but that ledger's meta and tap
-- keeps its rows
abbrev pub KeepsAllButRaised : ℕ → State → State → Type 0
KeepsAllButRaised owner old new = (o : OlderParts) × Has ledger_parts.older o × (v : Site) × (w : Site) × CanRise o owner old v w × KeepsAllButTwo v old.now new.now

-- a ledger of an older format is one of the newest now
abbrev pub WasRaised : OlderParts → ℕ → State → State → Layout → Type 0
WasRaised o owner old new w = raising.IsRaised ledger_parts o owner (site_of w) old.now new.now × (new.now ≡ new.committed)

-- a database without the ledger's names gets the tables of an empty ledger beside its own, one that has them stays as
-- it is, and one of an older format is raised
pub record Settles (owner : ℕ) (old new : State) (w : Layout) : Type 0 where
  pub made : IsVacant old → Makes old.now.schema w × store.WasMade ledger_parts owner old new (site_of w)
  pub kept : IsReady w old → SameRows old new
  pub raised : (o : OlderParts) → Has ledger_parts.older o → (v : Site) → CanRise o owner old v (site_of w) → WasRaised o owner old new w
  pub others : old.now ≡ old.committed → KeepsOthers old.now new.now ⊎ KeepsAllButRaised owner old new

-- the database had none of the names, or is this owner's ledger, whose tables stand there, or its ledger of an older
-- format, whose tables would
abbrev pub IsOpened : ℕ → State → Layout → Type 0
IsOpened owner s w = IsVacant s ⊎ (store.StandsAt ledger_parts owner s (site_of w) ⊎ ((o : OlderParts) × Has ledger_parts.older o × (v : Site) × CanRise o owner s v (site_of w)))
