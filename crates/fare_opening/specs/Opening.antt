-- What an open finds in a database, and what it makes of it.
use Rattle.std.specs.Prelude.{◌≡◌, ◌≢◌, ◌⊎◌, ℕ, Bool, true, false}
use Rattle.sqlite.specs.Change.{KeepsRows}
use Rattle.sqlite.specs.Schema.{Schema}
use Rattle.sqlite.specs.State.{State}
use Rattle.sqlite.specs.Tree.{Trees}
use Rattle.fare_tables.specs.Asking.{SameRows}
use Rattle.fare_tables.specs.Making.{no_schema}
use Rattle.fare_opening.specs.Numbers.{Meta}
use Rattle.fare_layout.specs.Growing.{HasNone}
use Rattle.fare_opening.specs.declared.looking.Seen.{Seen}
use Rattle.fare_opening.specs.declared.looking.Seen.TheVariants as seen
use Rattle.fare_opening.specs.declared.opening.Opened.{Opened}
use Rattle.fare_opening.specs.declared.opening.Opened.TheVariants as opened
use Rattle.fare_opening.specs.declared.site.Site.{Site}
use Rattle.fare_opening.specs.MetaRow.{IsMeta}
use Rattle.fare_opening.specs.Parts.{Parts}
use Rattle.fare_opening.specs.Sites.{IsSite, IsEmptied, rows_at}
use Rattle.fare_opening.specs.Making.{Makes, MayGrow, KeepsOthers, IsNew, IsMade}
use Rattle.fare_opening.specs.Raising.{MayRaise, WasRaised}

-- the tables stand there, with the row of meta of this owner, and the one that isn't used has no row
pub record StandsAt (d : Parts) (owner : ℕ) (s : State) (w : Site) : Type 0 where
  pub site : IsSite d w
  pub schema : s.now.schema ≡ w.schema
  pub meta : IsMeta d.format owner (rows_at w Meta s.now.trees)
  pub unused : IsEmptied d w s.now.trees

-- a database has the store's tables, wherever they stand, with the row of meta of this owner
abbrev pub IsStore : Parts → ℕ → State → Type 0
IsStore d owner s = (w : Site) × StandsAt d owner s w

-- a database has no table, or this owner's store
abbrev pub IsBlankOrStore : Parts → ℕ → State → Type 0
IsBlankOrStore d owner s = (s.now.schema ≡ no_schema) ⊎ IsStore d owner s

-- no table, index or view in it has the name of one of the store's tables
abbrev pub IsVacant : Parts → State → Type 0
IsVacant d s = HasNone d.tables s.now.schema

-- what an open may commit: the empty store, where nothing has a name of its tables, beside the rows that were there
abbrev pub MayMake : Parts → ℕ → State → Trees → Type 0
MayMake d owner old trees = IsVacant d old × IsMade d owner old.now.schema trees × KeepsRows old.now.schema.tables old.now.trees trees

-- what an open may commit: that, or a store of the newest format made of one of an older format
abbrev pub MayOpen : Parts → ℕ → State → Trees → Type 0
MayOpen d owner old trees = MayMake d owner old trees ⊎ MayRaise d owner old trees

-- what was seen of a schema
abbrev pub Sees : Parts → Schema → Seen → Type 0
Sees d schema (seen.Ours w) = IsSite d w × (schema ≡ w.schema)
Sees d schema (seen.Vacant w) = HasNone d.tables schema × Makes d schema w
Sees d schema seen.Other = (schema ≢ no_schema) × ((w : Site) → IsSite d w → schema ≢ w.schema) × (HasNone d.tables schema → ¬ MayGrow d schema)

-- where they stand
abbrev pub place_in : Opened → Site
place_in (opened.Kept w) = w
place_in (opened.Made w) = w
place_in (opened.Raised w) = w

-- they were made
abbrev pub was_made : Opened → Bool
was_made (opened.Kept w) = false
was_made (opened.Made w) = true
was_made (opened.Raised w) = false

-- the tables stand in the schema, or could be made in it, or stand in one that it was raised to
abbrev pub IsPlaced : Parts → Schema → Opened → Type 0
IsPlaced d schema (opened.Kept w) = IsSite d w × (schema ≡ w.schema)
IsPlaced d schema (opened.Made w) = HasNone d.tables schema × Makes d schema w
IsPlaced d schema (opened.Raised w) = IsSite d w

-- the tables are an empty store now, beside what was there
pub record WasMade (d : Parts) (owner : ℕ) (old new : State) (w : Site) : Type 0 where
  pub is_new : IsNew d owner w new.now
  pub settled : new.now ≡ new.committed
  pub others : KeepsOthers old.now new.now

-- a store that was there stays as it is, one of an older format is raised, and where there was none, one is made
abbrev pub Opens : Parts → ℕ → State → State → Opened → Type 0
Opens d owner old new (opened.Kept w) = StandsAt d owner old w × (old.now ≡ old.committed → SameRows old new)
Opens d owner old new (opened.Made w) = WasMade d owner old new w
Opens d owner old new (opened.Raised w) = WasRaised d owner old new w
