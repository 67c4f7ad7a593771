-- A store's tables, beside those of another one.
use Rattle.std.specs.Prelude.{◌≡◌, ℕ, List}
use Rattle.std.specs.List.{AllByRecursion}
use Rattle.sqlite.specs.Schema.{Schema}
use Rattle.sqlite.specs.State.{State}
use Rattle.sqlite.specs.Tree.{Trees}
use Rattle.fare_tables.specs.Asking.{SameRows}
use Rattle.fare_layout.specs.declared.place.Place.{Place}
use Rattle.fare_layout.specs.Growing.{GrowsBy, HasNone}
use Rattle.fare_layout.specs.Places.{all_of, IsApartFrom}
use Rattle.fare_opening.specs.declared.opening.Opened.{Opened}
use Rattle.fare_opening.specs.declared.opening.Opened.TheVariants as opened
use Rattle.fare_opening.specs.declared.site.Site.{Site}
use Rattle.fare_opening.specs.Making.{Makes}
use Rattle.fare_opening.specs.Opening.{StandsAt, MayMake, WasMade}
use Rattle.fare_opening.specs.Parts.{Parts, OlderParts, parts_of}
use Rattle.fare_opening.specs.Sites.{IsSite}

-- a schema grew to another one, which may be itself, by tables that were made
abbrev pub HasGrownTo : Schema → Schema → Type 0
HasGrownTo old new = (made : List (List ℕ × List ℕ)) × GrowsBy old made new

-- none of the places has a tree of the others
abbrev pub AreAllApart : List Place → List Place → Type 0
AreAllApart these others = AllByRecursion (λ (p : Place). IsApartFrom p.tree others) these

-- Once a schema is that of these tables, those that stood in it stand there still, at the same places, and mean what they
-- meant; and no table is one of both.
pub record StandApart (p : Parts) (old : Schema) (w : Site) : Type 0 where
  pub keep : (v : Site) → IsSite p v → old ≡ v.schema → IsSite p (record v { schema = w.schema })
  pub apart : (v : Site) → IsSite p v → v.schema ≡ w.schema → AreAllApart (all_of v.places) (all_of w.places)

-- tables are beside those that stand, or would be made, here: so it is, and if nothing had their names, nothing has them then
pub record AreBeside (p : Parts) (old : Schema) (w : Site) : Type 0 where
  pub stand : StandApart p old w
  pub free : HasNone p.tables old → HasNone p.tables w.schema

-- so it is of each of these formats
abbrev pub AreAllBeside : List OlderParts → Schema → Site → Type 0
AreAllBeside olders old w = AllByRecursion (λ (o : OlderParts). AreBeside (parts_of o) old w) olders

-- so it is of a store's tables, and of those of all its older formats
pub record IsBeside (d : Parts) (old : Schema) (w : Site) : Type 0 where
  pub newest : AreBeside d old w
  pub olders : AreAllBeside d.older old w

-- the tables stand in the schema, or could be made in it, beside the other store's
abbrev pub IsPlacedBeside : Parts → Parts → Schema → Opened → Type 0
IsPlacedBeside d other schema (opened.Kept w) = IsSite d w × (schema ≡ w.schema) × IsBeside other schema w
IsPlacedBeside d other schema (opened.Made w) = HasNone d.tables schema × Makes d schema w × IsBeside other schema w
IsPlacedBeside d other schema (opened.Raised w) = ⊥

-- a store that was there stays as it is, and where there was none, one is made; none is raised
abbrev pub OpensBeside : Parts → ℕ → State → State → Opened → Type 0
OpensBeside d owner old new (opened.Kept w) = StandsAt d owner old w × (old.now ≡ old.committed → SameRows old new)
OpensBeside d owner old new (opened.Made w) = WasMade d owner old new w
OpensBeside d owner old new (opened.Raised w) = ⊥

-- what an open beside another store may commit
pub record MayMakeBeside (d other : Parts) (owner : ℕ) (old : State) (trees : Trees) : Type 0 where
  pub made : MayMake d owner old trees
  pub beside : (w : Site) → Makes d old.now.schema w → IsBeside other old.now.schema w
