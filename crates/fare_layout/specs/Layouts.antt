-- When a schema has a store's tables, and the store's statements mean there what they should.
use Rattle.std.specs.Prelude.{◌≡◌, refl, ◌≢◌, ◌^◌, ℕ, nat_le, false, List, [], ◌∷◌, find, slice_get, Option, Some, IfSome}
use Rattle.std.specs.List.{AllByRecursion, AllByRecursion-prop, AllZip}
use Rattle.std.specs.Coded.{×_prop, Unit-prop, Coded, code_by, coded×, coded_ℕ, coded_list, coded_option}
use Rattle.sqlite_schema.specs.contracts.schema.Table as table
use Rattle.sqlite_schema.specs.contracts.command.Command as command
use Rattle.sqlite_schema.specs.contracts.command.Returning as returning
use Rattle.sqlite_schema.specs.declared.command.Returning.{Returning}
use Rattle.std.specs.Option.{MatchOption-prop}
use mathlib.Core.HLevel.{⊥_prop}
use denote.Struct.Props as logic
use Rattle.sqlite.specs.Schema.{Schema}
use Rattle.sqlite.specs.Table.{Table}
use Rattle.sqlite_schema.specs.declared.schema.Index.{Index}
use Rattle.sqlite_schema.specs.declared.schema.Reference.{Reference}
use Rattle.sqlite_schema.specs.Names.{same_name, table_named}
use Rattle.fare_layout.specs.declared.place.Place.{Place}
use Rattle.fare_layout.specs.declared.place.Places.{Places}
use Rattle.fare_layout.specs.declared.place.TableNumber.{TableNumber}
use Rattle.sqlite_schema.specs.declared.command.Command.{Command}
use Rattle.fare_layout.specs.Commands.{Essence, IsMeant, IsSimpleCommand, KeepsMeaning}
use Rattle.fare_layout.specs.Places.{place_of, all_of, AreApart}

-- a table, but for its tree, is at a place, and its name finds it there
pub record Stands (schema : Schema) (table : Table) (place : Place) : Type 0 where
  pub named : table_named schema table.name ≡ Some place.at
  pub there : slice_get schema.tables place.at ≡ Some (record table { tree = place.tree })
  pub low : nat_le (2 ^ 31) place.tree ≡ false

-- a foreign key refers to a table of another tree, or to none
abbrev pub RefersElsewhere : Schema → ℕ → Reference → Type 0
RefersElsewhere schema tree r = IfSome (find (λ (t : Table). same_name t.name r.parent) schema.tables) (λ t. t.tree ≢ tree)

-- so does each one
abbrev pub IsFree : Schema → ℕ → Type 0
IsFree schema tree = AllByRecursion (λ (t : Table). AllByRecursion (RefersElsewhere schema tree) t.references) schema.tables

-- no foreign key refers to one of the store's tables
abbrev pub AreFree : Schema → List Place → Type 0
AreFree schema places = AllByRecursion (λ (p : Place). IsFree schema p.tree) places

-- no index of a table is by its rowid
abbrev pub HasNoRowidIndex : Schema → ℕ → Type 0
HasNoRowidIndex schema tree = AllByRecursion (λ (i : Index). i.table ≡ tree → i.columns ≢ 0 ∷ []) schema.indexes

-- nor one of the store's tables
abbrev pub HaveNoRowidIndex : Schema → List Place → Type 0
HaveNoRowidIndex schema places = AllByRecursion (λ (p : Place). HasNoRowidIndex schema p.tree) places

-- nothing else reaches into the tables
pub record IsUntouched (schema : Schema) (places : List Place) : Type 0 where
  pub apart : AreApart places
  pub free : AreFree schema places
  pub by_rowid : HaveNoRowidIndex schema places

-- each text means what it means under the own schema, over its table
abbrev pub KeepsMeanings : Schema → Schema → Places → List (TableNumber × List ℕ) → Type 0
KeepsMeanings own schema p texts = AllByRecursion (λ (t : TableNumber × List ℕ). KeepsMeaning own schema (place_of p t.0) t.1) texts

-- a schema has the tables of the store's own schema at these places, nothing else reaches into them, and each
-- text means what it means under the own schema
pub record Fits (own : Schema) (texts : List (TableNumber × List ℕ)) (schema : Schema) (p : Places) : Type 0 where
  pub stands : AllZip (Stands schema) own.tables (all_of p)
  pub untouched : IsUntouched schema (all_of p)
  pub keeps : KeepsMeanings own schema p texts

-- each text means something of the usual form under the own schema
abbrev pub AreUnderstood : Schema → List (TableNumber × List ℕ) → Type 0
AreUnderstood own texts = AllByRecursion (λ (t : TableNumber × List ℕ). (c : Command) × IsMeant own t.1 c × IsSimpleCommand c) texts

-- IT IS A FACT: there is one proof of it at most
pub AllZip-prop : {A B : Type 0} (R : A → B → Type 0) → ((x : A) (y : B) → IsProp (R x y)) → (xs : List A) (ys : List B) → IsProp (AllZip R xs ys)
AllZip-prop R each [] [] = Unit-prop
AllZip-prop R each [] (y ∷ ys) = ⊥_prop
AllZip-prop R each (x ∷ xs) [] = ⊥_prop
AllZip-prop R each (x ∷ xs) (y ∷ ys) = ×_prop (each x y) (AllZip-prop R each xs ys)

found_coded : Coded (Option Table)
found_coded = coded_option table.the_row.coded

essence_coded : Coded (Option Essence)
essence_coded =
    coded_option (
    code_by (Command × (Option Returning × List (List ℕ))) (coded× command.the_row.coded (coded× (coded_option returning.the_row.coded) (coded_list (coded_list coded_ℕ))))
    (λ e. (e.0, (e.1, e.2))) (λ p. (p.0, p.1.0, p.1.1)) (λ _. refl))

AreApart-prop : (places : List Place) → IsProp (AreApart places)
AreApart-prop [] = Unit-prop
AreApart-prop (p ∷ places) = ×_prop (Prim.hlevel (logic.props, AllByRecursion-prop)) (AreApart-prop places)

ruleset facts = (logic.props, AllByRecursion-prop, MatchOption-prop, AllZip-prop, AreApart-prop, found_coded, essence_coded)

pub Fits-prop : (own : Schema) (texts : List (TableNumber × List ℕ)) (schema : Schema) (p : Places) → IsProp (Fits own texts schema p)
Fits-prop own texts schema p = Prim.hlevel facts
