-- Tables that hold lists.
use Rattle.std.specs.Prelude.{◌≡◌, ◌≢◌, ◌<◌, ◌^◌, ◌++◌, ℕ, suc, Bool, true, false, List, [], ◌∷◌, length, map, drop, Vec}
use Rattle.std.specs.Global.{Global}
use Rattle.std.specs.List.{AllByRecursion, AllZip}
use Rattle.sqlite.specs.Effect.{Database, IsDatabase}
use Rattle.sqlite.specs.Table.{Table}
use Rattle.sqlite.specs.Tree.{Trees}
use Rattle.sqlite_value.specs.Order.{Row}
use Rattle.fare_tables.specs.Cells.{int}
use Rattle.fare_opening.specs.declared.site.Site.{Site}
use Rattle.fare_opening.specs.Listed.{IsReading, IsPutting, IsClearing}
use Rattle.fare_opening.specs.Moving.{AreNumbered}
use Rattle.fare_opening.specs.Parts.{Parts}
use Rattle.fare_opening.specs.Sites.{IsSite, tree_at, rows_at}
use Rattle.fare_lists.specs.declared.table.ListTable.{ListTable}

-- ROWS
-- the numbers of lists
abbrev pub told_list : List (Vec ℕ Global) → List (List ℕ)
told_list list = map (λ r. r.items) list

abbrev pub told : List (Vec (Vec ℕ Global) Global) → List (List (List ℕ))
told lists = map (λ l. told_list l.items) lists

-- the cells of numbers
abbrev pub cells : List ℕ → Row
cells numbers = map int numbers

-- a row: its rowid, and its numbers
abbrev pub row_at : ℕ → List ℕ → Row
row_at place numbers = int place ∷ cells numbers

-- the rows of a list, numbered from a place on
abbrev pub rows_from : ℕ → List (List ℕ) → List Row
rows_from place [] = []
rows_from place (numbers ∷ list) = row_at place numbers ∷ rows_from (suc place) list

-- what stands behind the rowids
abbrev pub behind_ids : List Row → List Row
behind_ids rows = map (drop 1) rows

-- a table's rows are a list
abbrev pub Holds : Site → Trees → ListTable → List (List ℕ) → Type 0
Holds w trees t list = behind_ids (rows_at w t.number trees) ≡ map cells list

-- each row of a list has so many numbers
abbrev pub AreWide : ℕ → List (List ℕ) → Type 0
AreWide columns list = AllByRecursion (λ (numbers : List ℕ). length numbers ≡ columns) list

-- a row's cells behind its rowid are numbers below 2^32
pub record HasNumbers (row : Row) : Type 0 where
  pub numbers : List ℕ
  pub are : drop 1 row ≡ cells numbers
  pub small : AllByRecursion (λ n. n < 2 ^ 32) numbers

-- so it is of each of several rows
abbrev pub AreNumbers : List Row → Type 0
AreNumbers rows = AllByRecursion HasNumbers rows

-- TABLES
-- the texts of a table mean in a store what they say
pub record IsListed (p : Parts) (t : ListTable) : Type 0 where
  pub reads : IsReading p t.number t.columns t.read.now
  pub puts : IsPutting p t.number t.columns t.put.now
  pub clears : IsClearing p t.number t.clear.now

-- those of several, in the order of their numbers
abbrev pub AreListed : Parts → List ListTable → Type 0
AreListed p [] = Unit {0}
AreListed p (t ∷ ts) = IsListed p t × AllByRecursion (λ (u : ListTable). t.number.number < u.number.number) ts × AreListed p ts

-- the rows of each are numbers, in the order of their rowids
abbrev pub AreLawful : Site → Trees → List ListTable → Type 0
AreLawful w trees tables = AllByRecursion (λ (t : ListTable). AreNumbered t.columns (rows_at w t.number trees)) tables

-- each holds its list
abbrev pub HoldAll : Site → Trees → List ListTable → List (List (List ℕ)) → Type 0
HoldAll w trees tables lists = AllZip (Holds w trees) tables lists

-- each table's rows are numbers below 2^32
abbrev pub CanTell : Site → Trees → List ListTable → Type 0
CanTell w trees tables = AllByRecursion (λ (t : ListTable). AreNumbers (rows_at w t.number trees)) tables

-- the lists of tables were read, behind others, or one of these can't be told
abbrev pub HasRead : Site → Trees → List ListTable → List (List (List ℕ)) → List (List (List ℕ)) → Bool → Type 0
HasRead w trees tables old new true = (lists : List (List (List ℕ))) × HoldAll w trees tables lists × (new ≡ old ++ lists)
HasRead w trees tables old new false = ¬ CanTell w trees tables

-- WRITING
-- a tree is of none of the tables
abbrev pub IsOfNone : Site → List ListTable → ℕ → Type 0
IsOfNone w tables tree = AllByRecursion (λ (t : ListTable). tree ≢ tree_at w t.number) tables

-- a table holds its list, with rowids from 1 on, if its rows were lawful, and each other table keeps its rows
pub record IsReplaced (w : Site) (t : ListTable) (list : List (List ℕ)) (old new : Database) : Type 0 where
  pub schema : new.schema ≡ w.schema
  pub others : AllByRecursion (λ (u : Table). u.tree ≢ tree_at w t.number → new.trees u.tree ≡ old.trees u.tree) w.schema.tables
  pub rows : AreNumbered t.columns (rows_at w t.number old.trees) → rows_at w t.number new.trees ≡ rows_from 1 list
  pub database : IsDatabase old → IsDatabase new

-- each list is as wide as its table
abbrev pub AreAllWide : List ListTable → List (List (List ℕ)) → Type 0
AreAllWide tables lists = AllZip (λ (t : ListTable) (list : List (List ℕ)). AreWide t.columns list) tables lists

-- each table holds its list, with rowids from 1 on, if its rows were lawful, and the others keep their rows
pub record AreReplaced (w : Site) (tables : List ListTable) (lists : List (List (List ℕ))) (old new : Database) : Type 0 where
  pub schema : new.schema ≡ w.schema
  pub others : AllByRecursion (λ (t : Table). IsOfNone w tables t.tree → new.trees t.tree ≡ old.trees t.tree) w.schema.tables
  pub rows : AreLawful w old.trees tables → AllZip (λ (t : ListTable) (list : List (List ℕ)). rows_at w t.number new.trees ≡ rows_from 1 list) tables lists
  pub database : IsDatabase old → IsDatabase new

-- the tables stand there
pub record CanReplace (p : Parts) (w : Site) (tables : List ListTable) (db : Database) : Type 0 where
  pub listed : AreListed p tables
  pub site : IsSite p w
  pub schema : db.schema ≡ w.schema

-- these are the trees of a database in which each table holds its list, wherever the tables stand
abbrev pub ReplacedFrom : List ListTable → List (List (List ℕ)) → Database → Trees → Type 0
ReplacedFrom tables lists old trees = (p : Parts) (w : Site) → CanReplace p w tables old → (db : Database) × AreReplaced w tables lists old db × (trees ≡ db.trees)
