-- What is kept beside a store of what was registered.
use Rattle.std.specs.Prelude.{◌≡◌, ◌⊎◌, ◌<◌, ◌^◌, ℕ, List, [], ◌∷◌, Some, map}
use Rattle.std.specs.List.{AllByRecursion, AllZip}
use Rattle.sqlite.specs.Effect.{Database}
use Rattle.sqlite.specs.Tree.{Trees}
use Rattle.fare_layout.specs.declared.place.TableNumber.{TableNumber}
use Rattle.fare_opening.specs.declared.site.Site.{Site}
use Rattle.fare_opening.specs.Moving.{AreNumbered}
use Rattle.fare_opening.specs.MetaRow.{IsMeta}
use Rattle.fare_opening.specs.Numbers.{Meta}
use Rattle.fare_opening.specs.Sites.{IsSite, rows_at}
use Rattle.fare_scheme.specs.Values.{SchemeValue}
use Rattle.fare_lines.specs.declared.line.Line.{Line}
use Rattle.fare_lines.specs.declared.line.Line.TheVariants.{Setup}
use Rattle.fare_lines.specs.declared.line.SchemeLine.{SchemeLine}
use Rattle.fare_trace.specs.Schemes.{Makes}
use Rattle.fare_trace.specs.declared.schemes.SchemeFault.{SchemeFault}
use Rattle.fare_trace.specs.declared.schemes.SchemeFault.TheVariants as scheme
use Rattle.fare_growth.specs.Growth.{AddsTo, first_contradiction_of}
use Rattle.fare_register.specs.Registers.{AreOf, IsOfNone, register_lists, registered}
use Rattle.fare_lists.specs.Lists.{cells, behind_ids, AreWide}
use Rattle.fare_kept.specs.Statements.{Setting, Zone, Owner, Operator, Station, Product, Device, kept_parts}
use Rattle.fare_store.specs.declared.fault.Fault.{Fault}
use Rattle.fare_store.specs.declared.fault.Fault.TheVariants as fault
use Rattle.fare_keeping.specs.declared.fault.KeepFault.{KeepFault}
use Rattle.fare_keeping.specs.declared.fault.KeepFault.TheVariants.{Changed, Unreadable, Foreign, Memory, Store}

-- LISTS
-- the tables of a kept scheme that hold its entries, each with how many numbers a row has
unfoldable pub kept_columns : List (TableNumber × ℕ)
kept_columns = (Setting, 2) ∷ (Zone, 1) ∷ (Owner, 2) ∷ (Operator, 1) ∷ (Station, 2) ∷ (Product, 6) ∷ (Device, 3) ∷ []

-- the tables hold these lists
abbrev pub HoldLists : Site → Trees → List (List (List ℕ)) → Type 0
HoldLists w trees lists = AllZip (λ (t : TableNumber × ℕ) (list : List (List ℕ)). behind_ids (rows_at w t.0 trees) ≡ map cells list) kept_columns lists

-- the rows of each are numbers, in the order of their rowids
abbrev pub AreLawfulRows : Site → Trees → Type 0
AreLawfulRows w trees = AllByRecursion (λ (t : TableNumber × ℕ). AreNumbered t.1 (rows_at w t.0 trees)) kept_columns

-- each list is as wide as its table
abbrev pub AreWideLists : List (List (List ℕ)) → Type 0
AreWideLists lists = AllZip (λ (t : TableNumber × ℕ) (list : List (List ℕ)). AreWide t.1 list) kept_columns lists

-- numbers are below 2^32
abbrev pub AreSmall : List (List (List ℕ)) → Type 0
AreSmall lists = AllByRecursion (λ (list : List (List ℕ)). AllByRecursion (λ (row : List ℕ). AllByRecursion (λ n. n < 2 ^ 32) row) list) lists

-- no list has an entry
abbrev pub no_lists : List (List (List ℕ))
no_lists = [] ∷ [] ∷ [] ∷ [] ∷ [] ∷ [] ∷ [] ∷ []

abbrev pub AreEmpty : List (List (List ℕ)) → Type 0
AreEmpty lists = AllByRecursion (λ (list : List (List ℕ)). list ≡ []) lists

-- lists tell these lines
abbrev pub TellLines : List (List (List ℕ)) → List Line → Type 0
TellLines lists lines = (setup : List SchemeLine) × AreOf lists setup × (lines ≡ map {B = Line} Setup setup)

-- lists tell the lines that make a scheme
pub record Tell (lists : List (List (List ℕ))) (sc : SchemeValue) : Type 0 where
  pub lines : List SchemeLine
  pub are : AreOf lists lines
  pub make : Makes (map {B = Line} Setup lines) sc

-- they are empty, or tell a scheme to which this one adds
abbrev pub ListsMayFollow : List (List (List ℕ)) → SchemeValue → Type 0
ListsMayFollow lists sc = AreEmpty lists ⊎ ((kept : SchemeValue) × Tell lists kept × AddsTo kept sc)

-- DATABASES
-- the tables stand there, of the newest format
pub record StandsIn (db : Database) (w : Site) : Type 0 where
  pub site : IsSite kept_parts w
  pub schema : db.schema ≡ w.schema
  pub meta : IsMeta kept_parts.format 0 (rows_at w Meta db.trees)

-- and hold these lists
pub record KeepsLists (db : Database) (w : Site) (lists : List (List (List ℕ))) : Type 0 where
  pub stands : StandsIn db w
  pub hold : HoldLists w db.trees lists

-- nothing is kept: no tables stand there, or they have no row
abbrev pub KeepsNone : Database → Type 0
KeepsNone db = ((w : Site) → ¬ StandsIn db w) ⊎ ((w : Site) × KeepsLists db w no_lists)

-- a scheme is kept
abbrev pub Keeps : Database → SchemeValue → Type 0
Keeps db sc = (w : Site) × (lists : List (List (List ℕ))) × KeepsLists db w lists × Tell lists sc

-- just this scheme, whose clock goes by this rule, is kept
abbrev pub KeepsJust : Database → SchemeValue → List ℕ → Type 0
KeepsJust db sc zone = (w : Site) × KeepsLists db w (register_lists (registered sc zone))

-- wherever the tables stand, their rows are lawful
abbrev pub IsLawful : Database → Type 0
IsLawful db = (w : Site) → StandsIn db w → AreLawfulRows w db.trees

-- nothing was kept, or a scheme to which this one adds
abbrev pub MayFollow : Database → SchemeValue → Type 0
MayFollow db sc = KeepsNone db ⊎ ((kept : SchemeValue) × Keeps db kept × AddsTo kept sc)

-- FAULTS
-- the fault of a call of the database
abbrev pub of_store : Fault → KeepFault
of_store fault.Memory = Memory
of_store fault.Store = Store

-- why kept lines make no scheme
abbrev pub of_scheme : SchemeFault → KeepFault
of_scheme (scheme.Refused why) = Unreadable
of_scheme scheme.NoScheme = Unreadable
of_scheme scheme.Memory = Memory

-- why lists told no scheme: there was no memory, or they tell none
abbrev pub TellsNone : List (List (List ℕ)) → KeepFault → Type 0
TellsNone lists Unreadable = (sc : SchemeValue) → ¬ Tell lists sc
TellsNone lists Memory = Unit {0}
TellsNone lists Foreign = ⊥
TellsNone lists (Changed why) = ⊥
TellsNone lists Store = ⊥

-- what a refusal says of lists that are not empty: the first contradiction of the scheme that they tell, or that they tell none
abbrev pub ListsSay : List (List (List ℕ)) → SchemeValue → KeepFault → Type 0
ListsSay lists sc (Changed why) = (¬ AreEmpty lists) × ((kept : SchemeValue) × Tell lists kept × (first_contradiction_of kept sc ≡ Some why))
ListsSay lists sc Unreadable = (¬ AreEmpty lists) × ((kept : SchemeValue) → ¬ Tell lists kept)
ListsSay lists sc Memory = Unit {0}
ListsSay lists sc Foreign = ⊥
ListsSay lists sc Store = ⊥

-- why a scheme isn't kept in tables that stand here: what this says of the lists that they hold
abbrev pub SaysAt : Site → Trees → SchemeValue → KeepFault → Type 0
SaysAt w trees sc (Changed why) = (lists : List (List (List ℕ))) × HoldLists w trees lists × ListsSay lists sc (Changed why)
SaysAt w trees sc Unreadable = (lists : List (List (List ℕ))) → HoldLists w trees lists → AreSmall lists → ListsSay lists sc Unreadable
SaysAt w trees sc Memory = Unit {0}
SaysAt w trees sc Store = Unit {0}
SaysAt w trees sc Foreign = ⊥

-- they hold lists that the scheme may follow
abbrev pub HoldThoseThatMayFollow : Site → Trees → SchemeValue → Type 0
HoldThoseThatMayFollow w trees sc = (lists : List (List (List ℕ))) × HoldLists w trees lists × ListsMayFollow lists sc

-- what a fault says of the database: what is kept contradicts the scheme in this first, or tells no scheme by numbers below
-- 2^32
abbrev pub SaysOf : Database → SchemeValue → KeepFault → Type 0
SaysOf db sc (Changed why) = (kept : SchemeValue) × Keeps db kept × (first_contradiction_of kept sc ≡ Some why)
SaysOf db sc Unreadable = (w : Site) × StandsIn db w × SaysAt w db.trees sc Unreadable
SaysOf db sc Foreign = Unit {0}
SaysOf db sc Memory = Unit {0}
SaysOf db sc Store = Unit {0}

-- a refusal, which changes nothing
abbrev pub IsRefusal : KeepFault → Type 0
IsRefusal (Changed why) = Unit {0}
IsRefusal Unreadable = Unit {0}
IsRefusal Foreign = Unit {0}
IsRefusal Memory = ⊥
IsRefusal Store = ⊥

-- QUESTIONS
-- the tables hold lists that tell these lines
abbrev pub HoldLines : Site → Trees → List Line → Type 0
HoldLines w trees lines = (lists : List (List (List ℕ))) × HoldLists w trees lists × TellLines lists lines

-- a database keeps these lines
abbrev pub KeepsLines : Database → List Line → Type 0
KeepsLines db lines = (w : Site) × (lists : List (List (List ℕ))) × KeepsLists db w lists × TellLines lists lines

-- why no lines were told of tables: there was no memory, the database failed, or they hold no lists of numbers below 2^32
-- that are of lines
abbrev pub SaysNothingAt : Site → Trees → KeepFault → Type 0
SaysNothingAt w trees Unreadable = (lists : List (List (List ℕ))) → HoldLists w trees lists → AreSmall lists → IsOfNone lists
SaysNothingAt w trees Memory = Unit {0}
SaysNothingAt w trees Store = Unit {0}
SaysNothingAt w trees Foreign = ⊥
SaysNothingAt w trees (Changed why) = ⊥

-- so it is of a database
abbrev pub SaysNothing : Database → KeepFault → Type 0
SaysNothing db Unreadable = (w : Site) × StandsIn db w × SaysNothingAt w db.trees Unreadable
SaysNothing db Memory = Unit {0}
SaysNothing db Store = Unit {0}
SaysNothing db Foreign = ⊥
SaysNothing db (Changed why) = ⊥

-- why no scheme was told of a database: what it keeps is not of lines, or they make none
abbrev pub SaysNoScheme : Database → KeepFault → Type 0
SaysNoScheme db Unreadable = SaysNothing db Unreadable ⊎ ((lines : List Line) × KeepsLines db lines × ((sc : SchemeValue) → ¬ Makes lines sc))
SaysNoScheme db Memory = Unit {0}
SaysNoScheme db Store = Unit {0}
SaysNoScheme db Foreign = ⊥
SaysNoScheme db (Changed why) = ⊥
