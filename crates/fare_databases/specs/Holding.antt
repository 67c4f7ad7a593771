-- What databases hold of a scheme's stores, by the trees that they show or that a stop leaves of them.
use Rattle.std.specs.Prelude.{◌≡◌, ◌⊎◌, ℕ, List, length, slice_get, Some, None, true}
use Rattle.sqlite_rules.specs.Lists.{Has}
use Rattle.sqlite_trees.specs.Tree.{Trees}
use Rattle.sqlite.specs.Effect.{IsDatabase}
use Rattle.sqlite.specs.Schema.{Schema}
use Rattle.sqlite.specs.State.{State, HasCleanDisk}
use Rattle.fare_record.specs.Values.{RecordValue}
use Rattle.fare_scheme.specs.Values.{SchemeValue}
use Rattle.fare_scheme.specs.Words.{id_at}
use Rattle.fare_store.specs.OutboxWords.{OutboxValue, IsEmptyOutbox}
use Rattle.fare_store.specs.LedgerWords.{LedgerValue, IsEmptyLedger, IsOfScheme}
use Rattle.fare_tables.specs.Tabled.{IsLeft}
use Rattle.fare_layout.specs.Growing.{HasNone}
use Rattle.fare_opening.specs.Parts.{Parts, OlderParts}
use Rattle.fare_opening.specs.declared.site.Site.{Site}
use Rattle.fare_outbox.specs.First.{IsLawfulFirst, value_first}
use Rattle.fare_outbox_rows.specs.Statements.{outbox_parts}
use Rattle.fare_outbox_rows.specs.Layouts as outbox_layouts
use Rattle.fare_outbox.specs.Words as outbox_words
use Rattle.fare_outbox_rows.specs.declared.layout.Layout as outbox_layout
use Rattle.fare_ledger.specs.Older.{IsLawfulOlder, value_older}
use Rattle.fare_ledger.specs.Statements.{ledger_parts}
use Rattle.fare_ledger.specs.Layouts as ledger_layouts
use Rattle.fare_ledger.specs.Words as ledger_words
use Rattle.fare_ledger.specs.declared.layout.Layout as ledger_layout
use Rattle.fare_world.specs.Knowing.{knows_owner}
use Rattle.fare_history.specs.Stores.{StoresValue}
use Rattle.fare_agreement.specs.Agreeing.{Agrees}
use Rattle.fare_agreement.specs.Growing.{StoresGrew, StoresLast}

-- TREES
-- whatever schema the trees list, nothing in it has the name of one of a store's tables
abbrev pub IsVacantOf : Parts → Trees → Type 0
IsVacantOf d trees = (schema : Schema) → IsDatabase (record { schema = schema; trees = trees }) → HasNone d.tables schema

-- The trees hold this outbox: none of its names, where it is empty; its tables, wherever they stand; or those of the first
-- format, each tap of which has route 0.
abbrev pub HoldsOutbox : Trees → OutboxValue → Type 0
HoldsOutbox trees v =
    (IsVacantOf outbox_parts trees × IsEmptyOutbox v)
    ⊎ (((w : outbox_layout.Layout) × IsLeft (outbox_layouts.schema_in w) (outbox_words.IsLawful w) trees × (v ≡ outbox_words.value_at w trees))
    ⊎ ((w : Site) × IsLeft w.schema (IsLawfulFirst w) trees × (v ≡ value_first w trees)))

-- So they hold an owner's ledger of a scheme.
abbrev pub HoldsLists : SchemeValue → ℕ → Trees → LedgerValue → Type 0
HoldsLists sc owner trees v =
    (IsVacantOf ledger_parts trees × IsEmptyLedger v)
    ⊎ (((w : ledger_layout.Layout) × IsLeft (ledger_layouts.schema_in w) (ledger_words.IsLawful w owner sc.start) trees × (v ≡ ledger_words.value_at w owner sc.start v.knows trees))
    ⊎ ((o : OlderParts) × Has ledger_parts.older o × ((w : Site) × IsLeft w.schema (IsLawfulOlder o w owner sc.start) trees × (v ≡ value_older o w owner sc.start v.knows trees))))

-- it is the owner's, made with the scheme, and its lists are there
pub record HoldsLedger (sc : SchemeValue) (owner : ℕ) (trees : Trees) (v : LedgerValue) : Type 0 where
  pub own : v.owner ≡ owner
  pub made : IsOfScheme sc v
  pub lists : HoldsLists sc owner trees v

-- the trees of the outbox's database, and those of each ledger's, by the owner's place in the scheme, hold these stores
pub record HoldStores (sc : SchemeValue) (outbox : Trees) (ledgers : ℕ → Trees) (h : StoresValue) : Type 0 where
  pub outbox_holds : HoldsOutbox outbox h.outbox
  pub ledgers_hold : (place owner : ℕ) → id_at sc.owners place ≡ Some owner → HoldsLedger sc owner (ledgers place) (h.ledgers owner)

-- what they hold agrees with the lists of taps
abbrev pub HoldAgreed : SchemeValue → (ℕ → List RecordValue) → Trees → (ℕ → Trees) → Type 0
HoldAgreed sc lists outbox ledgers = (h : StoresValue) × HoldStores sc outbox ledgers h × Agrees sc lists h

-- the databases of the ledgers of those owners that a later scheme adds are vacant
abbrev pub AreVacantFor : SchemeValue → SchemeValue → (ℕ → Trees) → Type 0
AreVacantFor kept later ledgers = (place owner : ℕ) → id_at later.owners place ≡ Some owner → id_at kept.owners place ≡ None → IsVacantOf ledger_parts (ledgers place)

-- DATABASES
-- a database shows just these trees: they are what its schema says, and a stop would leave them
pub record ShowsJust (s : State) (trees : Trees) : Type 0 where
  pub database : IsDatabase s.now
  pub shown : s.now.trees ≡ trees
  pub left : (more : Trees) → s.may_leave more → more ≡ trees

-- two outboxes look alike to whoever reads their counts, rows and statements
pub record OutboxesLook (v w : OutboxValue) : Type 0 where
  pub upto : (device : ℕ) → w.upto device ≡ v.upto device
  pub rows : (owner device : ℕ) → w.rows owner device ≡ v.rows owner device
  pub stated : (owner device : ℕ) → w.stated owner device ≡ v.stated owner device

-- so do two ledgers
pub record LedgersLook (v w : LedgerValue) : Type 0 where
  pub start : w.start ≡ v.start
  pub taken : (device : ℕ) → w.taken device ≡ v.taken device
  pub stated : (device : ℕ) → w.stated device ≡ v.stated device
  pub closed : (device : ℕ) → w.closed device ≡ v.closed device
  pub retired : (device : ℕ) → w.retired device ≡ v.retired device
  pub from : (device : ℕ) → w.from device ≡ v.from device

-- and the stores of a scheme
pub record StoresLook (sc : SchemeValue) (h k : StoresValue) : Type 0 where
  pub outbox_looks : OutboxesLook h.outbox k.outbox
  pub ledgers_look : (owner : ℕ) → knows_owner sc owner ≡ true → LedgersLook (h.ledgers owner) (k.ledgers owner)

-- whatever a stop would leave of a database now holds an outbox that looks like the one that it showed
abbrev pub StaysOutbox : State → State → Type 0
StaysOutbox was now = HasCleanDisk now → (trees : Trees) → ShowsJust was trees → (v : OutboxValue) → HoldsOutbox trees v → (left : Trees) → now.may_leave left → (w : OutboxValue) × HoldsOutbox left w × OutboxesLook v w

-- so it is of an owner's ledger
abbrev pub StaysLedger : SchemeValue → ℕ → State → State → Type 0
StaysLedger sc owner was now = HasCleanDisk now → (trees : Trees) → ShowsJust was trees → (v : LedgerValue) → HoldsLedger sc owner trees v → (left : Trees) → now.may_leave left → (w : LedgerValue) × HoldsLedger sc owner left w × LedgersLook v w

-- and of the ledgers of a scheme's owners, in its order
pub record AreStaying {D : Type 0} (state : D → State) (sc : SchemeValue) (was now : List D) : Type 0 where
  pub count : length now ≡ length was
  pub each : (place owner : ℕ) (d e : D) → slice_get was place ≡ Some d → slice_get now place ≡ Some e → id_at sc.owners place ≡ Some owner → StaysLedger sc owner (state d) (state e)

module _ {D : Type 0} (state : D → State) (outbox : D) (ledgers : List D) where
  -- so do the outbox's, and each ledger's
  pub record ShowStores (outbox_trees : Trees) (ledger_trees : ℕ → Trees) : Type 0 where
    pub outbox_shows : ShowsJust (state outbox) outbox_trees
    pub ledgers_show : (place : ℕ) (d : D) → slice_get ledgers place ≡ Some d → ShowsJust (state d) (ledger_trees place)

  -- a stop would leave these of them
  pub record LeaveStores (outbox_trees : Trees) (ledger_trees : ℕ → Trees) : Type 0 where
    pub outbox_leaves : (state outbox).may_leave outbox_trees
    pub ledgers_leave : (place : ℕ) (d : D) → slice_get ledgers place ≡ Some d → (state d).may_leave (ledger_trees place)

  -- each disk has kept what was committed
  pub record HaveCleanDisks : Type 0 where
    pub outbox_clean : HasCleanDisk (state outbox)
    pub ledgers_clean : (place : ℕ) (d : D) → slice_get ledgers place ≡ Some d → HasCleanDisk (state d)

-- ONE RUN
-- what a stop would leave of databases agrees with the lists, and what they showed before stays in it as this says
pub record StayAgreedAs (Stays : StoresValue → StoresValue → Type 0) (sc : SchemeValue) (lists : ℕ → List RecordValue) (outbox : Trees) (ledgers : ℕ → Trees) (outbox_left : Trees) (ledgers_left : ℕ → Trees) : Type 0 where
  pub was : StoresValue
  pub was_held : HoldStores sc outbox ledgers was
  pub is : StoresValue
  pub is_held : HoldStores sc outbox_left ledgers_left is
  pub agrees : Agrees sc lists is
  pub stays : Stays was is

-- it has all of that: no count fell, and no taken tap, statement, closed day or retired lane went
abbrev pub StayAgreed : SchemeValue → (ℕ → List RecordValue) → Trees → (ℕ → Trees) → Trees → (ℕ → Trees) → Type 0
StayAgreed = StayAgreedAs StoresGrew

-- or all but what was let go
abbrev pub StayAgreedLettingGo : SchemeValue → (ℕ → List RecordValue) → Trees → (ℕ → Trees) → Trees → (ℕ → Trees) → Type 0
StayAgreedLettingGo = StayAgreedAs StoresLast
