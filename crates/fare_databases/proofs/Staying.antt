-- What a database holds whose store can't be opened.
use Rattle.std.proofs.Common.{◌≡◌, ℕ, refl, sym, ap, ◌∙◌, subst, inl, inr}
use Rattle.sqlite_rules.specs.Lists.{Has}
use Rattle.sqlite_catalog.proofs.ReadLemmas.{lists_once}
use Rattle.sqlite_trees.specs.Tree.{Trees}
use Rattle.sqlite.specs.Effect.{IsDatabase}
use Rattle.sqlite.specs.Schema.{Schema}
use Rattle.sqlite.specs.State.{State, Survives}
use Rattle.fare_scheme.specs.Values.{SchemeValue}
use Rattle.fare_store.specs.OutboxWords.{OutboxValue}
use Rattle.fare_store.specs.LedgerWords.{LedgerValue, IsOfScheme}
use Rattle.fare_tables.specs.Tabled.{IsLeft}
use Rattle.fare_layout.specs.Growing.{HasNone}
use Rattle.fare_opening.specs.Parts.{Parts, OlderParts}
use Rattle.fare_opening.specs.Opening.{MayMake}
use Rattle.fare_opening.specs.Raising as raising
use Rattle.fare_opening.proofs.Vacant as vacant
use Rattle.fare_outbox.specs.First.{IsLawfulFirst, value_first}
use Rattle.fare_outbox_rows.specs.Making as outbox_making
use Rattle.fare_outbox_rows.specs.Statements.{first_format, outbox_parts}
use Rattle.fare_outbox_rows.specs.Layouts as outbox_layouts
use Rattle.fare_outbox.specs.Opening as outbox_opening
use Rattle.fare_outbox.specs.Words as outbox_words
use Rattle.fare_outbox.proofs.Opened as outbox_opened
use Rattle.fare_outbox.proofs.Own.{outbox_design}
use Rattle.fare_outbox.proofs.Rising as outbox_rising
use Rattle.fare_ledger.specs.Making as ledger_making
use Rattle.fare_ledger.specs.Older.{IsLawfulOlder, value_older}
use Rattle.fare_ledger.specs.Statements.{ledger_parts}
use Rattle.fare_ledger.specs.Layouts as ledger_layouts
use Rattle.fare_ledger.specs.Opening as ledger_opening
use Rattle.fare_ledger.specs.Words as ledger_words
use Rattle.fare_ledger.specs.declared.layout.Layout as ledger_layout
use Rattle.fare_ledger.proofs.Opened as ledger_opened
use Rattle.fare_ledger.proofs.Olders as ledger_olders
use Rattle.fare_ledger.proofs.Own.{ledger_design}
use Rattle.fare_ledger.proofs.Rising as ledger_rising
use Rattle.fare_databases.specs.Holding.{HoldsLedger, HoldsLists, HoldsOutbox, IsVacantOf, LedgersLook, OutboxesLook, ShowsJust, StaysLedger, StaysOutbox}
use Rattle.fare_databases.proofs.Looks.{ledger_empty, ledger_self, outbox_empty, outbox_same, outbox_self}

-- THE SCHEMA
-- trees list one schema
pub same_schema : (s : State) (trees : Trees) (schema : Schema) (Fits : Trees → Type 0) → ShowsJust s trees → IsLeft schema Fits trees → s.now.schema ≡ schema
same_schema s trees schema Fits shows left =
    lists_once _ s.now.schema schema shows.database.lists (subst (λ t. IsDatabase (record { schema = schema; trees = t })) (sym shows.shown) left.database).lists

pub none_there : (d : Parts) (s : State) (trees : Trees) → ShowsJust s trees → IsVacantOf d trees → HasNone d.tables s.now.schema
none_there d s trees shows free = free s.now.schema (subst (λ t. IsDatabase (record { schema = s.now.schema; trees = t })) shows.shown shows.database)

-- what fits a schema where it is taken from a database that shows it
pub fits_there : (s : State) (trees : Trees) (schema : Schema) (Fits : Trees → Type 0) → ShowsJust s trees → IsLeft schema Fits trees → IsLeft schema Fits s.now.trees
fits_there s trees schema Fits shows left = subst (IsLeft schema Fits) (sym shows.shown) left

-- THE OUTBOX
is_first : (o : OlderParts) → Has outbox_parts.older o → o ≡ first_format
is_first o (inl is) = is
is_first o (inr past) = absurd past

abbrev Outboxes : Trees → OutboxValue → Type 0
Outboxes left v = (w : OutboxValue) × HoldsOutbox left w × OutboxesLook v w

-- where none is there, an open makes an empty one
outbox_made : (old : State) (trees left : Trees) (v : OutboxValue) → ShowsJust old trees → HoldsOutbox trees v → MayMake outbox_parts 0 old left → Outboxes left v
outbox_made old trees left v shows (inl free) made =
    let is = outbox_opened.left_empty old left made in
    (outbox_words.value_at is.0 left, inr (inl (is.0, is.1, refl)), outbox_empty v (outbox_words.value_at is.0 left) free.1 is.2)
outbox_made old trees left v shows (inr (inl it)) made =
    absurd (vacant.not_vacant outbox_parts (outbox_making.site_of it.0) old.now.schema outbox_design it.0.fits made.0 (same_schema old trees (outbox_layouts.schema_in it.0) (outbox_words.IsLawful it.0) shows it.1))
outbox_made old trees left v shows (inr (inr it)) made =
    absurd (outbox_rising.first_taken it.0 old.now.schema it.1.fits.site (same_schema old trees it.0.schema (IsLawfulFirst it.0) shows it.1) made.0)

-- and one of the first format may be raised
outbox_raised : (old : State) (trees left : Trees) (v : OutboxValue) → ShowsJust old trees → HoldsOutbox trees v → raising.MayRaise outbox_parts 0 old left → Outboxes left v
outbox_raised old trees left v shows (inl free) it =
    let raises = subst (λ o. raising.Raises outbox_parts o 0 old.now it.2.1 it.2.0) (is_first it.0 it.1) it.2.2 in
    absurd (outbox_rising.first_taken raises.0 old.now.schema raises.1.rises.from raises.1.rises.has (none_there outbox_parts old trees shows free.0))
outbox_raised old trees left v shows (inr (inl is)) it =
    let raises = subst (λ o. raising.Raises outbox_parts o 0 old.now it.2.1 it.2.0) (is_first it.0 it.1) it.2.2 in
    absurd (outbox_rising.not_first is.0 old.now.schema raises.1.rises.free (same_schema old trees (outbox_layouts.schema_in is.0) (outbox_words.IsLawful is.0) shows is.1))
outbox_raised old trees left v shows (inr (inr is)) it =
    let all = outbox_rising.left_raised old left it in
    let new = all.same is.0 (same_schema old trees is.0.schema (IsLawfulFirst is.0) shows is.1) (fits_there old trees is.0.schema (IsLawfulFirst is.0) shows is.1).fits in
    (outbox_words.value_at new.0 left, inr (inl (new.0, new.1, refl)), outbox_same v (outbox_words.value_at new.0 left) (is.2 ∙ ap (value_first is.0) (sym shows.shown) ∙ sym new.2))

pub outbox_stays : (old new : State) → Survives old new (outbox_opening.MayOpen old) → StaysOutbox old new
outbox_stays old new survives clean trees shows v holds left leaves = elim (survives.crash clean left leaves) [
  | inl was ↦ (v, subst (λ t. HoldsOutbox t v) (sym (shows.left left was)) holds, outbox_self v)
  | inr (inl made) ↦ outbox_made old trees left v shows holds made
  | inr (inr raised) ↦ outbox_raised old trees left v shows holds raised
]

-- A LEDGER
module _ (sc : SchemeValue) (owner : ℕ) (old : State) (trees left : Trees) (shows : ShowsJust old trees) (v : LedgerValue) (own : v.owner ≡ owner) (made_with : IsOfScheme sc v) where
  abbrev Ledgers : Type 0
  Ledgers = (w : LedgerValue) × HoldsLedger sc owner left w × LedgersLook v w

  -- a ledger at a layout, of these devices
  abbrev at_layout : ledger_layout.Layout → LedgerValue
  at_layout w = ledger_words.value_at w owner sc.start v.knows left

  holds_at : (w : ledger_layout.Layout) → IsLeft (ledger_layouts.schema_in w) (ledger_words.IsLawful w owner sc.start) left → HoldsLedger sc owner left (at_layout w)
  holds_at w is = record { own = refl; made = record { start = refl; knows = made_with.knows }; lists = inr (inl (w, is, refl)) }

  ledger_made : HoldsLists sc owner trees v → MayMake ledger_parts owner old left → Ledgers
  ledger_made (inl free) made =
      let is = ledger_opened.left_empty owner sc.start v.knows old left made in
      (at_layout is.0, holds_at is.0 is.1, ledger_empty v (at_layout is.0) (sym made_with.start) free.1 is.2)
  ledger_made (inr (inl it)) made =
      absurd (vacant.not_vacant ledger_parts (ledger_making.site_of it.0) old.now.schema ledger_design it.0.fits made.0 (same_schema old trees (ledger_layouts.schema_in it.0) (ledger_words.IsLawful it.0 owner sc.start) shows it.1))
  ledger_made (inr (inr it)) made =
      absurd (ledger_olders.older_taken it.0 it.2.0 old.now.schema it.1 it.2.1.fits.site (same_schema old trees it.2.0.schema (IsLawfulOlder it.0 it.2.0 owner sc.start) shows it.2.1) made.0)

  ledger_raised : HoldsLists sc owner trees v → raising.MayRaise ledger_parts owner old left → Ledgers
  ledger_raised (inl free) it = absurd (ledger_olders.older_taken it.0 it.2.2.0 old.now.schema it.1 it.2.2.1.rises.from it.2.2.1.rises.has (none_there ledger_parts old trees shows free.0))
  ledger_raised (inr (inl is)) it = absurd (ledger_olders.not_older it.0 is.0 old.now.schema it.1 it.2.2.1.rises.free (same_schema old trees (ledger_layouts.schema_in is.0) (ledger_words.IsLawful is.0 owner sc.start) shows is.1))
  ledger_raised (inr (inr is)) it =
      let all = ledger_rising.left_raised owner sc.start v.knows old left it in
      let site = is.2.0 in
      let new = all.same is.0 is.1 site (same_schema old trees site.schema (IsLawfulOlder is.0 site owner sc.start) shows is.2.1) (fits_there old trees site.schema (IsLawfulOlder is.0 site owner sc.start) shows is.2.1).fits in
      let same : at_layout new.0 ≡ v = new.2 ∙ ap (value_older is.0 site owner sc.start v.knows) shows.shown ∙ sym is.2.2 in
      (at_layout new.0, holds_at new.0 new.1, subst (λ w. LedgersLook v w) (sym same) (ledger_self v))

pub ledger_stays : (sc : SchemeValue) (owner : ℕ) (old new : State) → Survives old new (ledger_opening.MayOpen owner old) → StaysLedger sc owner old new
ledger_stays sc owner old new survives clean trees shows v holds left leaves = elim (survives.crash clean left leaves) [
  | inl was ↦ (v, subst (λ t. HoldsLedger sc owner t v) (sym (shows.left left was)) holds, ledger_self v)
  | inr (inl made) ↦ ledger_made sc owner old trees left shows v holds.own holds.made holds.lists made
  | inr (inr raised) ↦ ledger_raised sc owner old trees left shows v holds.own holds.made holds.lists raised
]

-- where nothing was done to a database
pub ledger_kept : (sc : SchemeValue) (owner : ℕ) (s : State) → StaysLedger sc owner s s
ledger_kept sc owner s clean trees shows v holds left leaves = (v, subst (λ t. HoldsLedger sc owner t v) (sym (shows.left left leaves)) holds, ledger_self v)
