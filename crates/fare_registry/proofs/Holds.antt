-- A database holds the outbox that it held, where that was left alone.
use Rattle.std.proofs.Common.{◌≡◌, inl, inr, refl, sym, ap, subst, ◌∙◌}
use Rattle.sqlite_catalog.proofs.ReadLemmas.{lists_once}
use Rattle.sqlite_trees.specs.Tree.{Trees}
use Rattle.sqlite.specs.Effect.{Database, IsDatabase}
use Rattle.sqlite.specs.State.{State, Survives}
use Rattle.fare_store.specs.OutboxWords.{OutboxValue}
use Rattle.fare_tables.specs.Tabled.{IsLeft}
use Rattle.fare_layout.specs.Growing.{HasNone}
use Rattle.fare_opening.specs.declared.site.Site.{Site}
use Rattle.fare_opening.specs.Sites.{rows_at}
use Rattle.fare_outbox_rows.specs.declared.layout.Layout.{Layout}
use Rattle.fare_outbox.specs.First.{IsLawfulFirst, firsts, value_first}
use Rattle.fare_outbox_rows.specs.Layouts.{ours, schema_in}
use Rattle.fare_outbox_rows.specs.Making.{site_of}
use Rattle.fare_outbox_rows.specs.Statements.{later_tables, outbox_parts}
use Rattle.fare_outbox.specs.Words.{FitInFormat, FitTogether, IsLawful, value_at, value_in}
use Rattle.fare_databases.specs.Holding.{HoldsOutbox, IsVacantOf, ShowsJust}
use Rattle.fare_databases.proofs.Staying.{none_there, same_schema}
use Rattle.fare_keeping.specs.Leaving.{LeavesIn, LeavesStore}
use Rattle.fare_registry.specs.Still.{HoldsStill}
use Rattle.fare_registry.proofs.Moved.{KeepRows, same_firsts, same_held, same_ours, same_readable}
use Rattle.fare_registry.proofs.Names.{later_free}

module _ (was : State) (trees left : Trees) (shows : ShowsJust was trees) (db : Database) (leaves : LeavesStore outbox_parts was.now db) (is : left ≡ db.trees) where
  database : IsDatabase (record { schema = db.schema; trees = left })
  database = subst (λ t. IsDatabase (record { schema = db.schema; trees = t })) (sym is) (leaves.database shows.database)

  -- nothing had a name of its tables, and nothing has one
  still_vacant : IsVacantOf outbox_parts trees → IsVacantOf outbox_parts left
  still_vacant free schema there =
      let same : db.schema ≡ schema = lists_once _ db.schema schema database.lists there.lists in
      subst (HasNone outbox_parts.tables) same (leaves.newest.free (none_there outbox_parts was trees shows free))

  -- its tables stand where they stood
  still_lawful : (w : Layout) → IsLeft (schema_in w) (IsLawful w) trees → (v : Layout) × IsLeft (schema_in v) (IsLawful v) left × (value_at w trees ≡ value_at v left)
  still_lawful w it =
      let at : was.now.schema ≡ w.schema = same_schema was trees (schema_in w) (IsLawful w) shows it in
      let v : Layout = record { schema = db.schema; places = w.places; fits = leaves.newest.there (site_of w) w.fits at } in
      let rows : KeepRows (site_of w) trees left = λ k low. ap (rows_at (site_of w) k) is ∙ leaves.newest.rows (site_of w) w.fits at k low ∙ ap (rows_at (site_of w) k) shows.shown in
      let same = same_ours w v trees left refl rows in
      let held = same_held (ours w trees) (ours v left) same in (
        v,
        record { database = database; fits = record { readable = same_readable (ours w trees) (ours v left) same it.fits.readable; together = subst FitTogether held it.fits.together } },
        ap value_in held,
      )

  -- so it is of the first format
  still_first : (w : Site) → IsLeft w.schema (IsLawfulFirst w) trees → (v : Site) × IsLeft v.schema (IsLawfulFirst v) left × (value_first w trees ≡ value_first v left)
  still_first w it =
      let at : was.now.schema ≡ w.schema = same_schema was trees w.schema (IsLawfulFirst w) shows it in
      let v : Site = record w { schema = db.schema } in
      let rows : KeepRows w trees left = λ k low. ap (rows_at w k) is ∙ leaves.olders.0.rows w it.fits.site at k low ∙ ap (rows_at w k) shows.shown in
      let same = same_firsts w v trees left it.fits.site refl rows in
      let held = same_held (firsts w trees) (firsts v left) same in
      let was_free : HasNone later_tables was.now.schema = subst (HasNone later_tables) (sym at) it.fits.free in
      let free : HasNone later_tables db.schema = elim leaves.schema [ inl kept ↦ subst (HasNone later_tables) (sym kept) was_free | inr grows ↦ later_free was.now.schema db.schema grows was_free ] in (
        v,
        record { database = database; fits = record { site = leaves.olders.0.there w it.fits.site at; free = free; readable = same_readable (firsts w trees) (firsts v left) same it.fits.readable; together = subst (FitInFormat 1) held it.fits.together } },
        ap value_in held,
      )

  still_holds : (v : OutboxValue) → HoldsOutbox trees v → HoldsOutbox left v
  still_holds v (inl free) = inl (still_vacant free.0, free.1)
  still_holds v (inr (inl it)) = (let there = still_lawful it.0 it.1 in inr (inl (there.0, there.1, it.2 ∙ there.2)))
  still_holds v (inr (inr it)) = (let there = still_first it.0 it.1 in inr (inr (there.0, there.1, it.2 ∙ there.2)))

pub holds_still : (was now : State) → Survives was now (LeavesIn outbox_parts was.now) → HoldsStill was now
holds_still was now survives clean trees shows v holds left leaves = elim (survives.crash clean left leaves) [
  | inl before ↦ subst (λ t. HoldsOutbox t v) (sym (shows.left left before)) holds
  | inr it ↦ still_holds was trees left shows it.0 it.1 it.2 v holds
]

-- so it does where nothing was done, or nothing written
pub still_itself : (s : State) → HoldsStill s s
still_itself s clean trees shows v holds left leaves = subst (λ t. HoldsOutbox t v) (sym (shows.left left leaves)) holds

pub read_still : (was now : State) → Survives was now (λ trees. ⊥) → HoldsStill was now
read_still was now survives clean trees shows v holds left leaves = elim (survives.crash clean left leaves) [
  | inl before ↦ subst (λ t. HoldsOutbox t v) (sym (shows.left left before)) holds
  | inr none ↦ absurd none
]
