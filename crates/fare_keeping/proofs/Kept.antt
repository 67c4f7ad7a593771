-- What is kept tells one scheme.
use Rattle.std.proofs.Common.{◌≡◌, ℕ, List, [], ◌∷◌, inl, inr, map, refl, sym, ap, subst, ◌∙◌}
use Rattle.std.specs.List.{AllZip}
use Rattle.sqlite.specs.Effect.{Database}
use Rattle.sqlite.specs.Tree.{Trees}
use Rattle.sqlite_value.specs.Order.{Row}
use Rattle.fare_day.specs.Clock.{HasRule}
use Rattle.fare_tables.specs.Cells.{nat_in}
use Rattle.fare_layout.specs.declared.place.TableNumber.{TableNumber}
use Rattle.fare_opening.specs.declared.site.Site.{Site}
use Rattle.fare_opening.specs.Sites.{rows_at}
use Rattle.fare_scheme.specs.Facts.{IsScheme}
use Rattle.fare_scheme.specs.Values.{SchemeValue}
use Rattle.fare_lines.specs.declared.line.Line.{Line}
use Rattle.fare_lines.specs.declared.line.Line.TheVariants.{Setup}
use Rattle.fare_lines.specs.ZoneWord.{IsZoneText}
use Rattle.fare_setup.specs.SchemeLines.{setup_lines_of}
use Rattle.fare_setup.proofs.Taking.{setup_makes}
use Rattle.fare_trace.specs.Schemes.{Makes}
use Rattle.fare_trace.proofs.Clocks.{one_scheme}
use Rattle.fare_trace.proofs.Drafted.{drafted_makes}
use Rattle.fare_lists.specs.Lists.{cells, behind_ids}
use Rattle.fare_register.specs.Registers.{AreOf, registered, register_lists}
use Rattle.fare_register.proofs.Told.{lines_read, scheme_has_room}
use Rattle.fare_keeping.specs.declared.fault.KeepFault.TheVariants.{Unreadable}
use Rattle.fare_keeping.specs.Keeping.{AreEmpty, HoldLists, Keeps, KeepsJust, KeepsLines, KeepsLists, KeepsNone, SaysNothing, SaysOf, Tell, kept_columns, no_lists}
use Rattle.fare_keeping.proofs.Lists.{some_registered}
use Rattle.fare_keeping.proofs.Opened.{all_empty, same_site}
use Rattle.fare_keeping.proofs.Small.{register_small}
use Rattle.fare_keeping.proofs.Told.{one_lines}

-- ---- tables hold one list each

told_by_cells : (numbers : List ℕ) → map nat_in (cells numbers) ≡ numbers
told_by_cells [] = refl
told_by_cells (n ∷ numbers) = ap (λ xs. n ∷ xs) (told_by_cells numbers)

told_by_rows : (list : List (List ℕ)) → map (λ (row : Row). map nat_in row) (map cells list) ≡ list
told_by_rows [] = refl
told_by_rows (numbers ∷ list) = λ i. told_by_cells numbers i ∷ told_by_rows list i

one_list : (one other : List (List ℕ)) → map cells one ≡ map cells other → one ≡ other
one_list one other same = sym (told_by_rows one) ∙ ap (map (λ (row : Row). map nat_in row)) same ∙ told_by_rows other

one_each : (w : Site) (trees : Trees) (columns : List (TableNumber × ℕ)) (one other : List (List (List ℕ))) → AllZip (λ (t : TableNumber × ℕ) (list : List (List ℕ)). behind_ids (rows_at w t.0 trees) ≡ map cells list) columns one
    → AllZip (λ (t : TableNumber × ℕ) (list : List (List ℕ)). behind_ids (rows_at w t.0 trees) ≡ map cells list) columns other → one ≡ other
one_each w trees [] [] [] a b = refl
one_each w trees [] [] (m ∷ other) a b = absurd b
one_each w trees [] (l ∷ one) other a b = absurd a
one_each w trees (c ∷ columns) [] other a b = absurd a
one_each w trees (c ∷ columns) (l ∷ one) [] a b = absurd b
one_each w trees (c ∷ columns) (l ∷ one) (m ∷ other) a b = λ i. one_list l m (sym a.0 ∙ b.0) i ∷ one_each w trees columns one other a.1 b.1 i

-- so a database keeps one list of lists
one_kept : (db : Database) (w v : Site) (one other : List (List (List ℕ))) → KeepsLists db w one → KeepsLists db v other → one ≡ other
one_kept db w v one other a b =
    let same = same_site v w b.stands.site a.stands.site (sym b.stands.schema ∙ a.stands.schema) in
    one_each w db.trees kept_columns one other a.hold (subst (λ u. HoldLists u db.trees other) same b.hold)

-- ---- the lines and the scheme

pub kept_lines_are : (db : Database) (scheme : SchemeValue) (zone : List ℕ) (lines : List Line) → IsScheme scheme → IsZoneText zone → KeepsJust db scheme zone → KeepsLines db lines → lines ≡ map {B = Line} Setup (setup_lines_of scheme zone)
kept_lines_are db scheme zone lines is fits just keeps =
    let same = one_kept db keeps.0 just.0 keeps.1 (register_lists (registered scheme zone)) keeps.2 just.1 in
    let setup : keeps.3.0 ≡ setup_lines_of scheme zone = lines_read scheme zone keeps.3.0 (subst (λ lists. AreOf lists keeps.3.0) same keeps.3.1) in
    keeps.3.2 ∙ ap (map {B = Line} Setup) setup

tells : (scheme : SchemeValue) (zone : List ℕ) → IsScheme scheme → IsZoneText zone → HasRule scheme.zone zone → Tell (register_lists (registered scheme zone)) scheme
tells scheme zone is fits rule = record {
  lines = setup_lines_of scheme zone;
  are = record { register = registered scheme zone; room = scheme_has_room scheme zone is fits; lists_are = refl; lines_are = refl };
  make = drafted_makes (setup_lines_of scheme zone) scheme (setup_makes scheme zone is rule);
}

pub kept_scheme_is : (db : Database) (scheme : SchemeValue) (zone : List ℕ) → IsScheme scheme → IsZoneText zone → HasRule scheme.zone zone → KeepsJust db scheme zone → Keeps db scheme
kept_scheme_is db scheme zone is fits rule just = (just.0, register_lists (registered scheme zone), just.1, tells scheme zone is fits rule)

pub one_kept_scheme : (db : Database) (one other : SchemeValue) → Keeps db one → Keeps db other → one ≡ record other { zone = one.zone }
one_kept_scheme db one other a b =
    let lists = one_kept db b.0 a.0 b.1 a.1 b.2 a.2 in
    let lines : b.3.lines ≡ a.3.lines = one_lines a.1 b.3.lines a.3.lines (subst (λ ls. AreOf ls b.3.lines) lists b.3.are) a.3.are in
    one_scheme (map Setup a.3.lines) one other a.3.make (subst (λ ls. Makes (map Setup ls) other) lines b.3.make)

pub something_kept : (db : Database) (scheme : SchemeValue) → Keeps db scheme → ¬ KeepsNone db
something_kept db scheme keeps none = elim none [
  | inl nowhere ↦ nowhere keeps.0 keeps.2.stands
  | inr empty ↦
      let lists : no_lists ≡ keeps.1 = one_kept db empty.0 keeps.0 no_lists keeps.1 empty.1 keeps.2 in
      some_registered keeps.3.are.register (subst AreEmpty (lists ∙ keeps.3.are.lists_are) all_empty)
]

pub kept_can_be_read : (db : Database) (scheme other : SchemeValue) (zone : List ℕ) → IsScheme scheme → IsZoneText zone → HasRule scheme.zone zone → KeepsJust db scheme zone → (¬ SaysNothing db Unreadable) × (¬ SaysOf db other Unreadable)
kept_can_be_read db scheme other zone is fits rule just =
    let lists = register_lists (registered scheme zone) in
    let there = λ (v : Site) (schema : db.schema ≡ v.schema) (site : _). subst (λ u. HoldLists u db.trees lists) (same_site just.0 v just.1.stands.site site (sym just.1.stands.schema ∙ schema)) just.1.hold in (
      λ says. says.2 lists (there says.0 says.1.schema says.1.site) (register_small scheme zone is fits) (registered scheme zone) (scheme_has_room scheme zone is fits) refl,
      λ says. (says.2 lists (there says.0 says.1.schema says.1.site) (register_small scheme zone is fits)).1 scheme (tells scheme zone is fits rule),
    )
