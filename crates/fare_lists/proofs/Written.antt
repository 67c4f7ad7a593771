-- What was written is held, and what is held is one.
use Rattle.std.proofs.Common.{◌≡◌, ℕ, suc, List, [], ◌∷◌, map, refl, sym, ap, subst, ◌∙◌}
use Rattle.std.specs.List.{AllZip}
use Rattle.sqlite.specs.Effect.{Database}
use Rattle.sqlite.specs.Tree.{Trees}
use Rattle.sqlite_value.specs.Order.{Row}
use Rattle.fare_tables.specs.Cells.{nat_in}
use Rattle.fare_opening.specs.declared.site.Site.{Site}
use Rattle.fare_opening.specs.Moving.{AreNumbered}
use Rattle.fare_opening.specs.Sites.{rows_at}
use Rattle.fare_lists.specs.declared.table.ListTable.{ListTable}
use Rattle.fare_lists.specs.Lists.{cells, rows_from, behind_ids, HoldAll, AreAllWide, AreLawful, AreReplaced}
use Rattle.fare_lists.proofs.Rows.{rows_numbered}

behind_rows : (place : ℕ) (list : List (List ℕ)) → behind_ids (rows_from place list) ≡ map cells list
behind_rows place [] = refl
behind_rows place (numbers ∷ list) = ap (λ rows. cells numbers ∷ rows) (behind_rows (suc place) list)

hold_written : (w : Site) (trees : Trees) (tables : List ListTable) (lists : List (List (List ℕ))) → AllZip (λ (t : ListTable) (list : List (List ℕ)). rows_at w t.number trees ≡ rows_from 1 list) tables lists → HoldAll w trees tables lists
hold_written w trees [] [] rows = tt
hold_written w trees [] (l ∷ lists) rows = absurd rows
hold_written w trees (t ∷ tables) [] rows = absurd rows
hold_written w trees (t ∷ tables) (l ∷ lists) rows = (ap behind_ids rows.0 ∙ behind_rows 1 l, hold_written w trees tables lists rows.1)

pub held : (w : Site) (tables : List ListTable) (lists : List (List (List ℕ))) (old new : Database) → AreLawful w old.trees tables → AreReplaced w tables lists old new → HoldAll w new.trees tables lists
held w tables lists old new was it = hold_written w new.trees tables lists (it.rows was)

lawful_written : (w : Site) (trees : Trees) (tables : List ListTable) (lists : List (List (List ℕ))) → AreAllWide tables lists → AllZip (λ (t : ListTable) (list : List (List ℕ)). rows_at w t.number trees ≡ rows_from 1 list) tables lists → AreLawful w trees tables
lawful_written w trees [] [] wide rows = tt
lawful_written w trees [] (l ∷ lists) wide rows = absurd rows
lawful_written w trees (t ∷ tables) [] wide rows = absurd rows
lawful_written w trees (t ∷ tables) (l ∷ lists) wide rows = (subst (AreNumbered t.columns) (sym rows.0) (rows_numbered t.columns 1 l wide.0), lawful_written w trees tables lists wide.1 rows.1)

pub lawful : (w : Site) (tables : List ListTable) (lists : List (List (List ℕ))) (old new : Database) → AreLawful w old.trees tables → AreAllWide tables lists → AreReplaced w tables lists old new → AreLawful w new.trees tables
lawful w tables lists old new was wide it = lawful_written w new.trees tables lists wide (it.rows was)

-- numbers are told by their cells
abbrev numbers_in : Row → List ℕ
numbers_in row = map nat_in row

told_by_cells : (numbers : List ℕ) → numbers_in (cells numbers) ≡ numbers
told_by_cells [] = refl
told_by_cells (n ∷ numbers) = ap (λ xs. n ∷ xs) (told_by_cells numbers)

told_by_rows : (list : List (List ℕ)) → map numbers_in (map cells list) ≡ list
told_by_rows [] = refl
told_by_rows (numbers ∷ list) = λ i. told_by_cells numbers i ∷ told_by_rows list i

one_list : (one other : List (List ℕ)) → map cells one ≡ map cells other → one ≡ other
one_list one other same = sym (told_by_rows one) ∙ ap (map numbers_in) same ∙ told_by_rows other

pub one_each : (w : Site) (trees : Trees) (tables : List ListTable) (one other : List (List (List ℕ))) → HoldAll w trees tables one → HoldAll w trees tables other → one ≡ other
one_each w trees [] [] [] a b = refl
one_each w trees [] [] (m ∷ other) a b = absurd b
one_each w trees [] (l ∷ one) other a b = absurd a
one_each w trees (t ∷ tables) [] other a b = absurd a
one_each w trees (t ∷ tables) (l ∷ one) [] a b = absurd b
one_each w trees (t ∷ tables) (l ∷ one) (m ∷ other) a b = λ i. one_list l m (sym a.0 ∙ b.0) i ∷ one_each w trees tables one other a.1 b.1 i
