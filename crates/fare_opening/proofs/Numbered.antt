-- Rows of natural numbers, in the order of their rowids.
use Rattle.std.proofs.Common.{◌≡◌, ◌<◌, ◌++◌, ℕ, zero, suc, List, [], ◌∷◌, refl, sym, subst}
use Rattle.sqlite_value.specs.Order.{Row, column}
use Rattle.sqlite.specs.Tree.{put_row}
use Rattle.fare_tables.specs.Cells.{nat_in, int, id_of, AreAbove, AreRows}
use Rattle.fare_tables.proofs.Rows.{AreBelow, put_end}
use Rattle.fare_opening.specs.Moving.{IsNumbered, AreNumbered, copy_of, copies}

pub numbered_ids : (columns : ℕ) (r : Row) → IsNumbered (suc columns) r → column r 0 ≡ int (id_of r)
numbered_ids columns [] ok = absurd ok
numbered_ids columns (v ∷ row) ok = ok.0

-- ---- the first rows, and the last

above_front : (n : ℕ) (xs ys : List Row) → AreAbove n (xs ++ ys) → AreAbove n xs
above_front n [] ys above = tt
above_front n (x ∷ xs) ys above = (above.0, above_front n xs ys above.1)

pub rows_front : (Kind : Row → Type 0) (xs ys : List Row) → AreRows Kind (xs ++ ys) → AreRows Kind xs
rows_front Kind [] ys ok = tt
rows_front Kind (x ∷ xs) ys ok = (ok.0, above_front (id_of x) xs ys ok.1, rows_front Kind xs ys ok.2)

above_last : (n : ℕ) (xs : List Row) (r : Row) → AreAbove n (xs ++ r ∷ []) → n < id_of r
above_last n [] r above = above.0
above_last n (x ∷ xs) r above = above_last n xs r above.1

pub rows_last : (Kind : Row → Type 0) (xs : List Row) (r : Row) → AreRows Kind (xs ++ r ∷ []) → Kind r × AreBelow (id_of r) xs
rows_last Kind [] r ok = (ok.0, tt)
rows_last Kind (x ∷ xs) r ok = let it = rows_last Kind xs r ok.2 in (it.0, (above_last (id_of x) xs r ok.1, it.1))

-- ---- copies

pub copy_numbered : (n : ℕ) (row : Row) → IsNumbered n row → IsNumbered (suc n) (copy_of row)
copy_numbered zero [] ok = (refl, tt)
copy_numbered zero (v ∷ row) ok = absurd ok
copy_numbered (suc n) [] ok = absurd ok
copy_numbered (suc n) (v ∷ row) ok = (ok.0, copy_numbered n row ok.1)

pub copied_numbered : (n : ℕ) (row : Row) → IsNumbered n (copy_of row) → (k : ℕ) × IsNumbered k row
copied_numbered n [] ok = (0, tt)
copied_numbered zero (v ∷ row) ok = absurd ok
copied_numbered (suc n) (v ∷ row) ok = let it = copied_numbered n row ok.1 in (suc it.0, (ok.0, it.1))

copy_id : (columns : ℕ) (r : Row) → IsNumbered (suc columns) r → id_of (copy_of r) ≡ id_of r
copy_id columns [] ok = absurd ok
copy_id columns (v ∷ row) ok = refl

above_copies : (columns n : ℕ) (rows : List Row) → AreNumbered columns rows → AreAbove n rows → AreAbove n (copies rows)
above_copies columns n [] ok above = tt
above_copies columns n (r ∷ rows) ok above = (subst (λ k. n < k) (sym (copy_id columns r ok.0)) above.0, above_copies columns n rows ok.2 above.1)

pub copies_numbered : (columns : ℕ) (rows : List Row) → AreNumbered columns rows → AreNumbered (suc columns) (copies rows)
copies_numbered columns [] ok = tt
copies_numbered columns (r ∷ rows) ok =
    (copy_numbered (suc columns) r ok.0, subst (λ k. AreAbove k (copies rows)) (sym (copy_id columns r ok.0)) (above_copies columns (id_of r) rows ok.2 ok.1), copies_numbered columns rows ok.2)

-- a row above all others is put last
pub put_last : (columns : ℕ) (done : List Row) (r : Row) → AreNumbered columns (done ++ r ∷ []) → put_row r done ≡ done ++ r ∷ []
put_last columns done [] ok = absurd (rows_last (IsNumbered (suc columns)) done [] ok).0
put_last columns done (v ∷ row) ok =
    let last = rows_last (IsNumbered (suc columns)) done (v ∷ row) ok in
    subst (λ x. put_row (x ∷ row) done ≡ done ++ (x ∷ row) ∷ []) (sym last.0.0) (put_end (IsNumbered (suc columns)) (numbered_ids columns) done (nat_in v) row (rows_front (IsNumbered (suc columns)) done ((v ∷ row) ∷ []) ok) last.1)
