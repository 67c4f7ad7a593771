-- The rows of a list.
use Rattle.std.proofs.Common.{◌≡◌, ◌<◌, ◌+◌, ◌++◌, ℕ, zero, suc, List, [], ◌∷◌, length, pos, take, refl, sym, ap, ◌∙◌, arith}
use Rattle.std.specs.Global.{Global}
use Rattle.std.specs.Prelude.{Vec}
use Rattle.std.proofs.lemmas.List.{map-append, length-map, length-take-le}
use Rattle.sqlite.specs.Values.{bound, bound_value}
use Rattle.sqlite_value.specs.declared.value.ValueRef.{ValueRef}
use Rattle.sqlite_value.specs.declared.value.ValueRef.TheVariants as by_ref
use Rattle.sqlite_value.specs.Value.{owned}
use Rattle.fare_tables.specs.Cells.{int, AreAbove}
use Rattle.fare_opening.specs.Moving.{IsNumbered, AreNumbered}
use Rattle.fare_lists.specs.Lists.{told_list, cells, row_at, rows_from, AreWide}

-- one parameter more is one cell more
pub one_more : (old new : List ValueRef) (v : ValueRef) (place n : ℕ) (numbers : List ℕ) → bound old ≡ row_at place numbers → v ≡ by_ref.Int (pos n) → new ≡ old ++ v ∷ [] → bound new ≡ row_at place (numbers ++ n ∷ [])
one_more old new v place n numbers so_far is pushed =
    ap bound pushed ∙ map-append (λ x. bound_value (owned x)) old (v ∷ []) ∙ ap (λ x. bound old ++ bound_value (owned x) ∷ []) is ∙ ap (λ x. x ++ int n ∷ []) so_far ∙ ap (λ x. int place ∷ x) (sym (map-append int numbers (n ∷ [])))

-- one row more
pub rows_behind : (place : ℕ) (list : List (List ℕ)) (numbers : List ℕ) → rows_from place (list ++ numbers ∷ []) ≡ rows_from place list ++ row_at (place + length list) numbers ∷ []
rows_behind place [] numbers = ap (λ k. row_at k numbers ∷ []) (let e : place ≡ place + 0 = omega arith in e)
rows_behind place (first ∷ list) numbers = ap (λ x. row_at place first ∷ x) (rows_behind (suc place) list numbers ∙ ap (λ k. rows_from (suc place) list ++ row_at k numbers ∷ []) (let e : suc place + length list ≡ place + suc (length list) = omega arith in e))

pub rows_more : (rows : List (Vec ℕ Global)) (k : ℕ) (r : Vec ℕ Global) → k < length rows → take (k + 1) rows ≡ take k rows ++ r ∷ [] → rows_from 1 (told_list (take (k + 1) rows)) ≡ rows_from 1 (told_list (take k rows)) ++ row_at (k + 1) r.items ∷ []
rows_more rows k r low more =
    let size = length-take-le k rows (omega (arith, low)) in
    let told = length-map (take k rows) (λ (r : Vec ℕ Global). r.items) in
    let count : 1 + length (told_list (take k rows)) ≡ k + 1 = omega (arith, low, size, told) in
    ap (λ xs. rows_from 1 (told_list xs)) more ∙ ap (rows_from 1) (map-append (λ (r : Vec ℕ Global). r.items) (take k rows) (r ∷ [])) ∙ rows_behind 1 (told_list (take k rows)) r.items ∙ ap (λ n. rows_from 1 (told_list (take k rows)) ++ row_at n r.items ∷ []) count

-- they are numbered, where the list is as wide as its table
cells_numbered : (columns : ℕ) (numbers : List ℕ) → length numbers ≡ columns → IsNumbered columns (cells numbers)
cells_numbered zero [] long = tt
cells_numbered zero (n ∷ numbers) long = absurd (omega (arith, long))
cells_numbered (suc columns) [] long = absurd (omega (arith, long))
cells_numbered (suc columns) (n ∷ numbers) long = (refl, cells_numbered columns numbers (omega (arith, long)))

rows_above : (low place : ℕ) (list : List (List ℕ)) → low < place → AreAbove low (rows_from place list)
rows_above low place [] less = tt
rows_above low place (numbers ∷ list) less = (less, rows_above low (suc place) list (omega (arith, less)))

pub rows_numbered : (columns place : ℕ) (list : List (List ℕ)) → AreWide columns list → AreNumbered columns (rows_from place list)
rows_numbered columns place [] wide = tt
rows_numbered columns place (numbers ∷ list) wide = ((refl, cells_numbered columns numbers wide.0), rows_above place (suc place) list (omega arith), rows_numbered columns (suc place) list wide.1)
