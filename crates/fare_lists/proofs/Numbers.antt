-- The numbers of rows.
use Rattle.std.proofs.Common.{◌≡◌, ◌≢◌, ◌<◌, ◌≤◌, ◌+◌, ◌-◌, ◌++◌, ◌^◌, ℕ, zero, suc, List, [], ◌∷◌, length, map, take, drop, get_or, sym, ap, subst, ◌∙◌, arith}
use Rattle.std.specs.Global.{Global}
use Rattle.std.specs.List.{AllByRecursion}
use Rattle.std.specs.Prelude.{Vec}
use Rattle.std.proofs.lemmas.List.{map-append, take_more, take_all, length-drop}
use Rattle.sqlite.specs.declared.types.Value.TheVariants.{Null}
use Rattle.sqlite_value.specs.Order.{Row, column}
use Rattle.fare_tables.specs.Cells.{int}
use Rattle.fare_lists.specs.Lists.{told_list, cells, behind_ids, HasNumbers, AreNumbers}

-- one cell more
pub one_more_cell : (row : Row) (at n : ℕ) (numbers : List ℕ) → 1 ≤ at → at < length row → take (at - 1) (drop 1 row) ≡ cells numbers → column row at ≡ int n → take (at + 1 - 1) (drop 1 row) ≡ cells (numbers ++ n ∷ [])
one_more_cell [] at n numbers past low so_far is = absurd (omega (arith, low))
one_more_cell (v ∷ row) zero n numbers past low so_far is = absurd (omega (arith, past))
one_more_cell (v ∷ row) (suc k) n numbers past low so_far is =
    ap (λ j. take j row) (let e : suc k + 1 - 1 ≡ k + 1 = omega arith in e) ∙ take_more row k Null (omega (arith, low)) ∙ ap (λ x. take k row ++ x ∷ []) is ∙ ap (λ x. x ++ int n ∷ []) (ap (λ j. take j row) (let e : k ≡ suc k - 1 = omega arith in e) ∙ so_far) ∙ sym (map-append int numbers (n ∷ []))

pub all_cells : (row : Row) (at : ℕ) (numbers : List ℕ) → length row ≤ at → take (at - 1) (drop 1 row) ≡ cells numbers → drop 1 row ≡ cells numbers
all_cells row at numbers past is = let long = length-drop 1 row in sym (take_all (at - 1) (drop 1 row) (omega (arith, long, past))) ∙ is

-- a cell that is no number
number_there : (row : Row) (k : ℕ) (numbers : List ℕ) → row ≡ cells numbers → AllByRecursion (λ n. n < 2 ^ 32) numbers → k < length row → (n : ℕ) × (n < 2 ^ 32) × (column row k ≡ int n)
number_there [] k numbers is small low = absurd (omega (arith, low))
number_there (v ∷ row) k [] is small low = absurd cc
number_there (v ∷ row) zero (n ∷ numbers) is small low = (n, small.0, ap (λ (r : Row). column r 0) is)
number_there (v ∷ row) (suc k) (n ∷ numbers) is small low = number_there row k numbers (ap (drop 1) is) small.1 (omega (arith, low))

pub no_number : (row : Row) (at : ℕ) → 1 ≤ at → at < length row → ((n : ℕ) → n < 2 ^ 32 → column row at ≢ int n) → ¬ HasNumbers row
no_number [] at past low none it = omega (arith, low)
no_number (v ∷ row) zero past low none it = omega (arith, past)
no_number (v ∷ row) (suc k) past low none it = let found = number_there row k it.numbers it.are it.small (omega (arith, low)) in none found.0 found.1 found.2

-- one row more
pub one_more_row : (rows : List Row) (k : ℕ) (r : Row) (list : List (Vec ℕ Global)) (v : Vec ℕ Global) → take (k + 1) rows ≡ take k rows ++ r ∷ [] → behind_ids (take k rows) ≡ map cells (told_list list) → drop 1 r ≡ cells v.items → behind_ids (take (k + 1) rows) ≡ map cells (told_list (list ++ v ∷ []))
one_more_row rows k r list v more so_far is =
    ap behind_ids more ∙ map-append (drop 1) (take k rows) (r ∷ []) ∙ ap (λ x. behind_ids (take k rows) ++ x ∷ []) is ∙ ap (λ x. x ++ cells v.items ∷ []) so_far
    ∙ sym (map-append cells (told_list list) (v.items ∷ [])) ∙ ap (map cells) (sym (map-append (λ (r : Vec ℕ Global). r.items) list (v ∷ [])))

-- a row that has none
pub no_numbers : (rows : List Row) (k : ℕ) (r d : Row) → k < length rows → r ≡ get_or rows k d → ¬ HasNumbers r → ¬ AreNumbers rows
no_numbers [] k r d low is none all = omega (arith, low)
no_numbers (x ∷ rows) zero r d low is none all = none (subst HasNumbers (sym is) all.0)
no_numbers (x ∷ rows) (suc k) r d low is none all = no_numbers rows k r d (omega (arith, low)) is none all.1
