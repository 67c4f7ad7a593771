-- The cells of a row, as parameters of a statement.
use Rattle.std.proofs.Common.{◌≡◌, ◌<◌, ◌+◌, ◌++◌, ◌≤◌, ℕ, zero, suc, List, [], ◌∷◌, length, pos, add-one, append-nil, refl, sym, ap, ◌∙◌, arith}
use Rattle.std.specs.Prelude.{drop, slice_index_or}
use Rattle.std.proofs.lemmas.List.{map-append, append_assoc}
use Rattle.std.proofs.Math.ListN.{drop_of_length-le}
use Rattle.std.proofs.Math.Seq.{drop-length}
use Rattle.sqlite.specs.Values.{bound, bound_value}
use Rattle.sqlite_value.specs.declared.value.ValueRef.{ValueRef}
use Rattle.sqlite_value.specs.declared.value.ValueRef.TheVariants as by_ref
use Rattle.sqlite_value.specs.Value.{owned}
use Rattle.sqlite_value.specs.Order.{Row, column}
use Rattle.sqlite_sql.specs.Term.{Env, eval_all}
use Rattle.fare_tables.specs.Cells.{int}
use Rattle.fare_opening.specs.Moving.{cells_from, IsNumbered, copy_of}

-- what a place of a list begins
drop_suc : (row : Row) (at : ℕ) → at < length row → drop at row ≡ column row at ∷ drop (suc at) row
drop_suc [] at low = absurd (omega (arith, low))
drop_suc (v ∷ row) zero low = refl
drop_suc (v ∷ row) (suc at) low = drop_suc row at (omega (arith, low))

pub drop_at : (row : Row) (at : ℕ) → at < length row → drop at row ≡ column row at ∷ drop (at + 1) row
drop_at row at low = drop_suc row at low ∙ ap (λ k. column row at ∷ drop k row) (sym (add-one at))

-- so many columns, or parameters, from a place on
pub cells_in : (slot at n : ℕ) (env : Env) (row : Row) → slice_index_or env slot [] ≡ row → length row ≡ at + n → eval_all (cells_from slot at n) env ≡ drop at row
cells_in slot at zero env row is long = sym (ap (λ k. drop k row) (let e : at ≡ length row = omega (arith, long) in e) ∙ drop-length row)
cells_in slot at (suc n) env row is long =
    let low : at < length row = omega (arith, long) in
    let next : length row ≡ (at + 1) + n = omega (arith, long) in
    let first : column (slice_index_or env slot []) at ≡ column row at = ap (λ (r : Row). column r at) is in
    (λ i. first i ∷ cells_in slot (at + 1) n env row is next i) ∙ sym (drop_at row at low)

-- a number is bound as it is
same_bound : (n : ℕ) (row : Row) (at : ℕ) → IsNumbered n row → at < length row → bound_value (column row at) ≡ column row at
same_bound n [] at ok low = absurd (omega (arith, low))
same_bound zero (v ∷ row) at ok low = absurd ok
same_bound (suc n) (v ∷ row) zero ok low = ap bound_value ok.0 ∙ sym ok.0
same_bound (suc n) (v ∷ row) (suc at) ok low = same_bound n row at ok.1 (omega (arith, low))

pub one_more_cell : (n : ℕ) (row : Row) (at : ℕ) (old mid new : List ValueRef) (v : ValueRef) → IsNumbered n row → at < length row → owned v ≡ column row at → mid ≡ old ++ v ∷ [] → bound new ≡ bound mid ++ drop (at + 1) row
    → bound new ≡ bound old ++ drop at row
one_more_cell n row at old mid new v ok low is pushed later =
    let value : bound_value (owned v) ≡ column row at = ap bound_value is ∙ same_bound n row at ok low in
    let first : bound mid ≡ bound old ++ column row at ∷ [] = ap bound pushed ∙ map-append (λ x. bound_value (owned x)) old (v ∷ []) ∙ ap (λ x. bound old ++ x ∷ []) value in
    later ∙ ap (λ x. x ++ drop (at + 1) row) first ∙ append_assoc (bound old) (column row at ∷ []) (drop (at + 1) row) ∙ ap (λ x. bound old ++ x) (sym (drop_at row at low))

pub no_more_cells : (row : Row) (at : ℕ) (old : List ValueRef) → length row ≤ at → bound old ≡ bound old ++ drop at row
no_more_cells row at old high = sym (ap (λ x. bound old ++ x) (drop_of_length-le row high) ∙ append-nil (bound old))

-- all of them, and a 0
pub and_none : (row : Row) (old mid new : List ValueRef) (v : ValueRef) → old ≡ [] → bound mid ≡ bound old ++ drop 0 row → v ≡ by_ref.Int (pos 0) → new ≡ mid ++ v ∷ [] → bound new ≡ copy_of row
and_none row old mid new v none all is pushed =
    ap bound pushed ∙ map-append (λ x. bound_value (owned x)) mid (v ∷ []) ∙ ap (λ x. bound mid ++ bound_value (owned x) ∷ []) is ∙ ap (λ x. x ++ int 0 ∷ []) (all ∙ ap (λ x. bound x ++ row) none)

pub numbered_long : (n : ℕ) (row : Row) → IsNumbered n row → length row ≡ n
numbered_long zero [] ok = refl
numbered_long zero (v ∷ row) ok = absurd ok
numbered_long (suc n) [] ok = absurd ok
numbered_long (suc n) (v ∷ row) ok = ap suc (numbered_long n row ok.1)
