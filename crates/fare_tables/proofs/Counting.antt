-- What count(*) answers.
use Rattle.std.proofs.Common.{◌≡◌, ℕ, List, [], ◌∷◌, map, length, Option, Some, refl, sym, ap, subst, ◌∙◌, arith}
use Rattle.std.specs.List.{AllZip, list_all}
use Rattle.std.specs.List.Sorted.{IsPermutation}
use Rattle.std.proofs.lemmas.List.{length-map}
use Rattle.std.proofs.lemmas.List.Sorted.{length_permutation}
use Rattle.sqlite.specs.declared.types.Value.TheVariants.{Null}
use Rattle.sqlite_value.specs.Order.{Row, column}
use Rattle.sqlite_sql.specs.Term.{Term, Env, eval, holds, lit}
use Rattle.sqlite_sql.specs.Group.{value_over, IsSummary}
use Rattle.sqlite.specs.Tree.{Trees}
use Rattle.sqlite.specs.Query.{IsAnswer, matches_as, inner, end, output, page, Output}
use Rattle.sqlite.proofs.Callers.{one_permutation}
use Rattle.fare_tables.specs.Cells.{int, counted}
use Rattle.fare_tables.specs.Queries.{count_rows, as_one, count_query}

one_zip : {A B : Type 0} (P : A → B → Type 0) (x : A) (ys : List B) → AllZip P (x ∷ []) ys → (y : B) × (ys ≡ y ∷ []) × P x y
one_zip P x [] h = absurd h
one_zip P x (y ∷ []) h = (y, refl, h.0)
one_zip P x (y ∷ z ∷ more) h = absurd h.1

same_some : {A : Type 0} {a b : A} → ◌≡◌ {A = Option A} (Some a) (Some b) → a ≡ b
same_some e = cc

abbrev pub found : ℕ → List Term → Trees → Row → List Env
found tree filter db params = matches_as Null db filter (inner tree end) (params ∷ [])

pub count_answer : (tree : ℕ) (filter : List Term) (db : Trees) (params : Row) (rows : List Row) → IsAnswer (count_query tree filter) db params rows → rows ≡ (int (counted (length (found tree filter db params))) ∷ []) ∷ []
count_answer tree filter db params rows a =
    let s = a.grouped in
    let order = s.grouping.0 in
    let row = one_zip (IsSummary as_one) order s.rows (subst (λ gs. AllZip (IsSummary as_one) gs s.rows) s.grouping.2 s.summaries) in
    let it = row.2 in
    let value = one_zip (λ agg v. value_over order agg ≡ Some v) count_rows it.0 it.1 in
    let len : length (map (eval (lit Null)) order) ≡ length (found tree filter db params) = let same = length_permutation (found tree filter db params) order s.grouping.1 in length-map order (eval (lit Null)) ∙ (omega (arith, same)) in
    let is : value.0 ≡ int (counted (length (found tree filter db params))) = sym (same_some value.2) ∙ ap (λ n. int (counted n)) len in
    let cell : column row.0 0 ≡ int (counted (length (found tree filter db params))) = ap (λ r. column r 0) (it.2 ∙ value.1) ∙ is in
    let staged : a.staged ≡ (params ∷ row.0 ∷ []) ∷ [] = s.having ∙ ap (λ rs. Rattle.std.proofs.Common.filter (λ env. list_all (holds env) []) (map (λ r. params ∷ r ∷ []) rs)) row.1 in
    let o : Output = ([], column row.0 0 ∷ []) in
    let only : a.kept ≡ o ∷ [] = a.distinct ∙ ap (map (output (count_query tree filter))) staged in
    let ordered : a.ordered ≡ o ∷ [] = one_permutation o a.ordered (subst (λ k. IsPermutation k a.ordered) only a.same) in
    let shown : rows ≡ (column row.0 0 ∷ []) ∷ [] = a.shown ∙ ap (λ xs. page (count_query tree filter) params (map (λ (p : Output). p.1) xs)) ordered in
    shown ∙ ap (λ v. (v ∷ []) ∷ []) cell
