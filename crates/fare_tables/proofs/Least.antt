-- What a query answers that shows the least row by a column.
use Rattle.std.proofs.Common.{◌≡◌, ◌⊎◌, inl, inr, ℕ, ◌+◌, ◌≤◌, nat_lt, add-one, pos, List, [], ◌∷◌, map, filter, get_or, Bool, false, refl, Equal, sym, ap, subst, ◌∙◌, arith}
use Rattle.std.specs.Ordering.{is_lt, ordering_then}
use Rattle.std.specs.List.{AllByRecursion}
use Rattle.std.specs.List.Sorted.{IsPermutation, IsSorted}
use Rattle.std.proofs.lemmas.List.Sorted.{IsPermutation-sym}
use Rattle.std.proofs.lemmas.Bool.Decides.{nat_tests}
use Rattle.sqlite_trees.proofs.ListLemmas.{all-permutation}
use Rattle.sqlite_rules.specs.Lists.{Has}
use Rattle.sqlite_value.specs.Order.{Row, column, value_cmp}
use Rattle.sqlite_value.proofs.OrderLemmas.{value_cmp-Int}
use Rattle.sqlite.specs.Tree.{Trees}
use Rattle.sqlite_sql.specs.Term.{Term}
use Rattle.sqlite.specs.Query.{IsAnswer, output, page, Output}
use Rattle.sqlite_sql.specs.Query.{output_cmp}
use Rattle.fare_tables.specs.Cells.{nat_in, int}
use Rattle.fare_tables.specs.Queries.{least_query}
use Rattle.fare_tables.proofs.Counting.{found}
use Rattle.fare_tables.proofs.Lists.{empty_permutation, empty_map, all_members, of_map, all_of_map}
use Rattle.fare_tables.proofs.Terms.{shown_as}

abbrev key_in : Output → ℕ
key_in o = nat_in (column o.0 0)

-- the keys stand first, as one cell
abbrev IsKeyed : Output → Type 0
IsKeyed o = o.0 ≡ int (key_in o) ∷ []

-- the member of a list that passes a test and is least by a key is what is shown
pub record IsLeastOf {T : Type 0} (test : T → Bool) (key : T → ℕ) (out : T → Row) (all : List T) (rows : List Row) : Type 0 where
  pub one : T
  pub has : Has (filter test all) one
  pub is : rows ≡ out one ∷ []
  pub least : AllByRecursion (λ x. key one ≤ key x) (filter test all)

module _ (tree : ℕ) (terms project : List Term) (place : ℕ) where
  sorted_tail : (x : Output) (xs : List Output) → IsSorted (output_cmp (least_query tree terms project place)) (x ∷ xs) → IsSorted (output_cmp (least_query tree terms project place)) xs
  sorted_tail x xs sorted k d low high = let h = sorted (k + 1) d (omega arith) (omega arith) in rw (shift (k + 1) d, shift k d) at h
    where
      shift : (k : ℕ) (d : Output) → get_or (x ∷ xs) (k + 1) d ≡ get_or xs k d
      shift k d = rw (add-one k) refl

  keys_less : (b a : ℕ) → is_lt (ordering_then (value_cmp (int b) (int a)) Equal) ≡ nat_lt b a
  keys_less b a = rw (value_cmp-Int (pos b) (pos a)) (grind (arith, nat_tests))

  in_order : (x y : Output) → IsKeyed x → IsKeyed y → is_lt (output_cmp (least_query tree terms project place) y x) ≡ false → key_in x ≤ key_in y
  in_order x y kx ky not_less =
      let less : nat_lt (key_in y) (key_in x) ≡ false = sym (keys_less (key_in y) (key_in x)) ∙ sym (ap (λ (p : Row × Row). is_lt (ordering_then (value_cmp (column p.0 0) (column p.1 0)) Equal)) (λ i. (ky i, kx i))) ∙ not_less in
      grind (arith, nat_tests)

  lowest : (m : ℕ) (x : Output) (xs : List Output) → m ≤ key_in x → IsSorted (output_cmp (least_query tree terms project place)) (x ∷ xs) → IsKeyed x → AllByRecursion IsKeyed xs → AllByRecursion (λ o. m ≤ key_in o) (x ∷ xs)
  lowest m x [] low sorted kx all = (low, tt)
  lowest m x (y ∷ ys) low sorted kx all =
      let step = in_order x y kx all.0 (sorted 0 x (omega arith) (omega arith)) in
      (low, lowest m y ys (omega (arith, low, step)) (sorted_tail x (y ∷ ys) sorted) all.0 all.1)

  module _ {T : Type 0} (test : T → Bool) (key : T → ℕ) (out : T → Row) (params : Row) where
    abbrev shows : T → Output
    shows t = (int (key t) ∷ [], out t)

    keyed : (ts : List T) → AllByRecursion IsKeyed (map shows ts)
    keyed [] = tt
    keyed (t ∷ ts) = (refl, keyed ts)

    ordered_answer : (all : List T) (ordered : List Output) → IsPermutation (map shows (filter test all)) ordered → IsSorted (output_cmp (least_query tree terms project place)) ordered
        → ((page (least_query tree terms project place) params (map (λ (p : Output). p.1) ordered) ≡ []) × (filter test all ≡ [])) ⊎ IsLeastOf test key out all (page (least_query tree terms project place) params (map (λ (p : Output). p.1) ordered))
    ordered_answer all [] same sorted = inl (refl, empty_map shows (filter test all) (empty_permutation _ (IsPermutation-sym _ _ same)))
    ordered_answer all (x ∷ more) same sorted =
        let keys = all-permutation IsKeyed _ _ same (keyed (filter test all)) in
        let least = lowest (key_in x) x more (omega arith) sorted keys.0 keys.1 in
        let back = all-permutation (λ y. key_in x ≤ key_in y) _ _ (IsPermutation-sym _ _ same) least in
        let from = all-permutation (Has (map shows (filter test all))) _ _ same (all_members _) in
        let it = of_map shows (filter test all) x from.0 in
        inr (record {
          one = it.0;
          has = it.1;
          is = ap (λ (p : Output). p.1 ∷ []) it.2;
          least = all_of_map shows (λ y. key it.0 ≤ key_in y) (filter test all) (subst (λ n. AllByRecursion (λ y. n ≤ key_in y) (map shows (filter test all))) (ap key_in it.2) back);
        })

    -- the answer, whichever rows it has
    pub least_answer : (of : Row → T) (Kind : Row → Type 0) (db : Trees) (stored rows : List Row)
        → ((r : Row) → Kind r → output (least_query tree terms project place) (params ∷ r ∷ []) ≡ shows (of r))
        → AllByRecursion Kind stored
        → found tree terms db params ≡ map (λ r. params ∷ r ∷ []) (filter (λ r. test (of r)) stored)
        → IsAnswer (least_query tree terms project place) db params rows
        → ((rows ≡ []) × (filter test (map of stored) ≡ [])) ⊎ IsLeastOf test key out (map of stored) rows
    least_answer of Kind db stored rows each kinds found_is a =
        let q = least_query tree terms project place in
        let kept : a.kept ≡ map shows (filter test (map of stored)) = a.distinct ∙ ap (map (output q)) (a.grouped ∙ found_is) ∙ shown_as of shows test q params Kind each stored kinds in
        let it = ordered_answer (map of stored) a.ordered (subst (λ k. IsPermutation k a.ordered) kept a.same) a.sorted in
        subst (λ xs. ((xs ≡ []) × (filter test (map of stored) ≡ [])) ⊎ IsLeastOf test key out (map of stored) xs) (sym a.shown) it
