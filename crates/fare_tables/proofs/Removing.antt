-- Which rows a DELETE leaves, by the rowids that its query shows.
use Rattle.std.proofs.Common.{◌≡◌, inl, inr, ℕ, ◌<◌, ◌==◌, not, ℤ, pos, List, [], ◌∷◌, map, filter, Bool, true, refl, sym, ap, ◌∙◌, arith}
use Rattle.std.specs.Ordering.{is_eq}
use Rattle.std.specs.List.{AllByRecursion, list_any}
use Rattle.std.specs.List.Sorted.{IsPermutation}
use Rattle.std.proofs.lemmas.List.Sorted.{IsPermutation-sym}
use Rattle.std.proofs.lemmas.Bool.{cases_Bool}
use Rattle.std.proofs.lemmas.Bool.Decides.{nat_tests}
use Rattle.sqlite_trees.proofs.ListLemmas.{all-permutation}
use Rattle.sqlite_rules.specs.Lists.{Has}
use Rattle.sqlite_rules.specs.Edit.{without_all, id_in}
use Rattle.sqlite_rules.specs.Calls.{ids_of}
use Rattle.sqlite_value.specs.Order.{Row, column, value_cmp}
use Rattle.sqlite_value.proofs.OrderLemmas.{value_cmp-Int}
use Rattle.sqlite.specs.Tree.{rowid, has_rowid, without_rowid}
use Rattle.sqlite.specs.Query.{Output}
use Rattle.fare_tables.specs.Cells.{int, id_of, AreAbove, AreRows}
use Rattle.fare_tables.proofs.Lists.{member, all_members, in_filter, of_filter, in_map, of_map, same_filter}
use Rattle.fare_tables.proofs.Terms.{pos_eq}
use Rattle.fare_tables.proofs.Rows.{all_of}

-- a row's own rowid
abbrev pub id_shown : Row → Output
id_shown r = ([], column r 0 ∷ [])

abbrev id_at : Output → ℤ
id_at y = id_in (rowid y.1)

abbrev pub ids_in : List Output → List ℤ
ids_in ordered = ids_of (map (λ (p : Output). p.1) ordered)

filter_all : (rows : List Row) (ids : List ℤ) → without_all rows ids ≡ filter (λ r. not (list_any (λ id. has_rowid id r) ids)) rows
filter_all rows [] = sym (keeps rows)
  where
    keeps : (rows : List Row) → filter (λ r. true) rows ≡ rows
    keeps [] = refl
    keeps (r ∷ rows) = ap (λ more. r ∷ more) (keeps rows)
filter_all rows (id ∷ ids) = filter_all (without_rowid id rows) ids ∙ two rows
  where
    two : (rows : List Row) → filter (λ r. not (list_any (λ i. has_rowid i r) ids)) (filter (λ r. not (has_rowid id r)) rows) ≡ filter (λ r. not (list_any (λ i. has_rowid i r) (id ∷ ids))) rows
    two [] = refl
    two (r ∷ rows) = elim (cases_Bool (has_rowid id r)) [
      | inl gone ↦ rw gone (two rows)
      | inr stays ↦ rw stays (elim (cases_Bool (list_any (λ i. has_rowid i r) ids)) [
        | inl later ↦ rw later (two rows)
        | inr never ↦ rw never (ap (λ more. r ∷ more) (two rows))
      ])
    ]

any_from : (r : Row) (ys : List Output) → list_any (λ id. has_rowid id r) (ids_in ys) ≡ true → (y : Output) × Has ys y × (has_rowid (id_at y) r ≡ true)
any_from r [] h = absurd cc
any_from r (y ∷ ys) h = elim (cases_Bool (has_rowid (id_at y) r)) [
  | inl here ↦ (y, inl refl, here)
  | inr other ↦ (let it = any_from r ys (rw other at h) in (it.0, inr it.1, it.2))
]

any_to : (r : Row) (ys : List Output) (y : Output) → Has ys y → has_rowid (id_at y) r ≡ true → list_any (λ id. has_rowid id r) (ids_in ys) ≡ true
any_to r [] y has is = absurd has
any_to r (x ∷ ys) y (inl here) is = rw (ap (λ z. has_rowid (id_at z) r) (sym here) ∙ is) refl
any_to r (x ∷ ys) y (inr there) is = elim (cases_Bool (has_rowid (id_at x) r)) [
  | inl first ↦ rw first refl
  | inr later ↦ rw later (any_to r ys y there is)
]

above_all : (rows : List Row) (n : ℕ) (x : Row) → AreAbove n rows → Has rows x → n < id_of x
above_all rows n x all has = member (λ y. n < id_of y) rows x all has

module _ (Kind : Row → Type 0) (ids : (r : Row) → Kind r → column r 0 ≡ int (id_of r)) where
  same_id : (rows : List Row) (a b : Row) → AreRows Kind rows → Has rows a → Has rows b → id_of a ≡ id_of b → a ≡ b
  same_id [] a b ok ha hb is = absurd ha
  same_id (r ∷ rows) a b ok (inl ha) (inl hb) is = ha ∙ sym hb
  same_id (r ∷ rows) a b ok (inl ha) (inr hb) is = absurd (let h = above_all rows (id_of r) b ok.1 hb in let e = sym (ap id_of ha) ∙ is in omega (arith, h, e))
  same_id (r ∷ rows) a b ok (inr ha) (inl hb) is = absurd (let h = above_all rows (id_of r) a ok.1 ha in let e = sym (ap id_of hb) ∙ sym is in omega (arith, h, e))
  same_id (r ∷ rows) a b ok (inr ha) (inr hb) is = same_id rows a b ok.2 ha hb is

  kind_of : (rows : List Row) (x : Row) → AreRows Kind rows → Has rows x → Kind x
  kind_of rows x ok has = member Kind rows x (all_of Kind rows ok) has

  has_id : (n : ℕ) (r : Row) → Kind r → has_rowid (pos n) r ≡ (id_of r == n)
  has_id n r ok = ap (λ v. is_eq (value_cmp v (int n))) (ids r ok) ∙ ap is_eq (value_cmp-Int (pos (id_of r)) (pos n)) ∙ pos_eq (id_of r) n

  module _ (test : Row → Bool) (rows : List Row) (ordered : List Output) (ok : AreRows Kind rows) (same : IsPermutation (map id_shown (filter test rows)) ordered) where
    decides : (r : Row) → Has rows r → list_any (λ id. has_rowid id r) (ids_in ordered) ≡ test r
    decides r has = elim (cases_Bool (test r)) [
      | inl goes ↦ (
          let there = member (Has ordered) (map id_shown (filter test rows)) (id_shown r) (all-permutation (Has ordered) _ _ (IsPermutation-sym _ _ same) (all_members ordered)) (in_map id_shown (filter test rows) r (in_filter test rows r has goes)) in
          let kind = kind_of rows r ok has in
          let hit : has_rowid (id_at (id_shown r)) r ≡ true = ap (λ v. has_rowid (id_in v) r) (ids r kind) ∙ has_id (id_of r) r kind ∙ (let e : (id_of r == id_of r) ≡ true = grind (arith, nat_tests) in e) in
          any_to r ordered (id_shown r) there hit ∙ sym goes)
      | inr stays ↦ elim (cases_Bool (list_any (λ id. has_rowid id r) (ids_in ordered))) [
        | inl any ↦ absurd (
            let it = any_from r ordered any in
            let comes = member (Has (map id_shown (filter test rows))) ordered it.0 (all-permutation (Has (map id_shown (filter test rows))) _ _ same (all_members _)) it.1 in
            let from = of_map id_shown (filter test rows) it.0 comes in
            let other = of_filter test rows from.0 from.1 in
            let hit : (id_of r == id_of from.0) ≡ true = sym (has_id (id_of from.0) r (kind_of rows r ok has)) ∙ sym (ap (λ v. has_rowid (id_in v) r) (ids from.0 (kind_of rows from.0 ok other.0))) ∙ sym (ap (λ y. has_rowid (id_at y) r) from.2) ∙ it.2 in
            let equal : id_of r ≡ id_of from.0 = grind (arith, nat_tests) in
            let one : r ≡ from.0 = same_id rows r from.0 ok has other.0 equal in
            let yes : test r ≡ true = ap test one ∙ other.1 in
            let no = stays in cc)
        | inr none ↦ none ∙ sym stays
      ]
    ]

    all_decided : (some : List Row) → AllByRecursion (Has rows) some → AllByRecursion (λ r. not (list_any (λ id. has_rowid id r) (ids_in ordered)) ≡ not (test r)) some
    all_decided [] h = tt
    all_decided (r ∷ some) h = (ap not (decides r h.0), all_decided some h.1)

    pub left_over : without_all rows (ids_in ordered) ≡ filter (λ r. not (test r)) rows
    left_over = filter_all rows (ids_in ordered) ∙ same_filter _ _ rows (all_decided rows (all_members rows))
