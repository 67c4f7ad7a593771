-- Rows of one kind in the order of their rowids.
use Rattle.std.proofs.Common.{◌≡◌, ◌⊎◌, inl, inr, ℕ, ◌+◌, ◌<◌, ◌≤◌, ◌==◌, pos, ◌+ℤ◌, List, [], ◌∷◌, ◌++◌, fold, filter, Bool, true, false, if◌then◌else◌, Some, None, refl, sym, ap, subst, ◌∙◌, arith, Less, Equal, Greater}
use Rattle.std.specs.Ordering.{is_eq, int_cmp}
use Rattle.std.specs.List.{AllByRecursion}
use Rattle.std.proofs.lemmas.Bool.{cases_Bool}
use Rattle.std.proofs.lemmas.Bool.Decides.{nat_tests}
use Rattle.sqlite.specs.declared.types.Value.TheVariants.{Int}
use Rattle.sqlite_value.specs.Order.{Row, column, value_cmp}
use Rattle.sqlite_value.proofs.OrderLemmas.{value_cmp-Int}
use Rattle.sqlite.specs.Tree.{put_row, rowid, has_rowid, without_rowid}
use Rattle.sqlite_rules.specs.Edit.{next_rowid, id_in}
use Rattle.sqlite_rules.specs.Lists.{Has}
use Rattle.fare_tables.specs.Cells.{int, id_of, AreAbove, AreRows, held}
use Rattle.fare_tables.proofs.Lists.{of_filter}
use Rattle.fare_tables.proofs.Terms.{pos_eq}

pos_less : (a b : ℕ) → a < b → int_cmp (pos a) (pos b) ≡ Less
pos_less a b low = grind (arith, nat_tests)

pos_greater : (a b : ℕ) → b < a → int_cmp (pos a) (pos b) ≡ Greater
pos_greater a b low = grind (arith, nat_tests)

pos_equal : (a : ℕ) → int_cmp (pos a) (pos a) ≡ Equal
pos_equal a = grind (arith, nat_tests)

three : (a b : ℕ) → (a < b) ⊎ ((a ≡ b) ⊎ (b < a))
three a b = grind arith

abbrev pub next_from : ℕ → List Row → ℕ
next_from n [] = n
next_from n (r ∷ rows) = next_from (id_of r + 1) rows

abbrev pub AreBelow : ℕ → List Row → Type 0
AreBelow n rows = AllByRecursion (λ r. id_of r < n) rows

pub all_of : (Kind : Row → Type 0) (rows : List Row) → AreRows Kind rows → AllByRecursion Kind rows
all_of Kind [] ok = tt
all_of Kind (r ∷ rows) ok = (ok.0, all_of Kind rows ok.2)

-- a kind of row whose rowids are natural numbers
module _ (Kind : Row → Type 0) (ids : (r : Row) → Kind r → column r 0 ≡ int (id_of r)) where
  next_fold : (rows : List Row) (n : ℕ) → AreRows Kind rows → fold (λ _ r. id_in (rowid r) +ℤ pos 1) (pos n) rows ≡ pos (next_from n rows)
  next_fold [] n ok = refl
  next_fold (r ∷ rows) n ok =
      let one : id_in (rowid r) +ℤ pos 1 ≡ pos (id_of r + 1) = ap (λ v. id_in v +ℤ pos 1) (ids r ok.0) in
      rw one (next_fold rows (id_of r + 1) ok.2)

  pub next_is : (rows : List Row) → AreRows Kind rows → next_rowid rows ≡ pos (next_from 1 rows)
  next_is rows ok = next_fold rows 1 ok

  raise : (rows : List Row) (n : ℕ) → AreAbove n rows → AllByRecursion (λ x. n + 1 ≤ id_of x) rows
  raise [] n above = tt
  raise (r ∷ rows) n above = (let h = above.0 in omega arith, raise rows n above.1)

  grows : (rows : List Row) (n : ℕ) → AllByRecursion (λ r. n ≤ id_of r) rows → AreRows Kind rows → n ≤ next_from n rows
  grows [] n above ok = omega arith
  grows (r ∷ rows) n above ok = let more = grows rows (id_of r + 1) (raise rows (id_of r) ok.1) ok.2 in let here = above.0 in omega arith

  pub below_next : (rows : List Row) (n : ℕ) → AreRows Kind rows → AreBelow (next_from n rows) rows
  below_next [] n ok = tt
  below_next (r ∷ rows) n ok = (let h = grows rows (id_of r + 1) (raise rows (id_of r) ok.1) ok.2 in omega arith, below_next rows (id_of r + 1) ok.2)

  cmp_ids : (r : Row) (d : ℕ) → Kind r → value_cmp (rowid r) (int d) ≡ int_cmp (pos (id_of r)) (pos d)
  cmp_ids r d ok = ap (λ v. value_cmp v (int d)) (ids r ok) ∙ value_cmp-Int (pos (id_of r)) (pos d)

  -- a row above all others comes last
  pub put_end : (rows : List Row) (n : ℕ) (c : Row) → AreRows Kind rows → AreBelow n rows → put_row (int n ∷ c) rows ≡ rows ++ (int n ∷ c) ∷ []
  put_end [] n c ok low = refl
  put_end (r ∷ rows) n c ok low = rw (cmp_ids r n ok.0 ∙ pos_less (id_of r) n low.0) (ap (λ xs. r ∷ xs) (put_end rows n c ok.2 low.1))

  above_push : (rows : List Row) (n : ℕ) (r : Row) → AreAbove n rows → n < id_of r → AreAbove n (rows ++ r ∷ [])
  above_push [] n r above low = (low, tt)
  above_push (x ∷ rows) n r above low = (above.0, above_push rows n r above.1 low)

  pub rows_push : (rows : List Row) (r : Row) → AreRows Kind rows → Kind r → AreBelow (id_of r) rows → AreRows Kind (rows ++ r ∷ [])
  rows_push [] r ok is low = (is, tt, tt)
  rows_push (x ∷ rows) r ok is low = (ok.0, above_push rows (id_of x) r ok.1 low.0, rows_push rows r ok.2 is low.1)

  -- ---- one row in place of another

  above_weaker : (rows : List Row) (m n : ℕ) → m ≤ n → AreAbove n rows → AreAbove m rows
  above_weaker [] m n le above = tt
  above_weaker (r ∷ rows) m n le above = (let h = above.0 in omega arith, above_weaker rows m n le above.1)

  above_put : (rows : List Row) (n d : ℕ) (c : Row) → AreRows Kind rows → AreAbove n rows → n < d → AreAbove n (put_row (int d ∷ c) rows)
  above_put [] n d c ok above low = (low, tt)
  above_put (r ∷ rows) n d c ok above low = elim (three (id_of r) d) [
    | inl less ↦ rw (cmp_ids r d ok.0 ∙ pos_less (id_of r) d less) (above.0, above_put rows n d c ok.2 above.1 low)
    | inr (inl same) ↦ rw (cmp_ids r d ok.0 ∙ ap (λ a. int_cmp (pos a) (pos d)) same ∙ pos_equal d) (low, above.1)
    | inr (inr more) ↦ rw (cmp_ids r d ok.0 ∙ pos_greater (id_of r) d more) (low, above)
  ]

  pub rows_put : (rows : List Row) (d : ℕ) (c : Row) → Kind (int d ∷ c) → AreRows Kind rows → AreRows Kind (put_row (int d ∷ c) rows)
  rows_put [] d c is ok = (is, tt, tt)
  rows_put (r ∷ rows) d c is ok = elim (three (id_of r) d) [
    | inl less ↦ rw (cmp_ids r d ok.0 ∙ pos_less (id_of r) d less) (ok.0, above_put rows (id_of r) d c ok.2 ok.1 less, rows_put rows d c is ok.2)
    | inr (inl same) ↦ rw (cmp_ids r d ok.0 ∙ ap (λ a. int_cmp (pos a) (pos d)) same ∙ pos_equal d) (is, above_weaker rows d (id_of r) (omega (arith, same)) ok.1, ok.2)
    | inr (inr more) ↦ rw (cmp_ids r d ok.0 ∙ pos_greater (id_of r) d more) (is, (more, above_weaker rows d (id_of r) (omega (arith, more)) ok.1), ok)
  ]

  if_if : {X : Type 0} (a b : Bool) (x y z : X) → (a ≡ true → b ≡ false) → (if a then x else (if b then y else z)) ≡ (if b then y else (if a then x else z))
  if_if true true x y z apart = absurd (let e = apart refl in cc)
  if_if true false x y z apart = refl
  if_if false b x y z apart = refl

  pub held_put : (rows : List Row) (d : ℕ) (c : Row) (x : ℕ) → AreRows Kind rows → held (put_row (int d ∷ c) rows) x ≡ (if d == x then Some (int d ∷ c) else held rows x)
  held_put [] d c x ok = refl
  held_put (r ∷ rows) d c x ok = elim (three (id_of r) d) [
    | inl less ↦ rw (cmp_ids r d ok.0 ∙ pos_less (id_of r) d less) (
        ap (λ n. if id_of r == x then Some r else n) (held_put rows d c x ok.2) ∙ if_if (id_of r == x) (d == x) (Some r) (Some (int d ∷ c)) (held rows x) (λ e. grind (arith, nat_tests)))
    | inr (inl same) ↦ rw (cmp_ids r d ok.0 ∙ ap (λ a. int_cmp (pos a) (pos d)) same ∙ pos_equal d) (elim (cases_Bool (d == x)) [
      | inl here ↦ rw here refl
      | inr there ↦ (let no : (id_of r == x) ≡ false = grind (arith, nat_tests) in rw (there, no) refl)
    ])
    | inr (inr more) ↦ rw (cmp_ids r d ok.0 ∙ pos_greater (id_of r) d more) refl
  ]

  has_id : (r : Row) (d : ℕ) → Kind r → has_rowid (pos d) r ≡ (id_of r == d)
  has_id r d ok = ap is_eq (cmp_ids r d ok) ∙ pos_eq (id_of r) d

  above_without : (rows : List Row) (n d : ℕ) → AreAbove n rows → AreAbove n (without_rowid (pos d) rows)
  above_without [] n d above = tt
  above_without (r ∷ rows) n d above = elim (cases_Bool (has_rowid (pos d) r)) [
    | inl gone ↦ rw gone (above_without rows n d above.1)
    | inr stays ↦ rw stays (above.0, above_without rows n d above.1)
  ]

  pub rows_without : (rows : List Row) (d : ℕ) → AreRows Kind rows → AreRows Kind (without_rowid (pos d) rows)
  rows_without [] d ok = tt
  rows_without (r ∷ rows) d ok = elim (cases_Bool (has_rowid (pos d) r)) [
    | inl gone ↦ rw gone (rows_without rows d ok.2)
    | inr stays ↦ rw stays (ok.0, above_without rows (id_of r) d ok.1, rows_without rows d ok.2)
  ]

  held_without : (rows : List Row) (d x : ℕ) → AreRows Kind rows → (d == x) ≡ false → held (without_rowid (pos d) rows) x ≡ held rows x
  held_without [] d x ok other = refl
  held_without (r ∷ rows) d x ok other = elim (cases_Bool (has_rowid (pos d) r)) [
    | inl gone ↦ rw gone (
        let is = sym (has_id r d ok.0) ∙ gone in
        let no : (id_of r == x) ≡ false = grind (arith, nat_tests) in
        rw no (held_without rows d x ok.2 other))
    | inr stays ↦ rw stays (ap (λ n. if id_of r == x then Some r else n) (held_without rows d x ok.2 other))
  ]

  -- the row is put in place of the one with its rowid
  pub held_replaced : (rows : List Row) (d : ℕ) (c : Row) (x : ℕ) → AreRows Kind rows → held (put_row (int d ∷ c) (without_rowid (pos d) rows)) x ≡ (if d == x then Some (int d ∷ c) else held rows x)
  held_replaced rows d c x ok =
      held_put (without_rowid (pos d) rows) d c x (rows_without rows d ok) ∙ elim (cases_Bool (d == x)) [
        | inl same ↦ rw same refl
        | inr other ↦ rw other (held_without rows d x ok other)
      ]

  none_above : (rows : List Row) (d n : ℕ) → d ≤ n → AreAbove n rows → filter (λ r. id_of r == d) rows ≡ []
  none_above [] d n low above = refl
  none_above (r ∷ rows) d n low above =
      let other : (id_of r == d) ≡ false = let h = above.0 in grind (arith, nat_tests) in
      rw other (none_above rows d n low above.1)

  -- no row has the rowid, or one
  pub held_one : (rows : List Row) (d : ℕ) → AreRows Kind rows → ((filter (λ r. id_of r == d) rows ≡ []) × (held rows d ≡ None)) ⊎ ((r : Row) × Kind r × (filter (λ r. id_of r == d) rows ≡ r ∷ []) × (held rows d ≡ Some r))
  held_one [] d ok = inl (refl, refl)
  held_one (r ∷ rows) d ok = elim (cases_Bool (id_of r == d)) [
    | inl same ↦ (
        let at : id_of r ≡ d = grind (arith, nat_tests) in
        let none = none_above rows d (id_of r) (omega (arith, at)) ok.1 in
        inr (r, ok.0, rw (same, none) refl, rw same refl))
    | inr other ↦ rw other (held_one rows d ok.2)
  ]

  above_filter : (p : Row → Bool) (rows : List Row) (n : ℕ) → AreAbove n rows → AreAbove n (filter p rows)
  above_filter p [] n above = tt
  above_filter p (r ∷ rows) n above = elim (cases_Bool (p r)) [
    | inl kept ↦ rw kept (above.0, above_filter p rows n above.1)
    | inr left ↦ rw left (above_filter p rows n above.1)
  ]

  pub rows_filter : (p : Row → Bool) (rows : List Row) → AreRows Kind rows → AreRows Kind (filter p rows)
  rows_filter p [] ok = tt
  rows_filter p (r ∷ rows) ok = elim (cases_Bool (p r)) [
    | inl kept ↦ rw kept (ok.0, above_filter p rows (id_of r) ok.1, rows_filter p rows ok.2)
    | inr left ↦ rw left (rows_filter p rows ok.2)
  ]

  -- a new row gets the next rowid, and comes last
  pub appended : (rows now : List Row) (c : Row) → AreRows Kind rows → ((n : ℕ) → Kind (int n ∷ c)) → now ≡ put_row (Int (next_rowid rows) ∷ c) rows → AreRows Kind now × (now ≡ rows ++ (int (next_from 1 rows) ∷ c) ∷ [])
  appended rows now c ok is put =
      let low = below_next rows 1 ok in
      let end : now ≡ rows ++ (int (next_from 1 rows) ∷ c) ∷ [] = put ∙ ap (λ n. put_row (Int n ∷ c) rows) (next_is rows ok) ∙ put_end rows (next_from 1 rows) c ok low in
      (subst (AreRows Kind) (sym end) (rows_push rows (int (next_from 1 rows) ∷ c) ok (is (next_from 1 rows)) low), end)

-- ---- the one row of an id

pub has_none : (rows : List Row) (x : Row) (d : ℕ) → Has rows x → id_of x ≡ d → filter (λ r. id_of r == d) rows ≡ [] → ⊥
has_none [] x d has is none = absurd has
has_none (r ∷ rows) x d (inl here) is none = let same : (id_of r == d) ≡ true = let e = ap id_of (sym here) ∙ is in grind (arith, nat_tests) in absurd (let e = rw same at none in cc)
has_none (r ∷ rows) x d (inr there) is none = elim (cases_Bool (id_of r == d)) [
  | inl same ↦ absurd (let e = rw same at none in cc)
  | inr other ↦ has_none rows x d there is (rw other at none)
]

pub one_id : (rows : List Row) (r : Row) (d : ℕ) → filter (λ y. id_of y == d) rows ≡ r ∷ [] → id_of r ≡ d
one_id rows r d is = let it = (of_filter (λ y. id_of y == d) rows r (subst (λ ys. Has ys r) (sym is) (inl refl))).1 in grind (arith, nat_tests)
