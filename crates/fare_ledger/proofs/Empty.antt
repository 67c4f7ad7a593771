-- When a ledger is empty, by how many rows its tables have.
use Rattle.std.proofs.Common.{◌≡◌, ◌⊎◌, inl, inr, ℕ, ◌==◌, ◌<◌, ◌||◌, nat_lt, Bool, true, false, List, [], ◌∷◌, filter, length, None, IsTrue, refl, sym, ap, ◌∙◌, arith}
use Rattle.std.specs.Prelude.{◌↔◌, is_some}
use Rattle.std.proofs.lemmas.Bool.{cases_Bool}
use Rattle.std.proofs.lemmas.Bool.Decides.{nat_tests}
use Rattle.sqlite_value.specs.Order.{Row, column}
use Rattle.fare_tables.specs.Cells.{nat_in, id_of, AreAbove, AreRows, held, counted}
use Rattle.fare_store.specs.LedgerWords.{LedgerValue, IsEmptyLedger}
use Rattle.fare_ledger.specs.Held.{Held, IsLane, lane_of, IsSince, since_of, stated_in, is_begun, is_later}
use Rattle.fare_ledger.specs.Words.{shown_in, value_in, FitTogether, AreUnbegun, AreUnstated, AreUnretired, AreUncut}
use Rattle.fare_ledger.proofs.Days.{none_stated}
use Rattle.fare_ledger.proofs.Stored.{shown_length}

-- no row above a rowid has it
above_none : (rows : List Row) (n d : ℕ) → AreAbove n rows → (d < n) ⊎ (d ≡ n) → held rows d ≡ None
above_none [] n d above low = refl
above_none (r ∷ rows) n d above low =
    let here = above.0 in
    let other : (id_of r == d) ≡ false = elim low [
      | inl less ↦ grind (arith, nat_tests)
      | inr same ↦ grind (arith, nat_tests)
    ] in
    rw other (above_none rows n d above.1 low)

-- both numbers are 0
abbrev IsNothing : List Row → ℕ → Type 0
IsNothing rows d = ((lane_of (held rows d)).taken ≡ 0) × ((lane_of (held rows d)).closed ≡ 0)

not_begun : (k c : ℕ) → (nat_lt 0 k || nat_lt 0 c) ≡ false → (k ≡ 0) × (c ≡ 0)
not_begun k c is = elim (cases_Bool (nat_lt 0 k)) [
  | inl high ↦ absurd (let e : true ≡ false = rw high at is in cc)
  | inr low ↦ elim (cases_Bool (nat_lt 0 c)) [
    | inl high ↦ absurd (let e : true ≡ false = rw (low, high) at is in cc)
    | inr too ↦ (grind (arith, nat_tests), grind (arith, nat_tests))
  ]
]

zero_of_none : (rows : List Row) (d : ℕ) → filter is_begun rows ≡ [] → IsNothing rows d
zero_of_none [] d none = (refl, refl)
zero_of_none (r ∷ rows) d none = elim (cases_Bool (is_begun r)) [
  | inl begun ↦ absurd (let e = rw begun at none in cc)
  | inr not ↦ elim (cases_Bool (id_of r == d)) [
    | inl here ↦ rw here (not_begun (nat_in (column r 2)) (nat_in (column r 3)) not)
    | inr there ↦ rw there (zero_of_none rows d (rw not at none))
  ]
]

none_of_zero : (rows : List Row) → AreRows IsLane rows → ((d : ℕ) → IsNothing rows d) → filter is_begun rows ≡ []
none_of_zero [] ok zero = refl
none_of_zero (r ∷ rows) ok zero =
    let itself : (id_of r == id_of r) ≡ true = grind (arith, nat_tests) in
    let mine : (nat_in (column r 2) ≡ 0) × (nat_in (column r 3) ≡ 0) = rw itself at (zero (id_of r)) in
    let first : nat_lt 0 (nat_in (column r 2)) ≡ false = let e = mine.0 in grind (arith, nat_tests) in
    let second : nat_lt 0 (nat_in (column r 3)) ≡ false = let e = mine.1 in grind (arith, nat_tests) in
    rw (first, second) (none_of_zero rows ok.2 (λ d. elim (cases_Bool (id_of r == d)) [
      | inl here ↦ (
          let same : d ≡ id_of r = grind (arith, nat_tests) in
          let gone = above_none rows (id_of r) d ok.1 (inr same) in
          (ap (λ o. (lane_of o).taken) gone, ap (λ o. (lane_of o).closed) gone))
      | inr there ↦ (let e : IsNothing rows d = rw there at (zero d) in e)
    ]))

length_none : {X : Type 0} (xs : List X) → length xs ≡ 0 → xs ≡ []
length_none [] is = refl
length_none (x ∷ xs) is = absurd (omega (arith, is))

-- a count of 0 is exact
zero_counted : (n size : ℕ) → n ≡ counted size → IsTrue (n == 0) ↔ (size ≡ 0)
zero_counted n size is = (
  λ none. (let n_is : n ≡ 0 = grind (arith, nat_tests) in grind (arith, nat_tests)),
  λ zero. grind (arith, nat_tests),
)

pub unbegun : (o start : ℕ) (known : ℕ → Bool) (h : Held) (rows : List Row) (n : ℕ) → FitTogether o start h → h.lanes ≡ (λ d. lane_of (held rows d)) → AreRows IsLane rows → n ≡ counted (length (filter is_begun rows)) → IsTrue (n == 0) ↔ AreUnbegun (value_in o start known h)
unbegun o start known h rows n fit lanes ok is =
    let zero = zero_counted n (length (filter is_begun rows)) is in (
      λ none. (
          let nothing = λ (d : ℕ). zero_of_none rows d (length_none (filter is_begun rows) (zero.0 none)) in
          record {
            taken = λ d. length_none (shown_in o h d) (shown_length o h d (fit.counted d) ∙ ap (λ l. (l d).taken) lanes ∙ (nothing d).0);
            closed = λ d. ap (λ l. (l d).closed) lanes ∙ (nothing d).1;
          }),
      λ empty. zero.1 (ap length (none_of_zero rows ok (λ d. (
        ap (λ l. (l d).taken) (sym lanes) ∙ sym (shown_length o h d (fit.counted d)) ∙ ap length (empty.taken d),
        ap (λ l. (l d).closed) (sym lanes) ∙ empty.closed d,
      )))),
    )

-- all is held of every device where no row has a later day than day 0
from_none : (rows : List Row) (d : ℕ) → filter is_later rows ≡ [] → since_of (held rows d) ≡ 0
from_none [] d none = refl
from_none (r ∷ rows) d none = elim (cases_Bool (is_later r)) [
  | inl later ↦ absurd (let e = rw later at none in cc)
  | inr not ↦ elim (cases_Bool (id_of r == d)) [
    | inl here ↦ rw here (let e : nat_in (column r 2) ≡ 0 = grind (arith, nat_tests) in e)
    | inr there ↦ rw there (from_none rows d (rw not at none))
  ]
]

none_later : (rows : List Row) → AreRows IsSince rows → ((d : ℕ) → since_of (held rows d) ≡ 0) → filter is_later rows ≡ []
none_later [] ok zero = refl
none_later (r ∷ rows) ok zero =
    let itself : (id_of r == id_of r) ≡ true = grind (arith, nat_tests) in
    let mine : nat_in (column r 2) ≡ 0 = rw itself at (zero (id_of r)) in
    let first : nat_lt 0 (nat_in (column r 2)) ≡ false = grind (arith, nat_tests) in
    rw first (none_later rows ok.2 (λ d. elim (cases_Bool (id_of r == d)) [
      | inl here ↦ (
          let same : d ≡ id_of r = grind (arith, nat_tests) in
          ap since_of (above_none rows (id_of r) d ok.1 (inr same)))
      | inr there ↦ (let e : since_of (held rows d) ≡ 0 = rw there at (zero d) in e)
    ]))

pub uncut : (o start : ℕ) (known : ℕ → Bool) (h : Held) (rows : List Row) (n : ℕ) → h.since ≡ (λ d. since_of (held rows d)) → AreRows IsSince rows → n ≡ counted (length (filter is_later rows)) → IsTrue (n == 0) ↔ AreUncut (value_in o start known h)
uncut o start known h rows n since ok is =
    let zero = zero_counted n (length (filter is_later rows)) is in (
      λ none d. ap (λ f. f d) since ∙ from_none rows d (length_none (filter is_later rows) (zero.0 none)),
      λ empty. zero.1 (ap length (none_later rows ok (λ d. ap (λ f. f d) (sym since) ∙ empty d))),
    )

pub unstated : (o start : ℕ) (known : ℕ → Bool) (h : Held) (n : ℕ) → n ≡ counted (length h.statements) → IsTrue (n == 0) ↔ AreUnstated (value_in o start known h)
unstated o start known h n is =
    let zero = zero_counted n (length h.statements) is in (
      λ none d y. ap (λ ss. stated_in ss d y) (length_none h.statements (zero.0 none)),
      λ empty. zero.1 (ap length (none_stated h.statements empty)),
    )

-- no lane is retired where there is no row of one
some_of : (rows : List Row) → ((d : ℕ) → is_some (held rows d) ≡ false) → rows ≡ []
some_of [] none = refl
some_of (r ∷ rows) none = absurd (
    let itself : (id_of r == id_of r) ≡ true = grind (arith, nat_tests) in
    let e : true ≡ false = rw itself at (none (id_of r)) in cc)

pub unretired : (o start : ℕ) (known : ℕ → Bool) (h : Held) (rows : List Row) (n : ℕ) → h.retired ≡ (λ d. is_some (held rows d)) → n ≡ counted (length rows) → IsTrue (n == 0) ↔ AreUnretired (value_in o start known h)
unretired o start known h rows n retired is =
    let zero = zero_counted n (length rows) is in (
      λ none d. ap (λ f. f d) retired ∙ ap (λ rs. is_some (held rs d)) (length_none rows (zero.0 none)),
      λ empty. zero.1 (ap length (some_of rows (λ d. ap (λ f. f d) (sym retired) ∙ empty d))),
    )

-- a ledger is empty where all four tables are
pub empty_is : (v : LedgerValue) (x y z t empty : Bool) → (IsTrue x ↔ AreUnbegun v) → (IsTrue y ↔ AreUncut v) → (IsTrue z ↔ AreUnstated v) → (IsTrue t ↔ AreUnretired v) → (IsTrue empty ↔ (IsTrue x × IsTrue y × IsTrue z × IsTrue t)) → IsTrue empty ↔ IsEmptyLedger v
empty_is v x y z t empty begun cut stated retired told = (
  λ all. (let it = told.0 all in let none = begun.0 it.0 in record { taken = none.taken; stated = stated.0 it.2; closed = none.closed; retired = retired.0 it.3; from = cut.0 it.1 }),
  λ nothing. told.1 (begun.1 (record { taken = nothing.taken; closed = nothing.closed }), cut.1 nothing.from, stated.1 nothing.stated, retired.1 nothing.retired),
)
