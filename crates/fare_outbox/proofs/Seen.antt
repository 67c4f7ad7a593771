-- Whether a device was seen, by the rows of devices; and when an outbox is empty.
use Rattle.std.proofs.Common.{◌≡◌, ◌⊎◌, inl, inr, ℕ, ◌==◌, ◌<◌, Bool, true, false, List, [], ◌∷◌, filter, length, None, IsTrue, refl, sym, ap, ◌∙◌, arith}
use Rattle.std.specs.Prelude.{◌↔◌}
use Rattle.std.proofs.lemmas.Bool.{cases_Bool}
use Rattle.std.proofs.lemmas.Bool.Decides.{nat_tests}
use Rattle.sqlite_value.specs.Order.{Row, column}
use Rattle.fare_tables.specs.Cells.{nat_in, id_of, AreAbove, AreRows, held, counted}
use Rattle.fare_store.specs.OutboxWords.{IsEmptyOutbox}
use Rattle.fare_outbox_rows.specs.Held.{Held, IsDevice, upto_of, is_seen}
use Rattle.fare_outbox.specs.Words.{tap_key, stated_key, first_at, itself, count_of, value_in}

-- no row above a rowid has it
above_none : (rows : List Row) (n d : ℕ) → AreAbove n rows → (d < n) ⊎ (d ≡ n) → held rows d ≡ None
above_none [] n d above low = refl
above_none (r ∷ rows) n d above low =
    let here = above.0 in
    let other : (id_of r == d) ≡ false = elim low [
      | inl less ↦ grind (arith, nat_tests)
      | inr same ↦ grind (arith, nat_tests)
    ] in
    rw other (above_none rows n d above.1 low)

zero_of_none : (rows : List Row) (d : ℕ) → filter is_seen rows ≡ [] → upto_of (held rows d) ≡ 0
zero_of_none [] d none = refl
zero_of_none (r ∷ rows) d none = elim (cases_Bool (is_seen r)) [
  | inl seen ↦ absurd (let e = rw seen at none in cc)
  | inr not ↦ elim (cases_Bool (id_of r == d)) [
    | inl here ↦ rw here (grind (arith, nat_tests))
    | inr there ↦ rw there (zero_of_none rows d (rw not at none))
  ]
]

none_of_zero : (rows : List Row) → AreRows IsDevice rows → ((d : ℕ) → upto_of (held rows d) ≡ 0) → filter is_seen rows ≡ []
none_of_zero [] ok zero = refl
none_of_zero (r ∷ rows) ok zero =
    let itself : (id_of r == id_of r) ≡ true = grind (arith, nat_tests) in
    let mine : nat_in (column r 2) ≡ 0 = rw itself at (zero (id_of r)) in
    let not : is_seen r ≡ false = grind (arith, nat_tests) in
    rw not (none_of_zero rows ok.2 (λ d. elim (cases_Bool (id_of r == d)) [
      | inl here ↦ (let same : d ≡ id_of r = grind (arith, nat_tests) in ap upto_of (above_none rows (id_of r) d ok.1 (inr same)))
      | inr there ↦ rw there at (zero d)
    ]))

pub length_none : {X : Type 0} (xs : List X) → length xs ≡ 0 → xs ≡ []
length_none [] is = refl
length_none (x ∷ xs) is = absurd (omega (arith, is))

pub seen_none : (rows : List Row) (n : ℕ) → AreRows IsDevice rows → n ≡ counted (length (filter is_seen rows)) → IsTrue (n == 0) ↔ ((d : ℕ) → upto_of (held rows d) ≡ 0)
seen_none rows n ok is = (
  λ yes d. zero_of_none rows d (length_none (filter is_seen rows) (let n_is : n ≡ 0 = grind (arith, nat_tests) in grind (arith, nat_tests))),
  λ zero. (let none : length (filter is_seen rows) ≡ 0 = ap length (none_of_zero rows ok zero) in grind (arith, nat_tests)),
)

-- an outbox is empty where no device was seen and it holds neither taps nor statements
pub empty_is : (h : Held) (none empty : Bool) (rows statements : ℕ) → (IsTrue none ↔ ((d : ℕ) → h.upto d ≡ 0)) → rows ≡ length h.taps → statements ≡ length h.statements
    → (IsTrue empty ↔ (IsTrue none × (rows ≡ 0) × (statements ≡ 0))) → IsTrue empty ↔ IsEmptyOutbox (value_in h)
empty_is h none empty rows statements sees rows_are statements_are told = (
  λ yes. (let it = told.0 yes in record {
    upto = sees.0 it.0;
    rows = λ o d l. ap (λ ts. first_at tap_key itself ts o d l) (length_none h.taps (sym rows_are ∙ it.1));
    row_count = sym rows_are ∙ it.1;
    stated = λ o d y. ap (λ ss. first_at stated_key count_of ss o d y) (length_none h.statements (sym statements_are ∙ it.2));
    stated_count = sym statements_are ∙ it.2;
  }),
  λ nothing. told.1 (sees.1 nothing.upto, rows_are ∙ nothing.row_count, statements_are ∙ nothing.stated_count),
)
