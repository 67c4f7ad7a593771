-- What has to be computed so that numbers are an order of the first ones; then the tables fit.
use Rattle.std.proofs.Common.{◌≡◌, ◌==◌, ◌&&◌, ◌||◌, ◌<◌, inl, inr, ℕ, zero, suc, nat_lt, Bool, true, false, length, [], ◌∷◌, List, subst, arith}
use Rattle.std.proofs.lemmas.Bool.{cases_Bool}
use Rattle.std.proofs.lemmas.Bool.Decides.{nat_tests}
use Rattle.fare_layout.specs.Layouts.{Fits}
use Rattle.fare_opening.specs.Orders.{made_of}
use Rattle.fare_opening.specs.Parts.{parts_of}
use Rattle.fare_opening.proofs.InOrder.{AreBelow, In}
use Rattle.fare_opening.proofs.Orders.{places_of}
use Rattle.fare_ledger.specs.Orders.{table_of}
use Rattle.fare_ledger.specs.Statements.{third_format, ledger_parts}
use Rattle.fare_ledger.specs.Tables.{third_schema, ledger_schema}
use Rattle.fare_ledger.proofs.AllOrders.{fits_seven, fits_six}

abbrev has : ℕ → List ℕ → Bool
has k [] = false
has k (j ∷ ks) = (j == k) || has k ks

abbrev has_all : ℕ → List ℕ → Bool
has_all zero ks = true
has_all (suc n) ks = has n ks && has_all n ks

abbrev are_below : ℕ → List ℕ → Bool
are_below n [] = true
are_below n (k ∷ ks) = nat_lt k n && are_below n ks

abbrev pub is_order : ℕ → List ℕ → Bool
is_order n ks = are_below n ks && (has_all n ks && (length ks == n))

both_hold : (a b : Bool) → (a && b) ≡ true → (a ≡ true) × (b ≡ true)
both_hold true b is = (cc, is)
both_hold false b is = absurd cc

below_is : (n : ℕ) (ks : List ℕ) → are_below n ks ≡ true → AreBelow n ks
below_is n [] is = tt
below_is n (k ∷ ks) is =
    let first = (both_hold (nat_lt k n) (are_below n ks) is).0 in
    (grind (arith, nat_tests), below_is n ks (both_hold (nat_lt k n) (are_below n ks) is).1)

in_is : (k : ℕ) (ks : List ℕ) → has k ks ≡ true → In ks k
in_is k [] is = absurd cc
in_is k (j ∷ ks) is = elim (cases_Bool (j == k)) [
  | inl here ↦ (let same : j ≡ k = grind (arith, nat_tests) in inl same)
  | inr other ↦ (let later : has k ks ≡ true = rw other at is in inr (in_is k ks later))
]

each_is : (n : ℕ) (ks : List ℕ) → has_all n ks ≡ true → (k : ℕ) → k < n → In ks k
each_is zero ks is k low = absurd (omega (arith, low))
each_is (suc n) ks is k low = elim (cases_Bool (n == k)) [
  | inl here ↦ (let same : n ≡ k = grind (arith, nat_tests) in subst (In ks) same (in_is n ks (both_hold (has n ks) (has_all n ks) is).0))
  | inr other ↦ (let less : k < n = grind (arith, nat_tests) in each_is n ks (both_hold (has n ks) (has_all n ks) is).1 k less)
]

many_is : (n : ℕ) (ks : List ℕ) → (length ks == n) ≡ true → length ks ≡ n
many_is n ks is = grind (arith, nat_tests)

pub all_fit : (ks : List ℕ) → is_order 7 ks ≡ true → Fits ledger_schema ledger_parts.texts (made_of table_of ks) (places_of ledger_parts table_of ks)
all_fit ks is =
    let one = both_hold (are_below 7 ks) (has_all 7 ks && (length ks == 7)) is in
    let two = both_hold (has_all 7 ks) (length ks == 7) one.1 in
    fits_seven ks (below_is 7 ks one.0) (each_is 7 ks two.0) (many_is 7 ks two.1)

pub six_fit : (ks : List ℕ) → is_order 6 ks ≡ true → Fits third_schema (parts_of third_format).texts (made_of table_of ks) (places_of (parts_of third_format) table_of ks)
six_fit ks is =
    let one = both_hold (are_below 6 ks) (has_all 6 ks && (length ks == 6)) is in
    let two = both_hold (has_all 6 ks) (length ks == 6) one.1 in
    fits_six ks (below_is 6 ks one.0) (each_is 6 ks two.0) (many_is 6 ks two.1)
