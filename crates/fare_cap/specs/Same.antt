-- When two bills are the same: their rows are, one by one, and their totals.
use Rattle.std.specs.Prelude.{Bool, nat_eq}
use Rattle.std.specs.Ordering.{eq_of_both, on}
use Rattle.std.specs.Cmp.{IsEquivalence}
use Rattle.std.specs.Cmp.Lexicographic.{pointwise}
use Rattle.std.proofs.lemmas.Cmp.{and_equiv, on_equiv, nat_eq_equiv, lists_equiv}
use Rattle.fare_cap.specs.Values.{AccountValue}
use Rattle.fare_cap.specs.declared.row.Row.{Row}
use Rattle.fare_cap.specs.Bills.{BillValue}

abbrev pub same_account : AccountValue → AccountValue → Bool
same_account = eq_of_both (on (λ a. a.product) nat_eq) (on (λ a. a.token) nat_eq)

abbrev pub same_row : Row → Row → Bool
same_row = eq_of_both (on (λ r. r.account) same_account) (eq_of_both (on (λ r. r.rides) nat_eq) (on (λ r. r.amount) nat_eq))

abbrev pub same_bill : BillValue → BillValue → Bool
same_bill = eq_of_both (on (λ b. b.rows) (pointwise same_row)) (on (λ b. b.total) nat_eq)

-- that is an equivalence
same_account_equiv : IsEquivalence same_account
same_account_equiv = and_equiv (on_equiv (λ (a : AccountValue). a.product) nat_eq_equiv) (on_equiv (λ (a : AccountValue). a.token) nat_eq_equiv)

same_row_equiv : IsEquivalence same_row
same_row_equiv = and_equiv (on_equiv (λ (r : Row). r.account) same_account_equiv) (and_equiv (on_equiv (λ (r : Row). r.rides) nat_eq_equiv) (on_equiv (λ (r : Row). r.amount) nat_eq_equiv))

pub same_bill_equiv : IsEquivalence same_bill
same_bill_equiv = and_equiv (on_equiv (λ (b : BillValue). b.rows) (lists_equiv same_row_equiv)) (on_equiv (λ (b : BillValue). b.total) nat_eq_equiv)
