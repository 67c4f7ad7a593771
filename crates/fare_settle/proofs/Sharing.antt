-- The operators share the bill: their amounts are sums of charges, and an account's charges of a day telescope.
use Rattle.std.proofs.Common.{◌≡◌, ℕ, ◌+◌, ◌*◌, ◌≤◌, min, Bool, true, false, cond, ◌&&◌, ◌==◌, nat_eq, nat_le, List, [], ◌∷◌, ◌++◌, filter, sum_by, Option, Some, None, is_some, unwrap_or, refl, sym, ◌∙◌, ap, subst, eqb-true, zero-add, arith}
use Rattle.std.specs.Prelude.{IfSome, IsSome}
use Rattle.std.specs.List.{AllByRecursion, list_any}
use Rattle.std.proofs.lemmas.Bool.{and_parts}
use Rattle.std.proofs.lemmas.Nat.{mul-le}
use Rattle.std.proofs.lemmas.List.{append_assoc, append-nil}
use Rattle.std.proofs.lemmas.List.Sums.{sum_by-cons}
use Rattle.std.proofs.lemmas.List.Elements.{filter-append}
use Rattle.fare_record.specs.Values.{RecordValue}
use Rattle.fare_scheme.specs.Values.{SchemeValue}
use Rattle.fare_scheme.specs.Facts.{IsScheme}
use Rattle.fare_scheme.specs.Words.{owner_of, operator_of, position_of_operator}
use Rattle.fare_scheme.proofs.Known.{operator_is_known, some_position}
use Rattle.fare_cap.specs.Values.{AccountValue}
use Rattle.fare_cap.specs.Order.{in_order}
use Rattle.fare_cap.specs.Accounts.{account_of, same_account, counts, counted_on, part_of, accounts_of}
use Rattle.fare_cap.specs.Windows.{paid}
use Rattle.fare_cap.specs.Fares.{paid_on, hop_of, fares_before, tariff_or_none, amount_by}
use Rattle.fare_cap.specs.Bills.{row_of, bill_rows, total_of}
use Rattle.fare_cap.specs.declared.row.Row.{Row}
use Rattle.fare_cap.proofs.CountedKeys.{same_account_is}
use Rattle.fare_cap.proofs.Windows.{paid-grows}
use Rattle.fare_settle.specs.declared.charge.Charge.{Charge}
use Rattle.fare_settle.specs.Charges.{operator_or_none, paid_of_week, charge_behind, charges_behind, charges_of}
use Rattle.fare_settle.specs.Values.{SettledValue}
use Rattle.fare_settle.specs.Routes.{sum_of}
use Rattle.fare_settle.specs.Settling.{charges_at, share_of, OperatorsShareTheBill}
use Rattle.fare_settle.proofs.Summing.{sum_by-same, sum_by-plus, sum_by-map, sum_by-keys, IsApart, apart_from_distinct, sum_by-one_term}
use Rattle.fare_settle.proofs.Accounts.{AreAmong, accounts_apart, accounts_all}

-- BY OPERATOR
-- each charge is one of these operators'
abbrev AreTheirs : List ℕ → List Charge → Type 0
AreTheirs operators charges = AllByRecursion (λ (c : Charge). list_any (nat_eq c.operator) operators ≡ true) charges

by_operator : (operators : List ℕ) (charges : List Charge) → IsApart nat_eq operators → AreTheirs operators charges
    → sum_by (λ operator. sum_of (charges_at charges operator)) operators ≡ sum_of charges
by_operator operators charges apart theirs = sum_by-keys nat_eq eqb-true (λ (c : Charge). c.operator) (λ (c : Charge). c.amount) operators charges apart theirs

-- BY ACCOUNT
-- what an account's week is worth with so many paid taps on the day
abbrev worth : SchemeValue → List RecordValue → ℕ → AccountValue → ℕ → ℕ
worth scheme ordered day account taps = min (tariff_or_none scheme account.product).weekly (paid_of_week scheme account (paid_on scheme ordered account) day taps)

capped-grows : (weekly before daily fare n m : ℕ) → n ≤ m → min weekly (before + min daily (fare * n)) ≤ min weekly (before + min daily (fare * m))
capped-grows weekly before daily fare n m more =
    let fares : fare * n ≤ fare * m = mul-le fare n fare m (omega arith) more in
    omega arith

worth-grows : (scheme : SchemeValue) (ordered : List RecordValue) (day : ℕ) (account : AccountValue) (n m : ℕ) → n ≤ m → worth scheme ordered day account n ≤ worth scheme ordered day account m
worth-grows scheme ordered day account n m more =
    let tariff = tariff_or_none scheme account.product in
    capped-grows tariff.weekly (fares_before scheme tariff (paid_on scheme ordered account) day) tariff.daily tariff.fare n m more

-- what a tap adds to the worth of each account: its charge to its own, nothing to another
worth-more : (scheme : SchemeValue) (ordered : List RecordValue) (day : ℕ) (front : List RecordValue) (tap : RecordValue) (account : AccountValue)
    → worth scheme ordered day account (paid (hop_of scheme account) (part_of account (front ++ tap ∷ [])))
    ≡ cond (same_account (account_of tap) account) (charge_behind scheme ordered day front tap).amount 0 + worth scheme ordered day account (paid (hop_of scheme account) (part_of account front))
worth-more scheme ordered day front tap account =
    ap (λ (l : List RecordValue). worth scheme ordered day account (paid (hop_of scheme account) l)) (filter-append (λ r. same_account (account_of r) account) front (tap ∷ []))
    ∙ by (same_account (account_of tap) account) refl
  where
    own : worth scheme ordered day (account_of tap) (paid (hop_of scheme (account_of tap)) (part_of (account_of tap) front ++ tap ∷ [])) ≡ (charge_behind scheme ordered day front tap).amount + worth scheme ordered day (account_of tap) (paid (hop_of scheme (account_of tap)) (part_of (account_of tap) front))
    own =
        let grows = worth-grows scheme ordered day (account_of tap) (paid (hop_of scheme (account_of tap)) (part_of (account_of tap) front)) (paid (hop_of scheme (account_of tap)) (part_of (account_of tap) front ++ tap ∷ [])) (paid-grows (hop_of scheme (account_of tap)) (part_of (account_of tap) front) tap) in
        omega (arith, grows)

    by : (b : Bool) → same_account (account_of tap) account ≡ b
        → worth scheme ordered day account (paid (hop_of scheme account) (part_of account front ++ cond b (tap ∷ []) [])) ≡ cond b (charge_behind scheme ordered day front tap).amount 0 + worth scheme ordered day account (paid (hop_of scheme account) (part_of account front))
    by true same =
        let is : account_of tap ≡ account = same_account_is (account_of tap) account same in
        subst (λ (a : AccountValue). worth scheme ordered day a (paid (hop_of scheme a) (part_of a front ++ tap ∷ [])) ≡ (charge_behind scheme ordered day front tap).amount + worth scheme ordered day a (paid (hop_of scheme a) (part_of a front))) is own
    by false other = ap (λ (l : List RecordValue). worth scheme ordered day account (paid (hop_of scheme account) l)) (append-nil (part_of account front)) ∙ sym (zero-add (worth scheme ordered day account (paid (hop_of scheme account) (part_of account front))))

-- the worth of all these accounts
abbrev worths : SchemeValue → List RecordValue → ℕ → List AccountValue → List RecordValue → ℕ
worths scheme ordered day accounts front = sum_by (λ account. worth scheme ordered day account (paid (hop_of scheme account) (part_of account front))) accounts

worths-more : (scheme : SchemeValue) (ordered : List RecordValue) (day : ℕ) (accounts : List AccountValue) (front : List RecordValue) (tap : RecordValue)
    → IsApart same_account accounts → list_any (same_account (account_of tap)) accounts ≡ true
    → worths scheme ordered day accounts (front ++ tap ∷ []) ≡ (charge_behind scheme ordered day front tap).amount + worths scheme ordered day accounts front
worths-more scheme ordered day accounts front tap apart has =
    sum_by-same (λ account. worth scheme ordered day account (paid (hop_of scheme account) (part_of account (front ++ tap ∷ []))))
    (λ account. cond (same_account (account_of tap) account) (charge_behind scheme ordered day front tap).amount 0 + worth scheme ordered day account (paid (hop_of scheme account) (part_of account front)))
    (worth-more scheme ordered day front tap) accounts
    ∙ sum_by-plus (λ account. cond (same_account (account_of tap) account) (charge_behind scheme ordered day front tap).amount 0) (λ account. worth scheme ordered day account (paid (hop_of scheme account) (part_of account front))) accounts
    ∙ ap (λ n. n + worths scheme ordered day accounts front) (sum_by-one_term same_account same_account_is (account_of tap) (charge_behind scheme ordered day front tap).amount accounts apart has)

telescopes : (scheme : SchemeValue) (ordered : List RecordValue) (day : ℕ) (accounts : List AccountValue) → IsApart same_account accounts
    → (rest front : List RecordValue) → AreAmong accounts rest
    → sum_of (charges_behind scheme ordered day front rest) + worths scheme ordered day accounts front ≡ worths scheme ordered day accounts (front ++ rest)
telescopes scheme ordered day accounts apart [] front among = zero-add (worths scheme ordered day accounts front) ∙ ap (worths scheme ordered day accounts) (sym (append-nil front))
telescopes scheme ordered day accounts apart (tap ∷ rest) front among =
    let later : List Charge = charges_behind scheme ordered day (front ++ tap ∷ []) rest in
    let first : sum_of (charges_behind scheme ordered day front (tap ∷ rest)) ≡ (charge_behind scheme ordered day front tap).amount + sum_of later = sum_by-cons (λ (x : Charge). x.amount) (charge_behind scheme ordered day front tap) later in
    let more = worths-more scheme ordered day accounts front tap apart among.0 in
    let others = telescopes scheme ordered day accounts apart rest (front ++ tap ∷ []) among.1 in
    let joined : worths scheme ordered day accounts ((front ++ tap ∷ []) ++ rest) ≡ worths scheme ordered day accounts (front ++ tap ∷ rest) = ap (worths scheme ordered day accounts) (append_assoc front (tap ∷ []) rest) in
    shuffle (sum_of (charges_behind scheme ordered day front (tap ∷ rest))) (charge_behind scheme ordered day front tap).amount (sum_of later) (worths scheme ordered day accounts front)
    (worths scheme ordered day accounts (front ++ tap ∷ [])) first more
    ∙ others ∙ joined
  where
    shuffle : (whole one later before after : ℕ) → whole ≡ one + later → after ≡ one + before → whole + before ≡ later + after
    shuffle whole one later before after a b = omega arith

-- an account's amount and its week before the day are its week
amount-worth : (scheme : SchemeValue) (ordered : List RecordValue) (day : ℕ) (account : AccountValue)
    → amount_by scheme account (paid_on scheme ordered account) day + worth scheme ordered day account 0 ≡ worth scheme ordered day account (paid_on scheme ordered account day)
amount-worth scheme ordered day account =
    let tariff = tariff_or_none scheme account.product in
    let grows = worth-grows scheme ordered day account 0 (paid_on scheme ordered account day) (omega arith) in
    let none : tariff.fare * 0 ≡ 0 = omega arith in
    let start : worth scheme ordered day account 0 ≡ min tariff.weekly (fares_before scheme tariff (paid_on scheme ordered account) day) = omega (arith, none) in
    omega (arith, grows, start)

charges_add_up : (scheme : SchemeValue) (ordered : List RecordValue) (day : ℕ) → sum_of (charges_of scheme ordered day) ≡ total_of (bill_rows scheme ordered day)
charges_add_up scheme ordered day =
    let taps = counted_on scheme day ordered in
    let accounts = accounts_of taps in
    let whole = telescopes scheme ordered day accounts (accounts_apart taps) taps [] (accounts_all taps) in
    let rows = sum_by-map (λ (row : Row). row.amount) (row_of scheme ordered day) accounts in
    let parts =
    sum_by-same (λ account. amount_by scheme account (paid_on scheme ordered account) day + worth scheme ordered day account 0)
    (λ account. worth scheme ordered day account (paid_on scheme ordered account day)) (amount-worth scheme ordered day) accounts in
    let split = sum_by-plus (λ account. amount_by scheme account (paid_on scheme ordered account) day) (λ account. worth scheme ordered day account 0) accounts in
    cancel (sum_of (charges_of scheme ordered day)) (total_of (bill_rows scheme ordered day)) (sum_by (λ account. amount_by scheme account (paid_on scheme ordered account) day) accounts)
    (worths scheme ordered day accounts []) (worths scheme ordered day accounts taps) whole rows (sym split ∙ parts)
  where
    cancel : (charges total amounts before after : ℕ) → charges + before ≡ after → total ≡ amounts → amounts + before ≡ after → charges ≡ total
    cancel charges total amounts before after a b c = omega arith

-- EACH COUNTED TAP IS AN OPERATOR'S
all_filter : {X : Type 0} (P : X → Type 0) (p : X → Bool) (xs : List X) → ((x : X) → p x ≡ true → P x) → AllByRecursion P (filter p xs)
all_filter P p [] each = tt
all_filter {X} P p (x ∷ xs) each = by (p x) refl (all_filter P p xs each)
  where
    by : (b : Bool) → p x ≡ b → AllByRecursion P (filter p xs) → AllByRecursion P (cond b (x ∷ filter p xs) (filter p xs))
    by true e rest = (each x e, rest)
    by false e rest = rest

theirs_when : (scheme : SchemeValue) → IsScheme scheme → (day : ℕ) (tap : RecordValue) → (counts scheme tap && tap.tap.day == day) ≡ true
    → list_any (nat_eq (operator_or_none scheme tap.device)) scheme.operators ≡ true
theirs_when scheme is day tap counted =
    let does : counts scheme tap ≡ true = (and_parts (counts scheme tap) (tap.tap.day == day) counted).0 in
    let both : (is_some (owner_of scheme tap.tap.product) && is_some (operator_of scheme tap.device)) ≡ true = (and_parts (is_some (owner_of scheme tap.tap.product) && is_some (operator_of scheme tap.device)) (nat_le scheme.start tap.tap.day) does).0 in
    by (operator_of scheme tap.device) ((and_parts (is_some (owner_of scheme tap.tap.product)) (is_some (operator_of scheme tap.device)) both).1) (operator_is_known scheme is tap.device)
  where
    by : (o : Option ℕ) → is_some o ≡ true → IfSome o (λ operator. IsSome (position_of_operator scheme operator)) → list_any (nat_eq (unwrap_or o 0)) scheme.operators ≡ true
    by None there known = cc
    by (Some operator) there known = sym (some_position (nat_eq operator) scheme.operators) ∙ known

theirs : (scheme : SchemeValue) (ordered : List RecordValue) (day : ℕ) (front rest : List RecordValue)
    → AllByRecursion (λ r. list_any (nat_eq (operator_or_none scheme r.device)) scheme.operators ≡ true) rest → AreTheirs scheme.operators (charges_behind scheme ordered day front rest)
theirs scheme ordered day front [] each = tt
theirs scheme ordered day front (tap ∷ rest) each = (each.0, theirs scheme ordered day (front ++ tap ∷ []) rest each.1)

-- THE LAW
pub operators_share_the_bill : OperatorsShareTheBill
operators_share_the_bill scheme records day is =
    let ordered = in_order records in
    let charges = charges_of scheme ordered day in
    let each = all_filter (λ r. list_any (nat_eq (operator_or_none scheme r.device)) scheme.operators ≡ true) (λ r. counts scheme r && r.tap.day == day) ordered (theirs_when scheme is day) in
    sum_by-map (λ (s : SettledValue). s.amount) (share_of charges) scheme.operators
    ∙ by_operator scheme.operators charges (apart_from_distinct nat_eq scheme.operators is.operators.distinct) (theirs scheme ordered day [] (counted_on scheme day ordered) each)
    ∙ charges_add_up scheme ordered day
