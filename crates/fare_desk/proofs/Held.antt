-- How many rows and statements an outbox holds from a number on, counted one by one.
use Rattle.std.proofs.Common.{◌≡◌, ℕ, suc, ◌+◌, ◌<◌, ◌≤◌, Some, None, Bool, true, false, refl, ap, ◌∙◌, subst, arith}
use Rattle.std.specs.Prelude.{Option, is_some, nat_le, if◌then◌else◌}
use Rattle.fare_record.specs.Values.{RecordValue, StatementValue}
use Rattle.fare_store.specs.OutboxWords.{OutboxValue, IsNextRow, IsNextStatement}
use Rattle.fare_sessions.proofs.NextClose.{there_is, there_is_none}
use Rattle.fare_desk.specs.Showing.{HasFrom, stated_days}

-- so many entries are found, and the others stand from here on
abbrev pub Found : {A : Type 0} → (ℕ → Option A) → ℕ → ℕ → ℕ → Type 0
Found table from found here = (n : ℕ) → HasFrom table here n → HasFrom table from (found + n)

pub found_none : {A : Type 0} (table : ℕ → Option A) (from : ℕ) → Found table from 0 from
found_none table from n has = let same : n ≡ 0 + n = omega arith in subst (HasFrom table from) same has

pub found_more : {A : Type 0} (table : ℕ → Option A) (from found here next : ℕ) → Found table from found here → here ≤ next → is_some (table next) ≡ true → ((place : ℕ) → here ≤ place → place < next → table place ≡ None) → Found table from (found + 1) (next + 1)
found_more table from found here next was le some none n has =
    let one : found + suc n ≡ (found + 1) + n = omega arith in
    subst (HasFrom table from) one (was (suc n) (next, le, some, none, has))

pub found_all : {A : Type 0} (table : ℕ → Option A) (from found here : ℕ) → Found table from found here → ((place : ℕ) → here ≤ place → table place ≡ None) → HasFrom table from found
found_all table from found here was none = let same : found + 0 ≡ found = omega arith in subst (HasFrom table from) same (was 0 none)

-- ROWS
pub row_more : (rows : ℕ → ℕ → ℕ → Option RecordValue) (owner device from found last : ℕ) (r : RecordValue) → Found (rows owner device) from found (last + 1) → IsNextRow rows owner device last (Some r) → Found (rows owner device) from (found + 1) (r.lane + 1)
row_more rows owner device from found last r was is =
    let behind = is.behind in
    found_more (rows owner device) from found (last + 1) r.lane was (omega (arith, behind)) (ap is_some is.is_held) (λ place le lt. is.least place (omega (arith, le)) lt)

pub row_none : (rows : ℕ → ℕ → ℕ → Option RecordValue) (owner device from found last : ℕ) → Found (rows owner device) from found (last + 1) → IsNextRow rows owner device last None → HasFrom (rows owner device) from found
row_none rows owner device from found last was is = found_all (rows owner device) from found (last + 1) was (λ place le. is place (omega (arith, le)))

-- STATEMENTS
not_there : (x : OutboxValue) (owner device day : ℕ) → x.stated owner device day ≡ None → stated_days x owner device day ≡ None
not_there x owner device day none = by (nat_le day 100000)
  where
    by : (b : Bool) → (if b then x.stated owner device day else None) ≡ None
    by true = none
    by false = refl

pub statement_more : (x : OutboxValue) (owner device from found here : ℕ) (s : StatementValue) → s.day ≤ 100000 → Found (stated_days x owner device) from found here → IsNextStatement x.stated owner device here (Some s) → Found (stated_days x owner device) from (found + 1) (s.day + 1)
statement_more x owner device from found here s le was is =
    found_more (stated_days x owner device) from found here s.day was is.not_before (ap is_some (there_is (x.stated owner device) s.day le ∙ is.is_held)) (λ place first last. not_there x owner device place (is.least place first last))

pub statement_none : (x : OutboxValue) (owner device from found here : ℕ) → Found (stated_days x owner device) from found here → IsNextStatement x.stated owner device here None → HasFrom (stated_days x owner device) from found
statement_none x owner device from found here was is = found_all (stated_days x owner device) from found here was (λ place le. not_there x owner device place (is place le))

pub statement_last : (x : OutboxValue) (owner device from found here : ℕ) → 100000 < here → Found (stated_days x owner device) from found here → HasFrom (stated_days x owner device) from found
statement_last x owner device from found here lt was = found_all (stated_days x owner device) from found here was (λ place le. there_is_none (x.stated owner device) place (omega (arith, lt, le)))

pub none_late : (x : OutboxValue) (owner device from : ℕ) → 100000 < from → HasFrom (stated_days x owner device) from 0
none_late x owner device from lt = λ place le. there_is_none (x.stated owner device) place (omega (arith, lt, le))
