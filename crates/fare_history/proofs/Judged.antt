-- What it means that an outbox stored an item, or had stored it before.
use Rattle.std.proofs.Common.{◌≡◌, ℕ, ◌+◌, ◌<◌, Some, None, Bool, true, false, refl, ap, arith, inl, inr}
use Rattle.std.specs.Prelude.{◌==◌, if◌then◌else◌, Option, Result, Ok, Err, is_ok, is_some, nat_le, nat_lt}
use Rattle.std.proofs.lemmas.Bool.Decides.{nat_tests}
use Rattle.fare_record.specs.Values.{RecordValue, StatementValue}
use Rattle.fare_record.specs.declared.item.Item.{Item}
use Rattle.fare_record.specs.declared.item.Item.TheVariants as item
use Rattle.fare_store.specs.declared.fault.StoreFault.{StoreFault}
use Rattle.fare_store.specs.declared.fault.StoreFault.TheVariants as store
use Rattle.fare_store.specs.declared.fault.StatedFault.{StatedFault}
use Rattle.fare_store.specs.declared.fault.StatedFault.TheVariants as stated
use Rattle.fare_store.specs.OutboxWords.{OutboxValue, stated_judged_by}
use Rattle.fare_history.specs.Gathering.{is_new, done_by, IsRepeated, storing, IsHandled}
use Rattle.fare_store.proofs.Entries.{is_one}

-- WHAT IT LEAVES
pub stored_new : (x : OutboxValue) (i : Item) → is_new x i ≡ true → storing x i ≡ done_by i x
stored_new x i new = ap (λ b. if b then done_by i x else x) new

pub stored_old : (x : OutboxValue) (i : Item) → is_new x i ≡ false → storing x i ≡ x
stored_old x i old = ap (λ b. if b then done_by i x else x) old

pub repeated_is_old : (x : OutboxValue) (i : Item) → IsRepeated x i → is_new x i ≡ false
repeated_is_old x (item.Tap r) again = ap is_ok again
repeated_is_old x (item.Stated v) again = ap is_ok again

-- TAPS
abbrev pub judged_by : Bool → Bool → Bool → Bool → Result Unit StoreFault
judged_by a b c d = if a then Err store.Duplicate else if b then Err store.Gap else if c then Err store.Conflict else if d then Err store.OutboxFull else Ok tt

ok_tests : (a b c d : Bool) → is_ok (judged_by a b c d) ≡ true → (c ≡ false) × (d ≡ false)
ok_tests true b c d e = absurd (cc)
ok_tests false true c d e = absurd (cc)
ok_tests false false true d e = absurd (cc)
ok_tests false false false true e = absurd (cc)
ok_tests false false false false e = (refl, refl)

is_none : {X : Type 0} (o : Option X) → is_some o ≡ false → o ≡ None
is_none None e = refl
is_none (Some x) e = absurd (cc)

few : (n : ℕ) → nat_le 1000000 n ≡ false → n < 1000000
few n e = grind (arith, nat_tests)

-- a new tap has a free place, and there is room for it
pub new_tap : (x : OutboxValue) (r : RecordValue) → is_new x (item.Tap r) ≡ true → (x.rows r.owner r.device r.lane ≡ None) × (x.row_count < 1000000)
new_tap x r new =
    let tests = ok_tests (nat_le r.link (x.upto r.device)) (nat_lt (x.upto r.device + 1) r.link) (is_some (x.rows r.owner r.device r.lane)) (nat_le 1000000 x.row_count) new in
    (is_none (x.rows r.owner r.device r.lane) tests.0, few x.row_count tests.1)

not_again : (a b c d : Bool) → a ≡ false → judged_by a b c d ≡ Err store.Duplicate → ⊥
not_again true b c d first e = absurd (cc)
not_again false true c d first e = absurd (cc)
not_again false false true d first e = absurd (cc)
not_again false false false true first e = absurd (cc)
not_again false false false false first e = absurd (cc)

-- the tap of the next link was not stored before
pub tap_is_new : (x : OutboxValue) (r : RecordValue) → r.link ≡ x.upto r.device + 1 → IsHandled x (item.Tap r) → is_new x (item.Tap r) ≡ true
tap_is_new x r next handled = elim handled [
  | inl new ↦ new
  | inr again ↦ absurd (not_again (nat_le r.link (x.upto r.device)) (nat_lt (x.upto r.device + 1) r.link) (is_some (x.rows r.owner r.device r.lane)) (nat_le 1000000 x.row_count) (past r.link (x.upto r.device) next) again)
]
  where
    past : (k u : ℕ) → k ≡ u + 1 → nat_le k u ≡ false
    past k u is = grind (arith, nat_tests)

-- STATEMENTS
new_by : (o : Option ℕ) (n total : ℕ) → is_ok (stated_judged_by o n total) ≡ true → (o ≡ None) × (total < 1000000)
new_by (Some m) n total e = absurd (by (m == n) e)
  where
    refused : Bool → Result Unit StatedFault
    refused b = if b then Err stated.Duplicate else Err stated.Conflict

    by : (b : Bool) → is_ok (refused b) ≡ true → ⊥
    by true f = absurd (cc)
    by false f = absurd (cc)
new_by None n total e = (refl, few total (by (nat_le 1000000 total) e))
  where
    judged : Bool → Result Unit StatedFault
    judged b = if b then Err stated.OutboxFull else Ok tt

    by : (b : Bool) → is_ok (judged b) ≡ true → b ≡ false
    by true f = absurd (cc)
    by false f = refl

-- a new statement is not held, and there is room for it
pub new_statement : (x : OutboxValue) (v : StatementValue) → is_new x (item.Stated v) ≡ true → (x.stated v.owner v.device v.day ≡ None) × (x.stated_count < 1000000)
new_statement x v new = new_by (x.stated v.owner v.device v.day) v.count x.stated_count new

again_by : (o : Option ℕ) (n total : ℕ) → stated_judged_by o n total ≡ Err stated.Duplicate → o ≡ Some n
again_by (Some m) n total e = by (m == n) refl e
  where
    refused : Bool → Result Unit StatedFault
    refused b = if b then Err stated.Duplicate else Err stated.Conflict

    by : (b : Bool) → (m == n) ≡ b → refused b ≡ Err stated.Duplicate → Some m ≡ Some n
    by true same f = ap Some (is_one m n same)
    by false other f = absurd (cc)
again_by None n total e = absurd (by (nat_le 1000000 total) e)
  where
    judged : Bool → Result Unit StatedFault
    judged b = if b then Err stated.OutboxFull else Ok tt

    by : (b : Bool) → judged b ≡ Err stated.Duplicate → ⊥
    by true f = absurd (cc)
    by false f = absurd (cc)

-- one that was stored before is held with its count
pub statement_again : (x : OutboxValue) (v : StatementValue) → IsRepeated x (item.Stated v) → x.stated v.owner v.device v.day ≡ Some v.count
statement_again x v again = again_by (x.stated v.owner v.device v.day) v.count x.stated_count again
