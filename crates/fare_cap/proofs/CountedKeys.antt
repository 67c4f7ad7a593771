-- Counting taps in a table by account and day.
use Rattle.std.proofs.Common.{◌≡◌, ℕ, ◌≤◌, Bool, true, false, cond, ◌&&◌, ltb-true, eqb-true, List, [], ◌∷◌, ◌++◌, length, Some, None, refl, sym, ◌∙◌, ap, arith, ◌==◌}
use Rattle.std.specs.Prelude.{Option, unwrap_or, nat_eq, nat_lt, Result, Ok, Err, OnErr}
use Rattle.std.specs.declared.cmp.Ordering.TheVariants.{Less, Equal, Greater}
use Rattle.std.specs.Ordering.{nat_cmp, ordering_then, is_eq}
use Rattle.std.specs.Cmp.{both_tied}
use Rattle.std.proofs.lemmas.Bool.Decides.{nat_tests}
use Rattle.std.proofs.lemmas.Bool.{and_parts}
use Rattle.std.proofs.lemmas.List.{append-nil}
use Rattle.std.proofs.lemmas.List.Elements.{filter-append}
use Rattle.std.proofs.lemmas.List.Sums.{length-filter, count_by-le-length}
use Rattle.fare_record.specs.Values.{RecordValue}
use Rattle.fare_scheme.specs.Values.{SchemeValue}
use Rattle.fare_cap.specs.Values.{AccountValue}
use Rattle.fare_cap.specs.Accounts.{same_account, account_of, counts, counted_on, part_of}
use Rattle.fare_cap.specs.Keys.{same_key}
use Rattle.fare_cap.specs.Windows.{day_rides, one_more}
use Rattle.fare_cap.specs.Fares.{hop_of}
use Rattle.fare_cap.specs.RidesWords.{rides_on}
use Rattle.fare_cap.proofs.Windows.{day_rides-push, paid_behind-le}

-- two numbers are the same where they tie
pub nat_tied : (x y : ℕ) → (x == y) ≡ is_eq (nat_cmp x y)
nat_tied x y = by (nat_lt x y) (x == y) refl refl
  where
    by : (s t : Bool) → nat_lt x y ≡ s → (x == y) ≡ t → t ≡ is_eq (cond s Less (cond t Equal Greater))
    by true true below same = absurd (omega (arith, ltb-true x y below, eqb-true x y same))
    by true false below same = refl
    by false true below same = refl
    by false false below same = refl

pub account_tied : (a b : AccountValue) → same_account a b ≡ is_eq (ordering_then (nat_cmp a.product b.product) (nat_cmp a.token b.token))
account_tied a b = both_tied (a.product == b.product) (a.token == b.token) (nat_cmp a.product b.product) (nat_cmp a.token b.token) (nat_tied a.product b.product) (nat_tied a.token b.token)

pub same_account_is : (a b : AccountValue) → same_account a b ≡ true → a ≡ b
same_account_is a b same =
    let parts = and_parts (a.product == b.product) (a.token == b.token) same in
    let product : a.product ≡ b.product = eqb-true a.product b.product parts.0 in
    let token : a.token ≡ b.token = eqb-true a.token b.token parts.1 in
    ap (λ (p : ℕ). let v : AccountValue = record { product = p; token = a.token } in v) product
    ∙ ap (λ (t : ℕ). let v : AccountValue = record { product = b.product; token = t } in v) token

nat_is : (x y : ℕ) → nat_eq x y ≡ (x == y)
nat_is x y = grind (arith, nat_tests)

key_is : (a b : AccountValue) (d e : ℕ) → same_key (a, d) (b, e) ≡ (same_account a b && d == e)
key_is a b d e = λ i. (nat_is a.product b.product i && nat_is a.token b.token i) && nat_is d e i

-- what a new value at a key makes of a table, where the value comes from the one that stood there
pub value-updated : {V : Type 0} (none : V) (f : V → V) (old new : AccountValue × ℕ → Option V) (a : AccountValue) (d : ℕ)
    → ((key : AccountValue × ℕ) → new key ≡ cond (same_key (a, d) key) (Some (f (unwrap_or (old (a, d)) none))) (old key)) → (b : AccountValue) (e : ℕ)
    → unwrap_or (new (b, e)) none ≡ cond (same_account a b && d == e) (f (unwrap_or (old (b, e)) none)) (unwrap_or (old (b, e)) none)
value-updated {V} none f old new a d updates b e =
    ap (λ o. unwrap_or o none) (updates (b, e)) ∙ ap (λ s. unwrap_or (cond s (Some (f (unwrap_or (old (a, d)) none))) (old (b, e))) none) (key_is a b d e)
    ∙ by (same_account a b && d == e) refl
  where
    by : (t : Bool) → (same_account a b && d == e) ≡ t
        → unwrap_or (cond t (Some (f (unwrap_or (old (a, d)) none))) (old (b, e))) none ≡ cond t (f (unwrap_or (old (b, e)) none)) (unwrap_or (old (b, e)) none)
    by true same =
        let parts = and_parts (same_account a b) (d == e) same in
        let account : a ≡ b = same_account_is a b parts.0 in
        let day : d ≡ e = eqb-true d e parts.1 in
        ap (λ (x : AccountValue). f (unwrap_or (old (x, d)) none)) account ∙ ap (λ (x : ℕ). f (unwrap_or (old (b, x)) none)) day
    by false other = refl

-- what holds at an error
pub on_err : {T E Q : Type 0} (r : Result T E) → Q → OnErr r Q
on_err (Ok x) q = tt
on_err (Err e) q = q

part-le : (scheme : SchemeValue) (ordered : List RecordValue) (account : AccountValue) (day : ℕ) → length (part_of account (counted_on scheme day ordered)) ≤ length ordered
part-le scheme ordered account day =
    let outer : length (part_of account (counted_on scheme day ordered)) ≡ _ = length-filter (λ r. same_account (account_of r) account) (counted_on scheme day ordered) in
    let outer_le = count_by-le-length (λ r. same_account (account_of r) account) (counted_on scheme day ordered) in
    let inner : length (counted_on scheme day ordered) ≡ _ = length-filter (λ r. counts scheme r && r.tap.day == day) ordered in
    let inner_le = count_by-le-length (λ r. counts scheme r && r.tap.day == day) ordered in
    omega (arith, outer, outer_le, inner, inner_le)

-- an account has at most so many taps as there are, and pays for no more
pub rides_on-le : (scheme : SchemeValue) (ordered : List RecordValue) (account : AccountValue) (day : ℕ)
    → ((rides_on scheme ordered account day).taps ≤ length ordered) × ((rides_on scheme ordered account day).paid ≤ length ordered)
rides_on-le scheme ordered account day =
    let part = part-le scheme ordered account day in
    let few = paid_behind-le (hop_of scheme account) None (part_of account (counted_on scheme day ordered)) in
    (part, omega (arith, few, part))

-- what is told of an account's day as one more record stands behind the others
pub rides_on-push : (scheme : SchemeValue) (front : List RecordValue) (tap : RecordValue) (account : AccountValue) (day : ℕ)
    → rides_on scheme (front ++ tap ∷ []) account day
    ≡ cond (counts scheme tap && (same_account (account_of tap) account && tap.tap.day == day)) (one_more (hop_of scheme account) (rides_on scheme front account day) tap.tap.moment) (rides_on scheme front account day)
rides_on-push scheme front tap account day =
    ap (λ (l : List RecordValue). day_rides hop (part_of account l)) (filter-append (λ r. counts scheme r && r.tap.day == day) front (tap ∷ []))
    ∙ by (counts scheme tap) (tap.tap.day == day) (same_account (account_of tap) account) refl
  where
    hop : ℕ
    hop = hop_of scheme account

    by : (s t u : Bool) → same_account (account_of tap) account ≡ u
        → day_rides hop (part_of account (counted_on scheme day front ++ cond (s && t) (tap ∷ []) []))
        ≡ cond (s && (u && t)) (one_more hop (rides_on scheme front account day) tap.tap.moment) (rides_on scheme front account day)
    by true true u e =
        ap (day_rides hop) (filter-append (λ r. same_account (account_of r) account) (counted_on scheme day front) (tap ∷ []))
        ∙ ap (λ b. day_rides hop (part_of account (counted_on scheme day front) ++ cond b (tap ∷ []) [])) e
        ∙ end u
      where
        end : (b : Bool) → day_rides hop (part_of account (counted_on scheme day front) ++ cond b (tap ∷ []) [])
            ≡ cond (b && true) (one_more hop (rides_on scheme front account day) tap.tap.moment) (rides_on scheme front account day)
        end true = day_rides-push hop (part_of account (counted_on scheme day front)) tap
        end false = ap (day_rides hop) (append-nil (part_of account (counted_on scheme day front)))
    by true false true e = ap (λ (l : List RecordValue). day_rides hop (part_of account l)) (append-nil (counted_on scheme day front))
    by true false false e = ap (λ (l : List RecordValue). day_rides hop (part_of account l)) (append-nil (counted_on scheme day front))
    by false t u e = ap (λ (l : List RecordValue). day_rides hop (part_of account l)) (append-nil (counted_on scheme day front))

-- the same by the window of the record's own account, where the record counts
pub rides_on-counted : (scheme : SchemeValue) (front : List RecordValue) (tap : RecordValue) (account : AccountValue) (day : ℕ) → counts scheme tap ≡ true
    → cond (same_account (account_of tap) account && tap.tap.day == day) (one_more (hop_of scheme (account_of tap)) (rides_on scheme front account day) tap.tap.moment) (rides_on scheme front account day)
    ≡ rides_on scheme (front ++ tap ∷ []) account day
rides_on-counted scheme front tap account day is_in =
    by (same_account (account_of tap) account && tap.tap.day == day) refl
    ∙ sym (rides_on-push scheme front tap account day
    ∙ ap (λ b. cond (b && (same_account (account_of tap) account && tap.tap.day == day)) (one_more (hop_of scheme account) (rides_on scheme front account day) tap.tap.moment) (rides_on scheme front account day)) is_in)
  where
    by : (b : Bool) → (same_account (account_of tap) account && tap.tap.day == day) ≡ b
        → cond b (one_more (hop_of scheme (account_of tap)) (rides_on scheme front account day) tap.tap.moment) (rides_on scheme front account day)
        ≡ cond b (one_more (hop_of scheme account) (rides_on scheme front account day) tap.tap.moment) (rides_on scheme front account day)
    by true same =
        let is : account_of tap ≡ account = same_account_is (account_of tap) account ((and_parts (same_account (account_of tap) account) (tap.tap.day == day) same).0) in
        ap (λ (a : AccountValue). one_more (hop_of scheme a) (rides_on scheme front account day) tap.tap.moment) is
    by false other = refl

-- and where it counts nowhere
pub rides_on-uncounted : (scheme : SchemeValue) (front : List RecordValue) (tap : RecordValue) (account : AccountValue) (day : ℕ) → counts scheme tap ≡ false
    → rides_on scheme front account day ≡ rides_on scheme (front ++ tap ∷ []) account day
rides_on-uncounted scheme front tap account day out =
    sym (rides_on-push scheme front tap account day
    ∙ ap (λ b. cond (b && (same_account (account_of tap) account && tap.tap.day == day)) (one_more (hop_of scheme account) (rides_on scheme front account day) tap.tap.moment) (rides_on scheme front account day)) out)
