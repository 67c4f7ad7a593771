-- Lists of which the first records were let go.
use Rattle.std.proofs.Common.{◌≡◌, ℕ, zero, suc, ◌+◌, ◌-◌, ◌<◌, ◌≤◌, ◌==◌, Bool, true, false, nat_lt, List, [], ◌∷◌, ◌++◌, length, take, drop, get_or, Option, Some, None, refl, sym, ◌∙◌, ap, subst, arith, append_assoc, length-append, length-drop, inl, inr}
use Rattle.std.specs.Prelude.{◌||◌, ◌⊎◌, max, replicate, slice_get}
use Rattle.std.proofs.lemmas.Bool.Decides.{nat_tests}
use Rattle.std.proofs.lemmas.List.{drop-drop, drop-append-le, take-append-drop}
use Rattle.std.proofs.lemmas.List.Sums.{prefix_len-le-length, prefix_len_passes}
use Rattle.std.proofs.lemmas.Option.{get_or_from_slice_get}
use Rattle.fare_record.specs.Limits.{IsDay}
use Rattle.fare_record.specs.Values.{RecordValue}
use Rattle.fare_record.specs.Lanes.{day_count}
use Rattle.fare_store.specs.LedgerWords.{blank, let_go, is_past, front}
use Rattle.fare_store.proofs.LettingGo.{length_filled, front_filled, let_go_filled, count_filled}
use Rattle.fare_world.proofs.Lanes.{day_count-append}
use Rattle.fare_agreement.specs.Agreeing.{AreHeldOf}
use Rattle.fare_agreement.specs.Growing.{IsKept}

-- LENGTHS AND PLACES
pub length_let_go : (g : ℕ) (xs : List RecordValue) → g ≤ length xs → length (let_go g xs) ≡ length xs
length_let_go g xs few = omega (arith, length_filled g (drop g xs), length-drop g xs, few)

pub let_go_push : (g : ℕ) (xs : List RecordValue) (r : RecordValue) → g ≤ length xs → let_go g (xs ++ r ∷ []) ≡ let_go g xs ++ r ∷ []
let_go_push g xs r few = ap (λ l. replicate g blank ++ l) (drop-append-le g xs (r ∷ []) few) ∙ sym (append_assoc (replicate g blank) (drop g xs) (r ∷ []))

pub let_go_more : (g m : ℕ) (xs : List RecordValue) → let_go (g + m) (let_go g xs) ≡ let_go (g + m) xs
let_go_more g m xs = let_go_filled g m (drop g xs) ∙ ap (λ l. replicate (g + m) blank ++ l) (drop-drop m g xs)

-- each place has what it had, or a blank
pub place_of : (g k : ℕ) (xs : List RecordValue) (r : RecordValue) → slice_get xs k ≡ Some r → (slice_get (let_go g xs) k ≡ Some r) ⊎ ((slice_get (let_go g xs) k ≡ Some blank) × (k < g))
place_of zero k xs r at = inl at
place_of (suc g) zero xs r at = inr (refl, omega arith)
place_of (suc g) (suc k) [] r at = absurd (cc)
place_of (suc g) (suc k) (x ∷ xs) r at = elim (place_of g k xs r at) [
  | inl e ↦ inl e
  | inr e ↦ inr (e.0, omega (arith, e.1))
]

all_blank : (g k : ℕ) (r : RecordValue) → slice_get (replicate g blank ++ []) k ≡ Some r → r ≡ blank
all_blank zero k r at = absurd (let f : None ≡ Some r = at in cc)
all_blank (suc g) zero r at =
    let e : Some blank ≡ Some r = at in
    let same : blank ≡ r = cc in
    sym same
all_blank (suc g) (suc k) r at = all_blank g k r at

-- what stands there is a blank, or what was there
pub held_at : (g k : ℕ) (xs : List RecordValue) (r : RecordValue) → slice_get (let_go g xs) k ≡ Some r → (r ≡ blank) ⊎ (slice_get xs k ≡ Some r)
held_at zero k xs r at = inr at
held_at (suc g) zero xs r at =
    let e : Some blank ≡ Some r = at in
    let same : blank ≡ r = cc in
    inl (sym same)
held_at (suc g) (suc k) [] r at = inl (all_blank g k r at)
held_at (suc g) (suc k) (x ∷ xs) r at = held_at g k xs r at

-- COUNTS
abbrev pub ArePast : ℕ → ℕ → List RecordValue → Type 0
ArePast g from xs = (k : ℕ) (r : RecordValue) → k < g → slice_get xs k ≡ Some r → r.tap.day < from

none_past : (g from day : ℕ) (xs : List RecordValue) → ArePast g from xs → from ≤ day → day_count (take g xs) day ≡ 0
none_past zero from day xs past le = refl
none_past (suc g) from day [] past le = refl
none_past (suc g) from day (x ∷ xs) past le =
    let early : x.tap.day < from = past 0 x (omega arith) refl in
    let other : (x.tap.day == day) ≡ false = grind (arith, nat_tests) in
    let one : day_count (x ∷ []) day ≡ 0 = grind (arith, nat_tests, other) in
    omega (arith, day_count-append (x ∷ []) (take g xs) day, one, none_past g from day xs (λ k r less at. past (suc k) r (omega (arith, less)) at) le)

-- of a day from which on all is held, the records that stay are all
pub count_left : (g from day : ℕ) (xs : List RecordValue) → ArePast g from xs → from ≤ day → day_count (drop g xs) day ≡ day_count xs day
count_left g from day xs past le = omega (arith, ap (λ l. day_count l day) (take-append-drop g xs), day_count-append (take g xs) (drop g xs) day, none_past g from day xs past le)

pub count_held : (g from day : ℕ) (xs : List RecordValue) → ArePast g from xs → from ≤ day → IsDay day → day_count (let_go g xs) day ≡ day_count xs day
count_held g from day xs past le dated = count_filled day g (drop g xs) dated ∙ count_left g from day xs past le

pub count_least : (g from day : ℕ) (xs : List RecordValue) → ArePast g from xs → from ≤ day → day_count xs day ≤ day_count (let_go g xs) day
count_least g from day xs past le = omega (arith, day_count-append (replicate g blank) (drop g xs) day, count_left g from day xs past le)

-- MORE IS LET GO
module _ (records : List RecordValue) (from open_day : ℕ) (retired : Bool) (taken : List RecordValue) (is : AreHeldOf records from open_day retired taken) where
  pub held_length : length taken ≡ length records
  held_length = ap (λ (l : List RecordValue). length l) is.are ∙ length_let_go is.gone records is.few

  pub held_push : (r : RecordValue) → AreHeldOf (records ++ r ∷ []) from open_day retired (taken ++ r ∷ [])
  held_push r = record {
    gone = is.gone;
    few = omega (arith, is.few, length-append records (r ∷ []));
    are = ap (λ (l : List RecordValue). l ++ r ∷ []) is.are ∙ sym (let_go_push is.gone records r is.few);
    past = λ k q less at. is.past k q less (earlier k q (omega (arith, less, is.few)) at);
  }
    where
      earlier : (k : ℕ) (q : RecordValue) → k < length records → slice_get (records ++ r ∷ []) k ≡ Some q → slice_get records k ≡ Some q
      earlier k q less at = by records k less at
        where
          by : (xs : List RecordValue) (k : ℕ) → k < length xs → slice_get (xs ++ r ∷ []) k ≡ Some q → slice_get xs k ≡ Some q
          by [] k less at = absurd (omega (arith, less))
          by (x ∷ xs) zero less at = at
          by (x ∷ xs) (suc k) less at = by xs k (omega (arith, less)) at

  -- of the day that is open all is held, where the lane is not retired
  pub held_count : retired ≡ false → IsDay open_day → day_count taken open_day ≡ day_count records open_day
  held_count working dated = ap (λ l. day_count l open_day) is.are ∙ count_held is.gone open_day open_day records (λ k r less at. (is.past k r less at).1 working) (omega arith) dated

  pub held_least : (day : ℕ) → from ≤ day → day_count records day ≤ day_count taken day
  held_least day le = subst (λ l. day_count records day ≤ day_count l day) (sym is.are) (count_least is.gone from day records (λ k r less at. (is.past k r less at).0) le)

  -- a tap of a day from which on all is held is shown
  pub held_shown : (k : ℕ) (r : RecordValue) → slice_get records k ≡ Some r → from ≤ r.tap.day → slice_get taken k ≡ Some r
  held_shown k r at le = ap (λ l. slice_get l k) is.are ∙ by (place_of is.gone k records r at)
    where
      by : (slice_get (let_go is.gone records) k ≡ Some r) ⊎ ((slice_get (let_go is.gone records) k ≡ Some blank) × (k < is.gone)) → slice_get (let_go is.gone records) k ≡ Some r
      by (inl e) = e
      by (inr e) = absurd (omega (arith, (is.past k r e.1 at).0, le))

  module _ (day : ℕ) (closed : retired ≡ false → day ≤ open_day) (numbered : (k : ℕ) (r : RecordValue) → slice_get records k ≡ Some r → 1 ≤ r.lane) where
    front_is : front day taken ≡ is.gone + front day (drop is.gone records)
    front_is = ap (front day) is.are ∙ front_filled day is.gone (drop is.gone records)

    early : (k : ℕ) (r : RecordValue) → k < is.gone + front day (drop is.gone records) → is.gone ≤ k → slice_get records k ≡ Some r → r.tap.day < day
    early k r less le at =
        let place : is.gone + (k - is.gone) ≡ k = omega (arith, le) in
        let there : slice_get (drop is.gone records) (k - is.gone) ≡ Some r = slice_drop is.gone records (k - is.gone) ∙ ap (slice_get records) place ∙ at in
        let passes : is_past day (get_or (drop is.gone records) (k - is.gone) r) ≡ true = prefix_len_passes (is_past day) (drop is.gone records) (k - is.gone) r (omega (arith, less, le)) in
        let past : is_past day r ≡ true = ap (is_past day) (sym (get_or_from_slice_get (drop is.gone records) (k - is.gone) r r there)) ∙ passes in
        before (nat_lt r.tap.day day) (r.lane == 0) refl (real (numbered k r at)) past
      where
        slice_drop : (m : ℕ) (xs : List RecordValue) (j : ℕ) → slice_get (drop m xs) j ≡ slice_get xs (m + j)
        slice_drop zero xs j = ap (slice_get xs) {x = j} {y = 0 + j} (omega arith)
        slice_drop (suc m) [] j = none (suc m + j)
          where
            none : (k : ℕ) → ◌≡◌ {A = Option RecordValue} None (slice_get [] k)
            none k = refl
        slice_drop (suc m) (x ∷ xs) j = slice_drop m xs j ∙ ap (slice_get (x ∷ xs)) {x = suc (m + j)} {y = suc m + j} (omega arith)

        real : {n : ℕ} → 1 ≤ n → (n == 0) ≡ false
        real some = grind (arith, nat_tests)

        before : (a b : Bool) → nat_lt r.tap.day day ≡ a → b ≡ false → (a || b) ≡ true → r.tap.day < day
        before true b e f on = grind (arith, nat_tests)
        before false b e f on = absurd (let g : false ≡ true = ap (λ x. false || x) (sym f) ∙ on in cc)

    past_more : (k : ℕ) (r : RecordValue) → k < is.gone + front day (drop is.gone records) → slice_get records k ≡ Some r → (r.tap.day < max from day) × (retired ≡ false → r.tap.day < open_day)
    past_more k r less at = by (nat_lt k is.gone) refl
      where
        by : (b : Bool) → nat_lt k is.gone ≡ b → (r.tap.day < max from day) × (retired ≡ false → r.tap.day < open_day)
        by true e = let first : k < is.gone = grind (arith, nat_tests) in let p = is.past k r first at in (omega (arith, p.0), p.1)
        by false e = let behind : is.gone ≤ k = grind (arith, nat_tests) in let p = early k r less behind at in (omega (arith, p), λ working. let le = closed working in omega (arith, p, le))

    pub held_forgotten : AreHeldOf records (max from day) open_day retired (let_go (front day taken) taken)
    held_forgotten = record {
      gone = is.gone + front day (drop is.gone records);
      few = omega (arith, prefix_len-le-length (is_past day) (drop is.gone records), length-drop is.gone records, is.few);
      are = (λ i. let_go (front_is i) (is.are i)) ∙ let_go_more is.gone (front day (drop is.gone records)) records;
      past = past_more;
    }

    -- what was shown is kept
    pub held_kept : (k : ℕ) (r : RecordValue) → slice_get taken k ≡ Some r → IsKept (let_go (front day taken) taken) (max from day) k r
    held_kept k r at = elim (place_of (front day taken) k taken r at) [
      | inl e ↦ inl e
      | inr e ↦ elim (held_at is.gone k records r (ap (λ l. slice_get l k) (sym is.are) ∙ at)) [
        | inl b ↦ inl (e.0 ∙ ap Some (sym b))
        | inr there ↦ inr (e.0, (past_more k r (omega (arith, e.1, front_is)) there).0)
      ]
    ]
