-- What the removal of a lane's rows makes of the rows by key.
use Rattle.std.proofs.Common.{◌≡◌, ◌⊎◌, inl, inr, ℕ, zero, suc, ◌+◌, ◌-◌, ◌==◌, ◌&&◌, ◌≤◌, not, nat_le, if◌then◌else◌, Bool, true, false, List, [], ◌∷◌, filter, length, None, Option, refl, sym, ap, subst, ◌∙◌, arith}
use Rattle.std.specs.List.{AllByRecursion}
use Rattle.std.proofs.lemmas.Bool.{cases_Bool}
use Rattle.std.proofs.lemmas.Bool.Decides.{nat_tests}
use Rattle.fare_record.specs.Values.{RecordValue}
use Rattle.fare_store.specs.Tables.{put2}
use Rattle.fare_store.specs.OutboxWords.{pruned, behind, rows_upto}
use Rattle.fare_tables.proofs.Lists.{all_in_filter, all_weaker, same_filter}
use Rattle.fare_outbox_rows.specs.Held.{Held, without_lane, is_cut}
use Rattle.fare_outbox.specs.Words.{tap_key, stated_key, is_at, first_at, AreApart, itself, count_of, IsKnown, FitTogether, value_in}
use Rattle.fare_outbox.proofs.Keyed.{apart_filter}

abbrev row_at : List RecordValue → ℕ → ℕ → ℕ → Option RecordValue
row_at taps = first_at tap_key itself taps

-- the rows that stay, by key
row_left : (taps : List RecordValue) (o d n o2 d2 l : ℕ) → row_at (filter (λ t. not (is_cut o d n t)) taps) o2 d2 l ≡ (if (o2 == o) && (d2 == d) && nat_le l n then None else row_at taps o2 d2 l)
row_left [] o d n o2 d2 l = go ((o2 == o) && (d2 == d) && nat_le l n)
  where
    go : (b : Bool) → ◌≡◌ {A = Option RecordValue} None (if b then None else None)
    go true = refl
    go false = refl
row_left (x ∷ taps) o d n o2 d2 l = elim (cases_Bool (is_at tap_key o2 d2 l x)) [
  | inl here ↦ elim (cases_Bool (is_cut o d n x)) [
    | inl gone ↦ (let off : ((o2 == o) && (d2 == d) && nat_le l n) ≡ true = grind (arith, nat_tests) in
        rw gone (row_left taps o d n o2 d2 l ∙ rw off refl))
    | inr stays ↦ (let on : ((o2 == o) && (d2 == d) && nat_le l n) ≡ false = grind (arith, nat_tests) in
        rw (stays, here, on) refl)
  ]
  | inr other ↦ elim (cases_Bool (is_cut o d n x)) [
    | inl gone ↦ rw (gone, other) (row_left taps o d n o2 d2 l)
    | inr stays ↦ rw (stays, other) (row_left taps o d n o2 d2 l)
  ]
]

behind_at : (rows : ℕ → ℕ → ℕ → Option RecordValue) (o d n o2 d2 l : ℕ) → (if (o2 == o) && (d2 == d) && nat_le l n then None else rows o2 d2 l) ≡ put2 rows o d (behind n (rows o d)) o2 d2 l
behind_at rows o d n o2 d2 l = elim (cases_Bool (o2 == o)) [
  | inr x ↦ rw x refl
  | inl x ↦ (let at : o2 ≡ o = grind (arith, nat_tests) in
      elim (cases_Bool (d2 == d)) [
        | inr y ↦ rw (x, y) (ap (λ k. rows k d2 l) at)
        | inl y ↦ (let beside : d2 ≡ d = grind (arith, nat_tests) in
            elim (cases_Bool (nat_le l n)) [
              | inl z ↦ rw (x, y, z) refl
              | inr z ↦ rw (x, y, z) (ap (λ k. rows k d2 l) at ∙ ap (λ k. rows o k l) beside)
            ])
      ])
]

-- a row more at one lane number is one row more up to any number that is not lower
count_more : (o d : ℕ) (x : RecordValue) (taps : List RecordValue) → x.owner ≡ o → x.device ≡ d → row_at taps o d x.lane ≡ None → (n : ℕ) → rows_upto n (row_at (x ∷ taps) o d) ≡ rows_upto n (row_at taps o d) + (if nat_le x.lane n then 1 else 0)
count_more o d x taps owner device free zero = elim (cases_Bool (is_at tap_key o d 0 x)) [
  | inl here ↦ (let lane : x.lane ≡ 0 = grind (arith, nat_tests) in
      let low : nat_le x.lane 0 ≡ true = grind (arith, nat_tests) in
      let none : row_at taps o d 0 ≡ None = subst (λ l. row_at taps o d l ≡ None) lane free in
      rw (here, low, none) refl)
  | inr other ↦ (let high : nat_le x.lane 0 ≡ false = grind (arith, nat_tests) in rw (other, high) (omega arith))
]
count_more o d x taps owner device free (suc n) =
    let more = count_more o d x taps owner device free n in
    elim (cases_Bool (is_at tap_key o d (suc n) x)) [
      | inl here ↦ (let lane : x.lane ≡ suc n = grind (arith, nat_tests) in
          let before : nat_le x.lane n ≡ false = grind (arith, nat_tests) in
          let low : nat_le x.lane (suc n) ≡ true = grind (arith, nat_tests) in
          let none : row_at taps o d (suc n) ≡ None = subst (λ l. row_at taps o d l ≡ None) lane free in
          rw (here, low, none) (let fewer = rw before at more in omega (arith, fewer)))
      | inr other ↦ elim (cases_Bool (nat_le x.lane n)) [
        | inl below ↦ (let low : nat_le x.lane (suc n) ≡ true = grind (arith, nat_tests) in rw (other, low) (let one = rw below at more in omega (arith, one)))
        | inr above ↦ (let high : nat_le x.lane (suc n) ≡ false = grind (arith, nat_tests) in rw (other, high) (let none = rw above at more in omega (arith, none)))
      ]
    ]

same_lane : (o d : ℕ) (x : RecordValue) (taps : List RecordValue) → ((x.owner == o) && (x.device == d)) ≡ false → (l : ℕ) → row_at (x ∷ taps) o d l ≡ row_at taps o d l
same_lane o d x taps away l = let other : is_at tap_key o d l x ≡ false = grind (arith, nat_tests) in rw other refl

free_at : (x : RecordValue) (taps : List RecordValue) → AllByRecursion (λ y. is_at tap_key x.owner x.device x.lane y ≡ false) taps → row_at taps x.owner x.device x.lane ≡ None
free_at x [] all = refl
free_at x (y ∷ taps) all = rw all.0 (free_at x taps all.1)

cut_is : (o d n : ℕ) (taps : List RecordValue) → AreApart tap_key taps → length (filter (is_cut o d n) taps) ≡ rows_upto n (row_at taps o d)
cut_is o d n [] apart = sym (none n)
  where
    none : (k : ℕ) → rows_upto k (λ lane. None) ≡ 0
    none zero = refl
    none (suc k) = let less = none k in omega (arith, less)
cut_is o d n (x ∷ taps) apart =
    let rest = cut_is o d n taps apart.1 in
    elim (cases_Bool ((x.owner == o) && (x.device == d))) [
      | inr away ↦ (let kept : is_cut o d n x ≡ false = grind (arith, nat_tests) in
          rw kept (rest ∙ ap (rows_upto n) (λ i l. sym (same_lane o d x taps away l) i)))
      | inl here ↦ (
          let owner : x.owner ≡ o = grind (arith, nat_tests) in
          let device : x.device ≡ d = grind (arith, nat_tests) in
          let free : row_at taps o d x.lane ≡ None = subst (λ a. row_at taps a d x.lane ≡ None) owner (subst (λ b. row_at taps x.owner b x.lane ≡ None) device (free_at x taps apart.0)) in
          let more = count_more o d x taps owner device free n in
          elim (cases_Bool (nat_le x.lane n)) [
            | inl low ↦ (let gone : is_cut o d n x ≡ true = grind (arith, nat_tests) in
                let one = rw low at more in rw gone (omega (arith, one, rest)))
            | inr high ↦ (let kept : is_cut o d n x ≡ false = grind (arith, nat_tests) in
                let none = rw high at more in rw kept (omega (arith, none, rest)))
          ])
    ]

pub two_parts : {T : Type 0} (p : T → Bool) (taps : List T) → length (filter (λ t. not (p t)) taps) + length (filter p taps) ≡ length taps
two_parts p [] = refl
two_parts p (x ∷ taps) = let rest = two_parts p taps in elim (cases_Bool (p x)) [
  | inl gone ↦ rw gone (omega (arith, rest))
  | inr kept ↦ rw kept (omega (arith, rest))
]

pub left_count : (o d n : ℕ) (taps : List RecordValue) → length (filter (λ t. not (is_cut o d n t)) taps) ≡ length taps - length (filter (is_cut o d n) taps)
left_count o d n taps = let both = two_parts (is_cut o d n) taps in omega (arith, both)

-- no lane number passes the greatest integer of SQLite
same_cut : (o d last n : ℕ) (h : Held) → FitTogether h → last ≤ n → (last ≡ n) ⊎ (last ≡ 9223372036854775807) → AllByRecursion (λ t. is_cut o d last t ≡ is_cut o d n t) h.taps
same_cut o d last n h fit low which = all_weaker (IsKnown h.upto) (λ t. is_cut o d last t ≡ is_cut o d n t) h.taps (one which) fit.known
  where
    one : (last ≡ n) ⊎ (last ≡ 9223372036854775807) → (t : RecordValue) → IsKnown h.upto t → is_cut o d last t ≡ is_cut o d n t
    one (inl is) t known = ap (λ k. is_cut o d k t) is
    one (inr is) t known =
        let top = known.lane in
        let a : nat_le t.lane last ≡ true = grind (arith, nat_tests) in
        let b : nat_le t.lane n ≡ true = grind (arith, nat_tests) in
        ap (λ x. (t.owner == o) && (t.device == d) && x) (a ∙ sym b)

same_stays : (o d last n : ℕ) (taps : List RecordValue) → AllByRecursion (λ t. is_cut o d last t ≡ is_cut o d n t) taps → AllByRecursion (λ t. not (is_cut o d last t) ≡ not (is_cut o d n t)) taps
same_stays o d last n taps all = all_weaker (λ t. is_cut o d last t ≡ is_cut o d n t) (λ t. not (is_cut o d last t) ≡ not (is_cut o d n t)) taps (λ t is. ap not is) all

pub same_without : (o d last n : ℕ) (h : Held) → FitTogether h → last ≤ n → (last ≡ n) ⊎ (last ≡ 9223372036854775807) → without_lane o d last h ≡ without_lane o d n h
same_without o d last n h fit low which = λ i. record { upto = h.upto; taps = same_filter _ _ h.taps (same_stays o d last n h.taps (same_cut o d last n h fit low which)) i; statements = h.statements; meta = h.meta; unused = h.unused }

pub cut_count : (o d last n : ℕ) (h : Held) → FitTogether h → last ≤ n → (last ≡ n) ⊎ (last ≡ 9223372036854775807) → length (filter (is_cut o d last) h.taps) ≡ rows_upto n (row_at h.taps o d)
cut_count o d last n h fit low which = ap length (same_filter _ _ h.taps (same_cut o d last n h fit low which)) ∙ cut_is o d n h.taps fit.apart

pub prune_value : (h : Held) (o d n : ℕ) → FitTogether h → value_in (without_lane o d n h) ≡ pruned o d n (value_in h)
prune_value h o d n fit = λ i. record {
  upto = h.upto;
  rows = λ o2 d2 l. (row_left h.taps o d n o2 d2 l ∙ behind_at (row_at h.taps) o d n o2 d2 l) i;
  row_count = (left_count o d n h.taps ∙ ap (λ k. length h.taps - k) (cut_is o d n h.taps fit.apart)) i;
  stated = first_at stated_key count_of h.statements;
  stated_count = length h.statements;
}

pub prune_fits : (h : Held) (o d n : ℕ) → FitTogether h → FitTogether (without_lane o d n h)
prune_fits h o d n fit = record {
  apart = apart_filter tap_key itself (λ t. not (is_cut o d n t)) h.taps fit.apart;
  known = all_in_filter (IsKnown h.upto) (λ t. not (is_cut o d n t)) h.taps fit.known;
  single = fit.single;
  meta = fit.meta;
  unused = fit.unused;
}
