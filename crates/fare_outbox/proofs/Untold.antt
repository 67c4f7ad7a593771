-- What the removal of the statements before a day makes of the statements by key.
use Rattle.std.proofs.Common.{◌≡◌, inl, inr, ℕ, zero, suc, ◌+◌, ◌-◌, ◌==◌, ◌&&◌, not, nat_lt, if◌then◌else◌, Bool, true, false, List, [], ◌∷◌, filter, length, None, Option, refl, sym, ap, subst, ◌∙◌, arith}
use Rattle.std.specs.List.{AllByRecursion}
use Rattle.std.proofs.lemmas.Bool.{cases_Bool}
use Rattle.std.proofs.lemmas.Bool.Decides.{nat_tests}
use Rattle.sqlite.specs.State.{State}
use Rattle.sqlite.specs.Tree.{Trees}
use Rattle.fare_record.specs.Values.{StatementValue}
use Rattle.fare_store.specs.Tables.{put2}
use Rattle.fare_store.specs.LedgerWords.{stated_from}
use Rattle.fare_store.specs.OutboxWords.{without_statements, stated_before}
use Rattle.fare_tables.specs.Tabled.{IsFit, IsLeft}
use Rattle.fare_outbox_rows.specs.declared.layout.Layout.{Layout}
use Rattle.fare_outbox_rows.specs.Layouts.{schema_in, ours}
use Rattle.fare_outbox_rows.specs.Held.{Held, Becomes, MayBecome, held_of, without_told, is_told}
use Rattle.fare_outbox.specs.Words.{tap_key, stated_key, is_at, first_at, AreApart, itself, count_of, FitTogether, IsLawful, IsWell, value_at, value_in}
use Rattle.fare_outbox.proofs.Keyed.{apart_filter}
use Rattle.fare_outbox.proofs.Pruned.{two_parts}
use Rattle.fare_outbox.proofs.Stored.{left_held, becomes_left, becomes_well}

abbrev count_at : List StatementValue → ℕ → ℕ → ℕ → Option ℕ
count_at all = first_at stated_key count_of all

-- the statements that stay, by key
stated_left : (all : List StatementValue) (o d n o2 d2 y : ℕ) → count_at (filter (λ s. not (is_told o d n s)) all) o2 d2 y ≡ (if (o2 == o) && (d2 == d) && nat_lt y n then None else count_at all o2 d2 y)
stated_left [] o d n o2 d2 y = go ((o2 == o) && (d2 == d) && nat_lt y n)
  where
    go : (b : Bool) → ◌≡◌ {A = Option ℕ} None (if b then None else None)
    go true = refl
    go false = refl
stated_left (x ∷ all) o d n o2 d2 y = elim (cases_Bool (is_at stated_key o2 d2 y x)) [
  | inl here ↦ elim (cases_Bool (is_told o d n x)) [
    | inl gone ↦ (let off : ((o2 == o) && (d2 == d) && nat_lt y n) ≡ true = grind (arith, nat_tests) in
        rw gone (stated_left all o d n o2 d2 y ∙ rw off refl))
    | inr stays ↦ (let on : ((o2 == o) && (d2 == d) && nat_lt y n) ≡ false = grind (arith, nat_tests) in
        rw (stays, here, on) refl)
  ]
  | inr other ↦ elim (cases_Bool (is_told o d n x)) [
    | inl gone ↦ rw (gone, other) (stated_left all o d n o2 d2 y)
    | inr stays ↦ rw (stays, other) (stated_left all o d n o2 d2 y)
  ]
]

from_at : (stated : ℕ → ℕ → ℕ → Option ℕ) (o d n o2 d2 y : ℕ) → (if (o2 == o) && (d2 == d) && nat_lt y n then None else stated o2 d2 y) ≡ put2 stated o d (stated_from n (stated o d)) o2 d2 y
from_at stated o d n o2 d2 y = elim (cases_Bool (o2 == o)) [
  | inr a ↦ rw a refl
  | inl a ↦ (let at : o2 ≡ o = grind (arith, nat_tests) in
      elim (cases_Bool (d2 == d)) [
        | inr b ↦ rw (a, b) (ap (λ k. stated k d2 y) at)
        | inl b ↦ (let beside : d2 ≡ d = grind (arith, nat_tests) in
            elim (cases_Bool (nat_lt y n)) [
              | inl c ↦ rw (a, b, c) refl
              | inr c ↦ rw (a, b, c) (ap (λ k. stated k d2 y) at ∙ ap (λ k. stated o k y) beside)
            ])
      ])
]

-- a statement more of one day is one more before any later day
count_more : (o d : ℕ) (x : StatementValue) (all : List StatementValue) → x.owner ≡ o → x.device ≡ d → count_at all o d x.day ≡ None → (n : ℕ) → stated_before n (count_at (x ∷ all) o d) ≡ stated_before n (count_at all o d) + (if nat_lt x.day n then 1 else 0)
count_more o d x all owner device free zero = let high : nat_lt x.day 0 ≡ false = grind (arith, nat_tests) in rw high (omega arith)
count_more o d x all owner device free (suc n) =
    let more = count_more o d x all owner device free n in
    elim (cases_Bool (is_at stated_key o d n x)) [
      | inl here ↦ (let day : x.day ≡ n = grind (arith, nat_tests) in
          let before : nat_lt x.day n ≡ false = grind (arith, nat_tests) in
          let low : nat_lt x.day (suc n) ≡ true = grind (arith, nat_tests) in
          let none : count_at all o d n ≡ None = subst (λ y. count_at all o d y ≡ None) day free in
          rw (here, low, none) (let fewer = rw before at more in omega (arith, fewer)))
      | inr other ↦ elim (cases_Bool (nat_lt x.day n)) [
        | inl below ↦ (let low : nat_lt x.day (suc n) ≡ true = grind (arith, nat_tests) in rw (other, low) (let one = rw below at more in omega (arith, one)))
        | inr above ↦ (let high : nat_lt x.day (suc n) ≡ false = grind (arith, nat_tests) in rw (other, high) (let none = rw above at more in omega (arith, none)))
      ]
    ]

same_device : (o d : ℕ) (x : StatementValue) (all : List StatementValue) → ((x.owner == o) && (x.device == d)) ≡ false → (y : ℕ) → count_at (x ∷ all) o d y ≡ count_at all o d y
same_device o d x all away y = let other : is_at stated_key o d y x ≡ false = grind (arith, nat_tests) in rw other refl

free_at : (x : StatementValue) (all : List StatementValue) → AllByRecursion (λ y. is_at stated_key x.owner x.device x.day y ≡ false) all → count_at all x.owner x.device x.day ≡ None
free_at x [] apart = refl
free_at x (y ∷ all) apart = rw apart.0 (free_at x all apart.1)

pub told_count : (o d n : ℕ) (all : List StatementValue) → AreApart stated_key all → length (filter (is_told o d n) all) ≡ stated_before n (count_at all o d)
told_count o d n [] apart = sym (none n)
  where
    none : (k : ℕ) → stated_before k (λ day. None) ≡ 0
    none zero = refl
    none (suc k) = let less = none k in omega (arith, less)
told_count o d n (x ∷ all) apart =
    let rest = told_count o d n all apart.1 in
    elim (cases_Bool ((x.owner == o) && (x.device == d))) [
      | inr away ↦ (let kept : is_told o d n x ≡ false = grind (arith, nat_tests) in
          rw kept (rest ∙ ap (stated_before n) (λ i y. sym (same_device o d x all away y) i)))
      | inl here ↦ (
          let owner : x.owner ≡ o = grind (arith, nat_tests) in
          let device : x.device ≡ d = grind (arith, nat_tests) in
          let free : count_at all o d x.day ≡ None = subst (λ a. count_at all a d x.day ≡ None) owner (subst (λ b. count_at all x.owner b x.day ≡ None) device (free_at x all apart.0)) in
          let more = count_more o d x all owner device free n in
          elim (cases_Bool (nat_lt x.day n)) [
            | inl low ↦ (let gone : is_told o d n x ≡ true = grind (arith, nat_tests) in
                let one = rw low at more in rw gone (omega (arith, one, rest)))
            | inr high ↦ (let kept : is_told o d n x ≡ false = grind (arith, nat_tests) in
                let none = rw high at more in rw kept (omega (arith, none, rest)))
          ])
    ]

left_count : (o d n : ℕ) (all : List StatementValue) → length (filter (λ s. not (is_told o d n s)) all) ≡ length all - length (filter (is_told o d n) all)
left_count o d n all = let both = two_parts (is_told o d n) all in omega (arith, both)

pub told_value : (h : Held) (o d n : ℕ) → FitTogether h → value_in (without_told o d n h) ≡ without_statements o d n (value_in h)
told_value h o d n fit = λ i. record {
  upto = h.upto;
  rows = first_at tap_key itself h.taps;
  row_count = length h.taps;
  stated = λ o2 d2 y. (stated_left h.statements o d n o2 d2 y ∙ from_at (count_at h.statements) o d n o2 d2 y) i;
  stated_count = (left_count o d n h.statements ∙ ap (λ k. length h.statements - k) (told_count o d n h.statements fit.single)) i;
}

told_fits : (h : Held) (o d n : ℕ) → FitTogether h → FitTogether (without_told o d n h)
told_fits h o d n fit = record {
  apart = fit.apart;
  known = fit.known;
  single = apart_filter stated_key count_of (λ s. not (is_told o d n s)) h.statements fit.single;
  meta = fit.meta;
  unused = fit.unused;
}

-- what the transaction makes of an outbox whose rows fit together
pub told_well : (w : Layout) (old new : State) (rows statements o d n count : ℕ) → IsFit (schema_in w) (IsWell w rows statements) old → Becomes w new.now (without_told o d n (held_of (ours w old.now.trees))) × (new.now ≡ new.committed) → count ≡ length (filter (is_told o d n) (held_of (ours w old.now.trees)).statements) → IsFit (schema_in w) (IsWell w rows (statements - count)) new
told_well w old new rows statements o d n count fit wrote is =
    let h = held_of (ours w old.now.trees) in
    let was = fit.fits.statements_are in
    let left = left_count o d n h.statements in
    becomes_well w new rows (statements - count) (without_told o d n h) wrote (told_fits h o d n fit.fits.lawful.together) fit.fits.rows_are (omega (arith, was, left, is))

-- and what a stop leaves of it
pub told_left : (w : Layout) (h : Held) (o d n : ℕ) (trees : Trees) → FitTogether h → MayBecome w (without_told o d n h) trees → (value_at w trees ≡ without_statements o d n (value_in h)) × IsLeft (schema_in w) (IsLawful w) trees
told_left w h o d n trees fit it = (ap value_in (left_held w (without_told o d n h) trees it) ∙ told_value h o d n fit, becomes_left w (without_told o d n h) trees it (told_fits h o d n fit))
