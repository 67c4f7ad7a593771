-- What is left of a device whose first taps and statements go.
use Rattle.std.proofs.Common.{◌≡◌, inl, inr, ℕ, zero, suc, ◌+◌, ◌-◌, ◌<◌, ◌≤◌, ◌==◌, ◌&&◌, nat_le, nat_lt, not, cond, if◌then◌else◌, Bool, true, false, List, [], ◌∷◌, drop, filter, length, length-drop, Option, Some, None, Ok, Err, Result, refl, sym, ap, subst, ◌∙◌, arith}
use Rattle.std.specs.Prelude.{max}
use Rattle.std.specs.List.{AllByRecursion}
use Rattle.std.proofs.lemmas.Bool.{cases_Bool}
use Rattle.std.proofs.lemmas.Bool.Decides.{nat_tests}
use Rattle.std.proofs.lemmas.List.Sums.{sum_by-cons}
use Rattle.sqlite_rules.specs.Lists.{Has}
use Rattle.fare_record.specs.Values.{RecordValue}
use Rattle.fare_record.specs.Lanes.{day_count}
use Rattle.fare_store.specs.declared.fault.ForgetFault.{ForgetFault}
use Rattle.fare_store.specs.Standing.{Standing, Calls}
use Rattle.fare_store.specs.Tables.{put}
use Rattle.fare_store.specs.LedgerWords.{LedgerValue, is_past, front, stated_from, forget_judged, forgotten}
use Rattle.fare_store.proofs.LettingGo.{AreCut, cut_taken, front_filled, length_filled}
use Rattle.fare_tables.proofs.Lists.{member, of_filter, all_in_filter}
use Rattle.fare_tables.proofs.Steps.{says}
use Rattle.fare_ledger.specs.declared.lane.Lane.{Lane}
use Rattle.fare_ledger.specs.declared.lane.Cut.{Cut}
use Rattle.fare_ledger.specs.Held.{Held, TapRow, StatedRow, record_of, is_of, stated_in, is_kept, IsLeastKept, is_cut, is_told, forgot}
use Rattle.fare_ledger.specs.Words.{taken_in, gone_in, value_in, AreNext, AreApart, AreCounted, FitTogether, HasNumbers, IsFront, MayForget, JudgesForget}
use Rattle.fare_ledger.specs.Fronts.{before_first}
use Rattle.fare_ledger.proofs.Taken.{after, all_past}
use Rattle.fare_ledger.proofs.Stored.{turned, equal}
use Rattle.fare_ledger.proofs.Judged.{read_next, read_more}

-- ---- a device's taps

nothing : {X : Type 0} (k : ℕ) → ◌≡◌ {A = List X} (drop k []) []
nothing zero = refl
nothing (suc k) = refl

taken_left : (o d n : ℕ) (before : ℕ → ℕ) (taps : List TapRow) → AreNext before taps → taken_in o (filter (λ t. not (is_cut d n t)) taps) d ≡ drop (n - before d) (taken_in o taps d)
taken_left o d n before [] next = sym (nothing (n - before d))
taken_left o d n before (t ∷ taps) next = elim (cases_Bool (t.device == d)) [
  | inl here ↦ (
      let lane : t.lane ≡ before d + 1 = next.0 ∙ ap (λ e. before e + 1) (equal t.device d here) in
      let later : after t before d ≡ before d + 1 = rw here refl in
      let rest = taken_left o d n (after t before) taps next.1 in
      elim (cases_Bool (nat_le t.lane n)) [
        | inl low ↦ (
            let less : suc (n - after t before d) ≡ n - before d = let le : t.lane ≤ n = grind (arith, nat_tests) in omega (arith, le, lane, later) in
            let gone : is_cut d n t ≡ true = rw (here, low) refl in
            rw (gone, here) (rest ∙ ap (λ k. drop k (record_of o t ∷ taken_in o taps d)) less))
        | inr high ↦ (
            let lt : n < t.lane = grind (arith, nat_tests) in
            let none : 0 ≡ n - before d = omega (arith, lt, lane) in
            let too : n - after t before d ≡ 0 = omega (arith, lt, lane, later) in
            let stays : is_cut d n t ≡ false = rw (here, high) refl in
            rw (stays, here) (ap (λ more. record_of o t ∷ more) (rest ∙ ap (λ k. drop k (taken_in o taps d)) too) ∙ ap (λ k. drop k (record_of o t ∷ taken_in o taps d)) none))
      ])
  | inr there ↦ (
      let same : after t before d ≡ before d = rw there refl in
      let stays : is_cut d n t ≡ false = rw there refl in
      rw (stays, there) (taken_left o d n (after t before) taps next.1 ∙ ap (λ k. drop (n - k) (taken_in o taps d)) same))
]

taken_others : (o d n x : ℕ) (taps : List TapRow) → (x == d) ≡ false → taken_in o (filter (λ t. not (is_cut d n t)) taps) x ≡ taken_in o taps x
taken_others o d n x [] apart = refl
taken_others o d n x (t ∷ taps) apart =
    let rest = taken_others o d n x taps apart in
    elim (cases_Bool (t.device == x)) [
      | inl here ↦ (
          let stays : is_cut d n t ≡ false = grind (arith, nat_tests) in
          rw (stays, here) (ap (λ more. record_of o t ∷ more) rest))
      | inr there ↦ elim (cases_Bool (is_cut d n t)) [
        | inl gone ↦ rw (gone, there) rest
        | inr stays ↦ rw (stays, there) rest
      ]
    ]

-- the rows that are left are numbered behind all that went
next_left : (d n : ℕ) (before later : ℕ → ℕ) (taps : List TapRow) → AreNext before taps → later d ≡ before d + (n - before d) → ((x : ℕ) → (x == d) ≡ false → later x ≡ before x) → AreNext later (filter (λ t. not (is_cut d n t)) taps)
next_left d n before later [] next own others = tt
next_left d n before later (t ∷ taps) next own others = elim (cases_Bool (t.device == d)) [
  | inl here ↦ (
      let same = equal t.device d here in
      let lane : t.lane ≡ before d + 1 = next.0 ∙ ap (λ e. before e + 1) same in
      let more : after t before d ≡ before d + 1 = rw here refl in
      let away : (x : ℕ) → (x == d) ≡ false → (t.device == x) ≡ false = λ x apart. grind (arith, nat_tests) in
      elim (cases_Bool (nat_le t.lane n)) [
        | inl low ↦ (
            let le : t.lane ≤ n = grind (arith, nat_tests) in
            let gone : is_cut d n t ≡ true = rw (here, low) refl in
            rw gone (next_left d n (after t before) later taps next.1 (omega (arith, own, le, lane, more))
            (λ x apart. others x apart ∙ (let no = away x apart in rw no refl))))
        | inr high ↦ (
            let lt : n < t.lane = grind (arith, nat_tests) in
            let stays : is_cut d n t ≡ false = rw (here, high) refl in
            let at : t.lane ≡ later t.device + 1 = let e : t.lane ≡ later d + 1 = omega (arith, own, lt, lane) in e ∙ ap (λ k. later k + 1) (sym same) in
            let last : after t later d ≡ later d + 1 = rw here refl in
            rw stays (
              at,
              next_left d n (after t before) (after t later) taps next.1 (omega (arith, own, lt, lane, more, last))
                  (λ x apart. let no = away x apart in rw no (others x apart)),
            ))
      ])
  | inr there ↦ (
      let stays : is_cut d n t ≡ false = rw there refl in
      let at : t.lane ≡ later t.device + 1 = next.0 ∙ ap (λ k. k + 1) (sym (others t.device there)) in
      let one : after t before d ≡ before d = rw there refl in
      let two : after t later d ≡ later d = rw there refl in
      rw stays (
        at,
        next_left d n (after t before) (after t later) taps next.1 (omega (arith, own, one, two))
            (λ x apart. ap (λ k. if t.device == x then k + 1 else k) (others x apart)),
      ))
]

-- ---- the first tap that stays

past_is : (o y : ℕ) (t : TapRow) → nat_le y t.tap.day ≡ false → is_past y (record_of o t) ≡ true
past_is o y t low = let early : nat_lt t.tap.day y ≡ true = grind (arith, nat_tests) in rw early refl

past_not : (o y n : ℕ) (t : TapRow) → nat_le y t.tap.day ≡ true → t.lane ≡ n + 1 → is_past y (record_of o t) ≡ false
past_not o y n t high lane =
    let late : nat_lt t.tap.day y ≡ false = grind (arith, nat_tests) in
    let some : (t.lane == 0) ≡ false = grind (arith, nat_tests) in
    rw (late, some) refl

front_one : (y : ℕ) (r : RecordValue) (rows : List RecordValue) → is_past y r ≡ true → front y (r ∷ rows) ≡ 1 + front y rows
front_one y r rows past = ap (λ b. cond b (1 + front y rows) 0) past

front_end : (y : ℕ) (r : RecordValue) (rows : List RecordValue) → is_past y r ≡ false → front y (r ∷ rows) ≡ 0
front_end y r rows past = ap (λ b. cond b (1 + front y rows) 0) past

front_few : (y : ℕ) (rows : List RecordValue) → front y rows ≤ length rows
front_few y [] = omega arith
front_few y (r ∷ rows) = let rest = front_few y rows in elim (cases_Bool (is_past y r)) [
  | inl past ↦ omega (arith, front_one y r rows past, rest)
  | inr not ↦ omega (arith, front_end y r rows not)
]

front_none : (o d y : ℕ) (before : ℕ → ℕ) (taps : List TapRow) → AreNext before taps → filter (is_kept d y) taps ≡ [] → front y (taken_in o taps d) ≡ length (taken_in o taps d)
front_none o d y before [] next none = refl
front_none o d y before (t ∷ taps) next none = elim (cases_Bool (t.device == d)) [
  | inl here ↦ elim (cases_Bool (nat_le y t.tap.day)) [
    | inl late ↦ absurd (let e = rw (here, late) at none in cc)
    | inr early ↦ (
        let rest = front_none o d y (after t before) taps next.1 (rw (here, early) at none) in
        rw here (front_one y (record_of o t) (taken_in o taps d) (past_is o y t early) ∙ ap (λ n. 1 + n) rest ∙ (let e : 1 + length (taken_in o taps d) ≡ suc (length (taken_in o taps d)) = omega arith in e)))
  ]
  | inr there ↦ rw there (front_none o d y (after t before) taps next.1 (rw there at none))
]

mine : (d y : ℕ) (t : TapRow) → is_kept d y t ≡ true → t.device ≡ d
mine d y t is = grind (arith, nat_tests)

front_some : (o d y : ℕ) (before : ℕ → ℕ) (taps : List TapRow) (one : TapRow) → AreNext before taps → Has (filter (is_kept d y) taps) one → AllByRecursion (λ u. one.lane ≤ u.lane) (filter (is_kept d y) taps) → one.lane ≡ before d + front y (taken_in o taps d) + 1
front_some o d y before [] one next has least = absurd has
front_some o d y before (t ∷ taps) one next has least = elim (cases_Bool (t.device == d)) [
  | inl here ↦ (
      let lane : t.lane ≡ before d + 1 = next.0 ∙ ap (λ e. before e + 1) (equal t.device d here) in
      let more : after t before d ≡ before d + 1 = rw here refl in
      elim (cases_Bool (nat_le y t.tap.day)) [
        | inl late ↦ (
            let low : one.lane ≤ t.lane = (rw (here, late) at least).0 in
            let there = of_filter (is_kept d y) (t ∷ taps) one has in
            let behind : before one.device < one.lane = member (λ u. before u.device < u.lane) (t ∷ taps) one (all_past before (t ∷ taps) next) there.0 in
            let own : before d < one.lane = subst (λ e. before e < one.lane) (mine d y one there.1) behind in
            let none = front_end y (record_of o t) (taken_in o taps d) (past_not o y (before d) t late lane) in
            rw here (omega (arith, low, own, lane, none)))
        | inr early ↦ (
            let rest = front_some o d y (after t before) taps one next.1 (rw (here, early) at has) (rw (here, early) at least) in
            let first = front_one y (record_of o t) (taken_in o taps d) (past_is o y t early) in
            rw here (omega (arith, rest, first, more)))
      ])
  | inr there ↦ (
      let same : after t before d ≡ before d = rw there refl in
      let rest = front_some o d y (after t before) taps one next.1 (rw there at has) (rw there at least) in
      rw there (omega (arith, rest, same)))
]

pub front_is : (o start : ℕ) (known : ℕ → Bool) (h : Held) (d y : ℕ) (kept : Option ℕ) → FitTogether o start h → IsLeastKept h.taps d y kept → IsFront (value_in o start known h) d y kept
front_is o start known h d y None fit is =
    let g = gone_in o h d in
    let xs = taken_in o h.taps d in
    omega (arith, front_filled y g xs, length_filled g xs, front_none o d y (gone_in o h) h.taps fit.numbered is)
front_is o start known h d y (Some lane) fit is =
    let g = gone_in o h d in
    let xs = taken_in o h.taps d in
    omega (arith, is.2, front_filled y g xs, front_some o d y (gone_in o h) h.taps is.0 fit.numbered is.1 is.3)

-- ---- statements

told_left : (all : List StatedRow) (d y x e : ℕ) → stated_in (filter (λ s. not (is_told d y s)) all) x e ≡ (if (x == d) && nat_lt e y then None else stated_in all x e)
told_left [] d y x e = go ((x == d) && nat_lt e y)
  where
    go : (b : Bool) → ◌≡◌ {A = Option ℕ} None (if b then None else None)
    go true = refl
    go false = refl
told_left (s ∷ all) d y x e = elim (cases_Bool (is_of x e s)) [
  | inl here ↦ elim (cases_Bool (is_told d y s)) [
    | inl gone ↦ (let off : ((x == d) && nat_lt e y) ≡ true = grind (arith, nat_tests) in
        rw gone (told_left all d y x e ∙ rw off refl))
    | inr stays ↦ (let on : ((x == d) && nat_lt e y) ≡ false = grind (arith, nat_tests) in
        rw (stays, here, on) refl)
  ]
  | inr other ↦ elim (cases_Bool (is_told d y s)) [
    | inl gone ↦ rw (gone, other) (told_left all d y x e)
    | inr stays ↦ rw (stays, other) (told_left all d y x e)
  ]
]

told_at : (table : ℕ → ℕ → Option ℕ) (d y x e : ℕ) → (if (x == d) && nat_lt e y then None else table x e) ≡ put table d (stated_from y (table d)) x e
told_at table d y x e = elim (cases_Bool (x == d)) [
  | inr other ↦ rw other refl
  | inl here ↦ (let same = equal x d here in
      elim (cases_Bool (nat_lt e y)) [
        | inl early ↦ rw (here, early) refl
        | inr late ↦ rw (here, late) (ap (λ k. table k e) same)
      ])
]

apart_left : (all : List StatedRow) (d y : ℕ) → AreApart all → AreApart (filter (λ s. not (is_told d y s)) all)
apart_left [] d y apart = tt
apart_left (s ∷ all) d y apart = elim (cases_Bool (is_told d y s)) [
  | inl gone ↦ rw gone (apart_left all d y apart.1)
  | inr stays ↦ rw stays (all_in_filter (λ x. is_of s.device s.day x ≡ false) (λ s. not (is_told d y s)) all apart.0, apart_left all d y apart.1)
]

-- ---- the counts of the days that stay

max_low : (a b : ℕ) → a ≤ max a b
max_low a b = grind arith

max_high : (a b : ℕ) → b ≤ max a b
max_high a b = grind arith

-- each tap that has a row has a lane number
real_lanes : (o d : ℕ) (before : ℕ → ℕ) (taps : List TapRow) → AllByRecursion (λ u. before u.device < u.lane) taps → AllByRecursion (λ (r : RecordValue). (r.lane == 0) ≡ false) (taken_in o taps d)
real_lanes o d before [] all = tt
real_lanes o d before (t ∷ taps) all = elim (cases_Bool (t.device == d)) [
  | inl here ↦ (
      let low = all.0 in
      let real : (t.lane == 0) ≡ false = grind (arith, nat_tests) in
      rw here (real, real_lanes o d before taps all.1))
  | inr there ↦ rw there (real_lanes o d before taps all.1)
]

other_day : (y e : ℕ) (r : RecordValue) → y ≤ e → (r.lane == 0) ≡ false → is_past y r ≡ true → (r.tap.day == e) ≡ false
other_day y e r le real past = elim (cases_Bool (nat_lt r.tap.day y)) [
  | inl early ↦ grind (arith, nat_tests)
  | inr late ↦ absurd (let f : false ≡ true = rw (late, real) at past in cc)
]

count_left : (y e : ℕ) (rows : List RecordValue) → y ≤ e → AllByRecursion (λ (r : RecordValue). (r.lane == 0) ≡ false) rows → day_count (drop (front y rows) rows) e ≡ day_count rows e
count_left y e [] le all = refl
count_left y e (r ∷ rows) le all = elim (cases_Bool (is_past y r)) [
  | inl past ↦ (
      let first : front y (r ∷ rows) ≡ suc (front y rows) = omega (arith, front_one y r rows past) in
      let none : day_count (r ∷ rows) e ≡ 0 + day_count rows e = sum_by-cons (λ (x : RecordValue). cond (x.tap.day == e) 1 0) r rows ∙ ap (λ b. cond b 1 0 + day_count rows e) (other_day y e r le all.0 past) in
      let same : day_count (r ∷ rows) e ≡ day_count rows e = omega (arith, none) in
      ap (λ n. day_count (drop n (r ∷ rows)) e) first ∙ count_left y e rows le all.1 ∙ sym same)
  | inr not ↦ ap (λ n. day_count (drop n (r ∷ rows)) e) (front_end y r rows not)
]

-- ---- all of it

since_put : (since : ℕ → ℕ) (d v f x : ℕ) → v ≡ f → (if d == x then v else since x) ≡ put since d f x
since_put since d v f x is = elim (cases_Bool (d == x)) [
  | inl here ↦ (let too : (x == d) ≡ true = turned x d ∙ here in rw (here, too) is)
  | inr there ↦ (let too : (x == d) ≡ false = turned x d ∙ there in rw (there, too) refl)
]

module _ (o start : ℕ) (known : ℕ → Bool) (h : Held) (d y : ℕ) (cut : Cut) (may : MayForget (value_in o start known h) d y cut) (fit : FitTogether o start h) where
  abbrev more : ℕ
  more = front y (taken_in o h.taps d)

  abbrev pub left : Held
  left = forgot d cut.upto y cut.since h

  upto_is : cut.upto ≡ gone_in o h d + more
  upto_is = may.upto ∙ front_filled y (gone_in o h d) (taken_in o h.taps d)

  few : more ≤ length (taken_in o h.taps d)
  few = front_few y (taken_in o h.taps d)

  own_left : taken_in o left.taps d ≡ drop more (taken_in o h.taps d)
  own_left = taken_left o d cut.upto (gone_in o h) h.taps fit.numbered ∙ ap (λ k. drop k (taken_in o h.taps d)) {x = cut.upto - gone_in o h d} {y = more} (omega (arith, upto_is))

  left_is : (x : ℕ) → taken_in o left.taps x ≡ put (taken_in o h.taps) d (drop more (taken_in o h.taps d)) x
  left_is x = elim (cases_Bool (x == d)) [
    | inl here ↦ (let same = equal x d here in rw here (ap (taken_in o left.taps) same ∙ own_left))
    | inr there ↦ rw there (taken_others o d cut.upto x h.taps there)
  ]

  own_length : length (taken_in o left.taps d) ≡ length (taken_in o h.taps d) - more
  own_length = ap (λ (l : List RecordValue). length l) own_left ∙ length-drop more (taken_in o h.taps d)

  own_gone : gone_in o left d ≡ gone_in o h d + more
  own_gone = omega (arith, own_length, few, fit.counted d)

  other_gone : (x : ℕ) → (x == d) ≡ false → gone_in o left x ≡ gone_in o h x
  other_gone x there = λ i. (h.lanes x).taken - length (taken_others o d cut.upto x h.taps there i)

  gone_is : (x : ℕ) → gone_in o left x ≡ put (gone_in o h) d (gone_in o h d + more) x
  gone_is x = elim (cases_Bool (x == d)) [
    | inl here ↦ (let same = equal x d here in rw here (ap (gone_in o left) same ∙ own_gone))
    | inr there ↦ rw there (other_gone x there)
  ]

  are_cut : AreCut d more (gone_in o h) (gone_in o left) (taken_in o h.taps) (taken_in o left.taps)
  are_cut = record { few = few; gone_is = gone_is; left_is = left_is }

  pub forget_value : value_in o start known left ≡ forgotten d y (value_in o start known h)
  forget_value = λ i. record {
    owner = o;
    start = start;
    knows = known;
    taken = λ x. cut_taken d more (gone_in o h) (gone_in o left) (taken_in o h.taps) (taken_in o left.taps) are_cut y refl x i;
    stated = λ x e. (told_left h.statements d y x e ∙ told_at (stated_in h.statements) d y x e) i;
    closed = λ x. (h.lanes x).closed;
    retired = h.retired;
    from = λ x. since_put h.since d cut.since (max (h.since d) y) x may.since i;
  }

  own_count : (e : ℕ) → y ≤ e → day_count (taken_in o left.taps d) e ≡ day_count (taken_in o h.taps d) e
  own_count e le = ap (λ rows. day_count rows e) own_left ∙ count_left y e (taken_in o h.taps d) le (real_lanes o d (gone_in o h) h.taps (all_past (gone_in o h) h.taps fit.numbered))

  own_days : (e : ℕ) → start ≤ e → e < start + (h.lanes d).closed → e ≤ 100000 → cut.since ≤ e → stated_in left.statements d e ≡ Some (day_count (taken_in o left.taps d) e)
  own_days e low high dated since =
      let le : y ≤ e = omega (arith, since, may.since, max_high (h.since d) y) in
      let was : h.since d ≤ e = omega (arith, since, may.since, max_low (h.since d) y) in
      let late : nat_lt e y ≡ false = grind (arith, nat_tests) in
      let here : (d == d) ≡ true = grind (arith, nat_tests) in
      told_left h.statements d y d e ∙ rw (here, late) refl ∙ fit.days d e low high dated was ∙ ap {B = Option ℕ} Some (sym (own_count e le))

  days_left : AreCounted o start left
  days_left x e low high dated since = elim (cases_Bool (d == x)) [
    | inl here ↦ (
        let same : d ≡ x = equal d x here in
        let own : cut.since ≤ e = rw here at since in
        subst (λ z. stated_in left.statements z e ≡ Some (day_count (taken_in o left.taps z) e)) same (own_days e low (subst (λ z. e < start + (h.lanes z).closed) (sym same) high) dated own))
    | inr there ↦ (
        let away : (x == d) ≡ false = turned x d ∙ there in
        let was : h.since x ≤ e = rw there at since in
        told_left h.statements d y x e ∙ rw away refl ∙ fit.days x e low high dated was ∙ ap {B = Option ℕ} (λ (rows : List RecordValue). Some (day_count rows e)) (sym (taken_others o d cut.upto x h.taps away)))
  ]

  pub forget_fits : FitTogether o start left
  forget_fits = record {
    counted = λ x. elim (cases_Bool (x == d)) [
      | inl here ↦ (
          let fewer : length (taken_in o left.taps d) ≤ (h.lanes d).taken = omega (arith, own_length, fit.counted d) in
          subst (λ e. length (taken_in o left.taps e) ≤ (h.lanes e).taken) (sym (equal x d here)) fewer)
      | inr there ↦ (
          let count : length (taken_in o left.taps x) ≡ length (taken_in o h.taps x) = ap (λ (l : List RecordValue). length l) (taken_others o d cut.upto x h.taps there) in
          omega (arith, count, fit.counted x))
    ];
    numbered = next_left d cut.upto (gone_in o h) (gone_in o left) h.taps fit.numbered (omega (arith, own_gone, upto_is)) other_gone;
    single = apart_left h.statements d y fit.single;
    days = days_left;
    meta = fit.meta;
    unused = fit.unused;
  }

-- ---- what is answered

-- what was read of a device
pub record FoundOf (d y : ℕ) (lane : Lane) (retired : Bool) (since : ℕ) (kept : Option ℕ) (v : LedgerValue) : Type 0 where
  pub numbers : HasNumbers v d lane
  pub retired_is : retired ≡ v.retired d
  pub since_is : since ≡ v.from d
  pub first : IsFront v d y kept

pub device_read : (a b c e f g : Standing LedgerValue) (d y : ℕ) (lane : Lane) (retired : Bool) (since : ℕ) (kept : Option ℕ)
    → Calls a b None ((b.value ≡ a.value) × Unit {0}) (λ v. ⊥)
    → Calls b c None ((c.value ≡ b.value) × HasNumbers b.value d lane) (λ v. ⊥)
    → Calls c e None ((e.value ≡ c.value) × (retired ≡ c.value.retired d)) (λ v. ⊥)
    → Calls e f None ((f.value ≡ e.value) × (since ≡ e.value.from d)) (λ v. ⊥)
    → Calls f g None ((g.value ≡ f.value) × IsFront f.value d y kept) (λ v. ⊥)
    → Calls a g None ((g.value ≡ a.value) × FoundOf d y lane retired since kept a.value) (λ v. ⊥)
device_read a b c e f g d y lane retired since kept first second third fourth fifth =
    let one = read_next a b c (λ v. HasNumbers v d lane) first second in
    let two = read_more a c e (λ v. HasNumbers v d lane) (λ v. retired ≡ v.retired d) one third in
    let three = read_more a e f (λ v. HasNumbers v d lane × (retired ≡ v.retired d)) (λ v. since ≡ v.from d) two fourth in
    let four = read_more a f g (λ v. (HasNumbers v d lane × (retired ≡ v.retired d)) × (since ≡ v.from d)) (λ v. IsFront v d y kept) three fifth in
    says a g None _ _ (λ v. ⊥) (λ v. ⊥) (λ lawful p. (p.0, record { numbers = p.1.0.0.0; retired_is = p.1.0.0.1; since_is = p.1.0.1; first = p.1.1 })) (λ v none. none) four

pub upto_front : (v : LedgerValue) (d y : ℕ) (lane : Lane) (kept : Option ℕ) (upto : ℕ) → upto ≡ before_first kept lane.taken → HasNumbers v d lane → IsFront v d y kept → upto ≡ front y (v.taken d)
upto_front v d y lane None upto is numbers first = is ∙ numbers.taken ∙ sym first
upto_front v d y lane (Some n) upto is numbers first = is ∙ (let e : n - 1 ≡ front y (v.taken d) = omega (arith, first) in e)

pub forget_ok : (a e : Standing LedgerValue) (d y : ℕ) (lane : Lane) (retired : Bool) (since : ℕ) (kept : Option ℕ) (cut : Cut) → cut.upto ≡ before_first kept lane.taken → cut.since ≡ max since y → (FoundOf d y lane retired since kept a.value → ◌≡◌ {A = Result Unit ForgetFault} (Ok tt) (forget_judged a.value d y))
    → Calls a e None ((e.value ≡ a.value) × FoundOf d y lane retired since kept a.value) (λ v. ⊥) → Calls a e None ((e.value ≡ a.value) × JudgesForget a.value d y (Ok cut)) (λ v. ⊥)
forget_ok a e d y lane retired since kept cut upto later judge c =
    says a e None _ _ (λ v. ⊥) (λ v. ⊥) (λ lawful p. (p.0, (sym (judge p.1), record { upto = upto_front a.value d y lane kept cut.upto upto p.1.numbers p.1.first; since = later ∙ ap (λ n. max n y) p.1.since_is }))) (λ v none. none) c

pub forget_err : (a e : Standing LedgerValue) (d y : ℕ) (lane : Lane) (retired : Bool) (since : ℕ) (kept : Option ℕ) (why : ForgetFault) → (FoundOf d y lane retired since kept a.value → ◌≡◌ {A = Result Unit ForgetFault} (Err why) (forget_judged a.value d y))
    → Calls a e None ((e.value ≡ a.value) × FoundOf d y lane retired since kept a.value) (λ v. ⊥) → Calls a e None ((e.value ≡ a.value) × JudgesForget a.value d y (Err why)) (λ v. ⊥)
forget_err a e d y lane retired since kept why judge c = says a e None _ _ (λ v. ⊥) (λ v. ⊥) (λ lawful p. (p.0, sym (judge p.1))) (λ v none. none) c
