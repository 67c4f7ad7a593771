-- A tap more in a plain ledger.
use Rattle.std.proofs.Common.{◌≡◌, ℕ, zero, suc, ◌+◌, ◌-◌, ◌<◌, ◌≤◌, ◌==◌, Bool, true, false, cond, nat_eq, nat_lt, List, [], ◌∷◌, ◌++◌, length, Option, Some, None, refl, sym, ◌∙◌, ap, subst, arith, length-append}
use Rattle.std.specs.Prelude.{◌&&◌, if◌then◌else◌, count_by, slice_get}
use Rattle.std.proofs.lemmas.Bool.{and_parts}
use Rattle.std.proofs.lemmas.Bool.Decides.{nat_tests}
use Rattle.std.proofs.lemmas.List.Sums.{sum_by-append, sum_by_push}
use Rattle.std.proofs.lemmas.Option.{slice_get_past}
use Rattle.fare_record.specs.Values.{RecordValue}
use Rattle.fare_record.specs.Lanes.{day_count}
use Rattle.fare_store.specs.Tables.{put}
use Rattle.fare_store.specs.TapPlaces.{Mark, same_mark, is_of, at_place, AreNumbered, AreMarked, IsBegunAt}

-- LISTS
pushed : (xs : List RecordValue) (x : RecordValue) (k : ℕ) → slice_get (xs ++ x ∷ []) k ≡ (if nat_eq k (length xs) then Some x else slice_get xs k)
pushed [] x zero = refl
pushed [] x (suc k) = ap (λ b. if◌then◌else◌ {A = Option RecordValue} b (Some x) None) {x = false} {y = nat_eq (suc k) 0} (grind (arith, nat_tests))
pushed (y ∷ ys) x zero = ap (λ b. if◌then◌else◌ {A = Option RecordValue} b (Some x) (Some y)) {x = false} {y = nat_eq 0 (suc (length ys))} (grind (arith, nat_tests))
pushed (y ∷ ys) x (suc k) = pushed ys x k ∙ ap (λ b. if◌then◌else◌ {A = Option RecordValue} b (Some x) (slice_get ys k)) {x = nat_eq k (length ys)} {y = nat_eq (suc k) (suc (length ys))} (grind (arith, nat_tests))

pub count_last : (xs : List RecordValue) (x : RecordValue) (day : ℕ) → day_count (xs ++ x ∷ []) day ≡ day_count xs day + (if x.tap.day == day then 1 else 0)
count_last xs x day = sum_by-append (λ (r : RecordValue). if r.tap.day == day then 1 else 0) xs (x ∷ []) ∙ ap (λ n. day_count xs day + n) (by (x.tap.day == day))
  where
    by : (b : Bool) → 0 + (if b then 1 else 0) ≡ (if b then 1 else 0)
    by true = refl
    by false = refl

-- by places, of which the first so many are empty
place_more : (g : ℕ) (xs : List RecordValue) (x : RecordValue) (k : ℕ) → ◌≡◌ {A = Option RecordValue} (if nat_lt k g then None else slice_get (xs ++ x ∷ []) (k - g)) (if nat_eq k (g + length xs) then Some x else (if nat_lt k g then None else slice_get xs (k - g)))
place_more g xs x k = by (nat_lt k g) refl
  where
    by : (b : Bool) → nat_lt k g ≡ b → ◌≡◌ {A = Option RecordValue} (if b then None else slice_get (xs ++ x ∷ []) (k - g)) (if nat_eq k (g + length xs) then Some x else (if b then None else slice_get xs (k - g)))
    by true h = ap (λ t. if◌then◌else◌ {A = Option RecordValue} t (Some x) None) {x = false} {y = nat_eq k (g + length xs)} (grind (arith, nat_tests))
    by false h = pushed xs x (k - g) ∙ ap (λ t. if◌then◌else◌ {A = Option RecordValue} t (Some x) (slice_get xs (k - g))) {x = nat_eq (k - g) (length xs)} {y = nat_eq k (g + length xs)} (grind (arith, nat_tests))

-- ONE TAP MORE
-- the taps of each device after this tap came
abbrev pub IsAppended : RecordValue → (ℕ → List RecordValue) → (ℕ → List RecordValue) → Type 0
IsAppended row old new = (d : ℕ) → new d ≡ put old row.device (old row.device ++ row ∷ []) d

at_device : (row : RecordValue) (old new : ℕ → List RecordValue) → IsAppended row old new → new row.device ≡ old row.device ++ row ∷ []
at_device row old new more = more row.device ∙ ap (λ b. if b then old row.device ++ row ∷ [] else old row.device) {x = row.device == row.device} {y = true} (grind (arith, nat_tests))

-- the mark of the tap that came
abbrev pub mark_of : RecordValue → (ℕ → ℕ) → (ℕ → List RecordValue) → Mark
mark_of row gone old = (row.device, gone row.device + length (old row.device))

slice_more : (row : RecordValue) (gone : ℕ → ℕ) (old new : ℕ → List RecordValue) → IsAppended row old new → (d k : ℕ) → at_place gone new d k ≡ (if same_mark (d, k) (mark_of row gone old) then Some row else at_place gone old d k)
slice_more row gone old new more d k = by (nat_eq d row.device) refl
  where
    last : ℕ
    last = gone row.device + length (old row.device)

    by : (b : Bool) → nat_eq d row.device ≡ b → at_place gone new d k ≡ (if nat_eq d row.device && nat_eq k last then Some row else at_place gone old d k)
    by true here =
        let same : d ≡ row.device = grind (arith, nat_tests) in
        ap (λ e. at_place gone new e k) same ∙ ap (λ (l : List RecordValue). if◌then◌else◌ {A = Option RecordValue} (nat_lt k (gone row.device)) None (slice_get l (k - gone row.device))) (at_device row old new more) ∙ place_more (gone row.device) (old row.device) row k
        ∙ (λ i. if sym here i && nat_eq k last then Some row else at_place gone old (sym same i) k)
    by false there =
        let other : (d == row.device) ≡ false = grind (arith, nat_tests) in
        ap (λ (l : List RecordValue). if◌then◌else◌ {A = Option RecordValue} (nat_lt k (gone d)) None (slice_get l (k - gone d))) (more d ∙ ap (λ b. if b then old row.device ++ row ∷ [] else old d) other) ∙ (λ i. if sym there i && nat_eq k last then Some row else at_place gone old d k)

-- no tap stood there
free : (row : RecordValue) (gone : ℕ → ℕ) (old : ℕ → List RecordValue) (d k : ℕ) → same_mark (d, k) (mark_of row gone old) ≡ true → at_place gone old d k ≡ None
free row gone old d k here =
    let p = and_parts (nat_eq d row.device) (nat_eq k (gone row.device + length (old row.device))) here in
    let same : row.device ≡ d = grind (arith, nat_tests) in
    let last : k ≡ gone row.device + length (old row.device) = grind (arith, nat_tests) in
    by (nat_lt k (gone d)) (slice_get_past (old d) (k - gone d) (subst (λ e. length (old e) ≤ k - gone e) same (omega (arith, last))))
  where
    by : (b : Bool) → slice_get (old d) (k - gone d) ≡ None → ◌≡◌ {A = Option RecordValue} (if b then None else slice_get (old d) (k - gone d)) None
    by true e = refl
    by false e = e

numbered_more : (row : RecordValue) (gone : ℕ → ℕ) (old new : ℕ → List RecordValue) → IsAppended row old new → row.lane ≡ gone row.device + length (old row.device) + 1 → AreNumbered (at_place gone old) → AreNumbered (at_place gone new)
numbered_more row gone old new more next numbered d k r is = by (same_mark (d, k) (mark_of row gone old)) refl
  where
    at : (b : Bool) → same_mark (d, k) (mark_of row gone old) ≡ b → (if b then Some row else at_place gone old d k) ≡ Some r
    at b e = sym (slice_more row gone old new more d k ∙ ap (λ t. if t then Some row else at_place gone old d k) e) ∙ is

    by : (b : Bool) → same_mark (d, k) (mark_of row gone old) ≡ b → (r.device ≡ d) × (r.lane ≡ k + 1)
    by true here =
        let one : ◌≡◌ {A = Option RecordValue} (Some row) (Some r) = at true here in
        let is_row : row ≡ r = cc in
        let p = and_parts (nat_eq d row.device) (nat_eq k (gone row.device + length (old row.device))) here in
        let same : row.device ≡ d = grind (arith, nat_tests) in
        let lane : row.lane ≡ k + 1 = grind (arith, nat_tests) in
        (ap (λ (x : RecordValue). x.device) (sym is_row) ∙ same, ap (λ (x : RecordValue). x.lane) (sym is_row) ∙ lane)
    by false there = numbered d k r (at false there)

-- the marks of each day with this tap's
abbrev pub IsNoted : RecordValue → Mark → (ℕ → List Mark) → (ℕ → List Mark) → Type 0
IsNoted row mark marks noted = (day : ℕ) → noted day ≡ put marks row.tap.day (marks row.tap.day ++ mark ∷ []) day

count_push : (m x : Mark) (ms : List Mark) → count_by (same_mark m) (ms ++ x ∷ []) ≡ count_by (same_mark m) ms + cond (same_mark m x) 1 0
count_push m x ms = sum_by_push (λ y. cond (same_mark m y) 1 0) ms x

marked_more : (row : RecordValue) (gone : ℕ → ℕ) (old new : ℕ → List RecordValue) (marks noted : ℕ → List Mark) → IsAppended row old new → IsNoted row (mark_of row gone old) marks noted → AreMarked gone (at_place gone old) marks → AreMarked gone (at_place gone new) noted
marked_more row gone old new marks noted more notes are day m behind = by (same_mark m (mark_of row gone old)) refl (day == row.tap.day) refl
  where
    one : Bool → ℕ
    one b = if b then 1 else 0

    at : (b : Bool) → same_mark m (mark_of row gone old) ≡ b → at_place gone new m.0 m.1 ≡ (if b then Some row else at_place gone old m.0 m.1)
    at b e = slice_more row gone old new more m.0 m.1 ∙ ap (λ t. if t then Some row else at_place gone old m.0 m.1) e

    on : (b : Bool) → (day == row.tap.day) ≡ b → count_by (same_mark m) (noted day) ≡ count_by (same_mark m) (if b then marks row.tap.day ++ mark_of row gone old ∷ [] else marks day)
    on b e = ap (count_by (same_mark m)) (notes day ∙ ap (λ t. if t then marks row.tap.day ++ mark_of row gone old ∷ [] else marks day) e)

    none : same_mark m (mark_of row gone old) ≡ true → (d : ℕ) → count_by (same_mark m) (marks d) ≡ 0
    none here d = are d m behind ∙ ap (λ o. one (is_of d o)) (free row gone old m.0 m.1 here)

    by : (b : Bool) → same_mark m (mark_of row gone old) ≡ b → (t : Bool) → (day == row.tap.day) ≡ t → count_by (same_mark m) (noted day) ≡ one (is_of day (at_place gone new m.0 m.1))
    by true here true same =
        let equal : (row.tap.day == day) ≡ true = grind (arith, nat_tests) in
        on true same ∙ count_push m (mark_of row gone old) (marks row.tap.day) ∙ (λ i. none here row.tap.day i + cond (here i) 1 0) ∙ ap one (sym equal) ∙ ap (λ o. one (is_of day o)) (sym (at true here))
    by true here false other =
        let differ : (row.tap.day == day) ≡ false = grind (arith, nat_tests) in
        on false other ∙ none here day ∙ ap one (sym differ) ∙ ap (λ o. one (is_of day o)) (sym (at true here))
    by false there true same =
        let equal : row.tap.day ≡ day = grind (arith, nat_tests) in
        on true same ∙ count_push m (mark_of row gone old) (marks row.tap.day) ∙ (λ i. count_by (same_mark m) (marks row.tap.day) + cond (there i) 1 0) ∙ no_more (count_by (same_mark m) (marks row.tap.day)) ∙ ap (λ d. count_by (same_mark m) (marks d)) equal ∙ are day m behind ∙ ap (λ o. one (is_of day o)) (sym (at false there))
      where
        no_more : (n : ℕ) → n + 0 ≡ n
        no_more n = omega arith
    by false there false other = on false other ∙ are day m behind ∙ ap (λ o. one (is_of day o)) (sym (at false there))

-- THE FACTS OF A LEDGER'S TAPS
pub record AreKept (begun : Option ℕ) (gone : ℕ → ℕ) (held : ℕ → List RecordValue) (marks : ℕ → List Mark) : Type 0 where
  pub numbered : AreNumbered (at_place gone held)
  pub marked : AreMarked gone (at_place gone held) marks
  pub begun_at : IsBegunAt begun gone held

-- the maps read the same
pub kept_same : (begun : Option ℕ) (gone : ℕ → ℕ) (old new : ℕ → List RecordValue) (marks noted : ℕ → List Mark) → ((d : ℕ) → new d ≡ old d) → ((day : ℕ) → noted day ≡ marks day) → AreKept begun gone old marks → AreKept begun gone new noted
kept_same begun gone old new marks noted same notes k =
    let taps : old ≡ new = λ i d. sym (same d) i in
    let days : marks ≡ noted = λ i d. sym (notes d) i in
    subst (λ h. AreKept begun gone h noted) taps (subst (λ m. AreKept begun gone old m) days k)

-- and with one tap more
pub kept_tap : (row : RecordValue) (begun : Option ℕ) (gone : ℕ → ℕ) (old new : ℕ → List RecordValue) (marks noted : ℕ → List Mark) → IsAppended row old new → row.lane ≡ gone row.device + length (old row.device) + 1 → IsNoted row (mark_of row gone old) marks noted
    → AreKept begun gone old marks → AreKept (Some row.device) gone new noted
kept_tap row begun gone old new marks noted more next notes k = record {
  numbered = numbered_more row gone old new more next k.numbered;
  marked = marked_more row gone old new marks noted more notes k.marked;
  begun_at = record {
    none = λ is. absurd (let e : ◌≡◌ {A = Option ℕ} (Some row.device) None = is in cc);
    one = λ d is.
        let e : ◌≡◌ {A = Option ℕ} (Some row.device) (Some d) = is in
        let same : row.device ≡ d = cc in
        let longer : length (new row.device) ≡ length (old row.device) + 1 = ap (λ (l : List RecordValue). length l) (at_device row old new more) ∙ length-append (old row.device) (row ∷ []) in
        subst (λ x. 0 < gone x + length (new x)) same (omega (arith, longer));
  };
}
