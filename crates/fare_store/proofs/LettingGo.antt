-- The first taps of a device go.
use Rattle.std.proofs.Common.{◌≡◌, ℕ, zero, suc, ◌+◌, ◌-◌, ◌<◌, ◌≤◌, ◌==◌, Bool, true, false, cond, nat_eq, nat_lt, List, [], ◌∷◌, ◌++◌, length, drop, Ok, Err, Option, Some, None, refl, sym, ◌∙◌, ap, subst, arith, append_assoc, length-drop}
use Rattle.std.specs.Prelude.{◌||◌, ◌&&◌, not, nat_le, Result, max, replicate, if◌then◌else◌, slice_get, Vec}
use Rattle.std.specs.Global.{Global}
use Rattle.std.specs.Ordering.{nat_cmp, is_lt}
use Rattle.std.proofs.lemmas.Bool.Decides.{nat_tests}
use Rattle.std.proofs.lemmas.List.{drop_at, drop-drop, length-replicate}
use Rattle.std.proofs.lemmas.List.Sums.{sum_by-cons}
use Rattle.std.proofs.lemmas.Option.{slice_get_within}
use Rattle.fare_record.specs.Values.{RecordValue}
use Rattle.fare_record.specs.Lanes.{day_count}
use Rattle.fare_store.specs.declared.plain_ledger.Gone.{Gone}
use Rattle.fare_store.specs.declared.fault.ForgetFault.{ForgetFault}
use Rattle.fare_store.specs.declared.fault.ForgetFault.TheVariants.{UnknownDevice, NotClosed}
use Rattle.fare_store.specs.Tables.{put}
use Rattle.fare_store.specs.LedgerWords.{LedgerValue, blank, let_go, is_past, front, stated_from, forget_judged}
use Rattle.fare_store.specs.TapPlaces.{Mark, items_of, same_day, is_of, gone_in, from_in, at_place, AreNumbered, AreMarked, AreLetGo, IsBegunAt}
use Rattle.fare_store.specs.PlainLedgerWords.{filled}
use Rattle.fare_store.proofs.Tables.{turned, same_number}
use Rattle.fare_store.proofs.Held.{held_behind}

-- BEHIND BLANKS
pub length_filled : (n : ℕ) (held : List RecordValue) → length (filled n held) ≡ n + length held
length_filled zero held = omega arith
length_filled (suc n) held = omega (arith, length_filled n held)

pub filled_push : (n : ℕ) (held : List RecordValue) (r : RecordValue) → filled n (held ++ r ∷ []) ≡ filled n held ++ r ∷ []
filled_push n held r = sym (append_assoc (replicate n blank) held (r ∷ []))

blank_past : (day : ℕ) → is_past day blank ≡ true
blank_past day = by (nat_lt 100001 day)
  where
    by : (b : Bool) → (b || true) ≡ true
    by true = refl
    by false = refl

pub front_filled : (day n : ℕ) (held : List RecordValue) → front day (filled n held) ≡ n + front day held
front_filled day zero held = omega arith
front_filled day (suc n) held =
    let here : front day (filled (suc n) held) ≡ 1 + front day (filled n held) = ap (λ b. cond b (1 + front day (filled n held)) 0) (blank_past day) in
    omega (arith, here, front_filled day n held)

pub let_go_filled : (n more : ℕ) (held : List RecordValue) → let_go (n + more) (filled n held) ≡ filled (n + more) (drop more held)
let_go_filled n more held = ap (λ l. replicate (n + more) blank ++ l) (sym (drop-drop more n (filled n held)) ∙ ap (drop more) (drop_at (replicate n blank) held n (length-replicate n blank)))

pub count_filled : (day n : ℕ) (held : List RecordValue) → day ≤ 100000 → day_count (filled n held) day ≡ day_count held day
count_filled day zero held dated = refl
count_filled day (suc n) held dated =
    let other : (100001 == day) ≡ false = grind (arith, nat_tests) in
    let here : day_count (filled (suc n) held) day ≡ 0 + day_count (filled n held) day = sum_by-cons (λ (r : RecordValue). cond (r.tap.day == day) 1 0) blank (filled n held) ∙ ap (λ b. cond b 1 0 + day_count (filled n held) day) other in
    omega (arith, here, count_filled day n held dated)

-- THE FIRST SO MANY GO
-- what is left of each device's taps, and how many of them went
pub record AreCut (device more : ℕ) (gone less : ℕ → ℕ) (held left : ℕ → List RecordValue) : Type 0 where
  pub few : more ≤ length (held device)
  pub gone_is : (d : ℕ) → less d ≡ put gone device (gone device + more) d
  pub left_is : (d : ℕ) → left d ≡ put held device (drop more (held device)) d

abbrev Row : Type 0
Row = Option RecordValue

slice_drop : (m : ℕ) (xs : List RecordValue) (j : ℕ) → slice_get (drop m xs) j ≡ slice_get xs (m + j)
slice_drop zero xs j = ap (slice_get xs) {x = j} {y = 0 + j} (omega arith)
slice_drop (suc m) [] j = none (suc m + j)
  where
    none : (k : ℕ) → ◌≡◌ {A = Row} None (slice_get [] k)
    none k = refl
slice_drop (suc m) (x ∷ xs) j = slice_drop m xs j ∙ ap (slice_get (x ∷ xs)) {x = suc (m + j)} {y = suc m + j} (omega arith)

-- a device's place of which the tap stays
place_cut : (g m : ℕ) (xs : List RecordValue) (k : ℕ) → g + m ≤ k → ◌≡◌ {A = Row} (if nat_lt k (g + m) then None else slice_get (drop m xs) (k - (g + m))) (if nat_lt k g then None else slice_get xs (k - g))
place_cut g m xs k le =
    let first : nat_lt k (g + m) ≡ false = grind (arith, nat_tests) in
    let second : nat_lt k g ≡ false = grind (arith, nat_tests) in
    let place : m + (k - (g + m)) ≡ k - g = omega (arith, le) in
    ap (λ b. if◌then◌else◌ {A = Row} b None (slice_get (drop m xs) (k - (g + m)))) first ∙ slice_drop m xs (k - (g + m)) ∙ ap (slice_get xs) place ∙ ap (λ b. if◌then◌else◌ {A = Row} b None (slice_get xs (k - g))) (sym second)

module _ (device more : ℕ) (gone less : ℕ → ℕ) (held left : ℕ → List RecordValue) (c : AreCut device more gone less held left) where
  here_gone : (d : ℕ) → (d == device) ≡ true → less d ≡ gone d + more
  here_gone d h = let same = same_number d device h in c.gone_is d ∙ ap (λ b. if b then gone device + more else gone d) h ∙ ap (λ e. gone e + more) (sym same)

  here_left : (d : ℕ) → (d == device) ≡ true → left d ≡ drop more (held d)
  here_left d h = let same = same_number d device h in c.left_is d ∙ ap (λ b. if b then drop more (held device) else held d) h ∙ ap (λ e. drop more (held e)) (sym same)

  other_gone : (d : ℕ) → (d == device) ≡ false → less d ≡ gone d
  other_gone d h = c.gone_is d ∙ ap (λ b. if b then gone device + more else gone d) h

  other_left : (d : ℕ) → (d == device) ≡ false → left d ≡ held d
  other_left d h = c.left_is d ∙ ap (λ b. if b then drop more (held device) else held d) h

  -- as many were taken as before
  total_same : (d : ℕ) → less d + length (left d) ≡ gone d + length (held d)
  total_same d = by (d == device) refl
    where
      by : (b : Bool) → (d == device) ≡ b → less d + length (left d) ≡ gone d + length (held d)
      by true h =
          let few : more ≤ length (held d) = subst (λ e. more ≤ length (held e)) (sym (same_number d device h)) c.few in
          let len : length (left d) ≡ length (held d) - more = ap (λ (l : List RecordValue). length l) (here_left d h) ∙ length-drop more (held d) in
          omega (arith, here_gone d h, len, few)
      by false h = λ i. other_gone d h i + length (other_left d h i)

  gone_grows : (d : ℕ) → gone d ≤ less d
  gone_grows d = by (d == device) refl
    where
      by : (b : Bool) → (d == device) ≡ b → gone d ≤ less d
      by true h = omega (arith, here_gone d h)
      by false h = omega (arith, other_gone d h)

  -- what isn't let go stays in its place
  stays : (d k : ℕ) → less d ≤ k → at_place less left d k ≡ at_place gone held d k
  stays d k le = by (d == device) refl
    where
      by : (b : Bool) → (d == device) ≡ b → at_place less left d k ≡ at_place gone held d k
      by true h =
          let at : gone d + more ≤ k = omega (arith, le, here_gone d h) in
          (λ i. if◌then◌else◌ {A = Row} (nat_lt k (here_gone d h i)) None (slice_get (here_left d h i) (k - here_gone d h i))) ∙ place_cut (gone d) more (held d) k at
      by false h = λ i. if◌then◌else◌ {A = Row} (nat_lt k (other_gone d h i)) None (slice_get (other_left d h i) (k - other_gone d h i))

  pub cut_numbered : AreNumbered (at_place gone held) → AreNumbered (at_place less left)
  cut_numbered numbered d k r is = numbered d k r (sym (stays d k (held_behind less left d k r is)) ∙ is)

  pub cut_marked : (marks : ℕ → List Mark) → AreMarked gone (at_place gone held) marks → AreMarked less (at_place less left) marks
  cut_marked marks marked day m le = marked day m (omega (arith, le, gone_grows m.0)) ∙ ap (λ o. if is_of day o then 1 else 0) (sym (stays m.0 m.1 le))

  pub cut_begun : (begun : Option ℕ) → IsBegunAt begun gone held → IsBegunAt begun less left
  cut_begun begun at = record {
    none = λ is d.
        let p = at.none is d in
        let len : length (held d) ≡ 0 = ap (λ (l : List RecordValue). length l) p.1 in
        (omega (arith, total_same d, p.0, len), empty (left d) (omega (arith, total_same d, p.0, len)));
    one = λ d is. omega (arith, total_same d, at.one d is);
  }
    where
      empty : (l : List RecordValue) → length l ≡ 0 → l ≡ []
      empty [] e = refl
      empty (x ∷ xs) e = absurd (omega (arith, e))

  -- as a ledger shows it
  pub cut_taken : (day : ℕ) → more ≡ front day (held device) → (d : ℕ) → filled (less d) (left d) ≡ put (λ e. filled (gone e) (held e)) device (let_go (front day (filled (gone device) (held device))) (filled (gone device) (held device))) d
  cut_taken day is d = by (d == device) refl
    where
      by : (b : Bool) → (d == device) ≡ b → filled (less d) (left d) ≡ (if d == device then let_go (front day (filled (gone device) (held device))) (filled (gone device) (held device)) else filled (gone d) (held d))
      by true h =
          let same = same_number d device h in
          let n : gone device + more ≡ front day (filled (gone device) (held device)) = omega (arith, is, front_filled day (gone device) (held device)) in
          (λ i. filled (here_gone d h i) (here_left d h i)) ∙ (λ i. filled (gone (same i) + more) (drop more (held (same i)))) ∙ sym (let_go_filled (gone device) more (held device)) ∙ ap (λ k. let_go k (filled (gone device) (held device))) n
          ∙ ap (λ b. if b then let_go (front day (filled (gone device) (held device))) (filled (gone device) (held device)) else filled (gone d) (held d)) (sym h)
      by false h = (λ i. filled (other_gone d h i) (other_left d h i)) ∙ ap (λ b. if b then let_go (front day (filled (gone device) (held device))) (filled (gone device) (held device)) else filled (gone d) (held d)) (sym h)

-- WHAT IS KEPT OF WHAT WENT
pub gone_put : (device : ℕ) (g : Gone) (old new : ℕ → Option Gone) → ((d : ℕ) → new d ≡ cond (nat_eq device d) (Some g) (old d)) → (d : ℕ) → gone_in (new d) ≡ put (λ e. gone_in (old e)) device g.count d
gone_put device g old new writes d = ap gone_in (writes d) ∙ by (nat_eq device d) ∙ ap (λ b. if b then g.count else gone_in (old d)) (turned device d)
  where
    by : (b : Bool) → gone_in (cond b (Some g) (old d)) ≡ (if b then g.count else gone_in (old d))
    by true = refl
    by false = refl

pub from_put : (device : ℕ) (g : Gone) (old new : ℕ → Option Gone) → ((d : ℕ) → new d ≡ cond (nat_eq device d) (Some g) (old d)) → (d : ℕ) → from_in (new d) ≡ put (λ e. from_in (old e)) device g.from d
from_put device g old new writes d = ap from_in (writes d) ∙ by (nat_eq device d) ∙ ap (λ b. if b then g.from else from_in (old d)) (turned device d)
  where
    by : (b : Bool) → from_in (cond b (Some g) (old d)) ≡ (if b then g.from else from_in (old d))
    by true = refl
    by false = refl

pub let_go_put : (device : ℕ) (g : Gone) (old new : ℕ → Option Gone) → ((d : ℕ) → new d ≡ cond (nat_eq device d) (Some g) (old d)) → g.count ≤ 1099511627775 → 0 < g.from → AreLetGo old → AreLetGo new
let_go_put device g old new writes few some are d h is = by (nat_eq device d) refl
  where
    by : (b : Bool) → nat_eq device d ≡ b → (h.count ≤ 1099511627775) × (0 < h.from)
    by true here =
        let one : ◌≡◌ {A = Option Gone} (Some g) (Some h) = sym (writes d ∙ ap (λ t. cond t (Some g) (old d)) here) ∙ is in
        let same : g ≡ h = cc in
        (subst (λ (x : Gone). x.count ≤ 1099511627775) same few, subst (λ (x : Gone). 0 < x.from) same some)
    by false there = are d h (sym (writes d ∙ ap (λ t. cond t (Some g) (old d)) there) ∙ is)

-- STATEMENTS
-- one day more of which the statement goes
pub one_removed : (device number : ℕ) (first old new : ℕ × ℕ → Option ℕ) → ((d e : ℕ) → old (d, e) ≡ put (λ x y. first (x, y)) device (stated_from number (λ y. first (device, y))) d e)
    → ((q : ℕ × ℕ) → new q ≡ cond (same_day (device, number) q) None (old q)) → (d e : ℕ) → new (d, e) ≡ put (λ x y. first (x, y)) device (stated_from (number + 1) (λ y. first (device, y))) d e
one_removed device number first old new so writes d e = writes (d, e) ∙ (λ i. cond (turned device d i && nat_eq number e) None (so d e i)) ∙ by (d == device) refl
  where
    by : (b : Bool) → (d == device) ≡ b → ◌≡◌ {A = Option ℕ} (cond (b && nat_eq number e) None ((if b then stated_from number (λ y. first (device, y)) else (λ y. first (d, y))) e)) ((if b then stated_from (number + 1) (λ y. first (device, y)) else (λ y. first (d, y))) e)
    by false h = refl
    by true h = day (nat_eq number e) refl (nat_lt e number) refl
      where
        day : (s : Bool) → nat_eq number e ≡ s → (t : Bool) → nat_lt e number ≡ t → ◌≡◌ {A = Option ℕ} (cond s None (if nat_lt e number then None else first (device, e))) (if nat_lt e (number + 1) then None else first (device, e))
        day true p t q = ap (λ b. if◌then◌else◌ {A = Option ℕ} b None (first (device, e))) {x = true} {y = nat_lt e (number + 1)} (grind (arith, nat_tests))
        day false p true q = ap (λ b. if◌then◌else◌ {A = Option ℕ} b None (first (device, e))) {x = nat_lt e number} {y = nat_lt e (number + 1)} (grind (arith, nat_tests))
        day false p false q = ap (λ b. if◌then◌else◌ {A = Option ℕ} b None (first (device, e))) {x = nat_lt e number} {y = nat_lt e (number + 1)} (grind (arith, nat_tests))

-- A TAP MORE
pub taken_more : (device : ℕ) (r : RecordValue) (gone : ℕ → ℕ) (held more : ℕ → List RecordValue) → ((d : ℕ) → more d ≡ put held device (held device ++ r ∷ []) d) → (d : ℕ) → filled (gone d) (more d) ≡ put (λ e. filled (gone e) (held e)) device (filled (gone device) (held device) ++ r ∷ []) d
taken_more device r gone held more is d = ap (filled (gone d)) (is d) ∙ by (d == device) refl
  where
    by : (b : Bool) → (d == device) ≡ b → filled (gone d) (if b then held device ++ r ∷ [] else held d) ≡ (if b then filled (gone device) (held device) ++ r ∷ [] else filled (gone d) (held d))
    by true h = ap (λ e. filled (gone e) (held device ++ r ∷ [])) (same_number d device h) ∙ filled_push (gone device) (held device) r
    by false h = refl

-- LANE NUMBERS
pub lane_of_place : (gone : ℕ → ℕ) (held : ℕ → List RecordValue) (d j : ℕ) (r : RecordValue) → AreNumbered (at_place gone held) → slice_get (held d) j ≡ Some r → r.lane ≡ gone d + j + 1
lane_of_place gone held d j r numbered is =
    let behind : nat_lt (gone d + j) (gone d) ≡ false = grind (arith, nat_tests) in
    let place : gone d + j - gone d ≡ j = omega arith in
    (numbered d (gone d + j) r (ap (λ b. if◌then◌else◌ {A = Row} b None (slice_get (held d) (gone d + j - gone d))) behind ∙ ap (slice_get (held d)) place ∙ is)).1

pub lane_of_last : (gone : ℕ → ℕ) (held : ℕ → List RecordValue) (d : ℕ) (r : RecordValue) → AreNumbered (at_place gone held) → slice_get (held d) (length (held d) - 1) ≡ Some r → r.lane ≡ gone d + length (held d)
lane_of_last gone held d r numbered is =
    let within : length (held d) - 1 < length (held d) = slice_get_within (held d) (length (held d) - 1) r is in
    omega (arith, lane_of_place gone held d (length (held d) - 1) r numbered is, within)

-- THE MAPS
-- the first taps of one device go
pub lent_less : (device count : ℕ) (old new : ℕ → Option (Vec RecordValue Global)) (was is : Vec RecordValue Global) → old device ≡ Some was → is.items ≡ drop count was.items → ((d : ℕ) → new d ≡ cond (nat_eq device d) (Some is) (old d))
    → (d : ℕ) → items_of (new d) ≡ put (λ e. items_of (old e)) device (drop count (items_of (old device))) d
lent_less device count old new was is there less writes d = ap items_of (writes d) ∙ by (nat_eq device d) ∙ ap (λ b. if b then drop count (items_of (old device)) else items_of (old d)) (turned device d)
  where
    by : (b : Bool) → items_of (cond b (Some is) (old d)) ≡ (if b then drop count (items_of (old device)) else items_of (old d))
    by true = less ∙ ap (λ o. drop count (items_of o)) (sym there)
    by false = refl

-- of an unknown device there is none
pub none_less : (device count : ℕ) (old new : ℕ → Option (Vec RecordValue Global)) → old device ≡ None → ((d : ℕ) → new d ≡ old d) → (d : ℕ) → items_of (new d) ≡ put (λ e. items_of (old e)) device (drop count (items_of (old device))) d
none_less device count old new none same d = ap items_of (same d) ∙ by (d == device) refl
  where
    drop_none : (n : ℕ) → ◌≡◌ {A = List RecordValue} (drop n []) []
    drop_none zero = refl
    drop_none (suc n) = refl

    empty : drop count (items_of (old device)) ≡ []
    empty = ap (λ o. drop count (items_of o)) none ∙ drop_none count

    by : (b : Bool) → (d == device) ≡ b → items_of (old d) ≡ (if b then drop count (items_of (old device)) else items_of (old d))
    by true h = ap (λ e. items_of (old e)) (same_number d device h) ∙ ap items_of none ∙ sym empty
    by false h = refl

-- no statement went yet
pub none_removed : (device : ℕ) (stated : ℕ × ℕ → Option ℕ) (d e : ℕ) → stated (d, e) ≡ put (λ x y. stated (x, y)) device (stated_from 0 (λ y. stated (device, y))) d e
none_removed device stated d e = by (d == device) refl
  where
    by : (b : Bool) → (d == device) ≡ b → stated (d, e) ≡ (if b then stated_from 0 (λ y. stated (device, y)) else (λ y. stated (d, y))) e
    by true h = ap (λ x. stated (x, e)) (same_number d device h) ∙ ap (λ b. if◌then◌else◌ {A = Option ℕ} b None (stated (device, e))) {x = false} {y = nat_lt e 0} (grind (arith, nat_tests))
    by false h = refl

-- BEFORE THE FIRST DAY
no_front : (gone : ℕ → ℕ) (held : ℕ → List RecordValue) (d : ℕ) → AreNumbered (at_place gone held) → front 0 (held d) ≡ 0
no_front gone held d numbered = by (held d) (lane_of_place gone held d 0)
  where
    by : (xs : List RecordValue) → ((r : RecordValue) → AreNumbered (at_place gone held) → slice_get xs 0 ≡ Some r → r.lane ≡ gone d + 0 + 1) → front 0 xs ≡ 0
    by [] lane = refl
    by (r ∷ rs) lane =
        let n : r.lane ≡ gone d + 0 + 1 = lane r numbered refl in
        let early : nat_lt r.tap.day 0 ≡ false = grind (arith, nat_tests) in
        let real : (r.lane == 0) ≡ false = grind (arith, nat_tests) in
        λ i. cond (early i || real i) (1 + front 0 rs) 0

-- what went stands before the first day
pub front_gone : (gone : ℕ → ℕ) (held : ℕ → List RecordValue) (d : ℕ) → AreNumbered (at_place gone held) → front 0 (filled (gone d) (held d)) ≡ gone d
front_gone gone held d numbered = omega (arith, front_filled 0 (gone d) (held d), no_front gone held d numbered)

pub zero_taken : (gone : ℕ → ℕ) (held : ℕ → List RecordValue) (device : ℕ) → AreNumbered (at_place gone held) → (d : ℕ) → filled (gone d) (held d) ≡ put (λ e. filled (gone e) (held e)) device (let_go (front 0 (filled (gone device) (held device))) (filled (gone device) (held device))) d
zero_taken gone held device numbered d = by (d == device) refl
  where
    n : front 0 (filled (gone device) (held device)) ≡ gone device + 0
    n = omega (arith, front_gone gone held device numbered)

    same : filled (gone device) (held device) ≡ let_go (front 0 (filled (gone device) (held device))) (filled (gone device) (held device))
    same = ap (λ k. filled k (held device)) {x = gone device} {y = gone device + 0} (omega arith) ∙ sym (let_go_filled (gone device) 0 (held device)) ∙ ap (λ k. let_go k (filled (gone device) (held device))) (sym n)

    by : (b : Bool) → (d == device) ≡ b → filled (gone d) (held d) ≡ (if b then let_go (front 0 (filled (gone device) (held device))) (filled (gone device) (held device)) else filled (gone d) (held d))
    by true h = ap (λ e. filled (gone e) (held e)) (same_number d device h) ∙ same
    by false h = refl

pub less : (a b : ℕ) → is_lt (nat_cmp a b) ≡ true → a < b
less a b h = grind (arith, nat_tests)

pub not_less : (a b : ℕ) → is_lt (nat_cmp a b) ≡ false → b ≤ a
not_less a b h = grind (arith, nat_tests)

pub less_max : (a b : ℕ) → a < b → b ≡ max a b
less_max a b h = grind arith

pub more_max : (a b : ℕ) → b ≤ a → a ≡ max a b
more_max a b h = grind arith

pub zero_from : (device : ℕ) (from : ℕ → ℕ) (d : ℕ) → from d ≡ put from device (max (from device) 0) d
zero_from device from d = by (d == device) refl
  where
    by : (b : Bool) → (d == device) ≡ b → from d ≡ (if b then max (from device) 0 else from d)
    by true h = ap from (same_number d device h) ∙ more_max (from device) 0 (omega arith)
    by false h = refl

-- JUDGED
pub may_forget : (v : LedgerValue) (device day : ℕ) → v.knows device ≡ true → (v.retired device || nat_le day (v.start + v.closed device)) ≡ true → forget_judged v device day ≡ Ok tt
may_forget v device day known over =
    let open_day : (not (v.retired device) && nat_lt (v.start + v.closed device) day) ≡ false = by (v.retired device) over in
    λ i. if◌then◌else◌ {A = Result Unit ForgetFault} (not (known i)) (Err UnknownDevice) (if◌then◌else◌ {A = Result Unit ForgetFault} (open_day i) (Err NotClosed) (Ok tt))
  where
    by : (b : Bool) → (b || nat_le day (v.start + v.closed device)) ≡ true → (not b && nat_lt (v.start + v.closed device) day) ≡ false
    by true e = refl
    by false e = let closed : nat_le day (v.start + v.closed device) ≡ true = e in grind (arith, nat_tests)
