-- A device counts what it numbered.
use Rattle.std.proofs.Common.{◌≡◌, ◌≢◌, ◌<◌, ◌≤◌, ◌+◌, ◌-◌, ℕ, zero, suc, Bool, true, false, cond, List, [], ◌∷◌, ◌++◌, length, drop, set, get_or, max, None, Some, nat_eq, refl, sym, ap, ◌∙◌, subst, arith, length-set, eqb-true}
use Rattle.std.specs.Prelude.{◌==◌, Option, filter, replicate, slice_get, slice_index, position, option_and_then}
use Rattle.std.specs.List.{AllByRecursion}
use Rattle.std.specs.Map.{keys_of, lookup}
use Rattle.std.proofs.lemmas.Bool.Decides.{Decides-eqb, nat_tests}
use Rattle.std.proofs.lemmas.List.{append-nil, drop-drop, get_or-set_same, length-append, length-drop, length_push}
use Rattle.std.proofs.lemmas.List.Elements.{filter-append}
use Rattle.std.proofs.lemmas.List.Quantifiers.{position-Some}
use Rattle.std.proofs.lemmas.List.Sums.{length-filter}
use Rattle.std.proofs.lemmas.Map.Entries.{lookup_head, lookup_tail}
use Rattle.std.proofs.lemmas.Option.{slice_get-get_or, slice_get_within}
use Rattle.fare_record.specs.Values.{RecordValue}
use Rattle.fare_record.specs.Lanes.{part, day_count}
use Rattle.fare_scheme.specs.Values.{SchemeValue}
use Rattle.fare_device.specs.DeviceWords.{DeviceValue, fresh_device, acknowledged, last_link, no_counts}
use Rattle.fare_device.specs.Numbered.{AreCounted, IsTurned, HasNumbered}
use Rattle.fare_device.specs.Tapping.{IsTapped}
use Rattle.fare_device.specs.Turning.{turned, without, day_acknowledged, kept_count, count_on}

-- LISTS
all_weaken : {X : Type 0} (P Q : X → Type 0) → ((x : X) → P x → Q x) → (xs : List X) → AllByRecursion P xs → AllByRecursion Q xs
all_weaken P Q f [] h = tt
all_weaken P Q f (x ∷ xs) h = (f x h.0, all_weaken P Q f xs h.1)

all_push : {X : Type 0} (P : X → Type 0) (xs : List X) (y : X) → AllByRecursion P xs → P y → AllByRecursion P (xs ++ y ∷ [])
all_push P [] y h p = (p, tt)
all_push P (x ∷ xs) y h p = (h.0, all_push P xs y h.1 p)

all_cond : {X : Type 0} (P : X → Type 0) (b : Bool) (x : X) (xs : List X) → P x → AllByRecursion P xs → AllByRecursion P (cond b (x ∷ xs) xs)
all_cond P true x xs p h = (p, h)
all_cond P false x xs p h = h

all_filter : {X : Type 0} (P : X → Type 0) (test : X → Bool) (xs : List X) → AllByRecursion P xs → AllByRecursion P (filter test xs)
all_filter P test [] h = tt
all_filter P test (x ∷ xs) h = all_cond P (test x) x (filter test xs) h.0 (all_filter P test xs h.1)

drop_push : {X : Type 0} (n : ℕ) (xs : List X) (x : X) → n ≤ length xs → drop n (xs ++ x ∷ []) ≡ drop n xs ++ x ∷ []
drop_push zero xs x le = refl
drop_push (suc n) [] x le = absurd (omega arith)
drop_push (suc n) (y ∷ xs) x le = drop_push n xs x (omega arith)

-- AT A PLACE
set_same : (ns : List ℕ) (k v : ℕ) → k < length ns → slice_get (set ns k v) k ≡ Some v
set_same ns k v lt = slice_get-get_or (set ns k v) k v (omega (arith, length-set ns k v)) ∙ ap Some (get_or-set_same ns k v v lt)

set_other : (ns : List ℕ) (k j v : ℕ) → j ≢ k → slice_get (set ns k v) j ≡ slice_get ns j
set_other [] k j v apart = refl
set_other (n ∷ ns) zero zero v apart = absurd (apart refl)
set_other (n ∷ ns) zero (suc j) v apart = refl
set_other (n ∷ ns) (suc k) zero v apart = refl
set_other (n ∷ ns) (suc k) (suc j) v apart = set_other ns k j v (λ e. apart (ap suc e))

one_place : (owners : List ℕ) (o p k : ℕ) → position (nat_eq o) owners ≡ Some k → position (nat_eq p) owners ≡ Some k → o ≡ p
one_place owners o p k a b =
    eqb-true o (get_or owners k 0) (position-Some (nat_eq o) owners k 0 a).1 ∙ sym (eqb-true p (get_or owners k 0) (position-Some (nat_eq p) owners k 0 b).1)

same_number : (a b : ℕ) → Some a ≡ Some b → a ≡ b
same_number a b e = cc

none_there : (n : ℕ) (k m : ℕ) → slice_get (replicate n 0) k ≡ Some m → m ≡ 0
none_there zero k m e = absurd (cc)
none_there (suc n) zero m e = cc
none_there (suc n) (suc k) m e = none_there n k m e

-- PARTS AND DAYS
part_mine : (o : ℕ) (rs : List RecordValue) (r : RecordValue) → r.owner ≡ o → part o (rs ++ r ∷ []) ≡ part o rs ++ r ∷ []
part_mine o rs r mine = filter-append (λ (x : RecordValue). x.owner == o) rs (r ∷ []) ∙ ap (λ b. part o rs ++ cond b (r ∷ []) []) ((Decides-eqb r.owner o).1 mine)

part_other : (o : ℕ) (rs : List RecordValue) (r : RecordValue) → (r.owner == o) ≡ false → part o (rs ++ r ∷ []) ≡ part o rs
part_other o rs r other = filter-append (λ (x : RecordValue). x.owner == o) rs (r ∷ []) ∙ ap (λ b. part o rs ++ cond b (r ∷ []) []) other ∙ append-nil (part o rs)

day_count_append : (xs ys : List RecordValue) (day : ℕ) → day_count (xs ++ ys) day ≡ day_count xs day + day_count ys day
day_count_append xs ys day =
    omega (arith, length-filter of_day (xs ++ ys), length-filter of_day xs, length-filter of_day ys, ap length (filter-append of_day xs ys), length-append (filter of_day xs) (filter of_day ys))
  where
    of_day : RecordValue → Bool
    of_day r = r.tap.day == day

day_count_other : (r : RecordValue) (day : ℕ) → r.tap.day ≢ day → (rs : List RecordValue) → day_count (rs ++ r ∷ []) day ≡ day_count rs day
day_count_other r day other rs = omega (arith, day_count_append rs (r ∷ []) day, none)
  where
    none : day_count (r ∷ []) day ≡ 0
    none = grind (arith, nat_tests)

day_count_same : (r : RecordValue) (day : ℕ) → r.tap.day ≡ day → (rs : List RecordValue) → day_count (rs ++ r ∷ []) day ≡ day_count rs day + 1
day_count_same r day same rs = day_count_append rs (r ∷ []) day ∙ ap (λ n. day_count rs day + n) one
  where
    one : day_count (r ∷ []) day ≡ 1
    one = grind (arith, nat_tests)

none_yet : (r : RecordValue) (rs : List RecordValue) (day : ℕ) (b : Bool) → r.tap.day < day → day_count rs day ≡ 0 → day_count (cond b (r ∷ rs) rs) day ≡ 0
none_yet r rs day true past none = grind (arith, nat_tests, none)
none_yet r rs day false past none = none

-- no tap is of the next day
next_day : (o day next : ℕ) → day < next → (taps : List RecordValue) → AllByRecursion (λ r. r.tap.day ≤ day) taps → day_count (part o taps) next ≡ 0
next_day o day next lt [] dated = refl
next_day o day next lt (r ∷ rs) dated = none_yet r (part o rs) next (r.owner == o) (omega (arith, dated.0)) (next_day o day next lt rs dated.1)

-- COUNTS, ONE TAP ON
module _ (owners : List ℕ) (taps : List RecordValue) (r : RecordValue) (count : List RecordValue → ℕ) (ns : List ℕ) (was : AreCounted owners taps count ns) where
  -- what does not count the tap is as before
  counted_other : ((rs : List RecordValue) → count (rs ++ r ∷ []) ≡ count rs) → AreCounted owners (taps ++ r ∷ []) count ns
  counted_other other o place n found e = was o place n found e ∙ by (r.owner == o) refl
    where
      by : (b : Bool) → (r.owner == o) ≡ b → count (part o taps) ≡ count (part o (taps ++ r ∷ []))
      by true mine = sym (ap count (part_mine o taps r ((Decides-eqb r.owner o).0 mine)) ∙ other (part o taps))
      by false apart = sym (ap count (part_other o taps r apart))

  -- what does has one more for its owner
  counted_more : (place v : ℕ) → position (nat_eq r.owner) owners ≡ Some place → v ≡ get_or ns place 0 + 1 → ((rs : List RecordValue) → count (rs ++ r ∷ []) ≡ count rs + 1) → AreCounted owners (taps ++ r ∷ []) count (set ns place v)
  counted_more place v at is one o k n found e = by (r.owner == o) refl
    where
      by : (b : Bool) → (r.owner == o) ≡ b → n ≡ count (part o (taps ++ r ∷ []))
      by true mine =
          let me : r.owner ≡ o = (Decides-eqb r.owner o).0 mine in
          let here : place ≡ k = same_number place k (sym at ∙ ap (λ i. position (nat_eq i) owners) me ∙ found) in
          let there : slice_get (set ns place v) place ≡ Some n = ap (slice_get (set ns place v)) here ∙ e in
          let within : place < length ns = omega (arith, slice_get_within (set ns place v) place n there, length-set ns place v) in
          let new : v ≡ n = same_number v n (sym (set_same ns place v within) ∙ there) in
          let old : get_or ns place 0 ≡ count (part o taps) = was o place (get_or ns place 0) (sym (ap (λ i. position (nat_eq i) owners) me) ∙ at) (slice_get-get_or ns place 0 within) in
          omega (arith, new, is, old, ap count (part_mine o taps r me), one (part o taps))
      by false apart =
          let differ : k ≢ place = λ q. not_mine (one_place owners r.owner o k (at ∙ ap Some (sym q)) found) apart in
          was o k n found (sym (set_other ns place k v differ) ∙ e) ∙ sym (ap count (part_other o taps r apart))
        where
          not_mine : r.owner ≡ o → (r.owner == o) ≡ false → ⊥
          not_mine same differ = absurd (grind (arith, nat_tests))

-- THE DEVICE
pub numbered_fresh : (id day room : ℕ) (owners : List ℕ) → HasNumbered [] (fresh_device id day room owners)
numbered_fresh id day room owners = record {
  waiting = refl;
  base = omega arith;
  lanes = λ o k n found e. none_there (length owners) k n e;
  counts = λ o k n found e. none_there 16 k n e;
  days = tt;
  dated = tt;
}

pub numbered_tap : (sc : SchemeValue) (taps : List RecordValue) (x new : DeviceValue) (product token moment day route : ℕ) (r : RecordValue) → x.owners ≡ keys_of sc.owners → HasNumbered taps x → IsTapped sc x product token moment day route r new → HasNumbered (taps ++ r ∷ []) new
numbered_tap sc taps x new product token moment day route r made h did = subst (HasNumbered (taps ++ r ∷ [])) (sym did.value) (record {
  waiting = ap (λ l. l ++ r ∷ []) h.waiting ∙ sym (drop_push x.base taps r h.base);
  base = omega (arith, h.base, length_push taps r);
  lanes = counted_more x.owners taps r length x.lanes h.lanes did.place r.lane at (ap (λ (y : RecordValue). y.lane) did.is) (λ rs. length_push rs r);
  counts = counted_more x.owners taps r (λ rs. day_count rs x.day) x.counts h.counts did.place (slice_index x.counts did.place + 1) at refl (day_count_same r x.day dated);
  days = all_weaken (IsTurned x.owners taps x.day) (IsTurned x.owners (taps ++ r ∷ []) x.day) still x.days h.days;
  dated = all_push (λ (y : RecordValue). y.tap.day ≤ x.day) taps r h.dated (omega (arith, dated));
})
  where
    at : position (nat_eq r.owner) x.owners ≡ Some did.place
    at = ap (position (nat_eq r.owner)) made ∙ did.at

    dated : r.tap.day ≡ x.day
    dated = ap (λ (y : RecordValue). y.tap.day) did.is ∙ did.current

    still : (d : ℕ × List ℕ) → IsTurned x.owners taps x.day d → IsTurned x.owners (taps ++ r ∷ []) x.day d
    still d is = record { past = is.past; counted = counted_other x.owners taps r (λ rs. day_count rs d.0) d.1 is.counted (day_count_other r d.0 (λ q. omega (arith, is.past, dated, q))) }

pub numbered_turn : (taps : List RecordValue) (x : DeviceValue) → HasNumbered taps x → HasNumbered taps (turned x)
numbered_turn taps x h = record {
  waiting = h.waiting;
  base = h.base;
  lanes = h.lanes;
  counts = λ o k n found e. none_there 16 k n e ∙ sym (next_day o x.day (x.day + 1) (omega arith) taps h.dated);
  days = all_push (IsTurned x.owners taps (x.day + 1)) x.days (x.day, x.counts)
      (all_weaken (IsTurned x.owners taps x.day) (IsTurned x.owners taps (x.day + 1)) (λ d is. record { past = omega (arith, is.past); counted = is.counted }) x.days h.days) (record { past = omega arith; counted = h.counts });
  dated = all_weaken (λ (r : RecordValue). r.tap.day ≤ x.day) (λ (r : RecordValue). r.tap.day ≤ x.day + 1) (λ r le. omega (arith, le)) taps h.dated;
}

pub numbered_ack : (taps : List RecordValue) (x : DeviceValue) (upto : ℕ) → upto ≤ last_link x → HasNumbered taps x → HasNumbered taps (acknowledged x upto)
numbered_ack taps x upto le h = record {
  waiting = ap (drop (upto - x.base)) h.waiting ∙ drop-drop (upto - x.base) x.base taps ∙ ap (λ n. drop n taps) (omega arith);
  base = omega (arith, le, h.base, ap length h.waiting, length-drop x.base taps);
  lanes = h.lanes;
  counts = h.counts;
  days = h.days;
  dated = h.dated;
}

pub numbered_day_ack : (taps : List RecordValue) (x : DeviceValue) (day : ℕ) → HasNumbered taps x → HasNumbered taps (day_acknowledged x day)
numbered_day_ack taps x day h = record {
  waiting = h.waiting;
  base = h.base;
  lanes = h.lanes;
  counts = h.counts;
  days = all_filter (IsTurned x.owners taps x.day) _ x.days h.days;
  dated = h.dated;
}

pub numbered_cursor : (taps : List RecordValue) (x : DeviceValue) (cursor : ℕ) → HasNumbered taps x → HasNumbered taps (record x { cursor = cursor })
numbered_cursor taps x cursor h = record {
  waiting = h.waiting;
  base = h.base;
  lanes = h.lanes;
  counts = h.counts;
  days = h.days;
  dated = h.dated;
}

-- the count that a statement says
module _ (owners : List ℕ) (taps : List RecordValue) (open_day day owner place count : ℕ) (found : position (nat_eq owner) owners ≡ Some place) where
  pub count_in : (days : List (ℕ × List ℕ)) → AllByRecursion (IsTurned owners taps open_day) days → count_on days day place ≡ Some count → count ≡ day_count (part owner taps) day
  count_in [] all e = absurd (cc)
  count_in (d ∷ ds) all e = by (nat_eq day d.0) refl (count_in ds all.1)
    where
      by : (b : Bool) → nat_eq day d.0 ≡ b → (count_on ds day place ≡ Some count → count ≡ day_count (part owner taps) day) → count ≡ day_count (part owner taps) day
      by true is later =
          let here : slice_get d.1 place ≡ Some count = sym (ap (option_and_then (λ ns. slice_get ns place)) (lookup_head (nat_eq day) d ds is)) ∙ e in
          all.0.counted owner place count found here ∙ ap (day_count (part owner taps)) (sym (eqb-true day d.0 is))
      by false other later = later (sym (ap (option_and_then (λ ns. slice_get ns place)) (lookup_tail (nat_eq day) d ds other)) ∙ e)

pub numbered_count : (taps : List RecordValue) (x : DeviceValue) (day owner count : ℕ) → HasNumbered taps x → kept_count x day owner ≡ Some count → count ≡ day_count (part owner taps) day
numbered_count taps x day owner count h e = by (position (nat_eq owner) x.owners) refl
  where
    by : (p : Option ℕ) → position (nat_eq owner) x.owners ≡ p → count ≡ day_count (part owner taps) day
    by None none = absurd (let h = sym (ap (option_and_then (count_on x.days day)) none) ∙ e in cc)
    by (Some place) found = count_in x.owners taps x.day day owner place count found x.days h.days (sym (ap (option_and_then (count_on x.days day)) found) ∙ e)
