-- Lines that a round borrows, one more, and that go back into their seats.
use Rattle.std.proofs.Common.{◌≡◌, ◌≢◌, ◌⊎◌, ℕ, zero, suc, ◌+◌, ◌<◌, ◌≤◌, Bool, List, [], ◌∷◌, ◌++◌, length, slice_index_or, refl, sym, ap, ◌∙◌, subst, inl, inr, arith, append_assoc, get_or-set_same, get_or-set_other}
use Rattle.std.proofs.lemmas.List.{append-nil, get_or_default, length-append}
use Rattle.std.proofs.Math.ListN.{set}
use Rattle.fare_session.specs.declared.fault.SessionFault.{SessionFault}
use Rattle.fare_source.specs.declared.shift.Shift.{Shift}
use Rattle.fare_collect.specs.declared.station.Station.{Station}
use Rattle.fare_net.specs.NetValue.{NetValue}
use Rattle.fare_serve.specs.Lending.{AreBack, AreLent, HasLent, IsBack, IsFresh}
use Rattle.fare_serve.specs.declared.seats.Seat.{Seat}
use Rattle.fare_serve.proofs.Counted.{same_or_apart}
use Rattle.fare_serve.proofs.Seated.{length-seats}

-- PLACES
middle_or : {X : Type 0} (xs ys : List X) (x d : X) → slice_index_or (xs ++ x ∷ ys) (length xs) d ≡ x
middle_or [] ys x d = refl
middle_or (z ∷ zs) ys x d = middle_or zs ys x d

front_or : {X : Type 0} (xs ys : List X) (k : ℕ) (d : X) → k < length xs → slice_index_or (xs ++ ys) k d ≡ slice_index_or xs k d
front_or [] ys k d lt = absurd (omega (arith, lt))
front_or (z ∷ zs) ys zero d lt = refl
front_or (z ∷ zs) ys (suc k) d lt = front_or zs ys k d (omega (arith, lt))

-- LENDING
-- the lines of the first so many seats are lent, and no other
pub record AreLending (whole : Bool) (olds news : List Seat) (shifts : List (Shift NetValue)) (place : ℕ) : Type 0 where
  pub len : length news ≡ length olds
  pub many : length shifts ≡ place
  pub done : (k : ℕ) (d : Seat) (e : Shift NetValue) → k < place → HasLent (slice_index_or olds k d) (slice_index_or news k d) (slice_index_or shifts k e).source × IsFresh whole (slice_index_or shifts k e)
  pub rest : (k : ℕ) (d : Seat) → place ≤ k → slice_index_or news k d ≡ slice_index_or olds k d

pub lending_none : (whole : Bool) (seats : List Seat) → AreLending whole seats seats [] 0
lending_none whole seats = record {
  len = refl;
  many = refl;
  done = λ k d e lt. absurd (omega (arith, lt));
  rest = λ k d le. refl;
}

-- one of the shifts and its seat
abbrev IsPair : Bool → Seat → Seat → Shift NetValue → Type 0
IsPair whole old new s = HasLent old new s.source × IsFresh whole s

pub lending_more : (whole : Bool) (olds news : List Seat) (shifts : List (Shift NetValue)) (place : ℕ) (was new : Seat) (s : Shift NetValue)
    → AreLending whole olds news shifts place → place < length olds → HasLent (slice_index_or news place was) new s.source → IsFresh whole s
    → AreLending whole olds (set news place new) (shifts ++ s ∷ []) (place + 1)
lending_more whole olds news shifts place was new s inv lt lent fresh = record {
  len = length-seats news place new ∙ inv.len;
  many = length-append shifts (s ∷ []) ∙ ap (λ n. n + 1) inv.many;
  done = λ k d e within. by k d e within (same_or_apart k place);
  rest = λ k d le. get_or-set_other news place k new d (λ e. omega (arith, e, le)) ∙ inv.rest k d (omega (arith, le));
}
  where
    there : place < length news
    there = let len = inv.len in omega (arith, lt, len)

    old_is : (d : Seat) → slice_index_or news place was ≡ slice_index_or olds place d
    old_is d = get_or_default news place was d there ∙ inv.rest place d (omega arith)

    shift_is : (e : Shift NetValue) → slice_index_or (shifts ++ s ∷ []) place e ≡ s
    shift_is e = ap (λ n. slice_index_or (shifts ++ s ∷ []) n e) (sym inv.many) ∙ middle_or shifts [] s e

    here : (d : Seat) (e : Shift NetValue) → IsPair whole (slice_index_or olds place d) (slice_index_or (set news place new) place d) (slice_index_or (shifts ++ s ∷ []) place e)
    here d e =
        subst (λ (x : Seat). IsPair whole x (slice_index_or (set news place new) place d) (slice_index_or (shifts ++ s ∷ []) place e)) (old_is d)
        (subst (λ (x : Seat). IsPair whole (slice_index_or news place was) x (slice_index_or (shifts ++ s ∷ []) place e)) (sym (get_or-set_same news place new d there))
        (subst (λ (x : Shift NetValue). IsPair whole (slice_index_or news place was) new x) (sym (shift_is e)) (lent, fresh)))

    by : (k : ℕ) (d : Seat) (e : Shift NetValue) → k < place + 1 → (k ≡ place) ⊎ (k ≢ place) → IsPair whole (slice_index_or olds k d) (slice_index_or (set news place new) k d) (slice_index_or (shifts ++ s ∷ []) k e)
    by k d e within (inl same) = subst (λ n. IsPair whole (slice_index_or olds n d) (slice_index_or (set news place new) n d) (slice_index_or (shifts ++ s ∷ []) n e)) (sym same) (here d e)
    by k d e within (inr differ) =
        let less : k < place = omega (arith, within, differ) in
        let many = inv.many in
        subst (λ (x : Seat). IsPair whole (slice_index_or olds k d) x (slice_index_or (shifts ++ s ∷ []) k e)) (sym (get_or-set_other news place k new d differ))
        (subst (λ (x : Shift NetValue). IsPair whole (slice_index_or olds k d) (slice_index_or news k d) x) (sym (front_or shifts (s ∷ []) k e (omega (arith, less, many)))) (inv.done k d e less))

pub lending_all : (whole : Bool) (olds news : List Seat) (shifts : List (Shift NetValue)) (place : ℕ) → AreLending whole olds news shifts place → place ≡ length olds → AreLent whole olds news shifts
lending_all whole olds news shifts place inv all = record {
  len = inv.len;
  many = inv.many ∙ all;
  each = λ k d e lt. inv.done k d e (omega (arith, lt, all));
}

-- GOING BACK
-- the lines of the last stations are back, those of the rest aren't yet
pub record AreTaking (faults : List (ℕ × SessionFault)) (stations rest : List (Station (Shift NetValue))) (olds news : List Seat) : Type 0 where
  pub behind : List (Station (Shift NetValue))
  pub parts : rest ++ behind ≡ stations
  pub len : length news ≡ length olds
  pub done : (k : ℕ) (d : Seat) (t : Station (Shift NetValue)) → length rest ≤ k → k < length stations → k < length olds → IsBack faults (slice_index_or stations k t) (slice_index_or olds k d) (slice_index_or news k d)
  pub still : (k : ℕ) (d : Seat) → (k < length rest) ⊎ (length stations ≤ k) → slice_index_or news k d ≡ slice_index_or olds k d

pub taking_none : (faults : List (ℕ × SessionFault)) (stations : List (Station (Shift NetValue))) (seats : List Seat) → AreTaking faults stations stations seats seats
taking_none faults stations seats = record {
  behind = [];
  parts = append-nil stations;
  len = refl;
  done = λ k d t le lt within. absurd (omega (arith, le, lt));
  still = λ k d where_k. refl;
}

-- the stations are the rest, one station, and those behind it
split : (stations rest before behind : List (Station (Shift NetValue))) (x : Station (Shift NetValue)) → rest ++ behind ≡ stations → rest ≡ before ++ x ∷ [] → before ++ x ∷ behind ≡ stations
split stations rest before behind x parts is = sym (append_assoc before (x ∷ []) behind) ∙ (ap (λ (l : List (Station (Shift NetValue))). l ++ behind) (sym is) ∙ parts)

one_more : (rest before : List (Station (Shift NetValue))) (x : Station (Shift NetValue)) → rest ≡ before ++ x ∷ [] → length rest ≡ length before + 1
one_more rest before x is = ap length is ∙ length-append before (x ∷ [])

within_all : (stations before behind : List (Station (Shift NetValue))) (x : Station (Shift NetValue)) → before ++ x ∷ behind ≡ stations → length before < length stations
within_all stations before behind x parts = let n = length-append before (x ∷ behind) in let m = ap length parts in omega (arith, n, m)

-- a place before the rest's last, or behind all
pub earlier : (k : ℕ) (stations rest before : List (Station (Shift NetValue))) → length rest ≡ length before + 1 → (k < length before) ⊎ (length stations ≤ k) → (k < length rest) ⊎ (length stations ≤ k)
earlier k stations rest before more (inl lt) = inl (omega (arith, lt, more))
earlier k stations rest before more (inr le) = inr le

pub taking_past : (faults : List (ℕ × SessionFault)) (stations rest before : List (Station (Shift NetValue))) (x : Station (Shift NetValue)) (olds news : List Seat)
    → AreTaking faults stations rest olds news → rest ≡ before ++ x ∷ [] → length olds ≤ length before → AreTaking faults stations before olds news
taking_past faults stations rest before x olds news inv is past = record {
  behind = x ∷ inv.behind;
  parts = split stations rest before inv.behind x inv.parts is;
  len = inv.len;
  done = λ k d t le lt within. absurd (omega (arith, le, within, past));
  still = λ k d where_k. inv.still k d (earlier k stations rest before (one_more rest before x is) where_k);
}

pub taking_more : (faults : List (ℕ × SessionFault)) (stations rest before : List (Station (Shift NetValue))) (x : Station (Shift NetValue)) (olds news : List Seat) (place : ℕ) (was new : Seat)
    → AreTaking faults stations rest olds news → rest ≡ before ++ x ∷ [] → place ≡ length before → place < length olds → IsBack faults x (slice_index_or news place was) new
    → AreTaking faults stations before olds (set news place new)
taking_more faults stations rest before x olds news place was new inv is here lt back = record {
  behind = x ∷ inv.behind;
  parts = parts;
  len = length-seats news place new ∙ inv.len;
  done = λ k d t le below within. by k d t le below within (same_or_apart k place);
  still = λ k d where_k. get_or-set_other news place k new d (apart k where_k) ∙ inv.still k d (earlier k stations rest before more where_k);
}
  where
    parts : before ++ x ∷ inv.behind ≡ stations
    parts = split stations rest before inv.behind x inv.parts is

    more : length rest ≡ length before + 1
    more = one_more rest before x is

    there : place < length news
    there = let len = inv.len in omega (arith, lt, len)

    apart : (k : ℕ) → (k < length before) ⊎ (length stations ≤ k) → k ≢ place
    apart k (inl less) = λ e. omega (arith, e, less, here)
    apart k (inr le) = λ e. (let all = within_all stations before inv.behind x parts in omega (arith, e, le, here, all))

    station_is : (t : Station (Shift NetValue)) → x ≡ slice_index_or stations place t
    station_is t = sym (middle_or before inv.behind x t) ∙ (ap (λ n. slice_index_or (before ++ x ∷ inv.behind) n t) (sym here) ∙ ap (λ (l : List (Station (Shift NetValue))). slice_index_or l place t) parts)

    old_is : (d : Seat) → slice_index_or news place was ≡ slice_index_or olds place d
    old_is d = get_or_default news place was d there ∙ inv.still place d (inl (omega (arith, here, more)))

    back_here : (d : Seat) (t : Station (Shift NetValue)) → IsBack faults (slice_index_or stations place t) (slice_index_or olds place d) (slice_index_or (set news place new) place d)
    back_here d t =
        subst (λ (y : Station (Shift NetValue)). IsBack faults y (slice_index_or olds place d) (slice_index_or (set news place new) place d)) (station_is t)
        (subst (λ (s : Seat). IsBack faults x s (slice_index_or (set news place new) place d)) (old_is d)
        (subst (IsBack faults x (slice_index_or news place was)) (sym (get_or-set_same news place new d there)) back))

    by : (k : ℕ) (d : Seat) (t : Station (Shift NetValue)) → length before ≤ k → k < length stations → k < length olds → (k ≡ place) ⊎ (k ≢ place) → IsBack faults (slice_index_or stations k t) (slice_index_or olds k d) (slice_index_or (set news place new) k d)
    by k d t le below within (inl same) = subst (λ n. IsBack faults (slice_index_or stations n t) (slice_index_or olds n d) (slice_index_or (set news place new) n d)) (sym same) (back_here d t)
    by k d t le below within (inr differ) =
        subst (IsBack faults (slice_index_or stations k t) (slice_index_or olds k d)) (sym (get_or-set_other news place k new d differ)) (inv.done k d t (omega (arith, le, differ, here, more)) below within)

pub taking_all : (faults : List (ℕ × SessionFault)) (stations rest : List (Station (Shift NetValue))) (olds news : List Seat) → AreTaking faults stations rest olds news → rest ≡ [] → AreBack faults stations olds news
taking_all faults stations rest olds news inv none = record {
  len = inv.len;
  each = λ k d t lt within. inv.done k d t (let n = ap length none in omega (arith, n)) lt within;
  rest = λ k d le. inv.still k d (inr le);
}
