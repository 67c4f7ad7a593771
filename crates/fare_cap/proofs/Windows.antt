-- Windows, as one more tap stands behind the others.
use Rattle.std.proofs.Common.{◌≡◌, ℕ, ◌+◌, ◌≤◌, Bool, true, false, cond, if◌then◌else◌, List, [], ◌∷◌, ◌++◌, length, map, Option, Some, None, refl, ◌∙◌, ap, arith}
use Rattle.std.specs.List.{last_or}
use Rattle.std.proofs.lemmas.List.{append-nil, length-append, map-append}
use Rattle.fare_record.specs.Values.{RecordValue}
use Rattle.fare_cap.specs.declared.day_rides.DayRides.{DayRides}
use Rattle.fare_cap.specs.Windows.{is_free, paid_behind, paid_taps, paid, day_rides, one_more}

-- the moments of taps
abbrev pub moments : List RecordValue → List ℕ
moments taps = map (λ (r : RecordValue). r.tap.moment) taps

-- when the window was opened that stands behind these taps
abbrev pub opened_behind : ℕ → Option ℕ → List RecordValue → Option ℕ
opened_behind hop opened taps = last_or opened (moments (paid_behind hop opened taps))

pub paid_behind-push : (hop : ℕ) (opened : Option ℕ) (taps : List RecordValue) (tap : RecordValue)
    → paid_behind hop opened (taps ++ tap ∷ []) ≡ paid_behind hop opened taps ++ cond (is_free hop (opened_behind hop opened taps) tap.tap.moment) [] (tap ∷ [])
paid_behind-push hop opened [] tap = refl
paid_behind-push hop opened (x ∷ taps) tap =
    by (is_free hop opened x.tap.moment) (paid_behind-push hop opened taps tap) (paid_behind-push hop (Some x.tap.moment) taps tap)
  where
    same : List RecordValue → List RecordValue → Type 0
    same whole front = whole ≡ front ++ cond (is_free hop (last_or opened (moments front)) tap.tap.moment) [] (tap ∷ [])

    by : (b : Bool) → same (paid_behind hop opened (taps ++ tap ∷ [])) (paid_behind hop opened taps)
        → paid_behind hop (Some x.tap.moment) (taps ++ tap ∷ []) ≡ paid_behind hop (Some x.tap.moment) taps ++ cond (is_free hop (opened_behind hop (Some x.tap.moment) taps) tap.tap.moment) [] (tap ∷ [])
        → same (if b then paid_behind hop opened (taps ++ tap ∷ []) else x ∷ paid_behind hop (Some x.tap.moment) (taps ++ tap ∷ []))
        (if b then paid_behind hop opened taps else x ∷ paid_behind hop (Some x.tap.moment) taps)
    by true rest _ = rest
    by false _ rest = ap (λ (l : List RecordValue). x ∷ l) rest

last_or-push : (o : Option ℕ) (xs : List ℕ) (x : ℕ) → last_or o (xs ++ x ∷ []) ≡ Some x
last_or-push o [] x = refl
last_or-push o (y ∷ ys) x = last_or-push (Some y) ys x

-- what is told of one more tap
pub day_rides-push : (hop : ℕ) (taps : List RecordValue) (tap : RecordValue) → day_rides hop (taps ++ tap ∷ []) ≡ one_more hop (day_rides hop taps) tap.tap.moment
day_rides-push hop taps tap =
    ap (λ (l : List RecordValue). told (length (taps ++ tap ∷ [])) l) (paid_behind-push hop None taps tap)
    ∙ ap (λ n. told n (paid_taps hop taps ++ cond (is_free hop (opened_behind hop None taps) tap.tap.moment) [] (tap ∷ []))) (length-append taps (tap ∷ []))
    ∙ by (is_free hop (opened_behind hop None taps) tap.tap.moment)
  where
    with_opened : ℕ → ℕ → Option ℕ → DayRides
    with_opened n m o = record { taps = n; paid = m; opened = o }

    told : ℕ → List RecordValue → DayRides
    told n rides = with_opened n (length rides) (last_or None (moments rides))

    by : (b : Bool) → told (length taps + 1) (paid_taps hop taps ++ cond b [] (tap ∷ []))
        ≡ (if b then with_opened (length taps + 1) (paid hop taps) (opened_behind hop None taps) else with_opened (length taps + 1) (paid hop taps + 1) (Some tap.tap.moment))
    by true = ap (told (length taps + 1)) (append-nil (paid_taps hop taps))
    by false =
        ap (λ n. with_opened (length taps + 1) n (last_or None (moments (paid_taps hop taps ++ tap ∷ [])))) (length-append (paid_taps hop taps) (tap ∷ []))
        ∙ ap (with_opened (length taps + 1) (paid hop taps + 1))
        (ap (last_or None) (map-append (λ (r : RecordValue). r.tap.moment) (paid_taps hop taps) (tap ∷ [])) ∙ last_or-push None (moments (paid_taps hop taps)) tap.tap.moment)

-- no more taps are paid than there are
pub paid_behind-le : (hop : ℕ) (opened : Option ℕ) (taps : List RecordValue) → length (paid_behind hop opened taps) ≤ length taps
paid_behind-le hop opened [] = omega arith
paid_behind-le hop opened (tap ∷ taps) =
    by (is_free hop opened tap.tap.moment) (paid_behind-le hop opened taps) (paid_behind-le hop (Some tap.tap.moment) taps)
  where
    by : (b : Bool) → length (paid_behind hop opened taps) ≤ length taps → length (paid_behind hop (Some tap.tap.moment) taps) ≤ length taps
        → length (if b then paid_behind hop opened taps else tap ∷ paid_behind hop (Some tap.tap.moment) taps) ≤ length (tap ∷ taps)
    by true rest _ = omega (arith, rest)
    by false _ rest = omega (arith, rest)

-- one more tap makes no fewer paid ones
pub paid-grows : (hop : ℕ) (taps : List RecordValue) (tap : RecordValue) → paid hop taps ≤ paid hop (taps ++ tap ∷ [])
paid-grows hop taps tap =
    let more = cond (is_free hop (opened_behind hop None taps) tap.tap.moment) [] (tap ∷ []) in
    let whole : paid hop (taps ++ tap ∷ []) ≡ length (paid_taps hop taps ++ more) = ap length (paid_behind-push hop None taps tap) in
    omega (arith, whole, length-append (paid_taps hop taps) more)
