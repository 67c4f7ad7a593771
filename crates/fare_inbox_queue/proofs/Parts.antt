-- The items of a station: of longer lists, and how many items the parts of all stations have.
use Rattle.std.proofs.Common.{◌≡◌, ◌≢◌, ℕ, suc, ◌==◌, ◌||◌, Bool, true, false, true≢false, cond, List, [], ◌∷◌, ◌++◌, length, drop, nat_eq, Some, unwrap_or, sym, ap, ◌∙◌, refl, subst, arith, if◌then◌else◌}
use Rattle.std.proofs.Math.Seq.{drop-append_seam}
use Rattle.std.proofs.lemmas.List.Elements.{filter-append}
use Rattle.std.proofs.lemmas.Bool.{ne_eqb}
use Rattle.std.proofs.lemmas.Bool.Decides.{nat_tests}
use Rattle.std.specs.List.{AllByRecursion, list_any}
use Rattle.std.specs.Map.{lookup, keys_of}
use Rattle.fare_inbox_queue.specs.declared.arrived.Arrived.{Arrived}
use Rattle.fare_inbox_queue.specs.Inbox.{station_in, of_station, sent_by}

pub part-append : (station : ℕ) (xs ys : List Arrived) → of_station station (xs ++ ys) ≡ of_station station xs ++ of_station station ys
part-append station xs ys = filter-append (λ (item : Arrived). station_in item == station) xs ys

-- an item is its station's alone
pub part_of_one : (station : ℕ) (item : Arrived) (same : Bool) → (station_in item == station) ≡ same → of_station station (item ∷ []) ≡ (if same then item ∷ [] else [])
part_of_one station item true is = ap (λ (b : Bool). if b then item ∷ [] else []) is
part_of_one station item false is = ap (λ (b : Bool). if b then item ∷ [] else []) is

is_same : (a b : ℕ) → a ≡ b → (a == b) ≡ true
is_same a b e = grind (arith, nat_tests)

pub own_part : (station : ℕ) (item : Arrived) → station_in item ≡ station → of_station station (item ∷ []) ≡ item ∷ []
own_part station item is = part_of_one station item true (is_same (station_in item) station is)

pub other_part : (station : ℕ) (item : Arrived) → station_in item ≢ station → of_station station (item ∷ []) ≡ []
other_part station item apart = part_of_one station item false (ne_eqb (station_in item) station apart)

pub part-more : (station : ℕ) (xs : List Arrived) (item : Arrived) → of_station station (xs ++ item ∷ []) ≡ of_station station xs ++ of_station station (item ∷ [])
part-more station xs item = part-append station xs (item ∷ [])

-- two items of different stations, whichever is asked for
swapped_at : (station : ℕ) (x y : Arrived) (rest : List Arrived) → station_in y ≢ station_in x → (same : Bool) → (station_in y == station) ≡ same
    → of_station station (y ∷ []) ++ (of_station station (x ∷ []) ++ rest) ≡ of_station station (x ∷ []) ++ (of_station station (y ∷ []) ++ rest)
swapped_at station x y rest apart true is =
    let here : station_in y ≡ station = grind (arith, nat_tests) in
    let none : of_station station (x ∷ []) ≡ [] = other_part station x (λ e. apart (here ∙ sym e)) in
    ap (λ l. of_station station (y ∷ []) ++ (l ++ rest)) none ∙ sym (ap (λ l. l ++ (of_station station (y ∷ []) ++ rest)) none)
swapped_at station x y rest apart false is =
    let none : of_station station (y ∷ []) ≡ [] = part_of_one station y false is in
    ap (λ l. l ++ (of_station station (x ∷ []) ++ rest)) none ∙ sym (ap (λ l. of_station station (x ∷ []) ++ (l ++ rest)) none)

-- AS MANY ITEMS AS THE PARTS HAVE
-- the list without an item that is the first of its station
abbrev IsWithout : Arrived → List Arrived → List Arrived → Type 0
IsWithout x items rest = (length items ≡ suc (length rest)) × ((station : ℕ) → of_station station items ≡ of_station station (x ∷ []) ++ of_station station rest)

first_out_at : (x y : Arrived) (rest items : List Arrived) (same : Bool) → (station_in y == station_in x) ≡ same
    → (of_station (station_in x) items ≡ x ∷ rest → (others : List Arrived) × IsWithout x items others)
    → (if same then y ∷ of_station (station_in x) items else of_station (station_in x) items) ≡ x ∷ rest
    → (others : List Arrived) × IsWithout x (y ∷ items) others
first_out_at x y rest items true is later e =
    let first : y ≡ x = cc in
    (items, (refl, λ station. part-append station (y ∷ []) items ∙ ap (λ z. of_station station (z ∷ []) ++ of_station station items) first))
first_out_at x y rest items false is later e =
    let found = later e in
    let apart : station_in y ≢ station_in x = λ same. true≢false (sym (is_same (station_in y) (station_in x) same) ∙ is) in (
      y ∷ found.0,
      (
        ap suc found.1.0,
        λ station. part-append station (y ∷ []) items
            ∙ (ap (λ l. of_station station (y ∷ []) ++ l) (found.1.1 station)
            ∙ (swapped_at station x y (of_station station found.0) apart (station_in y == station) refl ∙ ap (λ l. of_station station (x ∷ []) ++ l) (sym (part-append station (y ∷ []) found.0)))),
      ),
    )

first_out : (x : Arrived) (rest items : List Arrived) → of_station (station_in x) items ≡ x ∷ rest → (others : List Arrived) × IsWithout x items others
first_out x rest [] e = cc
first_out x rest (y ∷ items) e = first_out_at x y rest items (station_in y == station_in x) refl (first_out x rest items) e

front_cancels : (front xs ys : List Arrived) → front ++ xs ≡ front ++ ys → xs ≡ ys
front_cancels front xs ys e = sym (drop-append_seam front xs) ∙ (ap (λ l. drop (length front) l) e ∙ drop-append_seam front ys)

-- lists with the same part for each station are equally long
pub same_length : (xs ys : List Arrived) → ((station : ℕ) → of_station station xs ≡ of_station station ys) → length xs ≡ length ys
same_length [] [] parts = refl
same_length [] (y ∷ ys) parts =
    let e : [] ≡ y ∷ of_station (station_in y) ys = parts (station_in y) ∙ (part-append (station_in y) (y ∷ []) ys ∙ ap (λ l. l ++ of_station (station_in y) ys) (own_part (station_in y) y refl)) in cc
same_length (x ∷ xs) ys parts =
    let own : of_station (station_in x) ys ≡ x ∷ of_station (station_in x) xs =
    sym (parts (station_in x)) ∙ (part-append (station_in x) (x ∷ []) xs ∙ ap (λ l. l ++ of_station (station_in x) xs) (own_part (station_in x) x refl)) in
    let out = first_out x (of_station (station_in x) xs) ys own in
    let rest : length xs ≡ length out.0 =
    same_length xs out.0 (λ station. front_cancels (of_station station (x ∷ [])) (of_station station xs) (of_station station out.0) (sym (part-append station (x ∷ []) xs) ∙ (parts station ∙ out.1.1 station))) in
    ap suc rest ∙ sym out.1.0

-- WHAT THE ENDED STATIONS PUT
listed_at : (station : ℕ) (e : ℕ × List Arrived) (ended : List (ℕ × List Arrived)) (all : List Arrived) (same : Bool) → nat_eq station e.0 ≡ same → e.1 ≡ of_station e.0 all
    → (list_any (nat_eq station) (keys_of ended) ≡ true → sent_by ended station ≡ of_station station all)
    → list_any (nat_eq station) (keys_of (e ∷ ended)) ≡ true → sent_by (e ∷ ended) station ≡ of_station station all
listed_at station e ended all true is own later any =
    let here : station ≡ e.0 = grind (arith, nat_tests) in
    ap (λ (b : Bool). unwrap_or (cond b (Some e.1) (lookup (nat_eq station) ended)) []) is ∙ (own ∙ ap (λ (s : ℕ). of_station s all) (sym here))
listed_at station e ended all false is own later any =
    ap (λ (b : Bool). unwrap_or (cond b (Some e.1) (lookup (nat_eq station) ended)) []) is ∙ later (subst (λ (b : Bool). (b || list_any (nat_eq station) (keys_of ended)) ≡ true) is any)

pub listed : (station : ℕ) (ended : List (ℕ × List Arrived)) (all : List Arrived) → AllByRecursion (λ (e : ℕ × List Arrived). e.1 ≡ of_station e.0 all) ended
    → list_any (nat_eq station) (keys_of ended) ≡ true → sent_by ended station ≡ of_station station all
listed station [] all each any = absurd (true≢false (sym any))
listed station (e ∷ ended) all each any = listed_at station e ended all (nat_eq station e.0) refl each.0 (listed station ended all each.1) any

unlisted_at : (station : ℕ) (e : ℕ × List Arrived) (ended : List (ℕ × List Arrived)) (same : Bool) → nat_eq station e.0 ≡ same
    → (list_any (nat_eq station) (keys_of ended) ≡ false → sent_by ended station ≡ [])
    → list_any (nat_eq station) (keys_of (e ∷ ended)) ≡ false → sent_by (e ∷ ended) station ≡ []
unlisted_at station e ended true is later none = absurd (true≢false (subst (λ (b : Bool). (b || list_any (nat_eq station) (keys_of ended)) ≡ false) is none))
unlisted_at station e ended false is later none =
    ap (λ (b : Bool). unwrap_or (cond b (Some e.1) (lookup (nat_eq station) ended)) []) is ∙ later (subst (λ (b : Bool). (b || list_any (nat_eq station) (keys_of ended)) ≡ false) is none)

pub unlisted : (station : ℕ) (ended : List (ℕ × List Arrived)) → list_any (nat_eq station) (keys_of ended) ≡ false → sent_by ended station ≡ []
unlisted station [] none = refl
unlisted station (e ∷ ended) none = unlisted_at station e ended (nat_eq station e.0) refl (unlisted station ended) none
