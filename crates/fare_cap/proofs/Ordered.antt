-- The records in order are what any stable sort makes of them.
use Rattle.std.proofs.Common.{◌≡◌, Bool, true, false, cond, not, List, [], ◌∷◌, filter, refl, sym, ◌∙◌, ap}
use Rattle.std.specs.Cmp.{IsStrictWeakOrder, IsTotalOrder, nat_cmp_total, on_total, then_total}
use Rattle.std.specs.List.Sorted.{IsSortedBy, IsStableBy, ties}
use Rattle.std.proofs.lemmas.Bool.{both_ways, false_from_ne_true, and_parts, not-true}
use Rattle.std.proofs.lemmas.List.Sorted.{ranks_by}
use Rattle.fare_record.specs.Values.{RecordValue}
use Rattle.fare_cap.specs.Order.{compare_taps, is_before, put_in_order, in_order}
use Rattle.fare_cap.proofs.Sorting.{filter_yes, filter_no, filter_both, IsNoneBelow, IsRising, rising_from_sorted, rising_filter, same_rising}

pub compare_total : IsTotalOrder compare_taps
compare_total =
    then_total
    (then_total (on_total (λ (r : RecordValue). r.tap.moment) nat_cmp_total) (on_total (λ (r : RecordValue). r.device) nat_cmp_total))
    (on_total (λ (r : RecordValue). r.lane) nat_cmp_total)

pub before_weak : IsStrictWeakOrder is_before
before_weak = ranks_by compare_total (λ (r : RecordValue). r)

-- PUT IN ORDER
none_below_put : (x r : RecordValue) (ys : List RecordValue) → IsNoneBelow is_before x ys → is_before r x ≡ false → IsNoneBelow is_before x (put_in_order r ys)
none_below_put x r [] none not_below = (not_below, tt)
none_below_put x r (y ∷ ys) none not_below =
    elim (is_before y r) as (λ b. IsNoneBelow is_before x (cond b (y ∷ put_in_order r ys) (r ∷ y ∷ ys)))
    [ true ↦ (none.0, none_below_put x r ys none.1 not_below) | false ↦ (not_below, none) ]

none_below_chain : (r x : RecordValue) (ys : List RecordValue) → IsNoneBelow is_before x ys → is_before x r ≡ false → IsNoneBelow is_before r ys
none_below_chain r x [] none not_below = tt
none_below_chain r x (y ∷ ys) none not_below = (before_weak.chain y x r none.0 not_below, none_below_chain r x ys none.1 not_below)

rising_put : (r : RecordValue) (xs : List RecordValue) → IsRising is_before xs → IsRising is_before (put_in_order r xs)
rising_put r [] up = (tt, tt)
rising_put r (x ∷ xs) up = by (rising_put r xs up.1) (is_before x r) refl
  where
    by : IsRising is_before (put_in_order r xs) → (b : Bool) → is_before x r ≡ b → IsRising is_before (cond b (x ∷ put_in_order r xs) (r ∷ x ∷ xs))
    by rest true e = (none_below_put x r xs up.0 (before_weak.one_way x r e), rest)
    by rest false e = ((e, none_below_chain r x xs up.0 e), up)

pub rising_in_order : (xs : List RecordValue) → IsRising is_before (in_order xs)
rising_in_order [] = tt
rising_in_order (r ∷ rs) = rising_put r (in_order rs) (rising_in_order rs)

-- TIES KEEP THEIR PLACES
-- what is before r doesn't tie with what r ties with
ties_apart : (z r x : RecordValue) → is_before x r ≡ true → ties is_before z x ≡ true → ties is_before z r ≡ false
ties_apart z r x below tie = false_from_ne_true (ties is_before z r) (λ tie_r.
    let x_z : is_before x z ≡ false = not-true (is_before x z) ((and_parts (not (is_before z x)) (not (is_before x z)) tie).1) in
    let z_r : is_before z r ≡ false = not-true (is_before z r) ((and_parts (not (is_before z r)) (not (is_before r z)) tie_r).0) in
    both_ways (is_before x r) (before_weak.chain x z r x_z z_r) below)

put_ties_behind : (z r x : RecordValue) (xs : List RecordValue) → filter (ties is_before z) (put_in_order r xs) ≡ filter (ties is_before z) (r ∷ xs)
    → is_before x r ≡ true → (t : Bool) → ties is_before z x ≡ t → filter (ties is_before z) (x ∷ put_in_order r xs) ≡ filter (ties is_before z) (r ∷ x ∷ xs)
put_ties_behind z r x xs rest below true e =
    let no : ties is_before z r ≡ false = ties_apart z r x below e in
    filter_yes (ties is_before z) x (put_in_order r xs) e ∙ ap (λ (l : List RecordValue). x ∷ l) (rest ∙ filter_no (ties is_before z) r xs no)
    ∙ sym (filter_no (ties is_before z) r (x ∷ xs) no ∙ filter_yes (ties is_before z) x xs e)
put_ties_behind z r x xs rest below false e =
    filter_no (ties is_before z) x (put_in_order r xs) e ∙ rest
    ∙ ap (λ (l : List RecordValue). cond (ties is_before z r) (r ∷ l) l) (sym (filter_no (ties is_before z) x xs e))

put_ties : (z r : RecordValue) (xs : List RecordValue) → filter (ties is_before z) (put_in_order r xs) ≡ filter (ties is_before z) (r ∷ xs)
put_ties z r [] = refl
put_ties z r (x ∷ xs) = by (put_ties z r xs) (is_before x r) refl
  where
    by : filter (ties is_before z) (put_in_order r xs) ≡ filter (ties is_before z) (r ∷ xs) → (b : Bool) → is_before x r ≡ b
        → filter (ties is_before z) (cond b (x ∷ put_in_order r xs) (r ∷ x ∷ xs)) ≡ filter (ties is_before z) (r ∷ x ∷ xs)
    by rest true e = put_ties_behind z r x xs rest e (ties is_before z x) refl
    by rest false e = refl

pub in_order_ties : (z : RecordValue) (xs : List RecordValue) → filter (ties is_before z) (in_order xs) ≡ filter (ties is_before z) xs
in_order_ties z [] = refl
in_order_ties z (r ∷ rs) =
    put_ties z r (in_order rs)
    ∙ ap (λ (l : List RecordValue). cond (ties is_before z r) (r ∷ l) l) (in_order_ties z rs)

-- ONE RESULT
-- a sorted list whose ties stand as in the records is the records in order
pub in_order_from_sort : (xs ys : List RecordValue) → IsSortedBy is_before ys → IsStableBy is_before xs ys → ys ≡ in_order xs
in_order_from_sort xs ys up stable =
    same_rising is_before before_weak ys (in_order xs) (rising_from_sorted is_before before_weak ys up) (rising_in_order xs)
    (λ z. stable z ∙ sym (in_order_ties z xs))

-- lists whose parts that tie are the same stand in one order
pub in_order_same : (xs ys : List RecordValue) → ((z : RecordValue) → filter (ties is_before z) xs ≡ filter (ties is_before z) ys) → in_order xs ≡ in_order ys
in_order_same xs ys same =
    same_rising is_before before_weak (in_order xs) (in_order ys) (rising_in_order xs) (rising_in_order ys)
    (λ z. in_order_ties z xs ∙ same z ∙ sym (in_order_ties z ys))

-- records left out before are left out after
pub in_order_filter : (p : RecordValue → Bool) (xs : List RecordValue) → in_order (filter p xs) ≡ filter p (in_order xs)
in_order_filter p xs =
    same_rising is_before before_weak (in_order (filter p xs)) (filter p (in_order xs)) (rising_in_order (filter p xs))
    (rising_filter is_before p (in_order xs) (rising_in_order xs))
    (λ z. in_order_ties z (filter p xs) ∙ filter_both (ties is_before z) p xs ∙ ap (filter p) (sym (in_order_ties z xs)) ∙ filter_both p (ties is_before z) (in_order xs))
