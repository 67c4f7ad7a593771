-- Records of which no two tie stand in one order, however they are handed in.
use Rattle.std.proofs.Common.{◌≡◌, ℕ, zero, suc, ◌<◌, Bool, true, false, cond, not, List, [], ◌∷◌, length, get_or, filter, Contains, refl, sym, ◌∙◌, ap, arith}
use Rattle.std.specs.List.Sorted.{IsPermutation, ties}
use Rattle.std.proofs.lemmas.Bool.{and_parts, and_from, not-true, not_from_false}
use Rattle.std.proofs.lemmas.List.Sums.{length-filter}
use Rattle.std.proofs.lemmas.List.Sorted.{sum_by-IsPermutation, Contains-permutation, IsPermutation-sym}
use Rattle.fare_record.specs.Values.{RecordValue}
use Rattle.fare_cap.specs.Order.{is_before, in_order}
use Rattle.fare_cap.specs.Bills.{BillValue, bill_rows, total_of}
use Rattle.fare_cap.specs.Spans.{AreApart, OrderCountsNowhere}
use Rattle.fare_cap.proofs.Ordered.{before_weak, in_order_same}

-- MEMBERS
behind : {X : Type 0} (x : X) (xs : List X) (a : X) → Contains xs a → Contains (x ∷ xs) a
behind x xs a (k, within, is) = (suc k, omega arith, is)

contains-filter : {X : Type 0} (p : X → Bool) (xs : List X) (a : X) → Contains (filter p xs) a → Contains xs a × (p a ≡ true)
contains-filter p [] a (k, within, is) = absurd (omega arith)
contains-filter {X} p (x ∷ xs) a has = by (contains-filter p xs a) (p x) refl has
  where
    rest : (Contains (filter p xs) a → Contains xs a × (p a ≡ true)) → Contains (filter p xs) a → Contains (x ∷ xs) a × (p a ≡ true)
    rest rec there = let found = rec there in (behind x xs a found.0, found.1)

    first : (Contains (filter p xs) a → Contains xs a × (p a ≡ true)) → p x ≡ true → (k : ℕ) → k < length (x ∷ filter p xs) → get_or (x ∷ filter p xs) k a ≡ a → Contains (x ∷ xs) a × (p a ≡ true)
    first rec e zero within is = ((zero, omega arith, is), ap p (sym is) ∙ e)
    first rec e (suc k) within is = rest rec (k, omega arith, is)

    by : (Contains (filter p xs) a → Contains xs a × (p a ≡ true)) → (b : Bool) → p x ≡ b → Contains (cond b (x ∷ filter p xs) (filter p xs)) a → Contains (x ∷ xs) a × (p a ≡ true)
    by rec true e there = first rec e there.0 there.1 there.2
    by rec false e there = rest rec there

-- lists of one length whose elements are all the same
all-same : {X : Type 0} (xs ys : List X) → length xs ≡ length ys → ((a b : X) → Contains xs a → Contains ys b → a ≡ b) → xs ≡ ys
all-same [] [] long same = refl
all-same [] (y ∷ ys) long same = absurd (omega arith)
all-same (x ∷ xs) [] long same = absurd (omega arith)
all-same {X} (x ∷ xs) (y ∷ ys) long same =
    ap (λ (z : X). z ∷ xs) (same x y (zero, omega arith, refl) (zero, omega arith, refl))
    ∙ ap (λ (l : List X). y ∷ l) (all-same xs ys (omega arith) (λ a b in_xs in_ys. same a b (behind x xs a in_xs) (behind y ys b in_ys)))

-- ONE ORDER
pub ties-both : (z a b : RecordValue) → ties is_before z a ≡ true → ties is_before z b ≡ true → ties is_before a b ≡ true
ties-both z a b to_a to_b =
    let za = and_parts (not (is_before z a)) (not (is_before a z)) to_a in
    let zb = and_parts (not (is_before z b)) (not (is_before b z)) to_b in
    and_from (not (is_before a b)) (not (is_before b a))
    (not_from_false (is_before a b) (before_weak.chain a z b (not-true (is_before a z) za.1) (not-true (is_before z b) zb.0)))
    (not_from_false (is_before b a) (before_weak.chain b z a (not-true (is_before b z) zb.1) (not-true (is_before z a) za.0)))

pub in_order-permutation : (xs ys : List RecordValue) → IsPermutation xs ys → AreApart xs → in_order xs ≡ in_order ys
in_order-permutation xs ys moved distinct = in_order_same xs ys same
  where
    same : (z : RecordValue) → filter (ties is_before z) xs ≡ filter (ties is_before z) ys
    same z = all-same (filter (ties is_before z) xs) (filter (ties is_before z) ys)
        (length-filter (ties is_before z) xs ∙ sym (sum_by-IsPermutation (λ x. cond (ties is_before z x) 1 0) xs ys moved) ∙ sym (length-filter (ties is_before z) ys))
        (λ a b in_xs in_ys.
        let one = contains-filter (ties is_before z) xs a in_xs in
        let other = contains-filter (ties is_before z) ys b in_ys in
        distinct.apart a b one.0 (Contains-permutation ys xs b (IsPermutation-sym xs ys moved) other.0) (ties-both z a b one.1 other.1))

pub order_counts_nowhere : OrderCountsNowhere
order_counts_nowhere scheme day xs ys moved distinct =
    ap (λ (ordered : List RecordValue). with_order ordered) (in_order-permutation xs ys moved distinct)
  where
    with_order : List RecordValue → BillValue
    with_order ordered = record { rows = bill_rows scheme ordered day; total = total_of (bill_rows scheme ordered day) }
