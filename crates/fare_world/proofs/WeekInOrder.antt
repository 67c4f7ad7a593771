-- The taps of a week that a ledger holds, in the order of the lists that they are of.
use Rattle.std.proofs.Common.{◌≡◌, refl, ℕ, ◌+◌, ◌<◌, ◌≤◌, Bool, true, false, not, List, [], ◌∷◌, Some, None, sym, ap, ◌∙◌, subst, arith, inl, inr}
use Rattle.std.specs.Prelude.{◌⊎◌, ◌&&◌, ◌||◌, slice_get, nat_eq, nat_le, nat_lt, option_map, if◌then◌else◌}
use Rattle.std.specs.List.{IsDistinct, AllByRecursion, flat_map}
use Rattle.std.specs.List.Sorted.{ties}
use Rattle.std.specs.Map.{lookup, keys_of}
use Rattle.std.specs.declared.cmp.Ordering.{Ordering}
use Rattle.std.specs.declared.cmp.Ordering.TheVariants.{Less, Equal, Greater}
use Rattle.std.specs.Ordering.{nat_cmp, ordering_then, ordering_reverse, is_lt}
use Rattle.std.proofs.lemmas.Bool.{and_parts, and_from, not-true}
use Rattle.std.proofs.lemmas.Bool.Decides.{nat_tests}
use Rattle.std.proofs.lemmas.Map.Lookups.{exact_unsigned}
use Rattle.fare_record.specs.Values.{RecordValue}
use Rattle.fare_scheme.specs.declared.entry.Placement.{Placement}
use Rattle.fare_scheme.specs.Facts.{IsScheme}
use Rattle.fare_scheme.specs.Values.{SchemeValue}
use Rattle.fare_scheme.specs.Words.{station_of}
use Rattle.fare_cap.specs.Order.{compare_taps, is_before, in_order}
use Rattle.fare_cap.proofs.Ordered.{compare_total}
use Rattle.fare_store.specs.LedgerWords as ledger
use Rattle.fare_side.specs.OpenDays.{is_closed, first_open}
use Rattle.fare_world.specs.Headline.{of_days}
use Rattle.fare_world.proofs.OneOrder.{In, in_from, in_at, in_filter, of_filter, in_flat, of_flat, AreApart, apart_from, apart_append, apart_filter, one_order}

-- TAPS THAT TIE
then_equal : (x y : Ordering) → ordering_then x y ≡ Equal → (x ≡ Equal) × (y ≡ Equal)
then_equal Less y e = absurd (cc)
then_equal Equal y e = (refl, e)
then_equal Greater y e = absurd (cc)

equal_from : (x y : Ordering) → x ≡ Less → is_lt x ≡ false → x ≡ y
equal_from x y less none =
    let both : true ≡ false = sym (ap is_lt less) ∙ none in
    absurd (cc)

compared : (a b : RecordValue) → ties is_before a b ≡ true → compare_taps a b ≡ Equal
compared a b tie = by (compare_taps a b) refl
  where
    parts : (not (is_before a b) ≡ true) × (not (is_before b a) ≡ true)
    parts = and_parts (not (is_before a b)) (not (is_before b a)) tie

    by : (r : Ordering) → compare_taps a b ≡ r → compare_taps a b ≡ Equal
    by Equal e = e
    by Less e = equal_from (compare_taps a b) Equal e (not-true (is_before a b) parts.0)
    by Greater e =
        let back : compare_taps b a ≡ Less = compare_total.antisymm b a ∙ ap ordering_reverse e in
        let none : Less ≡ Equal = sym back ∙ equal_from (compare_taps b a) Equal back (not-true (is_before b a) parts.1) in
        absurd (cc)

-- they are of one device and have one lane number
ties_tell : (a b : RecordValue) → ties is_before a b ≡ true → (a.device ≡ b.device) × (a.lane ≡ b.lane)
ties_tell a b tie =
    let outer = then_equal (ordering_then (nat_cmp a.tap.moment b.tap.moment) (nat_cmp a.device b.device)) (nat_cmp a.lane b.lane) (compared a b tie) in
    let inner = then_equal (nat_cmp a.tap.moment b.tap.moment) (nat_cmp a.device b.device) outer.0 in
    (exact_unsigned a.device b.device inner.1, exact_unsigned a.lane b.lane outer.1)

-- none is before itself
before_itself : (a : RecordValue) → ledger.is_before a a ≡ false
before_itself a = (λ i. if less a.tap.day i then true else if less a.tap.day i then false else if less a.tap.moment i then true else if less a.tap.moment i then false else if less a.device i then true else if less a.device i then false else less a.lane i)
  where
    less : (n : ℕ) → nat_lt n n ≡ false
    less n = grind (arith, nat_tests)

pub distinct_parts : (k : ℕ) (ks : List ℕ) → IsDistinct nat_eq (k ∷ ks) → AllByRecursion (λ j. nat_eq k j ≡ false) ks × IsDistinct nat_eq ks
unfolding IsDistinct
distinct_parts k ks h = h

-- a registered device
pub entry_of : (ds : List (ℕ × Placement)) (d : ℕ) → (option_map (λ (p : Placement). p.station) (lookup (nat_eq d) ds) ≡ None) ⊎ ((e : ℕ × Placement) × In e ds × (e.0 ≡ d))
entry_of [] d = inl refl
entry_of (e ∷ ds) d = by (nat_eq d e.0) refl (entry_of ds d)
  where
    by : (t : Bool) → nat_eq d e.0 ≡ t → (option_map (λ (p : Placement). p.station) (lookup (nat_eq d) ds) ≡ None) ⊎ ((x : ℕ × Placement) × In x ds × (x.0 ≡ d))
        → (option_map (λ (p : Placement). p.station) (lookup (nat_eq d) (e ∷ ds)) ≡ None) ⊎ ((x : ℕ × Placement) × In x (e ∷ ds) × (x.0 ≡ d))
    by true same rest = inr (e, inl refl, grind (arith, nat_tests))
    by false differ (inr there) = inr (there.0, inr there.1, there.2)
    by false differ (inl none) = inl (ap (λ t. option_map (λ (p : Placement). p.station) (if t then Some e.1 else lookup (nat_eq d) ds)) differ ∙ none)

-- where no device is open, each is settled: closed, or retired
pub settled_all : (start : ℕ) (closed : ℕ → ℕ) (retired : ℕ → Bool) (day : ℕ) (ds : List (ℕ × Placement)) → first_open start closed retired day ds ≡ None → (d : ℕ × Placement) → In d ds → (is_closed start (closed d.0) day || retired d.0) ≡ true
settled_all start closed retired day [] none d i = absurd i
settled_all start closed retired day (e ∷ ds) none d i = by (λ rest there. settled_all start closed retired day ds rest d there) (is_closed start (closed e.0) day || retired e.0) refl i
  where
    by : (first_open start closed retired day ds ≡ None → In d ds → (is_closed start (closed d.0) day || retired d.0) ≡ true) → (t : Bool) → (is_closed start (closed e.0) day || retired e.0) ≡ t → In d (e ∷ ds) → (is_closed start (closed d.0) day || retired d.0) ≡ true
    by rest true holds (inl same) = ap (λ (x : ℕ × Placement). is_closed start (closed x.0) day || retired x.0) (sym same) ∙ holds
    by rest true holds (inr there) = rest (sym (ap (λ t. if t then first_open start closed retired day ds else Some e.0) holds) ∙ none) there
    by rest false fails there =
        let unclosed : Some e.0 ≡ None = sym (ap (λ t. if t then first_open start closed retired day ds else Some e.0) fails) ∙ none in
        absurd (cc)

-- TAPS THAT COUNT
-- lists of taps, by their devices, whose places tell their lane numbers; a device that isn't registered has none
module _ (sc : SchemeValue) (taps : ℕ → List RecordValue) (placed : (d k : ℕ) (r : RecordValue) → slice_get (taps d) k ≡ Some r → (r.lane ≡ k + 1) × (r.device ≡ d)) (known : (d : ℕ) → station_of sc d ≡ None → taps d ≡ []) where
  -- no two of a device tie
  lane_apart : (d : ℕ) → AreApart (taps d)
  lane_apart d = apart_from (taps d) far
    where
      far : (j k : ℕ) (a b : RecordValue) → j < k → slice_get (taps d) j ≡ Some a → slice_get (taps d) k ≡ Some b → ties is_before a b ≡ false
      far j k a b lt first second = by (ties is_before a b) refl
        where
          by : (t : Bool) → ties is_before a b ≡ t → ties is_before a b ≡ false
          by false e = e
          by true e = absurd (omega (arith, lt, (placed d j a first).0, (placed d k b second).0, (ties_tell a b e).1))

  -- nor two of several
  flat_apart : (f : ℕ → List RecordValue) → ((d : ℕ) → AreApart (f d)) → ((d : ℕ) (r : RecordValue) → In r (f d) → r.device ≡ d) → (ds : List (ℕ × Placement)) → IsDistinct nat_eq (keys_of ds) → AreApart (flat_map (λ (d : ℕ × Placement). f d.0) ds)
  flat_apart f apart of [] distinct = tt
  flat_apart f apart of (d ∷ ds) distinct =
      apart_append (f d.0) (flat_map (λ (e : ℕ × Placement). f e.0) ds) (apart d.0) (flat_apart f apart of ds (distinct_parts d.0 (keys_of ds) distinct).1) across
    where
      others : (es : List (ℕ × Placement)) (e : ℕ × Placement) → AllByRecursion (λ k. nat_eq d.0 k ≡ false) (keys_of es) → In e es → nat_eq d.0 e.0 ≡ false
      others [] e every i = absurd i
      others (x ∷ es) e every (inl same) = ap (λ (y : ℕ × Placement). nat_eq d.0 y.0) (sym same) ∙ every.0
      others (x ∷ es) e every (inr i) = others es e every.1 i

      across : (a b : RecordValue) → In a (f d.0) → In b (flat_map (λ (e : ℕ × Placement). f e.0) ds) → ties is_before a b ≡ false
      across a b i j = by (ties is_before a b) refl
        where
          by : (t : Bool) → ties is_before a b ≡ t → ties is_before a b ≡ false
          by false e = e
          by true e =
              let there = of_flat (λ (x : ℕ × Placement). f x.0) ds b j in
              let differ : nat_eq d.0 there.0.0 ≡ false = others ds there.0 (distinct_parts d.0 (keys_of ds) distinct).0 there.1 in
              let same : d.0 ≡ there.0.0 = sym (of d.0 a i) ∙ (ties_tell a b e).0 ∙ of there.0.0 b there.2 in
              absurd (grind (arith, nat_tests))

  -- a registered device, where it has numbered a tap
  registered : (d k : ℕ) (r : RecordValue) → slice_get (taps d) k ≡ Some r → (e : ℕ × Placement) × In e sc.devices × (e.0 ≡ d)
  registered d k r at = elim (entry_of sc.devices d) [
    | inl none ↦ absurd (nothing (known d none))
    | inr found ↦ found
  ]
    where
      nothing : taps d ≡ [] → ⊥
      nothing none =
          let empty : None ≡ Some r = sym (ap (λ l. slice_get l k) none) ∙ at in
          absurd (cc)

  -- A LEDGER, which holds some of them
  module _ (v : ledger.LedgerValue) (from to : ℕ) (rows : List RecordValue) (between : ledger.AreTapsBetween v from to rows) (taken_at : (d k : ℕ) (r : RecordValue) → slice_get (v.taken d) k ≡ Some r → r.tap.day ≤ to → slice_get (taps d) k ≡ Some r) where
    rows_apart : AreApart rows
    rows_apart = apart_from rows far
      where
        far : (j k : ℕ) (a b : RecordValue) → j < k → slice_get rows j ≡ Some a → slice_get rows k ≡ Some b → ties is_before a b ≡ false
        far j k a b lt first second = by (ties is_before a b) refl
          where
            by : (t : Bool) → ties is_before a b ≡ t → ties is_before a b ≡ false
            by false e = e
            by true e =
                let tell = ties_tell a b e in
                let of_a = between.taken j a first in
                let of_b = between.taken k b second in
                let one = of_a.0 in
                let other = of_b.0 in
                let at_a = taken_at a.device one.0 a one.1 of_a.2 in
                let at_b = taken_at b.device other.0 b other.1 of_b.2 in
                let place : one.0 ≡ other.0 = omega (arith, (placed a.device one.0 a at_a).0, (placed b.device other.0 b at_b).0, tell.1) in
                let same : Some a ≡ Some b = sym at_a ∙ (λ i. slice_get (taps (tell.0 i)) (place i)) ∙ at_b in
                let equal : a ≡ b = cc in
                let never : true ≡ false = sym (between.sorted j k a b lt first second) ∙ ap (λ x. ledger.is_before a x) (sym equal) ∙ before_itself a in
                absurd (cc)

    pub week_in_order : (start : ℕ) (closed : ℕ → ℕ) (retired : ℕ → Bool) → IsScheme sc → ((d : ℕ × Placement) → In d sc.devices → (is_closed start (closed d.0) to || retired d.0) ≡ true → of_days from to (v.taken d.0) ≡ of_days from to (taps d.0)) → first_open start closed retired to sc.devices ≡ None → in_order rows ≡ in_order (flat_map (λ (d : ℕ × Placement). of_days from to (taps d.0)) sc.devices)
    week_in_order start closed retired valid whole none = one_order rows _ rows_apart
        (flat_apart (λ d. of_days from to (taps d)) (λ d. apart_filter among (taps d) (lane_apart d)) of_one sc.devices valid.devices.distinct) forth back
      where
        among : RecordValue → Bool
        among r = nat_le from r.tap.day && nat_le r.tap.day to

        of_one : (d : ℕ) (r : RecordValue) → In r (of_days from to (taps d)) → r.device ≡ d
        of_one d r i =
            let there = in_at (taps d) r (of_filter among (taps d) r i).0 in
            (placed d there.0 r there.1).1

        forth : (r : RecordValue) → In r rows → In r (flat_map (λ (d : ℕ × Placement). of_days from to (taps d.0)) sc.devices)
        forth r i =
            let at = in_at rows r i in
            let tells = between.taken at.0 r at.1 in
            let numbered = taken_at r.device tells.0.0 r tells.0.1 tells.2 in
            let entry = registered r.device tells.0.0 r numbered in
            let of_week : among r ≡ true = and_from (nat_le from r.tap.day) (nat_le r.tap.day to) (within tells.1) (within tells.2) in
            in_flat (λ (d : ℕ × Placement). of_days from to (taps d.0)) sc.devices entry.0 r entry.1
            (subst (λ d. In r (of_days from to (taps d))) (sym entry.2) (in_filter among (taps r.device) r (in_from (taps r.device) tells.0.0 r numbered) of_week))
          where
            within : {a b : ℕ} → a ≤ b → nat_le a b ≡ true
            within le = grind (arith, nat_tests)

        back : (r : RecordValue) → In r (flat_map (λ (d : ℕ × Placement). of_days from to (taps d.0)) sc.devices) → In r rows
        back r i =
            let there = of_flat (λ (d : ℕ × Placement). of_days from to (taps d.0)) sc.devices r i in
            let d = there.0.0 in
            let done : (is_closed start (closed d) to || retired d) ≡ true = settled_all start closed retired to sc.devices none there.0 there.1 in
            let both = of_filter among (v.taken d) r (subst (In r) (sym (whole there.0 there.1 done)) there.2) in
            let at = in_at (v.taken d) r both.0 in
            let days = and_parts (nat_le from r.tap.day) (nat_le r.tap.day to) both.1 in
            let found = between.all d at.0 r at.1 (within days.0) (within days.1) in
            in_from rows found.0 r found.1
          where
            within : {a b : ℕ} → nat_le a b ≡ true → a ≤ b
            within holds = grind (arith, nat_tests)
