-- What a ledger that agrees with lists holds of a week, where it has closed the day of each device or retired its lane, stands in the order of the lists' taps of it; and a bill is of the same.
use Rattle.std.proofs.Common.{◌≡◌, ℕ, zero, suc, ◌+◌, ◌<◌, ◌≤◌, Bool, true, false, List, [], ◌∷◌, ◌++◌, length, take, filter, Some, None, refl, sym, ap, ◌∙◌, subst, arith, inl, inr}
use Rattle.std.specs.Prelude.{◌&&◌, ◌||◌, not, is_some, option_map, slice_get, nat_eq, nat_le, max, replicate, Option, if◌then◌else◌}
use Rattle.std.specs.List.{flat_map}
use Rattle.std.specs.Map.{lookup}
use Rattle.std.proofs.Math.Seq.{take-length}
use Rattle.std.proofs.lemmas.Bool.{and_from}
use Rattle.std.proofs.lemmas.Bool.Decides.{nat_tests}
use Rattle.std.proofs.lemmas.List.{append-nil}
use Rattle.std.proofs.lemmas.List.Elements.{filter-append}
use Rattle.fare_record.specs.Values.{RecordValue}
use Rattle.fare_record.specs.Lanes.{part, day_count}
use Rattle.fare_day.specs.Week.{monday_on_or_before}
use Rattle.fare_scheme.specs.declared.entry.Placement.{Placement}
use Rattle.fare_scheme.specs.Facts.{IsScheme}
use Rattle.fare_scheme.specs.Values.{SchemeValue}
use Rattle.fare_scheme.specs.Words.{station_of}
use Rattle.fare_cap.specs.Fares.{week_start}
use Rattle.fare_cap.specs.Order.{in_order}
use Rattle.fare_cap.specs.Bills.{BillValue, bill_of, bill_rows, total_of}
use Rattle.fare_cap.specs.declared.row.Row.{Row}
use Rattle.fare_cap.proofs.Weeks.{other_days_count_nowhere}
use Rattle.fare_store.specs.LedgerWords as ledger
use Rattle.fare_side.specs.Weeks.{open_of}
use Rattle.fare_world.specs.Headline.{IsPrefixOf, of_days}
use Rattle.fare_world.proofs.Lanes.{day_count-append, closed_past, closed_within}
use Rattle.fare_world.proofs.Showing.{part_get}
use Rattle.fare_agreement.specs.Agreeing.{AreNumberedLists, AreHeldOf, AreClosedOf}
use Rattle.fare_agreement.specs.Parts.{first_forgotten, part_counted, parts_of}
use Rattle.fare_agreement.proofs.Numbers.{lanes_count}
use Rattle.fare_agreement.proofs.Prefixes.{prefix_at}
use Rattle.fare_agreement.proofs.LettingGo.{held_at}
use Rattle.fare_world.proofs.OneOrder.{In}
use Rattle.fare_world.proofs.Closing.{of_days-none}
use Rattle.fare_store.proofs.Entries.{if_all}
use Rattle.fare_world.proofs.WeekInOrder as world

-- where none is forgotten, of each all is held
pub held_all : (from : ℕ → ℕ) (day : ℕ) (ds : List (ℕ × Placement)) → first_forgotten from day ds ≡ None → (d : ℕ × Placement) → In d ds → from d.0 ≤ day
held_all from day [] none d i = absurd i
held_all from day (e ∷ ds) none d i = by (λ rest there. held_all from day ds rest d there) (nat_le (from e.0) day) refl i
  where
    by : (first_forgotten from day ds ≡ None → In d ds → from d.0 ≤ day) → (t : Bool) → nat_le (from e.0) day ≡ t → In d (e ∷ ds) → from d.0 ≤ day
    by rest true holds (inl same) = subst (λ (x : ℕ × Placement). from x.0 ≤ day) same (let le : from e.0 ≤ day = grind (arith, nat_tests) in le)
    by rest true holds (inr there) = rest (sym (ap (λ t. if t then first_forgotten from day ds else Some e.0) holds) ∙ none) there
    by rest false fails there =
        let gone : Some e.0 ≡ None = sym (ap (λ t. if t then first_forgotten from day ds else Some e.0) fails) ∙ none in
        absurd (cc)

-- of days from which on nothing went, what is shown of records is these
days_held : (g from to : ℕ) (xs : List RecordValue) → ((k : ℕ) (r : RecordValue) → k < g → slice_get xs k ≡ Some r → r.tap.day < from) → to ≤ 100000 → of_days from to (ledger.let_go g xs) ≡ of_days from to xs
days_held zero from to xs past dated = refl
days_held (suc g) from to [] past dated = no_days (suc g)
  where
    no_days : (n : ℕ) → of_days from to (replicate n ledger.blank ++ []) ≡ []
    no_days zero = refl
    no_days (suc n) = ap (λ b. if b then ledger.blank ∷ of_days from to (replicate n ledger.blank ++ []) else of_days from to (replicate n ledger.blank ++ [])) (late (nat_le from 100001)) ∙ no_days n
      where
        late : (b : Bool) → (b && nat_le 100001 to) ≡ false
        late b = by b (let l : nat_le 100001 to ≡ false = grind (arith, nat_tests) in l)
          where
            by : (b : Bool) → nat_le 100001 to ≡ false → (b && nat_le 100001 to) ≡ false
            by true e = e
            by false e = refl
days_held (suc g) from to (x ∷ xs) past dated =
    let early : x.tap.day < from = past 0 x (omega arith) refl in
    let before : nat_le from x.tap.day ≡ false = grind (arith, nat_tests) in
    let after : nat_le 100001 to ≡ false = grind (arith, nat_tests) in
    both (nat_le from 100001) (nat_le 100001 to) (nat_le from x.tap.day) (nat_le x.tap.day to) after before (days_held g from to xs (λ k r less at. past (suc k) r (omega (arith, less)) at) dated)
  where
    both : (a b c d : Bool) → b ≡ false → c ≡ false → of_days from to (ledger.let_go g xs) ≡ of_days from to xs
        → (if a && b then ledger.blank ∷ of_days from to (ledger.let_go g xs) else of_days from to (ledger.let_go g xs)) ≡ (if c && d then x ∷ of_days from to xs else of_days from to xs)
    both true false false d e f rest = rest
    both false false false d e f rest = rest
    both a true c d e f rest = absurd (cc)
    both a false true d e f rest = absurd (cc)

-- lists that are the same for each of these make the same
flat_same : (f g : ℕ × Placement → List RecordValue) (ds : List (ℕ × Placement)) → ((d : ℕ × Placement) → In d ds → f d ≡ g d) → flat_map f ds ≡ flat_map g ds
flat_same f g [] same = refl
flat_same f g (d ∷ ds) same = (λ i. same d (inl refl) i ++ flat_same f g ds (λ e there. same e (inr there)) i)

-- what is kept of several lists is what is kept of each
filter_flat : {X : Type 0} (p : RecordValue → Bool) (f : X → List RecordValue) (xs : List X) → filter p (flat_map f xs) ≡ flat_map (λ x. filter p (f x)) xs
filter_flat p f [] = refl
filter_flat p f (x ∷ xs) = filter-append p (f x) (flat_map f xs) ∙ ap (λ l. filter p (f x) ++ l) (filter_flat p f xs)

-- a device in the list has a station
has_station : (ds : List (ℕ × Placement)) (d : ℕ × Placement) → In d ds → is_some (option_map (λ (p : Placement). p.station) (lookup (nat_eq d.0) ds)) ≡ true
has_station [] d there = absurd there
has_station (e ∷ ds) d there = by (has_station ds d) (nat_eq d.0 e.0) refl there
  where
    by : (In d ds → is_some (option_map (λ (p : Placement). p.station) (lookup (nat_eq d.0) ds)) ≡ true) → (t : Bool) → nat_eq d.0 e.0 ≡ t → In d (e ∷ ds) → is_some (option_map (λ (p : Placement). p.station) (if t then Some e.1 else lookup (nat_eq d.0) ds)) ≡ true
    by rest true same there = refl
    by rest false other (inl same) = absurd (let itself : nat_eq d.0 d.0 ≡ false = ap (λ (x : ℕ × Placement). nat_eq d.0 x.0) (sym same) ∙ other in let not_itself : ⊥ = grind (arith, nat_tests) in not_itself)
    by rest false other (inr there) = rest there

-- NUMBERED TAPS
module _ (sc : SchemeValue) (lists : ℕ → List RecordValue) (all : AreNumberedLists lists) (o : ℕ) where
  -- its place tells a tap's lane number, and it is of the device
  placed : (d k : ℕ) (r : RecordValue) → slice_get (part o (lists d)) k ≡ Some r → (r.lane ≡ k + 1) × (r.device ≡ d)
  placed d k r at =
      let taps = lists d in
      let whole : take (length taps) taps ≡ taps = take-length taps in
      let found = part_get o taps k r at in (
        lanes_count d taps (all.numbered d) o (length taps) k r (ap (λ l. slice_get (part o l) k) whole ∙ at),
        (all.numbered d found.0 r found.1).of_device,
      )

  -- A LEDGER
  module _ (v : ledger.LedgerValue) (records : ℕ → List RecordValue) (taken : (d : ℕ) → IsPrefixOf (records d) (part o (lists d))) (held : (d : ℕ) → AreHeldOf (records d) (v.from d) (v.start + v.closed d) (v.retired d) (v.taken d)) (closed : (d : ℕ) → AreClosedOf (part o (lists d)) (records d) (v.stated d) (ledger.is_closed v d) (v.from d)) (untaken : (d : ℕ) → station_of sc d ≡ None → v.taken d ≡ []) where
    -- what is shown of a day was numbered
    taken_at : (d k : ℕ) (r : RecordValue) → slice_get (v.taken d) k ≡ Some r → r.tap.day ≤ 100000 → slice_get (part o (lists d)) k ≡ Some r
    taken_at d k r at dated = elim (held_at (held d).gone k (records d) r (ap (λ l. slice_get l k) (sym (held d).are) ∙ at)) [
      | inl same ↦ absurd (let day : r.tap.day ≡ 100001 = ap (λ (x : RecordValue). x.tap.day) same in omega (arith, day, dated))
      | inr there ↦ prefix_at (records d) (part o (lists d)) k r (taken d) there
    ]

    -- of closed days what was taken is what was numbered
    pub whole : (d from to : ℕ) → v.start ≤ from → ledger.is_closed v d to ≡ true → of_days from to (records d) ≡ of_days from to (part o (lists d))
    whole d from to first shut =
        sym (ap (of_days from to) (sym (taken d).1) ∙ filter-append among (records d) (taken d).0 ∙ ap (λ l. of_days from to (records d) ++ l) (of_days-none from to (taken d).0 none) ∙ append-nil (of_days from to (records d)))
      where
        among : RecordValue → Bool
        among r = nat_le from r.tap.day && nat_le r.tap.day to

        none : (day : ℕ) → from ≤ day → day ≤ to → day_count (taken d).0 day ≡ 0
        none day later earlier =
            let past : day < v.start + v.closed d = omega (arith, earlier, closed_past v.start (v.closed d) to shut) in
            let is : ledger.is_closed v d day ≡ true = closed_within v.start (v.closed d) day (omega (arith, first, later)) past in
            omega (arith, (closed d).whole day is, day_count-append (records d) (taken d).0 day, ap (λ l. day_count l day) (taken d).1)

    -- of days from which on all is held, what it shows is what it took
    shown : (d from to : ℕ) → v.from d ≤ from → to ≤ 100000 → of_days from to (v.taken d) ≡ of_days from to (records d)
    shown d from to le dated = ap (of_days from to) (held d).are ∙ days_held (held d).gone from to (records d) (λ k r less at. let past = ((held d).past k r less at).0 in omega (arith, past, le)) dated

    -- WHAT COUNTS
    -- as it was taken, where the lane is retired or the device isn't registered
    as_taken : ℕ → Bool
    as_taken d = v.retired d || not (is_some (station_of sc d))

    -- or as it was numbered
    counted : ℕ → List RecordValue
    counted d = if as_taken d then records d else part o (lists d)

    in_list : (d k : ℕ) (r : RecordValue) → slice_get (counted d) k ≡ Some r → slice_get (part o (lists d)) k ≡ Some r
    unfolding counted
    in_list d k r = if_all (as_taken d) (λ l. slice_get l k ≡ Some r → slice_get (part o (lists d)) k ≡ Some r) (records d) (part o (lists d)) (λ _ at. prefix_at (records d) (part o (lists d)) k r (taken d) at) (λ _ at. at)

    counts : (d k : ℕ) (r : RecordValue) → slice_get (v.taken d) k ≡ Some r → r.tap.day ≤ 100000 → slice_get (counted d) k ≡ Some r
    unfolding counted
    counts d k r at dated = if_all (as_taken d) (λ l. slice_get l k ≡ Some r) (records d) (part o (lists d)) (λ _. there) (λ _. taken_at d k r at dated)
      where
        there : slice_get (records d) k ≡ Some r
        there = elim (held_at (held d).gone k (records d) r (ap (λ l. slice_get l k) (sym (held d).are) ∙ at)) [
          | inl same ↦ absurd (let day : r.tap.day ≡ 100001 = ap (λ (x : RecordValue). x.tap.day) same in omega (arith, day, dated))
          | inr found ↦ found
        ]

    none_counts : (d : ℕ) → station_of sc d ≡ None → counted d ≡ []
    unfolding counted as_taken
    none_counts d unknown =
        if_all (v.retired d || not (is_some (station_of sc d))) (λ l. l ≡ []) (records d) (part o (lists d)) (λ _. was_none (held d).gone (records d) (sym (held d).are ∙ untaken d unknown) (held d).few)
        (λ other. absurd (let both : true ≡ false = sym (either (v.retired d)) ∙ ap (λ (s : Option ℕ). v.retired d || not (is_some s)) (sym unknown) ∙ other in cc))
      where
        either : (a : Bool) → (a || true) ≡ true
        either true = refl
        either false = refl

        was_none : (g : ℕ) (xs : List RecordValue) → ledger.let_go g xs ≡ [] → g ≤ length xs → xs ≡ []
        was_none g [] none few = refl
        was_none zero (x ∷ xs) none few = none
        was_none (suc g) (x ∷ xs) none few = absurd (cc)

    counts_whole : (d from to : ℕ) → v.start ≤ from → v.from d ≤ from → to ≤ 100000 → (ledger.is_closed v d to || v.retired d) ≡ true → of_days from to (v.taken d) ≡ of_days from to (counted d)
    unfolding counted as_taken
    counts_whole d from to first le dated done =
        shown d from to le dated
        ∙ if_all (v.retired d || not (is_some (station_of sc d))) (λ l. of_days from to (records d) ≡ of_days from to l) (records d) (part o (lists d)) (λ _. refl) (λ works. whole d from to first (the_first (ledger.is_closed v d to) (v.retired d) done (neither (v.retired d) (not (is_some (station_of sc d))) works)))
      where
        the_first : (a b : Bool) → (a || b) ≡ true → b ≡ false → a ≡ true
        the_first true b either other = refl
        the_first false b either other =
            let both : false ≡ true = sym other ∙ either in
            absurd (cc)

        neither : (a b : Bool) → (a || b) ≡ false → a ≡ false
        neither true b e = e
        neither false b e = refl

    -- what is shown of what counts
    counts_shown : (d from to : ℕ) → is_some (station_of sc d) ≡ true → v.from d ≤ from → to ≤ 100000 → of_days from to (counted d) ≡ of_days from to (part_counted lists v o d)
    unfolding counted as_taken
    counts_shown d from to known le dated = by (v.retired d) (is_some (station_of sc d)) known
      where
        by : (b k : Bool) → k ≡ true → of_days from to (if b || not k then records d else part o (lists d)) ≡ of_days from to (if b then v.taken d else part o (lists d))
        by true k e = sym (shown d from to le dated)
        by false true e = refl
        by false false e = absurd (cc)

    module _ (from to : ℕ) (rows : List RecordValue) (dated : to ≤ 100000) (between : ledger.AreTapsBetween v from to rows) where
      pub week_in_order : IsScheme sc → v.start ≤ from → open_of v to sc ≡ None → first_forgotten v.from from sc.devices ≡ None → in_order rows ≡ in_order (flat_map (λ (d : ℕ × Placement). of_days from to (part_counted lists v o d.0)) sc.devices)
      week_in_order valid first none kept =
          world.week_in_order sc counted (λ d k r at. placed d k r (in_list d k r at)) none_counts v from to rows between (λ d k r at le. counts d k r at (omega (arith, le, dated))) v.start v.closed v.retired valid
          (λ d i done. counts_whole d.0 from to first (held_all v.from from sc.devices kept d i) dated done) none
          ∙ ap in_order (flat_same (λ d. of_days from to (counted d.0)) (λ d. of_days from to (part_counted lists v o d.0)) sc.devices (λ d i. counts_shown d.0 from to (has_station sc.devices d i) (held_all v.from from sc.devices kept d i) dated))

    -- THE BILL
    pub bill_is : (day : ℕ) (rows : List RecordValue) → day ≤ 100000 → IsScheme sc → v.start ≡ sc.start → open_of v day sc ≡ None → first_forgotten v.from (week_start sc day) sc.devices ≡ None → ledger.AreTapsBetween v (week_start sc day) day rows → bill_of sc rows day ≡ bill_of sc (parts_of sc lists v o) day
    bill_is day rows dated valid start none kept between =
        ap (λ (ordered : List RecordValue). with_rows (bill_rows sc ordered day)) (week_in_order (week_start sc day) day rows dated between valid (subst (λ n. n ≤ week_start sc day) (sym start) (from_start (monday_on_or_before day) sc.start)) none kept)
        ∙ ap (λ (records : List RecordValue). bill_of sc records day) (sym (filter_flat among (λ (d : ℕ × Placement). part_counted lists v o d.0) sc.devices))
        ∙ other_days_count_nowhere sc day among (parts_of sc lists v o) (record { kept = λ r first last. and_from (nat_le (week_start sc day) r.tap.day) (nat_le r.tap.day day) (within first) (within last) })
      where
        among : RecordValue → Bool
        among r = nat_le (week_start sc day) r.tap.day && nat_le r.tap.day day

        with_rows : List Row → BillValue
        with_rows rows = record { rows = rows; total = total_of rows }

        from_start : (a b : ℕ) → b ≤ max a b
        from_start a b = omega arith

        within : {a b : ℕ} → a ≤ b → nat_le a b ≡ true
        within le = grind (arith, nat_tests)
