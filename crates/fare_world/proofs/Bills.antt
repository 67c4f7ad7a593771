-- What an owner's ledger holds of a week, where it has closed the day of each device or retired its lane, stands in the order of what counts of it.
use Rattle.std.proofs.Common.{◌≡◌, refl, zero, suc, ℕ, ◌+◌, ◌≤◌, Bool, true, false, List, [], length, take, drop, Some, None, sym, ap, ◌∙◌, arith}
use Rattle.std.specs.Prelude.{◌||◌, slice_get}
use Rattle.std.specs.List.{flat_map}
use Rattle.std.proofs.Math.Seq.{take-length}
use Rattle.std.proofs.lemmas.List.{take-append-drop}
use Rattle.fare_record.specs.Values.{RecordValue}
use Rattle.fare_record.specs.Lanes.{part}
use Rattle.fare_scheme.specs.declared.entry.Placement.{Placement}
use Rattle.fare_scheme.specs.Facts.{IsScheme}
use Rattle.fare_scheme.specs.Values.{SchemeValue}
use Rattle.fare_cap.specs.Order.{in_order}
use Rattle.fare_store.specs.LedgerWords as ledger
use Rattle.fare_world.specs.System.{System, numbered_for, taken_by}
use Rattle.fare_world.specs.Headline.{of_days}
use Rattle.fare_side.specs.OpenDays.{is_closed}
use Rattle.fare_world.specs.Billing.{first_open_of, counted_for, basis}
use Rattle.fare_world.specs.Kept.{IsSystem}
use Rattle.fare_store.proofs.Entries.{if_all}
use Rattle.fare_world.proofs.Places.{slice_get-front}
use Rattle.fare_world.proofs.Showing.{lanes_of_part, part_get}
use Rattle.fare_world.proofs.Closing.{whole}
use Rattle.fare_world.proofs.WeekInOrder as week

-- NUMBERED TAPS
module _ (sc : SchemeValue) (s : System) (is : IsSystem sc s) (o : ℕ) where
  -- its place tells a tap's lane number, and it is of the device
  placed : (d k : ℕ) (r : RecordValue) → slice_get (numbered_for s o d) k ≡ Some r → (r.lane ≡ k + 1) × (r.device ≡ d)
  placed d k r at =
      let taps = (s.devices d).taps in
      let all : take (length taps) taps ≡ taps = take-length taps in
      let found = part_get o taps k r at in (
        lanes_of_part sc d taps (is.devices d).numbered o (length taps) (omega arith) k r (ap (λ l. slice_get (part o l) k) all ∙ at),
        ((is.devices d).numbered found.0 r found.1).of_device,
      )

  taken_at : (d k : ℕ) (r : RecordValue) → slice_get (taken_by s o d) k ≡ Some r → slice_get (numbered_for s o d) k ≡ Some r
  taken_at d k r at =
      let took = (s.lanes o d).took in
      let n = numbered_for s o d in
      ap (λ l. slice_get l k) (sym (take-append-drop took n)) ∙ slice_get-front (take took n) (drop took n) k r at

  -- WHAT COUNTS
  -- it is among what was numbered, in its place
  in_numbered : (d k : ℕ) (r : RecordValue) → slice_get (counted_for s o d) k ≡ Some r → slice_get (numbered_for s o d) k ≡ Some r
  in_numbered d k r = if_all (s.lanes o d).retired (λ l. slice_get l k ≡ Some r → slice_get (numbered_for s o d) k ≡ Some r) (taken_by s o d) (numbered_for s o d) (λ _. taken_at d k r) (λ _ at. at)

  -- what was taken is among it
  counts : (d k : ℕ) (r : RecordValue) → slice_get (taken_by s o d) k ≡ Some r → slice_get (counted_for s o d) k ≡ Some r
  counts d k r at = if_all (s.lanes o d).retired (λ l. slice_get l k ≡ Some r) (taken_by s o d) (numbered_for s o d) (λ _. at) (λ _. taken_at d k r at)

  -- where nothing was numbered, nothing counts
  none_counts : (d : ℕ) → numbered_for s o d ≡ [] → counted_for s o d ≡ []
  none_counts d none = if_all (s.lanes o d).retired (λ l. l ≡ []) (taken_by s o d) (numbered_for s o d) (λ _. ap (take (s.lanes o d).took) none ∙ of_none (s.lanes o d).took) (λ _. none)
    where
      of_none : (n : ℕ) → ◌≡◌ {A = List RecordValue} (take n []) []
      of_none zero = refl
      of_none (suc n) = refl

  -- where the day is closed or the lane retired, what counts of its days was taken
  counts_whole : (d from to : ℕ) → (is_closed sc.start (s.lanes o d).closed to || (s.lanes o d).retired) ≡ true → sc.start ≤ from → of_days from to (taken_by s o d) ≡ of_days from to (counted_for s o d)
  counts_whole d from to done first =
      if_all (s.lanes o d).retired (λ l. of_days from to (taken_by s o d) ≡ of_days from to l) (taken_by s o d) (numbered_for s o d) (λ _. refl)
      (λ works. whole sc s is o d from to (the_first (is_closed sc.start (s.lanes o d).closed to) (s.lanes o d).retired done works) first)
    where
      the_first : (a b : Bool) → (a || b) ≡ true → b ≡ false → a ≡ true
      the_first true b either other = refl
      the_first false b either other =
          let both : false ≡ true = sym other ∙ either in
          absurd (cc)

  -- the taps of the week
  module _ (v : ledger.LedgerValue) (taken : (d : ℕ) → v.taken d ≡ taken_by s o d) (from to : ℕ) (rows : List RecordValue) (between : ledger.AreTapsBetween v from to rows) where
    here : (d k : ℕ) (r : RecordValue) → slice_get (v.taken d) k ≡ Some r → slice_get (taken_by s o d) k ≡ Some r
    here d k r at = ap (λ l. slice_get l k) (sym (taken d)) ∙ at

    pub week_in_order : IsScheme sc → sc.start ≤ from → first_open_of sc s o to ≡ None → in_order rows ≡ in_order (flat_map (λ (d : ℕ × Placement). of_days from to (counted_for s o d.0)) sc.devices)
    week_in_order valid first none =
        week.week_in_order sc (counted_for s o) (λ d k r at. placed d k r (in_numbered d k r at)) (λ d unknown. none_counts d (ap (part o) ((is.devices d).known unknown))) v from to rows between (λ d k r at _. counts d k r (here d k r at)) sc.start (λ e. (s.lanes o e).closed) (λ e. (s.lanes o e).retired) valid
        (λ d _ done. ap (of_days from to) (taken d.0) ∙ counts_whole d.0 from to done first) none
