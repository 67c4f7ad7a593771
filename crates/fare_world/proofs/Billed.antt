-- Each bill of a run, and each settlement, is of what the events and their replies tell, whatever comes after it.
use Rattle.std.proofs.Common.{◌≡◌, ℕ, suc, ◌+◌, ◌≤◌, Bool, true, false, List, [], ◌∷◌, ◌++◌, length, take, Some, None, refl, sym, ap, ◌∙◌, arith, inl, inr}
use Rattle.std.specs.Prelude.{◌&&◌, ◌||◌, not, Contains, if◌then◌else◌, Option, Result, Ok, Err, nat_lt}
use Rattle.std.specs.List.{flat_map}
use Rattle.std.proofs.lemmas.Bool.Decides.{nat_tests}
use Rattle.std.proofs.lemmas.Option.{slice_get_within, get_or_from_slice_get}
use Rattle.fare_record.specs.Values.{RecordValue}
use Rattle.fare_record.specs.Lanes.{part, lane_of}
use Rattle.fare_scheme.specs.declared.entry.Placement.{Placement}
use Rattle.fare_scheme.specs.Values.{SchemeValue}
use Rattle.fare_cap.specs.Fares.{week_start}
use Rattle.fare_cap.specs.Bills.{BillValue, bill_of}
use Rattle.fare_settle.specs.Values.{SettledValue}
use Rattle.fare_settle.specs.Settling.{settlement_of}
use Rattle.fare_side.specs.declared.bill_fault.BillFault.{BillFault}
use Rattle.fare_side.specs.declared.bill_fault.BillFault.TheVariants as fault
use Rattle.fare_side.specs.OpenDays.{is_closed, first_open, short_devices, where_open}
use Rattle.fare_event.specs.declared.event.Event.{Event}
use Rattle.fare_event.specs.declared.event.Event.TheVariants as event
use Rattle.fare_event.specs.declared.reply.Reply.{Reply}
use Rattle.fare_event.specs.declared.reply.Reply.TheVariants as reply
use Rattle.fare_world.specs.System.{System, start, numbered_for, taken_by}
use Rattle.fare_world.specs.Knowing.{knows_owner}
use Rattle.fare_world.specs.Steps.{step, after, replies}
use Rattle.fare_world.specs.Headline.{numbered, of_days, IsAnswered}
use Rattle.fare_world.specs.Billing.{first_open_of, short_of, counted_for, IsMet, bill_judged, unless, told, bill_refusal, basis, took_before, was_retired, was_closed, counted_told, basis_told, short_told, bill_told, settlement_told, BillsExactly}
use Rattle.fare_world.specs.Kept.{IsSystem}
use Rattle.fare_store.proofs.Entries.{if_all}
use Rattle.fare_world.proofs.InRun.{at_place, at_end, system_at, answered_at, told_at, taken_on, closed_on}
use Rattle.fare_world.proofs.Stepping.{start_is, taps_after}
use Rattle.fare_world.proofs.OneOrder.{In, in_at}
use Rattle.fare_world.proofs.WeekInOrder.{settled_all}
use Rattle.fare_world.proofs.BillsShown.{none_is_open}

-- THE RUN FROM THE START
module _ (sc : SchemeValue) (es : List Event) where
  abbrev pub rs : List Reply
  rs = replies sc (start sc) es

  abbrev pub at : ℕ → System
  at place = at_place sc (start sc) es place

  or_nothing : (b : Bool) → (b || false) ≡ b
  or_nothing true = refl
  or_nothing false = refl

  took_at : (place o d : ℕ) → ((at place).lanes o d).took ≡ took_before es rs place o d
  took_at place o d = omega (arith, (told_at sc (start sc) es place o d (start_is sc)).took)

  retired_at : (place o d : ℕ) → ((at place).lanes o d).retired ≡ was_retired es rs place o d
  retired_at place o d = (told_at sc (start sc) es place o d (start_is sc)).retired ∙ or_nothing (was_retired es rs place o d)

  closed_at : (place o d day : ℕ) → is_closed sc.start ((at place).lanes o d).closed day ≡ was_closed es rs place o d day
  closed_at place o d day = (told_at sc (start sc) es place o d (start_is sc)).closed day ∙ ap (λ b. was_closed es rs place o d day || b) nothing ∙ or_nothing (was_closed es rs place o d day)
    where
      nothing : is_closed sc.start 0 day ≡ false
      nothing = grind (arith, nat_tests)

  -- what the devices number, in the whole run
  all_numbered : (o d : ℕ) → numbered_for (after sc (start sc) es) o d ≡ lane_of o d (numbered sc es rs)
  all_numbered o d = ap (part o) (taps_after sc (start sc) es d (start_is sc))

  -- WHAT COUNTS
  -- of a retired lane
  counted_retired : (place o d : ℕ) → was_retired es rs place o d ≡ true → counted_for (at place) o d ≡ counted_told sc es rs place o d
  counted_retired place o d is =
      ap (λ b. if b then taken_by (at place) o d else numbered_for (at place) o d) (retired_at place o d ∙ is)
      ∙ taken_on sc (start sc) es place o d (start_is sc)
      ∙ (λ i. take (took_at place o d i) (all_numbered o d i))
      ∙ sym (ap (λ b. if b then take (took_before es rs place o d) (lane_of o d (numbered sc es rs)) else lane_of o d (numbered sc es rs)) is)

  -- of another
  counted_working : (place o d : ℕ) → was_retired es rs place o d ≡ false → (counted_for (at place) o d ≡ numbered_for (at place) o d) × (counted_told sc es rs place o d ≡ numbered_for (after sc (start sc) es) o d)
  counted_working place o d is = (
    ap (λ b. if b then taken_by (at place) o d else numbered_for (at place) o d) (retired_at place o d ∙ is),
    ap (λ b. if b then take (took_before es rs place o d) (lane_of o d (numbered sc es rs)) else lane_of o d (numbered sc es rs)) is ∙ sym (all_numbered o d),
  )

  by_test : (P : Type 0) (b : Bool) → (b ≡ true → P) → (b ≡ false → P) → P
  by_test P true p q = p refl
  by_test P false p q = q refl

  first_of : (a b : Bool) → (a || b) ≡ true → b ≡ false → a ≡ true
  first_of true b holds other = refl
  first_of false b holds other =
      let both : false ≡ true = sym other ∙ holds in
      absurd (cc)

  -- where the day is closed or the lane retired, what counts then is what is told
  counted_is : (place o d from to : ℕ) → (is_closed sc.start ((at place).lanes o d).closed to || ((at place).lanes o d).retired) ≡ true → of_days from to (counted_for (at place) o d) ≡ of_days from to (counted_told sc es rs place o d)
  counted_is place o d from to done =
      by_test (of_days from to (counted_for (at place) o d) ≡ of_days from to (counted_told sc es rs place o d)) (was_retired es rs place o d) (λ is. ap (of_days from to) (counted_retired place o d is)) (λ is.
      let both = counted_working place o d is in
      let closed = first_of (is_closed sc.start ((at place).lanes o d).closed to) ((at place).lanes o d).retired done (retired_at place o d ∙ is) in
      ap (of_days from to) both.0 ∙ sym (closed_on sc (start sc) es place o d from to (start_is sc) closed) ∙ sym (ap (of_days from to) both.1))

  -- THE BASIS
  flat_same : {X Y : Type 0} (f g : X → List Y) (xs : List X) → ((x : X) → In x xs → f x ≡ g x) → flat_map f xs ≡ flat_map g xs
  flat_same f g [] same = refl
  flat_same f g (x ∷ xs) same = (λ i. same x (inl refl) i ++ flat_same f g xs (λ y there. same y (inr there)) i)

  -- where no device is open
  basis_is : (place o day : ℕ) → first_open_of sc (at place) o day ≡ None → basis sc (at place) o day ≡ basis_told sc es rs place o day
  basis_is place o day none =
      flat_same (λ (d : ℕ × Placement). of_days (week_start sc day) day (counted_for (at place) o d.0)) (λ (d : ℕ × Placement). of_days (week_start sc day) day (counted_told sc es rs place o d.0)) sc.devices
      (λ d there. counted_is place o d.0 (week_start sc day) day (settled_all sc.start (λ e. ((at place).lanes o e).closed) (λ e. ((at place).lanes o e).retired) day sc.devices none d there))

  -- at the end, wherever it is
  pub basis_after : (o day : ℕ) → basis sc (after sc (start sc) es) o day ≡ basis_told sc es rs (length es) o day
  basis_after o day =
      flat_same (λ (d : ℕ × Placement). of_days (week_start sc day) day (counted_for (after sc (start sc) es) o d.0)) (λ (d : ℕ × Placement). of_days (week_start sc day) day (counted_told sc es rs (length es) o d.0)) sc.devices
      (λ d there. ap (of_days (week_start sc day) day) (ap (λ s. counted_for s o d.0) (sym end) ∙ same d.0))
    where
      end : at (length es) ≡ after sc (start sc) es
      end = at_end sc (start sc) es

      same : (d : ℕ) → counted_for (at (length es)) o d ≡ counted_told sc es rs (length es) o d
      same d = by_test (counted_for (at (length es)) o d ≡ counted_told sc es rs (length es) o d) (was_retired es rs (length es) o d) (counted_retired (length es) o d) (λ is.
          let both = counted_working (length es) o d is in
          both.0 ∙ ap (λ s. numbered_for s o d) end ∙ sym both.1)

  -- the devices of which a bill is short
  short_is : (place o day : ℕ) (ds : List (ℕ × Placement)) → short_devices sc.start (λ d. ((at place).lanes o d).closed) (λ d. ((at place).lanes o d).retired) day ds ≡ short_told es rs place o day ds
  short_is place o day [] = refl
  short_is place o day (d ∷ ds) =
      (λ i. if retired_at place o d.0 i && not (closed_at place o d.0 day i) then d.0 ∷ short_is place o day ds i else short_is place o day ds i)

  -- WHAT A REPLY TELLS
  judged_closed : (s : System) (o day : ℕ) → bill_judged sc s o day ≡ Ok tt → first_open_of sc s o day ≡ None
  judged_closed s o day =
      if_all (knows_owner sc o) (λ (r : Result Unit BillFault). r ≡ Ok tt → first_open_of sc s o day ≡ None) (if nat_lt day sc.start then Err fault.BeforeStart else where_open (first_open_of sc s o day)) (Err fault.UnknownOwner)
      (λ _. if_all (nat_lt day sc.start) (λ (r : Result Unit BillFault). r ≡ Ok tt → first_open_of sc s o day ≡ None) (Err fault.BeforeStart) (where_open (first_open_of sc s o day))
      (λ _ e. absurd (cc)) (λ _ e. none_is_open (first_open_of sc s o day) e))
      (λ _ e. absurd (cc))

  -- a value is told only where it is judged so, and then it is this one
  tells : {V : Type 0} (tell : V → Reply) (telling : Reply → Bool) → ((why : BillFault) → telling (reply.Refused (bill_refusal why)) ≡ false) → (judged : Result Unit BillFault) (v : V) (r : Reply) → r ≡ told tell (unless judged v) → telling r ≡ true → (judged ≡ Ok tt) × (r ≡ tell v)
  tells tell telling refused (Ok u) v r is telled = (refl, is)
  tells tell telling refused (Err why) v r is telled =
      let both : false ≡ true = sym (refused why) ∙ sym (ap telling is) ∙ telled in
      absurd (cc)

  abbrev is_bill : Reply → Bool
  is_bill (reply.Bill o day b short) = true
  is_bill r = false

  abbrev is_settlement : Reply → Bool
  is_settlement (reply.Settlement o day shares short) = true
  is_settlement r = false

  bill_is : (place o day : ℕ) → first_open_of sc (at place) o day ≡ None → reply.Bill o day (bill_of sc (basis sc (at place) o day) day) (short_of sc (at place) o day) ≡ bill_told sc es rs place o day
  bill_is place o day none = (λ i. reply.Bill o day (bill_of sc (basis_is place o day none i) day) (short_is place o day sc.devices i))

  settlement_is : (place o day : ℕ) → first_open_of sc (at place) o day ≡ None → reply.Settlement o day (settlement_of sc (basis sc (at place) o day) day) (short_of sc (at place) o day) ≡ settlement_told sc es rs place o day
  settlement_is place o day none = (λ i. reply.Settlement o day (settlement_of sc (basis_is place o day none i) day) (short_is place o day sc.devices i))

  -- WHERE ALL COUNTS ARE MET
  none_of_settled : (first : ℕ) (closed : ℕ → ℕ) (retired : ℕ → Bool) (day : ℕ) (ds : List (ℕ × Placement)) → ((d : ℕ × Placement) → In d ds → (is_closed first (closed d.0) day || retired d.0) ≡ true) → first_open first closed retired day ds ≡ None
  none_of_settled first closed retired day [] all = refl
  none_of_settled first closed retired day (d ∷ ds) all =
      ap (λ t. if t then first_open first closed retired day ds else Some d.0) (all d (inl refl)) ∙ none_of_settled first closed retired day ds (λ e i. all e (inr i))

  contained : {X : Type 0} (xs : List X) (x : X) → In x xs → Contains xs x
  contained xs x i = let place = in_at xs x i in (place.0, slice_get_within xs place.0 x place.1, get_or_from_slice_get xs place.0 x x place.1)

  met_none : (place o day : ℕ) → IsMet sc es rs place o day → first_open_of sc (at place) o day ≡ None
  met_none place o day met =
      none_of_settled sc.start (λ d. ((at place).lanes o d).closed) (λ d. ((at place).lanes o d).retired) day sc.devices
      (λ d there. (λ i. closed_at place o d.0 day i || retired_at place o d.0 i) ∙ met.settled d (contained sc.devices d there))

  judged_ok : (s : System) (o day : ℕ) → knows_owner sc o ≡ true → sc.start ≤ day → first_open_of sc s o day ≡ None → bill_judged sc s o day ≡ Ok tt
  judged_ok s o day known first none = (λ i. if known i then (if late i then Err fault.BeforeStart else where_open (none i)) else Err fault.UnknownOwner)
    where
      late : nat_lt day sc.start ≡ false
      late = grind (arith, nat_tests)

  pub bills_exactly : BillsExactly sc es rs
  bills_exactly = record {
    bills = λ o day place b short is.
        let tell = tells (λ (v : BillValue × List ℕ). reply.Bill o day v.0 v.1) is_bill (λ why. refl) (bill_judged sc (at place) o day) (bill_of sc (basis sc (at place) o day) day, short_of sc (at place) o day) (reply.Bill o day b short) (answered_at sc (start sc) es place (event.Bill o day) (reply.Bill o day b short) is) refl in
        tell.1 ∙ bill_is place o day (judged_closed (at place) o day tell.0);
    settlements = λ o day place shares short is.
        let tell = tells (λ (v : List SettledValue × List ℕ). reply.Settlement o day v.0 v.1) is_settlement (λ why. refl) (bill_judged sc (at place) o day) (settlement_of sc (basis sc (at place) o day) day, short_of sc (at place) o day) (reply.Settlement o day shares short) (answered_at sc (start sc) es place (event.Settle o day) (reply.Settlement o day shares short) is) refl in
        tell.1 ∙ settlement_is place o day (judged_closed (at place) o day tell.0);
    met = λ o day place r is met.
        let none = met_none place o day met in
        answered_at sc (start sc) es place (event.Bill o day) r is
        ∙ ap (λ (q : Result Unit BillFault). told (λ (v : BillValue × List ℕ). reply.Bill o day v.0 v.1) (unless q (bill_of sc (basis sc (at place) o day) day, short_of sc (at place) o day))) (judged_ok (at place) o day met.known met.first none)
        ∙ bill_is place o day none;
    met_settlement = λ o day place r is met.
        let none = met_none place o day met in
        answered_at sc (start sc) es place (event.Settle o day) r is
        ∙ ap (λ (q : Result Unit BillFault). told (λ (v : List SettledValue × List ℕ). reply.Settlement o day v.0 v.1) (unless q (settlement_of sc (basis sc (at place) o day) day, short_of sc (at place) o day))) (judged_ok (at place) o day met.known met.first none)
        ∙ settlement_is place o day none;
  }
