-- What an owner's ledger answers about a week, where the world shows a system.
use Rattle.std.proofs.Common.{◌≡◌, ℕ, ◌≤◌, true, false, List, Some, None, refl, sym, ap, ◌∙◌, arith}
use Rattle.std.specs.Prelude.{Option, Result, Ok, Err, MatchResult, nat_lt, nat_le, is_some, if◌then◌else◌}
use Rattle.std.proofs.lemmas.Bool.Decides.{nat_tests}
use Rattle.fare_record.specs.Values.{RecordValue}
use Rattle.fare_scheme.specs.Facts.{IsScheme}
use Rattle.fare_scheme.specs.Values.{SchemeValue}
use Rattle.fare_scheme.specs.Words.{position_of_owner}
use Rattle.fare_day.specs.Week.{monday_on_or_before}
use Rattle.fare_cap.specs.Fares.{week_start}
use Rattle.fare_cap.specs.Order.{in_order}
use Rattle.fare_store.specs.declared.fault.Refused.{Refused}
use Rattle.fare_store.specs.declared.fault.Refused.TheVariants as refused
use Rattle.fare_side.specs.declared.week_taps.WeekTaps.{WeekTaps}
use Rattle.fare_side.specs.Weeks.{open_of, IsWeekOf, short_of as ledger_short_of}
use Rattle.fare_side.specs.declared.bill_fault.BillFault.{BillFault}
use Rattle.fare_side.specs.declared.bill_fault.BillFault.TheVariants as fault
use Rattle.fare_world.specs.System.{System}
use Rattle.fare_world.specs.Billing.{first_open_of, bill_judged, basis, short_of}
use Rattle.fare_side.specs.OpenDays.{first_open, short_devices, where_open}
use Rattle.fare_world.specs.Shown.{IsOwnerOf, OwnerShape, Shape, Shows}
use Rattle.fare_side.specs.Answering.{Answered}
use Rattle.fare_world.proofs.Showing.{owner_shown}
use Rattle.fare_world.proofs.Bills.{week_in_order}

-- JUDGED
pub judged_unknown : (sc : SchemeValue) (s : System) (o day : ℕ) → position_of_owner sc o ≡ None → bill_judged sc s o day ≡ Err fault.UnknownOwner
judged_unknown sc s o day none = ap (λ (p : Option ℕ). if is_some p then (if nat_lt day sc.start then Err fault.BeforeStart else where_open (first_open_of sc s o day)) else Err fault.UnknownOwner) none

pub judged_before : (sc : SchemeValue) (s : System) (o day a : ℕ) → position_of_owner sc o ≡ Some a → nat_lt day sc.start ≡ true → bill_judged sc s o day ≡ Err fault.BeforeStart
judged_before sc s o day a known before = (λ i. if is_some (known i) then (if before i then Err fault.BeforeStart else where_open (first_open_of sc s o day)) else Err fault.UnknownOwner)

judged_open : (sc : SchemeValue) (s : System) (o day a : ℕ) → position_of_owner sc o ≡ Some a → nat_lt day sc.start ≡ false → bill_judged sc s o day ≡ where_open (first_open_of sc s o day)
judged_open sc s o day a known before = (λ i. if is_some (known i) then (if before i then Err fault.BeforeStart else where_open (first_open_of sc s o day)) else Err fault.UnknownOwner)

pub none_is_open : (o : Option ℕ) → where_open o ≡ Ok tt → o ≡ None
none_is_open None e = refl
none_is_open (Some d) e = absurd (cc)

-- THE TAPS OF THE WEEK
pub from_start : (sc : SchemeValue) (day : ℕ) → sc.start ≤ week_start sc day
from_start sc day = le_max (monday_on_or_before day) sc.start
  where
    le_max : (a b : ℕ) → b ≤ Rattle.std.specs.Prelude.max a b
    le_max a b = omega arith

-- what the world's call answers of a week: whether there is a bill, its taps in order, and of which devices they are short
abbrev pub WeekAnswered : SchemeValue → System → ℕ → ℕ → Result WeekTaps BillFault → Type 0
WeekAnswered sc s o day q = MatchResult q (λ week. (bill_judged sc s o day ≡ Ok tt) × (in_order week.taps.items ≡ in_order (basis sc s o day)) × (week.short.items ≡ short_of sc s o day)) (λ why. bill_judged sc s o day ≡ Err why)

pub week_answered : (sc : SchemeValue) (h : Shape) (s : System) (o day a : ℕ) (x : OwnerShape) (r : Result WeekTaps (Refused BillFault)) → Shows sc h s → IsScheme sc → position_of_owner sc o ≡ Some a → h.owners o ≡ Some x → nat_lt day sc.start ≡ false
    → (x.ledger.start ≤ day → Answered (IsWeekOf sc x.ledger day) r) → Answered (WeekAnswered sc s o day) r
week_answered sc h s o day a x r w valid known here from answer = by r (answer late)
  where
    shown : IsOwnerOf sc s.devices o (s.owners o) (s.lanes o) x
    shown = owner_shown sc h s o x w here

    late : x.ledger.start ≤ day
    late = not_less x.ledger.start day (ap (nat_lt day) shown.ledger.made.start ∙ from)
      where
        not_less : (a b : ℕ) → nat_lt b a ≡ false → a ≤ b
        not_less a b e = grind (arith, nat_tests)

    judged : where_open (open_of x.ledger day sc) ≡ bill_judged sc s o day
    judged = (λ i. where_open (first_open (shown.ledger.made.start i) (λ d. shown.closed d i) (λ d. shown.retired d i) day sc.devices)) ∙ sym (judged_open sc s o day a known from)

    short : ledger_short_of x.ledger day sc ≡ short_of sc s o day
    short = (λ i. short_devices (shown.ledger.made.start i) (λ d. shown.closed d i) (λ d. shown.retired d i) day sc.devices)

    by : (q : Result WeekTaps (Refused BillFault)) → Answered (IsWeekOf sc x.ledger day) q → Answered (WeekAnswered sc s o day) q
    by (Ok taps) is =
        let ok : bill_judged sc s o day ≡ Ok tt = sym judged ∙ is.0 in
        let none : first_open_of sc s o day ≡ None = none_is_open (first_open_of sc s o day) (sym (judged_open sc s o day a known from) ∙ ok) in
        (ok, week_in_order sc s w.system o x.ledger shown.taken (week_start sc day) day taps.taps.items is.1 valid (from_start sc day) none, is.2 ∙ short)
    by (Err (refused.Because why)) is = sym judged ∙ is
    by (Err (refused.Failed f)) is = tt
