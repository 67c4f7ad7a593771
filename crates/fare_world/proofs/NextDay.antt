-- The statement that is forwarded next is the held one of least day from a day on.
use Rattle.std.proofs.Common.{◌≡◌, ◌≢◌, ℕ, zero, suc, ◌+◌, ◌-◌, ◌<◌, ◌≤◌, List, Some, None, Bool, true, false, refl, sym, ap, ◌∙◌, arith, inl, inr}
use Rattle.std.specs.Prelude.{◌==◌, ◌⊎◌, Option}
use Rattle.std.proofs.lemmas.Bool.Decides.{nat_tests}
use Rattle.fare_record.specs.Limits.{IsDay}
use Rattle.fare_record.specs.Values.{RecordValue, StatementValue}
use Rattle.fare_record.specs.Lanes.{day_count}
use Rattle.fare_scheme.specs.Values.{SchemeValue}
use Rattle.fare_store.specs.OutboxWords.{IsLeastStatement}
use Rattle.fare_world.specs.System.{System, numbered_for}
use Rattle.fare_world.specs.Kept.{IsSystem}
use Rattle.fare_world.specs.Owning.{first_held}
use Rattle.fare_world.specs.Shown.{IsStatementOf, count_of, Shape, Shows}
use Rattle.fare_store.proofs.Entries.{if_all, is_one}
use Rattle.fare_world.proofs.Showing.{held_past}

-- the day of least number from a day on that has a count
pub record IsFirstFrom (counts : ℕ → Option ℕ) (from found : ℕ) : Type 0 where
  pub from_there : from ≤ found
  pub held : counts found ≢ None
  pub least : (day : ℕ) → from ≤ day → day < found → counts day ≡ None

abbrev pub IsNextDay : (ℕ → Option ℕ) → ℕ → Option ℕ → Type 0
IsNextDay counts from None = (day : ℕ) → from ≤ day → counts day ≡ None
IsNextDay counts from (Some found) = IsFirstFrom counts from found

-- where the first of so many days has no count, what holds from the next one on holds from it on
from_before : (counts : ℕ → Option ℕ) (from day : ℕ) → counts from ≡ None → from ≤ day → (from + 1 ≤ day → counts day ≡ None) → counts day ≡ None
from_before counts from day none le rest = by (day == from) refl
  where
    by : (b : Bool) → (day == from) ≡ b → counts day ≡ None
    by true same = ap counts (is_one day from same) ∙ none
    by false other = rest (let greater : from + 1 ≤ day = grind (arith, nat_tests) in greater)

first_is_next : (held : ℕ → Bool) (counts : ℕ → Option ℕ) (from count : ℕ) → ((day : ℕ) → held day ≡ true → counts day ≢ None) → ((day : ℕ) → held day ≡ false → counts day ≡ None) → ((day : ℕ) → from + count ≤ day → held day ≡ false) → IsNextDay counts from (first_held held from count)
first_is_next held counts from zero some none past = λ day le. none day (past day (omega (arith, le)))
first_is_next held counts from (suc count) some none past =
    if_all (held from) (IsNextDay counts from) (Some from) (first_held held (from + 1) count)
    (λ here. record { from_there = omega arith; held = some from here; least = λ day le lt. absurd (omega (arith, le, lt)) })
    (λ not_here. later (first_held held (from + 1) count) (none from not_here) (first_is_next held counts (from + 1) count some none (λ day le. past day (omega (arith, le)))))
  where
    later : (found : Option ℕ) → counts from ≡ None → IsNextDay counts (from + 1) found → IsNextDay counts from found
    later None not_here is = λ day le. from_before counts from day not_here le (is day)
    later (Some found) not_here is = record { from_there = omega (arith, is.from_there); held = is.held; least = λ day le lt. from_before counts from day not_here le (λ more. is.least day more lt) }

some_is_not_none : (n : ℕ) → Some n ≢ None
some_is_not_none n same = absurd (cc)

-- the statement that the step looks for
abbrev pub day_found : System → ℕ → ℕ → Option ℕ
day_found s o d = first_held (s.held o d) (s.lanes o d).from_day ((s.devices d).day - (s.lanes o d).from_day)

-- it is the outbox's next statement, where the outbox shows what the system holds
pub finds_next_day : (sc : SchemeValue) (s : System) (counts : ℕ → Option ℕ) (o d : ℕ) → IsSystem sc s → ((day : ℕ) → counts day ≡ count_of (s.held o d day) (numbered_for s o d) day) → IsNextDay counts (s.lanes o d).from_day (day_found s o d)
finds_next_day sc s counts o d system stated =
    first_is_next (s.held o d) counts from ((s.devices d).day - from)
    (λ day holds same. some_is_not_none (day_count (numbered_for s o d) day) (sym (stated day ∙ ap (λ b. count_of b (numbered_for s o d) day) holds) ∙ same))
    (λ day not_held. stated day ∙ ap (λ b. count_of b (numbered_for s o d) day) not_held)
    (λ day past. free day past (s.held o d day) refl)
  where
    from : ℕ
    from = (s.lanes o d).from_day

    free : (day : ℕ) → from + ((s.devices d).day - from) ≤ day → (b : Bool) → s.held o d day ≡ b → b ≡ false
    free day past false holds = refl
    free day past true holds = absurd (omega (arith, past, held_past sc s system o d day holds))

-- a count is that of a held statement
counted : (b : Bool) (rs : List RecordValue) (day n : ℕ) → count_of b rs day ≡ Some n → (b ≡ true) × (n ≡ day_count rs day)
counted true rs day n e = let same : day_count rs day ≡ n = cc in (refl, sym same)
counted false rs day n e = absurd (cc)

-- what is found in the outbox is what the step looks for
pub next_day_is : (sc : SchemeValue) (s : System) (stated : ℕ → ℕ → ℕ → Option ℕ) (o d from : ℕ) (v : StatementValue) → IsSystem sc s → ((day : ℕ) → stated o d day ≡ count_of (s.held o d day) (numbered_for s o d) day) → from ≡ (s.lanes o d).from_day → IsLeastStatement stated o d from v
    → (day_found s o d ≡ Some v.day) × IsStatementOf s.devices d v.day o v
next_day_is sc s stated o d from v system shows start is =
    (by (day_found s o d) (finds_next_day sc s (stated o d) o d system shows), record { past = held_past sc s system o d v.day there.0; is = λ i. record { device = is.of_device i; day = v.day; owner = is.of_owner i; count = there.1 i } })
  where
    there : (s.held o d v.day ≡ true) × (v.count ≡ day_count (numbered_for s o d) v.day)
    there = counted (s.held o d v.day) (numbered_for s o d) v.day v.count (sym (shows v.day) ∙ is.is_held)

    missing : stated o d v.day ≡ None → ⊥
    missing none = some_is_not_none v.count (sym is.is_held ∙ none)

    compare : (a b : ℕ) → (a < b) ⊎ ((b < a) ⊎ (a ≡ b))
    compare a b = grind (arith, nat_tests)

    by : (found : Option ℕ) → IsNextDay (stated o d) (s.lanes o d).from_day found → found ≡ Some v.day
    by None none = absurd (missing (none v.day (omega (arith, start, is.not_before))))
    by (Some found) next = elim (compare found v.day) [
      | inl before ↦ absurd (next.held (is.least found (omega (arith, start, next.from_there)) before))
      | inr (inl behind) ↦ absurd (missing (next.least v.day (omega (arith, start, is.not_before)) behind))
      | inr (inr same) ↦ ap Some same
    ]

-- and where it finds none, the step looks in vain
pub no_statement_found : (sc : SchemeValue) (h : Shape) (s : System) (o d from : ℕ) → IsDay sc.start → Shows sc h s → from ≡ (s.lanes o d).from_day → ((day : ℕ) → from ≤ day → IsDay day → h.outbox.stated o d day ≡ None) → day_found s o d ≡ None
no_statement_found sc h s o d from first w start none = by (day_found s o d) (finds_next_day sc s (h.outbox.stated o d) o d w.system (w.stated o d))
  where
    by : (found : Option ℕ) → IsNextDay (h.outbox.stated o d) (s.lanes o d).from_day found → found ≡ None
    by None is = refl
    by (Some found) is = absurd (is.held (here (s.held o d found) refl))
      where
        here : (b : Bool) → s.held o d found ≡ b → h.outbox.stated o d found ≡ None
        here true holds = none found (omega (arith, start, is.from_there)) (let last = (w.system.devices d).days.last first in omega (arith, held_past sc s w.system o d found holds, last))
        here false not_held = w.stated o d found ∙ ap (λ b. count_of b (numbered_for s o d) found) not_held
