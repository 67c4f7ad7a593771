-- The system at each place of a run: what was told before it is what happened, and what comes after it adds no tap of a closed day.
use Rattle.std.proofs.Common.{◌≡◌, ℕ, zero, suc, ◌+◌, ◌<◌, ◌≤◌, Bool, true, false, List, [], ◌∷◌, ◌++◌, length, take, Some, None, refl, sym, ap, ◌∙◌, arith, inl, inr}
use Rattle.std.specs.Prelude.{◌==◌, ◌&&◌, ◌||◌, slice_get, if◌then◌else◌, Option, nat_le}
use Rattle.std.proofs.lemmas.Bool.Decides.{nat_tests}
use Rattle.std.proofs.lemmas.List.{append-nil, take-append-le}
use Rattle.std.proofs.lemmas.List.Elements.{filter-append}
use Rattle.fare_record.specs.Values.{RecordValue}
use Rattle.fare_record.specs.Lanes.{part, of_device, lane_of}
use Rattle.fare_scheme.specs.Values.{SchemeValue}
use Rattle.fare_cap.proofs.Sorting.{filter_no}
use Rattle.fare_event.specs.declared.event.Event.{Event}
use Rattle.fare_event.specs.declared.reply.Reply.{Reply}
use Rattle.fare_world.specs.System.{System, LaneState, start, numbered_for, taken_by}
use Rattle.fare_side.specs.OpenDays.{is_closed}
use Rattle.fare_world.specs.Steps.{step, after, replies}
use Rattle.fare_world.specs.Headline.{Lane, lane_at, IsLaneStep, numbered, of_days, IsAnswered}
use Rattle.fare_world.specs.Billing.{takes, retires, closes, took_before, was_retired, was_closed}
use Rattle.fare_world.specs.Kept.{IsSystem}
use Rattle.fare_world.proofs.Told.{IsToldBy}
use Rattle.fare_world.proofs.Kept.{moves_step}
use Rattle.fare_world.proofs.KeptParts.{took_numbered}
use Rattle.fare_world.proofs.Showing.{stated_past}
use Rattle.fare_world.proofs.Stepping.{start_is, taps_after}
use Rattle.fare_world.proofs.Closing.{stays_closed}

-- A CLOSED DAY GAINS NO TAP
other_days : (from to : ℕ) (r : RecordValue) (rs : List RecordValue) → to < r.tap.day → of_days from to (rs ++ r ∷ []) ≡ of_days from to rs
other_days from to r rs later =
    filter-append among rs (r ∷ []) ∙ ap (λ l. of_days from to rs ++ l) (filter_no among r [] out) ∙ append-nil (of_days from to rs)
  where
    among : RecordValue → Bool
    among q = nat_le from q.tap.day && nat_le q.tap.day to

    out : among r ≡ false
    out = grind (arith, nat_tests)

still_numbered : (first : ℕ) (old new : Lane) (from to : ℕ) → IsLaneStep first old new → to < old.day → of_days from to new.numbered ≡ of_days from to old.numbered
still_numbered first old new from to is past =
    elim is [
      | inl n ↦ ap (λ (l : Lane). of_days from to l.numbered) n.is ∙ other_days from to n.tap old.numbered (omega (arith, n.of_day, past))
      | inr a ↦ elim a [
        | inl t ↦ ap (λ (l : Lane). of_days from to l.numbered) t
        | inr b ↦ elim b [
          | inl k ↦ ap (λ (l : Lane). of_days from to l.numbered) k.is
          | inr c ↦ elim c [
            | inl z ↦ ap (λ (l : Lane). of_days from to l.numbered) z.is
            | inr y ↦ elim y [
              | inl r ↦ ap (λ (l : Lane). of_days from to l.numbered) r.is
              | inr same ↦ ap (λ (l : Lane). of_days from to l.numbered) same
            ]
          ]
        ]
      ]
    ]

stays_numbered : (sc : SchemeValue) (s : System) (es : List Event) → IsSystem sc s → (o d from to : ℕ) → is_closed sc.start (s.lanes o d).closed to ≡ true → of_days from to (numbered_for (after sc s es) o d) ≡ of_days from to (numbered_for s o d)
stays_numbered sc s [] h o d from to closed = refl
stays_numbered sc s (e ∷ es) h o d from to closed =
    let past = stated_past sc s h o d to ((h.lanes o d).closed to closed) in
    stays_numbered sc (step sc s e).0 es (moves_step sc s e h).system o d from to (stays_closed sc s e h o d to closed)
    ∙ still_numbered sc.start (lane_at sc s o d) (lane_at sc (step sc s e).0 o d) from to ((moves_step sc s e h).lane o d) past

-- PLACES
-- the system at a place of the run
abbrev pub at_place : SchemeValue → System → List Event → ℕ → System
at_place sc s [] place = s
at_place sc s (e ∷ es) zero = s
at_place sc s (e ∷ es) (suc place) = at_place sc (step sc s e).0 es place

pub at_end : (sc : SchemeValue) (s : System) (es : List Event) → at_place sc s es (length es) ≡ after sc s es
at_end sc s [] = refl
at_end sc s (e ∷ es) = at_end sc (step sc s e).0 es

pub system_at : (sc : SchemeValue) (s : System) (es : List Event) (place : ℕ) → IsSystem sc s → IsSystem sc (at_place sc s es place)
system_at sc s [] place h = h
system_at sc s (e ∷ es) zero h = h
system_at sc s (e ∷ es) (suc place) h = system_at sc (step sc s e).0 es place (moves_step sc s e h).system

same_event : {X : Type 0} {x y : X} → Some x ≡ Some y → x ≡ y
same_event e = cc

-- an answer is that of the system there
pub answered_at : (sc : SchemeValue) (s : System) (es : List Event) (place : ℕ) (e : Event) (r : Reply) → IsAnswered es (replies sc s es) place e r → r ≡ (step sc (at_place sc s es place) e).1
answered_at sc s [] place e r at = absurd (nothing place at.event)
  where
    nothing : (i : ℕ) → slice_get [] i ≡ Some e → ⊥
    nothing i is = absurd (cc)
answered_at sc s (f ∷ es) zero e r at = sym (same_event at.reply) ∙ ap (λ g. (step sc s g).1) (same_event at.event)
answered_at sc s (f ∷ es) (suc place) e r at = answered_at sc (step sc s f).0 es place e r (record { event = at.event; reply = at.reply })

-- WHAT WAS TOLD
-- a lane at a place is what it was before the run, but as was told until there
pub record IsToldAt (sc : SchemeValue) (es : List Event) (rs : List Reply) (place o d : ℕ) (old new : LaneState) : Type 0 where
  pub took : new.took ≡ old.took + took_before es rs place o d
  pub retired : new.retired ≡ (was_retired es rs place o d || old.retired)
  pub closed : (day : ℕ) → is_closed sc.start new.closed day ≡ (was_closed es rs place o d day || is_closed sc.start old.closed day)

counted : (b : Bool) (n m k : ℕ) → m ≡ (if b then n + 1 else n) → m + k ≡ n + ((if b then 1 else 0) + k)
counted true n m k is = omega (arith, is)
counted false n m k is = omega (arith, is)

either : (a b c : Bool) → (b || (a || c)) ≡ ((a || b) || c)
either true true c = refl
either true false c = refl
either false b c = refl

pub told_at : (sc : SchemeValue) (s : System) (es : List Event) (place o d : ℕ) → IsSystem sc s → IsToldAt sc es (replies sc s es) place o d (s.lanes o d) ((at_place sc s es place).lanes o d)
told_at sc s [] place o d h = record { took = omega arith; retired = refl; closed = λ day. refl }
told_at sc s (e ∷ es) zero o d h = record { took = omega arith; retired = refl; closed = λ day. refl }
told_at sc s (e ∷ es) (suc place) o d h =
    let y = step sc s e in
    let m = moves_step sc s e h in
    let now : IsToldBy sc.start e y.1 o d (s.lanes o d) (y.0.lanes o d) = m.told o d in
    let later = told_at sc y.0 es place o d m.system in
    let rs = replies sc y.0 es in
    record {
      took = later.took ∙ counted (takes e y.1 o d) (s.lanes o d).took (y.0.lanes o d).took (took_before es rs place o d) now.took;
      retired = later.retired ∙ ap (λ b. was_retired es rs place o d || b) now.retired ∙ either (retires e y.1 o d) (was_retired es rs place o d) (s.lanes o d).retired;
      closed = λ day. later.closed day ∙ ap (λ b. was_closed es rs place o d day || b) (now.closed day) ∙ either (closes e y.1 o d day) (was_closed es rs place o d day) (is_closed sc.start (s.lanes o d).closed day);
    }

-- WHAT COMES AFTER
-- what was numbered until a place is where all that is numbered begins
pub numbered_on : (sc : SchemeValue) (s : System) (es : List Event) (place o d : ℕ) → IsSystem sc s → (rest : List RecordValue) × (numbered_for (after sc s es) o d ≡ numbered_for (at_place sc s es place) o d ++ rest)
numbered_on sc s [] place o d h = ([], sym (append-nil (numbered_for s o d)))
numbered_on sc s (e ∷ es) zero o d h =
    let new = of_device d (numbered sc (e ∷ es) (replies sc s (e ∷ es))) in
    (part o new, ap (part o) (taps_after sc s (e ∷ es) d h) ∙ filter-append (λ (x : RecordValue). x.owner == o) (s.devices d).taps new)
numbered_on sc s (e ∷ es) (suc place) o d h = numbered_on sc (step sc s e).0 es place o d (moves_step sc s e h).system

-- so that what was taken until there is the first of it
pub taken_on : (sc : SchemeValue) (s : System) (es : List Event) (place o d : ℕ) → IsSystem sc s → taken_by (at_place sc s es place) o d ≡ take ((at_place sc s es place).lanes o d).took (numbered_for (after sc s es) o d)
taken_on sc s es place o d h =
    let at = at_place sc s es place in
    let more = numbered_on sc s es place o d h in
    sym (ap (take (at.lanes o d).took) more.1 ∙ take-append-le (at.lanes o d).took (numbered_for at o d) more.0 (took_numbered sc at o d (system_at sc s es place h)))

-- and of a day that was closed until there, none is numbered after it
pub closed_on : (sc : SchemeValue) (s : System) (es : List Event) (place o d from to : ℕ) → IsSystem sc s → is_closed sc.start ((at_place sc s es place).lanes o d).closed to ≡ true → of_days from to (numbered_for (after sc s es) o d) ≡ of_days from to (numbered_for (at_place sc s es place) o d)
closed_on sc s [] place o d from to h closed = refl
closed_on sc s (e ∷ es) zero o d from to h closed = stays_numbered sc s (e ∷ es) h o d from to closed
closed_on sc s (e ∷ es) (suc place) o d from to h closed = closed_on sc (step sc s e).0 es place o d from to (moves_step sc s e h).system closed
