-- What a reply tells of each lane: that a tap of it was taken, that it was retired, that a day of it was closed.
use Rattle.std.proofs.Common.{◌≡◌, ℕ, ◌+◌, Bool, true, false, None, refl, sym, ap, ◌∙◌, subst, arith}
use Rattle.std.specs.Prelude.{◌==◌, ◌&&◌, ◌||◌, Option, if◌then◌else◌}
use Rattle.std.proofs.lemmas.Bool.Decides.{nat_tests}
use Rattle.fare_record.specs.Values.{RecordValue}
use Rattle.fare_scheme.specs.Values.{SchemeValue}
use Rattle.fare_event.specs.declared.event.Event.{Event}
use Rattle.fare_event.specs.declared.reply.Reply.{Reply}
use Rattle.fare_store.specs.Tables.{put, put2}
use Rattle.fare_world.specs.System.{LaneState}
use Rattle.fare_side.specs.OpenDays.{is_closed}
use Rattle.fare_world.specs.Headline.{numbered_by}
use Rattle.fare_world.specs.Billing.{takes, retires, closes}
use Rattle.fare_store.proofs.Entries.{is_one, other_way, put_here}
use Rattle.fare_world.proofs.Lanes.{closed_put}

-- QUIET ANSWERS
-- all that an event's reply tells of a run: the record that was numbered, whose tap was taken, whose lane retired, whose day closed
abbrev pub Telling : Type 0
Telling = Option RecordValue × (ℕ → ℕ → Bool) × (ℕ → ℕ → Bool) × (ℕ → ℕ → ℕ → Bool)

abbrev pub told_by : SchemeValue → Event → Reply → Telling
told_by sc e r = (numbered_by sc e r, takes e r, retires e r, closes e r)

abbrev pub silence : Telling
silence = (None, (λ o d. false), (λ o d. false), (λ o d day. false))

abbrev pub IsQuiet : SchemeValue → Event → Reply → Type 0
IsQuiet sc e r = told_by sc e r ≡ silence

-- LANES
-- a lane is what it was, but as is told: a tap was taken, it was retired, days were closed
pub record IsTold (start : ℕ) (tap retiring : Bool) (days : ℕ → Bool) (old new : LaneState) : Type 0 where
  pub took : new.took ≡ (if tap then old.took + 1 else old.took)
  pub retired : new.retired ≡ (retiring || old.retired)
  pub closed : (day : ℕ) → is_closed start new.closed day ≡ (days day || is_closed start old.closed day)

-- as the reply tells
abbrev pub IsToldBy : ℕ → Event → Reply → ℕ → ℕ → LaneState → LaneState → Type 0
IsToldBy start e r o d old new = IsTold start (takes e r o d) (retires e r o d) (closes e r o d) old new

-- a lane of which nothing is told
pub untold : (start : ℕ) (old : LaneState) → IsTold start false false (λ day. false) old old
untold start old = record { took = refl; retired = refl; closed = λ day. refl }

-- where the answer is quiet, lanes that keep what was taken, closed and retired are as told
pub told_quiet : (sc : SchemeValue) (e : Event) (r : Reply) (o d : ℕ) (old new : LaneState) → IsQuiet sc e r → new.took ≡ old.took → new.closed ≡ old.closed → new.retired ≡ old.retired → IsToldBy sc.start e r o d old new
told_quiet sc e r o d old new quiet took closed retired =
    subst (λ (t : Telling). IsTold sc.start (t.1 o d) (t.2 o d) (t.3 o d) old new) (sym quiet)
    (record { took = took; retired = retired; closed = λ day. ap (λ n. is_closed sc.start n day) closed })

-- where one lane changes: it is the one that is told of
pub put2_told : {A : Type 0} (P : ℕ → ℕ → Bool → A → Type 0) (f : ℕ → ℕ → A) (o d : ℕ) (v : A) → ((p j : ℕ) → P p j false (f p j)) → P o d true v → (p j : ℕ) → P p j ((o == p) && (d == j)) (put2 f o d v p j)
put2_told {A} P f o d v each one p j = owner (o == p) refl
  where
    of_owner : (b : Bool) → (d == j) ≡ b → P o j b (put (f o) d v j)
    of_owner true same = subst (λ i. P o i true (put (f o) d v i)) (is_one d j same) (subst (P o d true) (sym (put_here (f o) d v)) one)
    of_owner false other = subst (P o j false) (sym (ap (λ t. if t then v else f o j) (other_way d j other))) (each o j)

    owner : (b : Bool) → (o == p) ≡ b → P p j (b && (d == j)) (put2 f o d v p j)
    owner true same = subst (λ q. P q j (d == j) (put2 f o d v q j)) (is_one o p same) (subst (P o j (d == j)) (sym (ap (λ (g : ℕ → A). g j) (put_here f o (put (f o) d v)))) (of_owner (d == j) refl))
    owner false other = subst (P p j false) (sym (ap (λ t. (if t then put (f o) d v else f p) j) (other_way o p other))) (each p j)

-- one day more
pub closed_more_told : (start closed day : ℕ) → day ≡ start + closed → (k : ℕ) → is_closed start (closed + 1) k ≡ ((day == k) || is_closed start closed k)
closed_more_told start closed day next k =
    closed_put start closed k ∙ ap (λ n. if k == n then true else is_closed start closed k) (sym next) ∙ turned (k == day) (day == k) (by (day == k) refl)
  where
    turned : (a b : Bool) → a ≡ b → (if a then true else is_closed start closed k) ≡ (b || is_closed start closed k)
    turned true b same = ap (λ x. x || is_closed start closed k) same
    turned false b same = ap (λ x. x || is_closed start closed k) same

    by : (b : Bool) → (day == k) ≡ b → (k == day) ≡ (day == k)
    by true same = grind (arith, nat_tests)
    by false other = other_way day k other ∙ sym other
