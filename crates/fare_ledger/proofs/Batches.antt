-- Several taps of one lane at once: what is asked of each, and what the tables then hold.
use Rattle.std.proofs.Common.{◌≡◌, ℕ, ◌+◌, ◌<◌, ◌==◌, ◌&&◌, not, nat_lt, nat_le, Bool, true, false, List, [], ◌∷◌, ◌++◌, length, take, Some, None, Ok, Err, Result, refl, sym, ap, subst, ◌∙◌, arith}
use Rattle.std.specs.Prelude.{if◌then◌else◌, IsErrAnd, Option, ◌≤◌}
use Rattle.std.proofs.lemmas.Bool.Decides.{nat_tests}
use Rattle.std.proofs.lemmas.List.{length_push}
use Rattle.fare_record.specs.Values.{RecordValue}
use Rattle.fare_owner.specs.TapJudged.{tap_judged}
use Rattle.fare_owner.specs.declared.tap.TapFault.{TapFault}
use Rattle.fare_store.specs.declared.fault.Fault.{Fault}
use Rattle.fare_store.specs.Standing.{Standing, Calls}
use Rattle.fare_store.specs.LedgerWords.{LedgerValue, is_mine, is_closed, take_judged, took}
use Rattle.fare_store.specs.Batches.{done_all, AreAccepted, IsPartDone, IsRefusedFirst, WritesFirst}
use Rattle.fare_tables.specs.Tabled.{IsLeft, given}
use Rattle.fare_tables.proofs.Steps.{says, given_more, write_then, first_failed}
use Rattle.sqlite.specs.Effect.{Database, IsDatabase}
use Rattle.sqlite.specs.Tree.{Trees}
use Rattle.fare_ledger.specs.declared.lane.Lane.{Lane}
use Rattle.fare_ledger.specs.declared.layout.Layout.{Layout}
use Rattle.fare_ledger.specs.Layouts.{schema_in, ours}
use Rattle.fare_ledger.specs.Held.{Held, AreReadable, MayBecome, held_of, row_of, with_lane, with_tap}
use Rattle.fare_ledger.specs.Words.{value_at, value_in, FitTogether, IsLawful, JudgesTap}
use Rattle.fare_ledger.specs.Batches.{FollowsIn, AreFollowing, AreTakable, goes_on, with_tap_if, with_taps}
use Rattle.fare_ledger.proofs.Judged.{may_take, not_retired}
use Rattle.fare_ledger.proofs.Stored.{becomes_left, left_held, take_value, take_fits}

-- ---- a run of a lane

pub following-push : (start closed : ℕ) (first : RecordValue) (place : ℕ) (rs : List RecordValue) (r : RecordValue) → AreFollowing start closed first place rs → FollowsIn start closed first (place + length rs) r → AreFollowing start closed first place (rs ++ r ∷ [])
following-push start closed first place [] r before next = (record { owner = next.owner; device = next.device; lane = (let l = next.lane in omega (arith, l)); open_day = next.open_day }, tt)
following-push start closed first place (x ∷ rs) r before next =
    (before.0, following-push start closed first (place + 1) rs r before.1 (record { owner = next.owner; device = next.device; lane = (let l = next.lane in omega (arith, l)); open_day = next.open_day }))

fine : (count lane : ℕ) → lane ≡ count + 1 → ◌≡◌ {A = Result Unit TapFault} (tap_judged true count false lane false) (Ok tt)
fine count lane next =
    let above : nat_le lane count ≡ false = grind (arith, nat_tests) in
    let below : nat_lt (count + 1) lane ≡ false = grind (arith, nat_tests) in
    rw (above, below) refl

one_more : (v : LedgerValue) (r : RecordValue) (d : ℕ) → r.device ≡ d → length ((took r v).taken d) ≡ length (v.taken d) + 1
one_more v r d same =
    let test : (d == r.device) ≡ true = grind (arith, nat_tests) in
    ap (λ (b : Bool). length (if b then v.taken r.device ++ r ∷ [] else v.taken d)) test ∙ (length_push (v.taken r.device) r ∙ ap (λ e. length (v.taken e) + 1) same)

following : (v : LedgerValue) (closed : ℕ) (first : RecordValue) (place : ℕ) (rs : List RecordValue) → is_mine v first.owner first.device ≡ true → v.retired first.device ≡ false → length (v.taken first.device) + 1 ≡ first.lane + place → closed ≡ v.closed first.device → AreFollowing v.start closed first place rs → AreTakable v closed rs
following v closed first place [] mine working count closed_is all = tt
following v closed first place (r ∷ rs) mine working count closed_is all =
    let f = all.0 in
    let own : is_mine v r.owner r.device ≡ true = (λ i. is_mine v (f.owner i) (f.device i)) ∙ mine in
    let opened : is_closed v r.device r.tap.day ≡ false = (λ i. nat_le v.start r.tap.day && nat_lt r.tap.day (v.start + (ap v.closed f.device ∙ sym closed_is) i)) ∙ f.open_day in
    let many : length (v.taken r.device) ≡ length (v.taken first.device) = ap (λ d. length (v.taken d)) f.device in
    let lane = f.lane in
    let judged : ◌≡◌ {A = Result Unit TapFault} (take_judged v r) (Ok tt) = (λ i. tap_judged (own i) (length (v.taken r.device)) (opened i) r.lane ((ap v.retired f.device ∙ working) i)) ∙ fine (length (v.taken r.device)) r.lane (omega (arith, lane, count, many)) in
    let more = one_more v r first.device f.device in
    ((judged, closed_is ∙ ap v.closed (sym f.device)), following (took r v) closed first (place + 1) rs mine working (omega (arith, more, count)) closed_is all.1)

pub run_takable : (v : LedgerValue) (closed : ℕ) (first : RecordValue) (more : List RecordValue) → is_mine v first.owner first.device ≡ true → JudgesTap v first (Ok closed) → AreFollowing v.start closed first 1 more → AreTakable v closed (first ∷ more)
run_takable v closed first more mine judged all =
    let next = (may_take v first closed judged).next in
    let one = one_more v first first.device refl in
    (judged, following (took first v) closed first 1 more mine (not_retired v first closed judged) (omega (arith, next, one)) judged.1 all)

pub takable_accepted : (v : LedgerValue) (closed : ℕ) (rs : List RecordValue) → AreTakable v closed rs → AreAccepted take_judged took v rs
takable_accepted v closed [] ok = tt
takable_accepted v closed (r ∷ rs) ok = (ok.0.0, takable_accepted (took r v) closed rs ok.1)

-- ---- what the tables then hold

-- these go to the tables one after the other, a device's numbers with the last of those that stand behind one another
abbrev pub with_taps_by_last : ℕ → List RecordValue → Held → Held
with_taps_by_last closed [] h = h
with_taps_by_last closed (r ∷ rs) h = with_taps_by_last closed rs (with_tap_if (not (goes_on r.device rs)) (row_of r) closed h)

-- behind so many taps: the tables hold what will be this behind the rest, and obey their schema behind one at least
pub record Comes (w : Layout) (db : Database) (count closed : ℕ) (rest : List RecordValue) (h : Held) : Type 0 where
  pub schema : db.schema ≡ schema_in w
  pub database : 0 < count → IsDatabase db
  pub readable : AreReadable (ours w db.trees)
  pub value : with_taps_by_last closed rest (held_of (ours w db.trees)) ≡ h

-- other numbers
abbrev with_lanes : (ℕ → Lane) → Held → Held
with_lanes lanes h = record h { lanes = lanes }

numbered : (last same : Bool) (it a b : Lane) → (same ≡ true → last ≡ true) → (same ≡ false → a ≡ b) → (if last && same then it else a) ≡ (if same then it else b)
numbered true true it a b here there = refl
numbered true false it a b here there = there refl
numbered false true it a b here there = absurd (let e = here refl in cc)
numbered false false it a b here there = there refl

-- behind the last one it is all the same, whatever the numbers were of the device that comes
by_last : (c : ℕ) (rs : List RecordValue) (h : Held) (lanes : ℕ → Lane) → ((d : ℕ) → goes_on d rs ≡ false → h.lanes d ≡ lanes d) → with_taps_by_last c rs h ≡ with_taps c rs (with_lanes lanes h)
by_last c [] h lanes same = λ i. with_lanes (λ d. same d refl i) h
by_last c (r ∷ rs) h lanes same =
    let last = not (goes_on r.device rs) in
    by_last c rs (with_tap_if last (row_of r) c h) (with_lane r.device r.lane c lanes) (λ d none.
    numbered last (r.device == d) (record { taken = r.lane; closed = c }) (h.lanes d) (lanes d)
    (λ is. let e : r.device ≡ d = grind (arith, nat_tests) in ap not (ap (λ x. goes_on x rs) e ∙ none))
    (same d))

pub all_by_last : (c : ℕ) (rs : List RecordValue) (h : Held) → with_taps_by_last c rs h ≡ with_taps c rs h
all_by_last c rs h = by_last c rs h h.lanes (λ d none. refl)

pub all_value : (o start : ℕ) (known : ℕ → Bool) (c : ℕ) (rs : List RecordValue) (h : Held) → AreTakable (value_in o start known h) c rs → FitTogether o start h → value_in o start known (with_taps c rs h) ≡ done_all took rs (value_in o start known h)
all_value o start known c [] h ok fit = refl
all_value o start known c (r ∷ rs) h ok fit =
    let may = may_take (value_in o start known h) r c ok.0 in
    let one = take_value o start known h r c may fit in
    all_value o start known c rs (with_tap (row_of r) c h) (subst (λ (v : LedgerValue). AreTakable v c rs) (sym one) ok.1) (take_fits o start known h r c may fit) ∙ ap (done_all took rs) one

pub all_fits : (o start : ℕ) (known : ℕ → Bool) (c : ℕ) (rs : List RecordValue) (h : Held) → AreTakable (value_in o start known h) c rs → FitTogether o start h → FitTogether o start (with_taps c rs h)
all_fits o start known c [] h ok fit = fit
all_fits o start known c (r ∷ rs) h ok fit =
    let may = may_take (value_in o start known h) r c ok.0 in
    all_fits o start known c rs (with_tap (row_of r) c h) (subst (λ (v : LedgerValue). AreTakable v c rs) (sym (take_value o start known h r c may fit)) ok.1) (take_fits o start known h r c may fit)

-- what a stop leaves of it
pub all_left : (w : Layout) (o start : ℕ) (known : ℕ → Bool) (c : ℕ) (h : Held) (rs : List RecordValue) (trees : Trees) → AreTakable (value_in o start known h) c rs → FitTogether o start h → MayBecome w (with_taps c rs h) trees
    → (value_at w o start known trees ≡ done_all took rs (value_in o start known h)) × IsLeft (schema_in w) (IsLawful w o start) trees
all_left w o start known c h rs trees ok fit it = (ap (value_in o start known) (left_held w (with_taps c rs h) trees it) ∙ all_value o start known c rs h ok fit, becomes_left w o start (with_taps c rs h) trees it (all_fits o start known c rs h ok fit))

-- ---- the whole call

-- none is taken: the first is refused, or there is none
pub took_none : (a b : Standing LedgerValue) (rs : List RecordValue) (P : Type 0) → (P → IsRefusedFirst take_judged a.value rs) → Calls a b None ((b.value ≡ a.value) × P) (λ v. ⊥) → WritesFirst take_judged took a b rs (Ok 0)
took_none a b rs P refused c = says a b None _ _ (λ v. ⊥) (IsPartDone take_judged took a.value rs) (λ lawful p. record { few = omega arith; accepted = tt; value = p.0; some = λ e. refused p.1 }) (λ v is. absurd is) c

pub judging_failed : (a b : Standing LedgerValue) (rs : List RecordValue) (f : Fault) (P : Type 0) → Calls a b (Some f) ((b.value ≡ a.value) × P) (λ v. ⊥) → WritesFirst take_judged took a b rs (Err f)
judging_failed a b rs f P c = says a b (Some f) _ _ (λ v. ⊥) (IsPartDone take_judged took a.value rs) (λ lawful p. p.0) (λ v none. absurd none) c

pub begin_failed : (a b : Standing LedgerValue) (rs : List RecordValue) (r : Result ℕ Fault) (f : Fault) (P : Type 0) → IsErrAnd r (λ q. q ≡ f) → Calls a b (Some f) ((b.value ≡ a.value) × P) (λ v. ⊥) → WritesFirst take_judged took a b rs r
begin_failed a b rs r f P is c = first_failed take_judged took a b rs r f is (judging_failed a b rs f P c)

written : (a b d : Standing LedgerValue) (rs : List RecordValue) (n closed : ℕ) (f : Option Fault) (P did result : Type 0) → n ≤ length rs → (P → AreTakable a.value closed (take n rs))
    → Calls a b None ((b.value ≡ a.value) × P) (λ v. ⊥)
    → Calls (given (AreTakable b.value closed (take n rs)) b) d f did (λ v. v ≡ done_all took (take n rs) b.value)
    → (b.value ≡ a.value → P → did → result)
    → Calls a d f result (IsPartDone take_judged took a.value rs)
written a b d rs n closed f P did result low takable first second so =
    says a d f _ _ (IsPartDone take_judged took a.value rs) _ (λ lawful p. so p.0 p.1 p.2) (λ v is. is)
    (write_then a b d P did f (λ v. v ≡ done_all took (take n rs) b.value) (IsPartDone take_judged took a.value rs)
    (λ p v is. record { count = n; few = low; accepted = takable_accepted a.value closed (take n rs) (takable p.1); value = is ∙ ap (done_all took (take n rs)) p.0 }) first
    (given_more b d _ _ _ f _ (λ p. subst (λ (v : LedgerValue). AreTakable v closed (take n rs)) (sym p.0) (takable p.1)) second))

pub written_all : (a b d : Standing LedgerValue) (rs : List RecordValue) (n closed : ℕ) (P : Type 0) → n ≤ length rs → (n ≡ 0 → ⊥) → (P → AreTakable a.value closed (take n rs))
    → Calls a b None ((b.value ≡ a.value) × P) (λ v. ⊥)
    → Calls (given (AreTakable b.value closed (take n rs)) b) d None (d.value ≡ done_all took (take n rs) b.value) (λ v. v ≡ done_all took (take n rs) b.value)
    → WritesFirst take_judged took a d rs (Ok n)
written_all a b d rs n closed P low some takable first second = written a b d rs n closed None P _ _ low takable first second (λ same p did. record { few = low; accepted = takable_accepted a.value closed (take n rs) (takable p); value = did ∙ ap (done_all took (take n rs)) same; some = λ e. absurd (some e) })

pub written_failed : (a b d : Standing LedgerValue) (rs : List RecordValue) (n closed : ℕ) (f : Fault) (P : Type 0) → n ≤ length rs → (P → AreTakable a.value closed (take n rs))
    → Calls a b None ((b.value ≡ a.value) × P) (λ v. ⊥)
    → Calls (given (AreTakable b.value closed (take n rs)) b) d (Some f) (d.value ≡ b.value) (λ v. v ≡ done_all took (take n rs) b.value)
    → WritesFirst take_judged took a d rs (Err f)
written_failed a b d rs n closed f P low takable first second = written a b d rs n closed (Some f) P _ _ low takable first second (λ same p did. did ∙ same)
