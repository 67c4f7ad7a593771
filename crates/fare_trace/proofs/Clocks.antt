-- Two clocks that tell the same days give the same replies, so a trace has one answer.
use Rattle.std.proofs.Common.{◌≡◌, ◌∙◌, ◌++◌, ℕ, List, [], ◌∷◌, map, Bool, true, false, Option, Some, None, inl, inr, if◌then◌else◌, ap, sym, refl, subst, unwrap_or}
use Rattle.std.specs.Prelude.{is_none, unwrap_or}
use Rattle.fare_day.specs.declared.zone.Zone.{Zone}
use Rattle.fare_day.specs.TrafficDay.{traffic_day_in_range}
use Rattle.fare_day.proofs.Rules.{same_day_in_range}
use Rattle.fare_scheme.specs.declared.demo.DemoFault.{DemoFault}
use Rattle.fare_scheme.specs.declared.demo.DemoSize.{DemoSize}
use Rattle.fare_scheme.specs.declared.demo.DemoSize.TheVariants.{OneDevice, TwoDevices}
use Rattle.fare_scheme.specs.declared.fault.SealFault.{SealFault}
use Rattle.fare_scheme.specs.Values.{DraftValue, SchemeValue}
use Rattle.fare_scheme.specs.Registering.{with_owner, with_operator, with_station, with_product, with_caps, with_hop, with_device, first_case}
use Rattle.fare_scheme.specs.Sealing.{IsSealedFrom, seal_refusal, lacks_a_kind}
use Rattle.fare_scheme.specs.Demo.{demo_refusal, demo_rule, demo_scheme}
use Rattle.fare_scheme.specs.declared.fault.SealFault.TheVariants.{NothingRegistered, NoStart, NoZone}
use Rattle.fare_event.specs.declared.event.Event.{Event}
use Rattle.fare_event.specs.declared.event.Event.TheVariants as event
use Rattle.fare_event.specs.declared.reply.Reply.{Reply}
use Rattle.fare_event.specs.declared.reply.Reply.TheVariants.{Done, Refused}
use Rattle.fare_event.specs.declared.reply.Refusal.{Refusal}
use Rattle.fare_event.specs.declared.reply.Refusal.TheVariants.{UnknownDevice}
use Rattle.fare_world.specs.System.{System, start}
use Rattle.fare_world.specs.Knowing.{knows_device}
use Rattle.fare_world.specs.Steps.{step}
use Rattle.fare_world.specs.Tapping.{tap_on, tap}
use Rattle.fare_lines.specs.declared.line.Line.{Line}
use Rattle.fare_lines.specs.declared.line.Line.TheVariants.{Setup, Step}
use Rattle.fare_lines.specs.declared.line.SchemeLine.{SchemeLine}
use Rattle.fare_lines.specs.declared.line.SchemeLine.TheVariants as scheme
use Rattle.fare_lines.specs.Replies.{replies_text}
use Rattle.fare_trace.specs.Answers.{Answers, AnswersAll, Demonstrates, Drafting, IsOutput, Running, Seals, Sets, SetsUp, SetsZone, Stage, accepted, begun, entered, first_stage, refused}
use Rattle.fare_trace.specs.Schemes.{HaveDrafted, IsNoSetup, LeadTo, Makes, MakesNone}
use Rattle.fare_trace.specs.declared.schemes.SchemeFault.{SchemeFault}
use Rattle.fare_trace.specs.declared.schemes.SchemeFault.TheVariants as scheme_fault

-- EVENTS
-- two clocks tell one traffic day at each moment
abbrev pub SameDays : Zone → Zone → Type 0
SameDays clock other = (moment : ℕ) → traffic_day_in_range clock moment ≡ traffic_day_in_range other moment

-- the same scheme on another clock
abbrev pub on_clock : SchemeValue → Zone → SchemeValue
on_clock sc clock = record sc { zone = clock }

same_tap : (sc : SchemeValue) (clock : Zone) (s : System) (device product token moment route : ℕ) → SameDays sc.zone clock → tap (on_clock sc clock) s device product token moment route ≡ tap sc s device product token moment route
same_tap sc clock s device product token moment route same =
    ap (λ day. if knows_device sc device then tap_on sc s device product token moment route day else (s, Refused UnknownDevice)) (sym (same moment))

same_step : (sc : SchemeValue) (clock : Zone) (s : System) (e : Event) → SameDays sc.zone clock → step (on_clock sc clock) s e ≡ step sc s e
same_step sc clock s (event.Tap device product route token moment) same = same_tap sc clock s device product token moment (unwrap_or route 0) same
same_step sc clock s (event.Turn device) same = refl
same_step sc clock s (event.Send device) same = refl
same_step sc clock s (event.Rewind device) same = refl
same_step sc clock s (event.State device day owner) same = refl
same_step sc clock s (event.Arrive packet) same = refl
same_step sc clock s event.Draw same = refl
same_step sc clock s event.Store same = refl
same_step sc clock s (event.Ack device) same = refl
same_step sc clock s (event.DayAck device day) same = refl
same_step sc clock s (event.Answer station) same = refl
same_step sc clock s (event.Forward owner device) same = refl
same_step sc clock s (event.Fetch owner) same = refl
same_step sc clock s (event.Take owner) same = refl
same_step sc clock s (event.Close owner device day) same = refl
same_step sc clock s (event.Retire owner device) same = refl
same_step sc clock s (event.Prune owner device) same = refl
same_step sc clock s (event.Resume device) same = refl
same_step sc clock s (event.RestartDevice device) same = refl
same_step sc clock s (event.RestartStation station) same = refl
same_step sc clock s event.RestartWriter same = refl
same_step sc clock s (event.RestartOwner owner) same = refl
same_step sc clock s event.RestartHub same = refl
same_step sc clock s (event.Upto device) same = refl
same_step sc clock s (event.Count owner device) same = refl
same_step sc clock s (event.Bill owner day) same = refl
same_step sc clock s (event.Settle owner day) same = refl

-- STAGES
-- neither draft has a clock, or both have, and the two tell the same days
abbrev pub SameZones : Option Zone → Option Zone → Type 0
SameZones None None = Unit {0}
SameZones None (Some other) = ⊥
SameZones (Some clock) None = ⊥
SameZones (Some clock) (Some other) = SameDays clock other

-- the other stage is the first but for its clock, and the clocks tell the same days
abbrev pub AgreesOn : Stage → Stage → Type 0
AgreesOn (Drafting draft used) other = (clock : Option Zone) × SameZones draft.zone clock × (other ≡ Drafting (record draft { zone = clock }) used)
AgreesOn (Running sc s) other = (clock : Zone) × SameDays sc.zone clock × (other ≡ Running (on_clock sc clock) s)

-- stages that agree, and one reply
abbrev pub Agree : Stage × Reply → Stage × Reply → Type 0
Agree first second = AgreesOn first.0 second.0 × (first.1 ≡ second.1)

agree_by : (a b x y : Stage × Reply) → a ≡ x → b ≡ y → Agree x y → Agree a b
agree_by a b x y first second agree =
    subst (λ p. Agree p b) (sym first) (subst (Agree x) (sym second) agree)

-- SCHEME LINES
both_accepted : (changed : DraftValue) (clock : Option Zone) → SameZones changed.zone clock → Agree (accepted changed) (accepted (record changed { zone = clock }))
both_accepted changed clock same = ((clock, same, refl), refl)

both_refused : (draft : DraftValue) (used : Bool) (clock : Option Zone) (refusal : Refusal) → SameZones draft.zone clock → Agree (refused draft used refusal) (refused (record draft { zone = clock }) used refusal)
both_refused draft used clock refusal same = ((clock, same, refl), refl)

both_entered : (draft changed : DraftValue) (used : Bool) (clock : Option Zone) (refusal : Option Refusal) (a b : Stage × Reply) → SameZones draft.zone clock → SameZones changed.zone clock → a ≡ entered draft used refusal changed → b ≡ entered (record draft { zone = clock }) used refusal (record changed { zone = clock }) → Agree a b
both_entered draft changed used clock None a b same kept first second = agree_by a b _ _ first second (both_accepted changed clock kept)
both_entered draft changed used clock (Some refusal) a b same kept first second = agree_by a b _ _ first second (both_refused draft used clock refusal same)

both_set : (draft changed : DraftValue) (used : Bool) (clock : Option Zone) (allowed : Type 0) (a b : Stage × Reply) → SameZones draft.zone clock → SameZones changed.zone clock → Sets draft used allowed changed a → Sets (record draft { zone = clock }) used allowed (record changed { zone = clock }) b → Agree a b
both_set draft changed used clock allowed a b same kept (inl first) (inl second) = agree_by a b _ _ first.1 second.1 (both_accepted changed clock kept)
both_set draft changed used clock allowed a b same kept (inl first) (inr second) = absurd (second.0 first.0)
both_set draft changed used clock allowed a b same kept (inr first) (inl second) = absurd (first.0 second.0)
both_set draft changed used clock allowed a b same kept (inr first) (inr second) = agree_by a b _ _ first.1 second.1 (both_refused draft used clock _ same)

both_set_zone : (draft : DraftValue) (used : Bool) (clock : Option Zone) (rule : List ℕ) (a b : Stage × Reply) → SameZones draft.zone clock → SetsZone draft used rule a → SetsZone (record draft { zone = clock }) used rule b → Agree a b
both_set_zone draft used clock rule a b same (inl first) (inl second) =
    agree_by a b _ _ first.1.2 second.1.2
    (both_accepted (record draft { zone = Some first.1.0 }) (Some second.1.0) (λ moment. same_day_in_range first.1.0 second.1.0 rule moment first.1.1 second.1.1))
both_set_zone draft used clock rule a b same (inl first) (inr second) = absurd (second.0 first.0)
both_set_zone draft used clock rule a b same (inr first) (inl second) = absurd (first.0 second.0)
both_set_zone draft used clock rule a b same (inr first) (inr second) = agree_by a b _ _ first.1 second.1 (both_refused draft used clock _ same)

-- SEALING
both_begun : (sc : SchemeValue) (clock : Zone) (a b : Stage × Reply) → SameDays sc.zone clock → a ≡ begun sc → b ≡ begun (on_clock sc clock) → Agree a b
both_begun sc clock a b same first second = agree_by a b (begun sc) (begun (on_clock sc clock)) first second ((clock, same, refl), refl)

same_none : (clock other : Option Zone) → SameZones clock other → is_none other ≡ is_none clock
same_none None None same = refl
same_none None (Some other) same = absurd same
same_none (Some clock) None same = absurd same
same_none (Some clock) (Some other) same = refl

same_seal_refusal : (draft : DraftValue) (clock : Option Zone) → SameZones draft.zone clock → seal_refusal (record draft { zone = clock }) ≡ seal_refusal draft
same_seal_refusal draft clock same =
    ap (λ none. first_case ((lacks_a_kind draft, NothingRegistered) ∷ (is_none draft.start, NoStart) ∷ (none, NoZone) ∷ [])) (same_none draft.zone clock same)

same_days : (first second : Option Zone) (clock other : Zone) → SameZones first second → first ≡ Some clock → second ≡ Some other → SameDays clock other
same_days first second clock other same is also = subst (λ o. SameZones o (Some other)) is (subst (SameZones first) also same)

some_is : {A : Type 0} (x y : A) → Some x ≡ Some y → x ≡ y
some_is x y is = ap (λ o. unwrap_or o x) is

-- two schemes of one draft are one but for their clock
sealed_on_clock : (draft : DraftValue) (clock : Option Zone) (sc other : SchemeValue) → IsSealedFrom draft sc → IsSealedFrom (record draft { zone = clock }) other → other ≡ on_clock sc other.zone
sealed_on_clock draft clock sc other first second =
    rw (first.owners ∙ sym second.owners, first.operators ∙ sym second.operators, first.stations ∙ sym second.stations, first.products ∙ sym second.products, first.devices ∙ sym second.devices, first.inbox_capacity ∙ sym second.inbox_capacity, some_is sc.start other.start (sym first.start ∙ second.start)) refl

both_sealed : (draft : DraftValue) (used : Bool) (clock : Option Zone) (fault : Option SealFault) (a b : Stage × Reply) → SameZones draft.zone clock → Seals draft used fault a → Seals (record draft { zone = clock }) used fault b → Agree a b
both_sealed draft used clock None a b same first second =
    both_begun first.0 second.0.zone a b (same_days draft.zone clock first.0.zone second.0.zone same first.1.zone second.1.zone) first.2
    (second.2 ∙ ap begun (sealed_on_clock draft clock first.0 second.0 first.1 second.1))
both_sealed draft used clock (Some fault) a b same first second = agree_by a b _ _ first second (both_refused draft used clock _ same)

-- DEMONSTRATIONS
both_demos : (size : DemoSize) (buffer inbox lane : ℕ) (clock other : Zone) (a b : Stage × Reply) → SameDays clock other → a ≡ begun (demo_scheme size buffer inbox lane clock) → b ≡ begun (demo_scheme size buffer inbox lane other) → Agree a b
both_demos OneDevice buffer inbox lane clock other a b same first second = both_begun (demo_scheme OneDevice buffer inbox lane clock) other a b same first second
both_demos TwoDevices buffer inbox lane clock other a b same first second = both_begun (demo_scheme TwoDevices buffer inbox lane clock) other a b same first second

both_demonstrate : (draft : DraftValue) (used : Bool) (clock : Option Zone) (fault : Option DemoFault) (size : DemoSize) (buffer inbox lane : ℕ) (a b : Stage × Reply) → SameZones draft.zone clock → Demonstrates draft used fault (demo_scheme size buffer inbox lane) a → Demonstrates (record draft { zone = clock }) used fault (demo_scheme size buffer inbox lane) b → Agree a b
both_demonstrate draft true clock fault size buffer inbox lane a b same first second = agree_by a b _ _ first second (both_refused draft true clock _ same)
both_demonstrate draft false clock (Some fault) size buffer inbox lane a b same first second = agree_by a b _ _ first second (both_refused draft false clock _ same)
both_demonstrate draft false clock None size buffer inbox lane a b same first second =
    both_demos size buffer inbox lane first.0 second.0 a b (λ moment. same_day_in_range first.0 second.0 demo_rule moment first.1 second.1) first.2 second.2

-- LINES
both_set_up : (draft : DraftValue) (used : Bool) (clock : Option Zone) (line : SchemeLine) (a b : Stage × Reply) → SameZones draft.zone clock → SetsUp draft used line a → SetsUp (record draft { zone = clock }) used line b → Agree a b
both_set_up draft used clock (scheme.Owner owner lane) a b same first second = both_entered draft (with_owner draft owner lane) used clock _ a b same same first second
both_set_up draft used clock (scheme.Operator operator) a b same first second = both_entered draft (with_operator draft operator) used clock _ a b same same first second
both_set_up draft used clock (scheme.Station station operator) a b same first second = both_entered draft (with_station draft station operator) used clock _ a b same same first second
both_set_up draft used clock (scheme.Product product owner fare) a b same first second = both_entered draft (with_product draft product owner fare) used clock _ a b same same first second
both_set_up draft used clock (scheme.Caps product daily weekly) a b same first second = both_entered draft (with_caps draft product daily weekly) used clock _ a b same same first second
both_set_up draft used clock (scheme.Hop product seconds) a b same first second = both_entered draft (with_hop draft product seconds) used clock _ a b same same first second
both_set_up draft used clock (scheme.Device device station buffer) a b same first second = both_entered draft (with_device draft device station buffer) used clock _ a b same same first second
both_set_up draft used clock (scheme.Inbox capacity) a b same first second = both_set draft (record draft { inbox_capacity = capacity }) used clock _ a b same same first second
both_set_up draft used clock (scheme.Zone rule) a b same first second = both_set_zone draft used clock rule a b same first second
both_set_up draft used clock (scheme.Start day) a b same first second = both_set draft (record draft { start = Some day }) used clock _ a b same same first second
both_set_up draft used clock scheme.Seal a b same first second =
    both_sealed draft used clock (seal_refusal draft) a b same first
    (subst (λ fault. Seals (record draft { zone = clock }) used fault b) (same_seal_refusal draft clock same) second)
both_set_up draft used clock (scheme.Demo size buffer inbox lane) a b same first second =
    both_demonstrate draft used clock (demo_refusal buffer inbox lane) size buffer inbox lane a b same first second

both_run : (sc : SchemeValue) (clock : Zone) (s : System) (line : Line) (a b : Stage × Reply) → SameDays sc.zone clock → Answers (Running sc s) line a → Answers (Running (on_clock sc clock) s) line b → Agree a b
both_run sc clock s (Setup line) a b same first second = agree_by a b _ _ first second ((clock, same, refl), refl)
both_run sc clock s (Step e) a b same first second =
    agree_by a b (Running sc (step sc s e).0, (step sc s e).1) (Running (on_clock sc clock) (step sc s e).0, (step sc s e).1) first
    (second ∙ ap (λ next. (Running (on_clock sc clock) next.0, next.1)) (same_step sc clock s e same))
    ((clock, same, refl), refl)

both_draft : (draft : DraftValue) (used : Bool) (clock : Option Zone) (line : Line) (a b : Stage × Reply) → SameZones draft.zone clock → Answers (Drafting draft used) line a → Answers (Drafting (record draft { zone = clock }) used) line b → Agree a b
both_draft draft used clock (Setup line) a b same first second = both_set_up draft used clock line a b same first second
both_draft draft used clock (Step e) a b same first second = agree_by a b _ _ first second (both_refused draft used clock _ same)

both_answer : (stage other : Stage) (line : Line) (a b : Stage × Reply) → AgreesOn stage other → Answers stage line a → Answers other line b → Agree a b
both_answer (Drafting draft used) other line a b agrees first second =
    both_draft draft used agrees.0 line a b agrees.1 first (subst (λ t. Answers t line b) agrees.2 second)
both_answer (Running sc s) other line a b agrees first second =
    both_run sc agrees.0 s line a b agrees.1 first (subst (λ t. Answers t line b) agrees.2 second)

-- TRACES
both_answer_all : (stage other : Stage) (lines : List Line) (replies more : List Reply) → AgreesOn stage other → AnswersAll stage lines replies → AnswersAll other lines more → replies ≡ more
both_answer_all stage other [] [] [] agrees first second = refl
both_answer_all stage other [] [] (b ∷ more) agrees first second = absurd second
both_answer_all stage other [] (a ∷ replies) more agrees first second = absurd first
both_answer_all stage other (line ∷ lines) [] more agrees first second = absurd first
both_answer_all stage other (line ∷ lines) (a ∷ replies) [] agrees first second = absurd second
both_answer_all stage other (line ∷ lines) (a ∷ replies) (b ∷ more) agrees first second =
    let agree : Agree (first.0, a) (second.0, b) = both_answer stage other line (first.0, a) (second.0, b) agrees first.1 second.1 in
    ap (λ r. r ∷ replies) agree.1 ∙ ap (λ rs. b ∷ rs) (both_answer_all first.0 second.0 lines replies more agree.0 first.2 second.2)

-- the replies to lines are determined by the lines
pub one_answer : (lines : List Line) (replies more : List Reply) → AnswersAll first_stage lines replies → AnswersAll first_stage lines more → replies ≡ more
one_answer lines replies more first second = both_answer_all first_stage first_stage lines replies more (None, tt, refl) first second

pub one_output : (lines : List Line) (first second : List ℕ) → IsOutput lines first → IsOutput lines second → first ≡ second
one_output lines first second one other =
    one.is ∙ ap replies_text (one_answer lines one.replies other.replies one.answered other.answered) ∙ sym other.is

-- the same of lines that are the same
pub one_text : (lines more : List Line) (first second : List ℕ) → lines ≡ more → IsOutput lines first → IsOutput more second → first ≡ second
one_text lines more first second same one other =
    one_output more first second (subst (λ ls. IsOutput ls first) same one) other

-- SCHEMES
lines_same : (f m : SchemeLine) (front more : List SchemeLine) (rest after : List Line) → map Setup (f ∷ front) ++ rest ≡ map Setup (m ∷ more) ++ after → (f ≡ m) × (map Setup front ++ rest ≡ map Setup more ++ after)
lines_same f m front more rest after e = (let one : Setup f ≡ Setup m = cc in cc, cc)

no_run : (draft : DraftValue) (used : Bool) (sc : SchemeValue) → Drafting draft used ≡ Running sc (start sc) → ⊥
no_run draft used sc e = absurd (let x = e in cc)

same_scheme : (sc other : SchemeValue) (s t : System) → Running sc s ≡ Running other t → sc ≡ other
same_scheme sc other s t e = cc

-- once a scheme has begun no line is left
none_behind : (sc made : SchemeValue) (s : System) (front : List SchemeLine) → LeadTo (Running sc s) front (Running made (start made)) → sc ≡ made
none_behind sc made s [] is = same_scheme sc made s (start made) is
none_behind sc made s (line ∷ front) lead = absurd lead

mutual_begun : (sc one other : SchemeValue) (s : System) (next : Stage) (front more : List SchemeLine) → AgreesOn (Running sc s) next → LeadTo (Running sc s) front (Running one (start one)) → LeadTo next more (Running other (start other)) → other ≡ on_clock one other.zone
mutual_begun sc one other s next front more agrees first second =
    let mine : sc ≡ one = none_behind sc one s front first in
    let theirs : on_clock sc agrees.0 ≡ other = none_behind (on_clock sc agrees.0) other s more (subst (λ t. LeadTo t more (Running other (start other))) agrees.2 second) in
    rw (← theirs, mine) refl

-- two leads of the same lines, from stages that agree, lead to one scheme, but for the clock
lead_alike : (front more : List SchemeLine) (rest after : List Line) (stage other : Stage) (sc made : SchemeValue) → AgreesOn stage other → map Setup front ++ rest ≡ map Setup more ++ after → LeadTo stage front (Running sc (start sc)) → LeadTo other more (Running made (start made)) → made ≡ on_clock sc made.zone
lead_alike front more rest after (Running begun s) other sc made agrees same first second = mutual_begun begun sc made s other front more agrees first second
lead_alike [] more rest after (Drafting draft used) other sc made agrees same first second = absurd (no_run draft used sc first)
lead_alike (f ∷ front) [] rest after (Drafting draft used) other sc made agrees same first second = absurd (no_run (record draft { zone = agrees.0 }) used made (sym agrees.2 ∙ second))
lead_alike (f ∷ front) (m ∷ more) rest after (Drafting draft used) other sc made agrees same first second =
    let lines = lines_same f m front more rest after same in
    let theirs = subst (λ t. LeadTo t (m ∷ more) (Running made (start made))) agrees.2 second in
    let agree : Agree (first.0, Done) (theirs.0, Done) = both_set_up draft used agrees.0 f (first.0, Done) (theirs.0, Done) agrees.1 first.1 (subst (λ l. SetsUp (record draft { zone = agrees.0 }) used l (theirs.0, Done)) (sym lines.0) theirs.1) in
    lead_alike front more rest after first.0 theirs.0 sc made agree.0 lines.1 first.2 theirs.2

-- the lines of a scheme make no other one
pub one_scheme : (lines : List Line) (one other : SchemeValue) → Makes lines one → Makes lines other → one ≡ record other { zone = one.zone }
one_scheme lines one other first second = lead_alike second.front first.front second.rest first.rest first_stage first_stage other one (None, tt, refl) (sym second.split ∙ first.split) second.lead first.lead

-- a draft and a scheme are no one stage
no_stage : (draft : DraftValue) (used : Bool) (sc : SchemeValue) (s : System) → Drafting draft used ≡ Running sc s → ⊥
no_stage draft used sc s e = absurd (let x = e in cc)

-- where one lead of lines comes to a draft, and another to a scheme, the other goes on from a draft that agrees
pub record GoesBehind (draft : DraftValue) (used : Bool) (left after : List Line) (sc : SchemeValue) : Type 0 where
  pub rest : List SchemeLine
  pub clock : Option Zone
  pub same : SameZones draft.zone clock
  pub left_is : left ≡ map Setup rest ++ after
  pub lead : LeadTo (Drafting (record draft { zone = clock }) used) rest (Running sc (start sc))

goes_behind : (front more : List SchemeLine) (left after : List Line) (stage other : Stage) (draft : DraftValue) (used : Bool) (sc : SchemeValue) → AgreesOn stage other → map Setup front ++ left ≡ map Setup more ++ after → LeadTo stage front (Drafting draft used) → LeadTo other more (Running sc (start sc)) → GoesBehind draft used left after sc
goes_behind [] more left after (Running begun s) other draft used sc agrees same first second = absurd (no_stage draft used begun s (sym first))
goes_behind (f ∷ front) more left after (Running begun s) other draft used sc agrees same first second = absurd first
goes_behind [] more left after (Drafting was before) other draft used sc agrees same first second =
    let there : AgreesOn (Drafting draft used) other = subst (λ t. AgreesOn t other) first agrees in
    record { rest = more; clock = there.0; same = there.1; left_is = same; lead = subst (λ t. LeadTo t more (Running sc (start sc))) there.2 second }
goes_behind (f ∷ front) [] left after (Drafting was before) other draft used sc agrees same first second = absurd (no_stage (record was { zone = agrees.0 }) before sc (start sc) (sym agrees.2 ∙ second))
goes_behind (f ∷ front) (m ∷ more) left after (Drafting was before) other draft used sc agrees same first second =
    let lines = lines_same f m front more left after same in
    let theirs = subst (λ t. LeadTo t (m ∷ more) (Running sc (start sc))) agrees.2 second in
    let agree : Agree (first.0, Done) (theirs.0, Done) = both_set_up was before agrees.0 f (first.0, Done) (theirs.0, Done) agrees.1 first.1 (subst (λ l. SetsUp (record was { zone = agrees.0 }) before l (theirs.0, Done)) (sym lines.0) theirs.1) in
    goes_behind front more left after first.0 theirs.0 draft used sc agree.0 lines.1 first.2 theirs.2

behind_drafted : (lines left : List Line) (draft : DraftValue) (used : Bool) (sc : SchemeValue) → HaveDrafted lines left draft used → (made : Makes lines sc) → GoesBehind draft used left made.rest sc
behind_drafted lines left draft used sc drafted made = goes_behind drafted.front made.front left made.rest first_stage first_stage draft used sc (None, tt, refl) (sym drafted.split ∙ made.split) drafted.lead made.lead

first_line : (line m : SchemeLine) (rest more : List Line) → Setup line ∷ rest ≡ Setup m ∷ more → line ≡ m
first_line line m rest more e = (let one : Setup line ≡ Setup m = cc in cc)

refused_never : (draft : DraftValue) (used : Bool) (clock : Option Zone) (line : SchemeLine) (rest : List Line) (next : Stage) (why : Refusal) (front : List SchemeLine) (after : List Line) (sc : SchemeValue) → SameZones draft.zone clock → SetsUp draft used line (next, Refused why) → Setup line ∷ rest ≡ map Setup front ++ after → LeadTo (Drafting (record draft { zone = clock }) used) front (Running sc (start sc)) → ⊥
refused_never draft used clock line rest next why [] after sc same refused is lead = no_run (record draft { zone = clock }) used sc lead
refused_never draft used clock line rest next why (m ∷ front) after sc same refused is lead =
    let one : line ≡ m = first_line line m rest (map Setup front ++ after) is in
    let agree : Agree (next, Refused why) (lead.0, Done) = both_set_up draft used clock line (next, Refused why) (lead.0, Done) same refused (subst (λ l. SetsUp (record draft { zone = clock }) used l (lead.0, Done)) (sym one) lead.1) in
    absurd (let e = agree.1 in cc)

lacks_never : (draft : DraftValue) (used : Bool) (left after : List Line) (front : List SchemeLine) (sc : SchemeValue) → IsNoSetup left → left ≡ map Setup front ++ after → LeadTo (Drafting draft used) front (Running sc (start sc)) → ⊥
lacks_never draft used left after [] sc none is lead = no_run draft used sc lead
lacks_never draft used left after (m ∷ front) sc none is lead = subst IsNoSetup is none

-- lines that make no scheme make none
pub none_made : (lines : List Line) (sc : SchemeValue) (fault : SchemeFault) → MakesNone lines fault → ¬ (fault ≡ scheme_fault.Memory) → ¬ Makes lines sc
none_made lines sc (scheme_fault.Refused why) none known made =
    let behind = behind_drafted lines (Setup none.line ∷ none.rest) none.draft none.used sc none.drafted made in
    refused_never none.draft none.used behind.clock none.line none.rest none.next why behind.rest made.rest sc behind.same none.refused behind.left_is behind.lead
none_made lines sc scheme_fault.NoScheme none known made =
    let behind = behind_drafted lines none.rest none.draft none.used sc none.drafted made in
    lacks_never (record none.draft { zone = behind.clock }) none.used none.rest made.rest behind.rest sc none.no_setup behind.left_is behind.lead
none_made lines sc scheme_fault.Memory none known made = known refl
