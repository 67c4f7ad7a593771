-- The rule of a scheme's clock is that of the zone line that was taken last, or London's.
use Rattle.std.proofs.Common.{◌≡◌, ℕ, Bool, true, false, List, Option, Some, None, inl, inr, refl, sym, ap, subst, ◌∙◌}
use Rattle.fare_day.specs.declared.zone.Zone.{Zone}
use Rattle.fare_scheme.specs.declared.demo.DemoFault.{DemoFault}
use Rattle.fare_scheme.specs.declared.fault.SealFault.{SealFault}
use Rattle.fare_scheme.specs.Sealing.{seal_refusal}
use Rattle.fare_scheme.specs.Values.{DraftValue, SchemeValue}
use Rattle.fare_event.specs.declared.reply.Reply.{Reply}
use Rattle.fare_event.specs.declared.reply.Reply.TheVariants as reply
use Rattle.fare_event.specs.declared.reply.Refusal.{Refusal}
use Rattle.fare_lines.specs.declared.line.SchemeLine.{SchemeLine}
use Rattle.fare_lines.specs.declared.line.SchemeLine.TheVariants as scheme
use Rattle.fare_trace.specs.Answers.{Stage, Drafting, Running, Demonstrates, Seals, Sets, SetsUp, SetsZone, entered}
use Rattle.fare_trace.specs.Schemes.{HasZone, zone_after}

-- the clock of a draft, or of a scheme
abbrev zone_of : Stage → Option Zone
zone_of (Drafting draft used) = draft.zone
zone_of (Running sc s) = Some sc.zone

by_answer : (answer is : Stage × Reply) (clock : Option Zone) → answer ≡ is → zone_of is.0 ≡ clock → zone_of answer.0 ≡ clock
by_answer answer is clock same has = ap (λ (a : Stage × Reply). zone_of a.0) same ∙ has

entered_zone : (draft changed : DraftValue) (used : Bool) (r : Option Refusal) → changed.zone ≡ draft.zone → zone_of (entered draft used r changed).0 ≡ draft.zone
entered_zone draft changed used None same = same
entered_zone draft changed used (Some why) same = refl

set_zone : (draft changed : DraftValue) (used : Bool) (allowed : Type 0) (answer : Stage × Reply) → changed.zone ≡ draft.zone → Sets draft used allowed changed answer → zone_of answer.0 ≡ draft.zone
set_zone draft changed used allowed answer same (inl h) = by_answer answer _ draft.zone h.1 same
set_zone draft changed used allowed answer same (inr h) = by_answer answer _ draft.zone h.1 refl

seal_zone : (draft : DraftValue) (used : Bool) (fault : Option SealFault) (answer : Stage × Reply) → Seals draft used fault answer → zone_of answer.0 ≡ draft.zone
seal_zone draft used None answer h = by_answer answer _ draft.zone h.2 (sym h.1.zone)
seal_zone draft used (Some fault) answer h = by_answer answer _ draft.zone h refl

-- a line that sets a clock up, by itself or with a demonstration scheme
abbrev SetsNoClock : SchemeLine → Type 0
SetsNoClock (scheme.Zone rule) = ⊥
SetsNoClock (scheme.Demo size buffer inbox lane) = ⊥
SetsNoClock line = Unit {0}

-- other lines leave the clock
zone_stays : (draft : DraftValue) (used : Bool) (line : SchemeLine) (answer : Stage × Reply) → SetsNoClock line → SetsUp draft used line answer → zone_of answer.0 ≡ draft.zone
zone_stays draft used (scheme.Owner owner lane) answer other h = by_answer answer _ draft.zone h (entered_zone draft _ used _ refl)
zone_stays draft used (scheme.Operator operator) answer other h = by_answer answer _ draft.zone h (entered_zone draft _ used _ refl)
zone_stays draft used (scheme.Station station operator) answer other h = by_answer answer _ draft.zone h (entered_zone draft _ used _ refl)
zone_stays draft used (scheme.Product product owner fare) answer other h = by_answer answer _ draft.zone h (entered_zone draft _ used _ refl)
zone_stays draft used (scheme.Caps product daily weekly) answer other h = by_answer answer _ draft.zone h (entered_zone draft _ used _ refl)
zone_stays draft used (scheme.Hop product seconds) answer other h = by_answer answer _ draft.zone h (entered_zone draft _ used _ refl)
zone_stays draft used (scheme.Device device station buffer) answer other h = by_answer answer _ draft.zone h (entered_zone draft _ used _ refl)
zone_stays draft used (scheme.Inbox capacity) answer other h = set_zone draft _ used _ answer refl h
zone_stays draft used (scheme.Zone rule) answer other h = absurd other
zone_stays draft used (scheme.Start day) answer other h = set_zone draft _ used _ answer refl h
zone_stays draft used scheme.Seal answer other h = seal_zone draft used (seal_refusal draft) answer h
zone_stays draft used (scheme.Demo size buffer inbox lane) answer other h = absurd other

-- ---- drafts

-- a zone line that is taken sets the clock by its rule
zone_taken : (draft after : DraftValue) (used now : Bool) (rule : List ℕ) → SetsZone draft used rule (Drafting after now, reply.Done) → HasZone after.zone (Some rule)
zone_taken draft after used now rule (inl h) = subst (λ z. HasZone z (Some rule)) (sym (by_answer (Drafting after now, reply.Done) _ (Some h.1.0) h.1.2 refl)) h.1.1
zone_taken draft after used now rule (inr h) = absurd (let e = ap (λ (a : Stage × Reply). a.1) h.1 in cc)

kept : (draft after : DraftValue) (used now : Bool) (line : SchemeLine) (before : Option (List ℕ)) → SetsNoClock line → SetsUp draft used line (Drafting after now, reply.Done) → HasZone draft.zone before → HasZone after.zone before
kept draft after used now line before other h has = subst (λ z. HasZone z before) (sym (zone_stays draft used line (Drafting after now, reply.Done) other h)) has

no_draft : (draft after : DraftValue) (used now : Bool) (fault : Option DemoFault) (demo : Zone → SchemeValue) → Demonstrates draft used fault demo (Drafting after now, reply.Done) → ⊥
no_draft draft after true now fault demo h = absurd (let e = ap (λ (a : Stage × Reply). a.1) h in cc)
no_draft draft after false now (Some fault) demo h = absurd (let e = ap (λ (a : Stage × Reply). a.1) h in cc)
no_draft draft after false now None demo h = absurd (let e = ap (λ (a : Stage × Reply). a.0) h.2 in cc)

-- a line that is taken leaves a draft whose clock goes by the rule after it
pub zone_on : (draft after : DraftValue) (used now : Bool) (line : SchemeLine) (before : Option (List ℕ)) → SetsUp draft used line (Drafting after now, reply.Done) → HasZone draft.zone before → HasZone after.zone (zone_after line before)
zone_on draft after used now (scheme.Owner owner lane) before h has = kept draft after used now (scheme.Owner owner lane) before tt h has
zone_on draft after used now (scheme.Operator operator) before h has = kept draft after used now (scheme.Operator operator) before tt h has
zone_on draft after used now (scheme.Station station operator) before h has = kept draft after used now (scheme.Station station operator) before tt h has
zone_on draft after used now (scheme.Product product owner fare) before h has = kept draft after used now (scheme.Product product owner fare) before tt h has
zone_on draft after used now (scheme.Caps product daily weekly) before h has = kept draft after used now (scheme.Caps product daily weekly) before tt h has
zone_on draft after used now (scheme.Hop product seconds) before h has = kept draft after used now (scheme.Hop product seconds) before tt h has
zone_on draft after used now (scheme.Device device station buffer) before h has = kept draft after used now (scheme.Device device station buffer) before tt h has
zone_on draft after used now (scheme.Inbox capacity) before h has = kept draft after used now (scheme.Inbox capacity) before tt h has
zone_on draft after used now (scheme.Zone rule) before h has = zone_taken draft after used now rule h
zone_on draft after used now (scheme.Start day) before h has = kept draft after used now (scheme.Start day) before tt h has
zone_on draft after used now scheme.Seal before h has = kept draft after used now scheme.Seal before tt h has
zone_on draft after used now (scheme.Demo size buffer inbox lane) before h has = absurd (no_draft draft after used now _ _ h)
