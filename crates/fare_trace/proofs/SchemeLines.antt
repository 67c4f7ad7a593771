-- The scheme that lines make, line by line.
use Rattle.std.proofs.Common.{◌≡◌, ◌<◌, ℕ, ◌+◌, Bool, true, false, List, [], ◌∷◌, ◌++◌, map, drop, length, inl, inr, refl, sym, ap, ◌∙◌, add-one, append_assoc, subst, get_or, suc, Option, Some, None}
use Rattle.std.proofs.Math.Seq.{drop-cons}
use Rattle.std.proofs.lemmas.List.{map-append}
use Rattle.fare_world.specs.System.{start}
use Rattle.fare_scheme.specs.Values.{DraftValue, SchemeValue}
use Rattle.fare_scheme.specs.Registering.{empty_draft}
use Rattle.fare_scheme.specs.Sealing.{seal_refusal}
use Rattle.fare_scheme.specs.Demo.{demo_refusal, demo_scheme}
use Rattle.fare_scheme.specs.declared.demo.DemoFault.{DemoFault}
use Rattle.fare_scheme.specs.declared.fault.SealFault.{SealFault}
use Rattle.fare_day.specs.declared.zone.Zone.{Zone}
use Rattle.fare_event.specs.declared.reply.Reply.{Reply}
use Rattle.fare_event.specs.declared.reply.Reply.TheVariants as reply
use Rattle.fare_event.specs.declared.reply.Refusal.{Refusal}
use Rattle.fare_event.specs.declared.reply.Refusal.TheVariants.{Range, Taken, BadZone}
use Rattle.fare_lines.specs.declared.line.Line.{Line}
use Rattle.fare_lines.specs.declared.line.Line.TheVariants.{Setup, Step}
use Rattle.fare_lines.specs.declared.line.SchemeLine.{SchemeLine}
use Rattle.fare_lines.specs.declared.line.SchemeLine.TheVariants as scheme
use Rattle.fare_trace.specs.Answers.{Stage, Drafting, Running, SetsUp, Sets, SetsZone, Seals, Demonstrates, entered, first_stage, seal_name}
use Rattle.fare_trace.specs.Schemes.{HaveDrafted, IsNoSetup, Lacks, LeadTo, Makes, Refuses}

-- WHAT IS NOT REFUSED IS DONE
abbrev pub NotRefused : Reply → Type 0
NotRefused said = (why : Refusal) → said ≡ reply.Refused why → ⊥

said_is : (next : Stage) (said : Reply) (answer : Stage × Reply) → (let answered : Stage × Reply = (next, said) in answered ≡ answer) → said ≡ answer.1
said_is next said answer e = ap (λ (p : Stage × Reply). p.1) e

entered_done : (draft changed : DraftValue) (used : Bool) (r : Option Refusal) (next : Stage) (said : Reply) → (next, said) ≡ entered draft used r changed → NotRefused said → said ≡ reply.Done
entered_done draft changed used None next said e never = said_is next said _ e
entered_done draft changed used (Some why) next said e never = absurd (never why (said_is next said _ e))

sets_done : (draft changed : DraftValue) (used : Bool) (allowed : Type 0) (next : Stage) (said : Reply) → Sets draft used allowed changed (next, said) → NotRefused said → said ≡ reply.Done
sets_done draft changed used allowed next said (inl h) never = said_is next said _ h.1
sets_done draft changed used allowed next said (inr h) never = absurd (never Range (said_is next said _ h.1))

zone_done : (draft : DraftValue) (used : Bool) (rule : List ℕ) (next : Stage) (said : Reply) → SetsZone draft used rule (next, said) → NotRefused said → said ≡ reply.Done
zone_done draft used rule next said (inl h) never = said_is next said _ h.1.2
zone_done draft used rule next said (inr h) never = absurd (never BadZone (said_is next said _ h.1))

seal_done : (draft : DraftValue) (used : Bool) (r : Option SealFault) (next : Stage) (said : Reply) → Seals draft used r (next, said) → NotRefused said → said ≡ reply.Done
seal_done draft used None next said h never = said_is next said _ h.2
seal_done draft used (Some fault) next said h never = absurd (never (seal_name fault) (said_is next said _ h))

demo_done : (draft : DraftValue) (used : Bool) (r : Option DemoFault) (demo : Zone → SchemeValue) (next : Stage) (said : Reply) → Demonstrates draft used r demo (next, said) → NotRefused said → said ≡ reply.Done
demo_done draft true r demo next said h never = absurd (never Taken (said_is next said _ h))
demo_done draft false (Some fault) demo next said h never = absurd (never Range (said_is next said _ h))
demo_done draft false None demo next said h never = said_is next said _ h.2

pub said_done : (draft : DraftValue) (used : Bool) (line : SchemeLine) (next : Stage) (said : Reply) → SetsUp draft used line (next, said) → NotRefused said → said ≡ reply.Done
said_done draft used (scheme.Owner owner lane) next said h never = entered_done draft _ used _ next said h never
said_done draft used (scheme.Operator operator) next said h never = entered_done draft _ used _ next said h never
said_done draft used (scheme.Station station operator) next said h never = entered_done draft _ used _ next said h never
said_done draft used (scheme.Product product owner fare) next said h never = entered_done draft _ used _ next said h never
said_done draft used (scheme.Caps product daily weekly) next said h never = entered_done draft _ used _ next said h never
said_done draft used (scheme.Hop product seconds) next said h never = entered_done draft _ used _ next said h never
said_done draft used (scheme.Device device station buffer) next said h never = entered_done draft _ used _ next said h never
said_done draft used (scheme.Inbox capacity) next said h never = sets_done draft _ used _ next said h never
said_done draft used (scheme.Zone rule) next said h never = zone_done draft used rule next said h never
said_done draft used (scheme.Start day) next said h never = sets_done draft _ used _ next said h never
said_done draft used scheme.Seal next said h never = seal_done draft used (seal_refusal draft) next said h never
said_done draft used (scheme.Demo size buffer inbox lane) next said h never = demo_done draft used (demo_refusal buffer inbox lane) (demo_scheme size buffer inbox lane) next said h never

-- LINE BY LINE
pub drafted_none : (lines : List Line) → HaveDrafted lines lines empty_draft false
drafted_none lines = record { front = []; split = refl; lead = refl }

lead_then : (stage : Stage) (front : List SchemeLine) (draft : DraftValue) (used : Bool) (line : SchemeLine) (next : Stage) → LeadTo stage front (Drafting draft used) → SetsUp draft used line (next, reply.Done) → LeadTo stage (front ++ line ∷ []) next
lead_then stage [] draft used line next is done =
    let one : LeadTo (Drafting draft used) (line ∷ []) next = (next, done, refl) in subst (λ s. LeadTo s (line ∷ []) next) (sym is) one
lead_then (Drafting d u) (first ∷ front) draft used line next h done = (h.0, h.1, lead_then h.0 front draft used line next h.2 done)
lead_then (Running sc s) (first ∷ front) draft used line next h done = absurd h

split_then : (lines left : List Line) (front : List SchemeLine) (line : SchemeLine) → lines ≡ map Setup front ++ Setup line ∷ left → lines ≡ map Setup (front ++ line ∷ []) ++ left
split_then lines left front line is =
    is ∙ sym (append_assoc (map Setup front) (Setup line ∷ []) left) ∙ ap (λ t. t ++ left) (sym (map-append Setup front (line ∷ [])))

pub stands_here : (lines : List Line) (k : ℕ) (item : Line) → k < length lines → item ≡ get_or lines k item → drop k lines ≡ item ∷ drop (k + 1) lines
stands_here lines k item within at =
    drop-cons lines k item within ∙ ap (λ (x : Line). x ∷ drop (suc k) lines) (sym at) ∙ ap (λ n. item ∷ drop n lines) (sym (add-one k))

-- the draft with what is left from a place on, where the line there is known
here : (lines : List Line) (k : ℕ) (item : Line) (line : SchemeLine) (draft : DraftValue) (used : Bool) → k < length lines → item ≡ get_or lines k item → item ≡ Setup line
    → HaveDrafted lines (drop k lines) draft used → HaveDrafted lines (Setup line ∷ drop (k + 1) lines) draft used
here lines k item line draft used within at is drafted =
    subst (λ t. HaveDrafted lines t draft used) (stands_here lines k item within at ∙ ap (λ (x : Line). x ∷ drop (k + 1) lines) is) drafted

pub drafts_on : (lines : List Line) (k : ℕ) (item : Line) (draft after : DraftValue) (used now : Bool) (line : SchemeLine) (said : Reply) → k < length lines → item ≡ get_or lines k item → item ≡ Setup line
    → HaveDrafted lines (drop k lines) draft used → SetsUp draft used line (Drafting after now, said) → ((why : Refusal) → said ≡ reply.Refused why → ⊥) → HaveDrafted lines (drop (k + 1) lines) after now
drafts_on lines k item draft after used now line said within at is drafted answered accepted =
    let before = here lines k item line draft used within at is drafted in
    let done = subst (λ r. SetsUp draft used line (Drafting after now, r)) (said_done draft used line (Drafting after now) said answered accepted) answered in
    record {
      front = before.front ++ line ∷ [];
      split = split_then lines (drop (k + 1) lines) before.front line before.split;
      lead = lead_then first_stage before.front draft used line (Drafting after now) before.lead done;
    }

pub made_here : (lines : List Line) (k : ℕ) (item : Line) (draft : DraftValue) (used : Bool) (line : SchemeLine) (sc : SchemeValue) (said : Reply) → k < length lines → item ≡ get_or lines k item → item ≡ Setup line
    → HaveDrafted lines (drop k lines) draft used → SetsUp draft used line (Running sc (start sc), said) → ((why : Refusal) → said ≡ reply.Refused why → ⊥) → Makes lines sc
made_here lines k item draft used line sc said within at is drafted answered accepted =
    let before = here lines k item line draft used within at is drafted in
    let done = subst (λ r. SetsUp draft used line (Running sc (start sc), r)) (said_done draft used line (Running sc (start sc)) said answered accepted) answered in
    record {
      front = before.front ++ line ∷ [];
      rest = drop (k + 1) lines;
      split = split_then lines (drop (k + 1) lines) before.front line before.split;
      lead = lead_then first_stage before.front draft used line (Running sc (start sc)) before.lead done;
    }

pub refused_here : (lines : List Line) (k : ℕ) (item : Line) (draft : DraftValue) (used : Bool) (line : SchemeLine) (next : Stage) (why : Refusal) → k < length lines → item ≡ get_or lines k item → item ≡ Setup line
    → HaveDrafted lines (drop k lines) draft used → SetsUp draft used line (next, reply.Refused why) → Refuses lines why
refused_here lines k item draft used line next why within at is drafted answered = record {
  draft = draft;
  used = used;
  line = line;
  rest = drop (k + 1) lines;
  drafted = here lines k item line draft used within at is drafted;
  next = next;
  refused = answered;
}

no_setup : (item : Line) (rest : List Line) → ((line : SchemeLine) → item ≡ Setup line → ⊥) → IsNoSetup (item ∷ rest)
no_setup (Setup line) rest never = never line refl
no_setup (Step event) rest never = tt

pub lacks_here : (lines : List Line) (k : ℕ) (item : Line) (draft : DraftValue) (used : Bool) → k < length lines → item ≡ get_or lines k item → ((line : SchemeLine) → item ≡ Setup line → ⊥) → HaveDrafted lines (drop k lines) draft used → Lacks lines
lacks_here lines k item draft used within at never drafted = record {
  draft = draft;
  used = used;
  rest = item ∷ drop (k + 1) lines;
  drafted = subst (λ t. HaveDrafted lines t draft used) (stands_here lines k item within at) drafted;
  no_setup = no_setup item (drop (k + 1) lines) never;
}

pub lacks_end : (lines : List Line) (draft : DraftValue) (used : Bool) → HaveDrafted lines [] draft used → Lacks lines
lacks_end lines draft used drafted = record { draft = draft; used = used; rest = []; drafted = drafted; no_setup = tt }
