-- Lines that an empty draft takes, and whose seal gives a scheme, are lines from which a scheme is made.
use Rattle.std.proofs.Common.{◌≡◌, ◌∙◌, ◌++◌, ℕ, List, [], ◌∷◌, map, Bool, true, false, Option, Some, None, inl, ap, sym, refl, subst}
use Rattle.std.specs.Prelude.{IsSome, is_some}
use Rattle.jiff_tz.specs.PosixReader.{read_whole}
use Rattle.jiff_tz.specs.declared.timezone.TimeZone.{TimeZone}
use Rattle.jiff_tz.specs.declared.timezone.TimeZone.TheVariants.{Posix}
use Rattle.fare_day.specs.declared.zone.Zone.{Zone}
use Rattle.fare_day.specs.Clock.{HasRule, IsRuleOf}
use Rattle.fare_scheme.specs.declared.fault.SealFault.{SealFault}
use Rattle.fare_scheme.specs.Values.{DraftValue, SchemeValue}
use Rattle.fare_scheme.specs.Registering.{empty_draft}
use Rattle.fare_scheme.specs.Sealing.{IsSealedFrom, seal_refusal}
use Rattle.fare_event.specs.declared.reply.Reply.TheVariants.{Done}
use Rattle.fare_event.specs.declared.reply.Refusal.{Refusal}
use Rattle.fare_world.specs.System.{start}
use Rattle.fare_lines.specs.declared.line.Line.{Line}
use Rattle.fare_lines.specs.declared.line.Line.TheVariants.{Setup}
use Rattle.fare_lines.specs.declared.line.SchemeLine.{SchemeLine}
use Rattle.fare_lines.specs.declared.line.SchemeLine.TheVariants as line
use Rattle.fare_setup.specs.Making.{Make, Takes, TakesAll}
use Rattle.fare_trace.specs.Answers.{Drafting, Running, Seals, SetsUp, accepted, add_refusal, begun, cap_refusal, entered, window_refusal}
use Rattle.fare_trace.specs.Schemes.{LeadTo, Makes}

done : (next changed : DraftValue) → next ≡ changed → accepted next ≡ accepted changed
done next changed is = ap accepted is

enters : (draft next changed : DraftValue) (used : Bool) (why : Option Refusal) → why ≡ None → next ≡ changed → accepted next ≡ entered draft used why changed
enters draft next changed used why none is = done next changed is ∙ ap (λ r. entered draft used r changed) (sym none)

posix_reads : (tz : TimeZone) (rule : List ℕ) → IsRuleOf rule tz → IsSome (read_whole rule)
posix_reads (Posix tz) rule has = ap is_some has
posix_reads tz rule has = absurd has

reads : (clock : Zone) (rule : List ℕ) → HasRule clock rule → IsSome (read_whole rule)
reads clock rule has = posix_reads clock.rule rule has

answered : (draft next : DraftValue) (used : Bool) (l : SchemeLine) → Takes draft l next → SetsUp draft used l (Drafting next true, Done)
answered draft next used (line.Owner owner lane) takes = enters draft next _ used _ (ap add_refusal takes.0) takes.1
answered draft next used (line.Operator operator) takes = enters draft next _ used _ (ap add_refusal takes.0) takes.1
answered draft next used (line.Station station operator) takes = enters draft next _ used _ (ap add_refusal takes.0) takes.1
answered draft next used (line.Product product owner fare) takes = enters draft next _ used _ (ap add_refusal takes.0) takes.1
answered draft next used (line.Caps product daily weekly) takes = enters draft next _ used _ (ap cap_refusal takes.0) takes.1
answered draft next used (line.Hop product seconds) takes = enters draft next _ used _ (ap window_refusal takes.0) takes.1
answered draft next used (line.Device device station buffer) takes = enters draft next _ used _ (ap add_refusal takes.0) takes.1
answered draft next used (line.Inbox capacity) takes = inl (takes.0, done next _ takes.1)
answered draft next used (line.Zone rule) takes = inl (reads takes.0 rule takes.1, (takes.0, takes.1, done next _ takes.2))
answered draft next used (line.Start day) takes = inl (takes.0, done next _ takes.1)
answered draft next used line.Seal takes = absurd takes
answered draft next used (line.Demo size buffer inbox lane) takes = absurd takes

seals : (draft : DraftValue) (used : Bool) (scheme : SchemeValue) (fault : Option SealFault) → fault ≡ None → IsSealedFrom draft scheme → Seals draft used fault (begun scheme)
seals draft used scheme None none is = (scheme, is, refl)
seals draft used scheme (Some fault) none is = absurd (let e = none in cc)

leads : (front : List SchemeLine) (draft last : DraftValue) (used : Bool) (scheme : SchemeValue) → TakesAll draft front last → seal_refusal last ≡ None → IsSealedFrom last scheme → LeadTo (Drafting draft used) (front ++ line.Seal ∷ []) (Running scheme (start scheme))
leads [] draft last used scheme same allowed sealed =
    let seal : SetsUp draft used line.Seal (begun scheme) = subst (λ d. SetsUp d used line.Seal (begun scheme)) (sym same) (seals last used scheme (seal_refusal last) allowed sealed) in
    (Running scheme (start scheme), seal, refl)
leads (first ∷ front) draft last used scheme taken allowed sealed = (Drafting taken.0 true, answered draft taken.0 used first taken.1, leads front taken.0 last true scheme taken.2 allowed sealed)

nothing_behind : (lines : List Line) → lines ≡ lines ++ []
nothing_behind [] = refl
nothing_behind (l ∷ lines) = ap (λ ls. l ∷ ls) (nothing_behind lines)

pub drafted_makes : (lines : List SchemeLine) (scheme : SchemeValue) → Make lines scheme → Makes (map Setup lines) scheme
drafted_makes lines scheme makes = record {
  front = lines;
  rest = [];
  split = nothing_behind (map Setup lines);
  lead = subst (λ ls. LeadTo (Drafting empty_draft false) ls (Running scheme (start scheme))) (sym makes.split) (leads makes.front empty_draft makes.draft false scheme makes.taken makes.allowed makes.sealed);
}
