-- Lines make one scheme, but for its clock, and so does a text.
use Rattle.std.proofs.Common.{◌≡◌, List, [], ◌∷◌, Some, None, refl, sym, ap, subst, ◌∙◌, ℕ, map, ap₂}
use Rattle.std.proofs.lemmas.List.{append_cancel_right}
use Rattle.fare_day.specs.Clock.{HasRule}
use Rattle.fare_scheme.specs.Values.{DraftValue, SchemeValue}
use Rattle.fare_scheme.specs.Registering.{empty_draft, with_owner, with_operator, with_station, with_product, with_caps, with_hop, with_device}
use Rattle.fare_scheme.specs.Facts.{IsScheme}
use Rattle.fare_lines.specs.declared.line.Line.TheVariants.{Setup}
use Rattle.fare_lines.specs.declared.line.SchemeLine.{SchemeLine}
use Rattle.fare_lines.specs.declared.line.SchemeLine.TheVariants as line
use Rattle.fare_lines.specs.ZoneWord.{IsZoneText}
use Rattle.fare_lines.specs.Lines.{Spells}
use Rattle.fare_lines.proofs.Printing.{one_reading}
use Rattle.fare_setup.specs.SchemeLines.{setup_lines_of}
use Rattle.fare_setup.specs.ReadAgain.{setup_text_of}
use Rattle.fare_setup.specs.Making.{Make, Takes, TakesAll}
use Rattle.fare_setup.proofs.Rereading.{setup_reads_as}
use Rattle.fare_setup.proofs.Taking.{setup_makes}

-- a draft but for its clock
abbrev stopped : DraftValue → DraftValue
stopped draft = record draft { zone = None }

moved : (step : DraftValue → DraftValue) (a b next other : DraftValue) → stopped a ≡ stopped b → ((d : DraftValue) → stopped (step d) ≡ step (stopped d)) → next ≡ step a → other ≡ step b → stopped next ≡ stopped other
moved step a b next other alike apart one two = ap stopped one ∙ apart a ∙ ap step alike ∙ sym (apart b) ∙ sym (ap stopped two)

one_step : (first : SchemeLine) (a b next other : DraftValue) → stopped a ≡ stopped b → Takes a first next → Takes b first other → stopped next ≡ stopped other
one_step (line.Owner owner lane) a b next other alike one two = moved (λ d. with_owner d owner lane) a b next other alike (λ d. refl) one.1 two.1
one_step (line.Operator operator) a b next other alike one two = moved (λ d. with_operator d operator) a b next other alike (λ d. refl) one.1 two.1
one_step (line.Station station operator) a b next other alike one two = moved (λ d. with_station d station operator) a b next other alike (λ d. refl) one.1 two.1
one_step (line.Product product owner fare) a b next other alike one two = moved (λ d. with_product d product owner fare) a b next other alike (λ d. refl) one.1 two.1
one_step (line.Caps product daily weekly) a b next other alike one two = moved (λ d. with_caps d product daily weekly) a b next other alike (λ d. refl) one.1 two.1
one_step (line.Hop product seconds) a b next other alike one two = moved (λ d. with_hop d product seconds) a b next other alike (λ d. refl) one.1 two.1
one_step (line.Device device station buffer) a b next other alike one two = moved (λ d. with_device d device station buffer) a b next other alike (λ d. refl) one.1 two.1
one_step (line.Inbox capacity) a b next other alike one two = moved (λ d. record d { inbox_capacity = capacity }) a b next other alike (λ d. refl) one.1 two.1
one_step (line.Zone rule) a b next other alike one two = ap stopped one.2 ∙ alike ∙ sym (ap stopped two.2)
one_step (line.Start day) a b next other alike one two = moved (λ d. record d { start = Some day }) a b next other alike (λ d. refl) one.1 two.1
one_step line.Seal a b next other alike one two = absurd one
one_step (line.Demo size buffer inbox lane) a b next other alike one two = absurd one

one_draft : (lines : List SchemeLine) (a b last other : DraftValue) → stopped a ≡ stopped b → TakesAll a lines last → TakesAll b lines other → stopped last ≡ stopped other
one_draft [] a b last other alike one two = ap stopped (sym one) ∙ alike ∙ ap stopped two
one_draft (first ∷ more) a b last other alike one two =
    one_draft more one.0 two.0 last other (one_step first a b one.0 two.0 alike one.1 two.1) one.2 two.2

pub one_scheme : (lines : List SchemeLine) (one other : SchemeValue) → Make lines one → Make lines other → one ≡ record other { zone = one.zone }
one_scheme lines one other makes also =
    let fronts = append_cancel_right makes.front also.front (line.Seal ∷ []) (sym makes.split ∙ also.split) in
    let alike = one_draft makes.front empty_draft empty_draft makes.draft also.draft refl makes.taken (subst (λ front. TakesAll empty_draft front also.draft) (sym fronts) also.taken) in
    let starts : Some one.start ≡ Some other.start = sym makes.sealed.start ∙ ap (λ d. d.start) alike ∙ also.sealed.start in
    let start : one.start ≡ other.start = cc in
    λ i. record {
      owners = (makes.sealed.owners ∙ ap (λ d. d.owners) alike ∙ sym also.sealed.owners) i;
      operators = (makes.sealed.operators ∙ ap (λ d. d.operators) alike ∙ sym also.sealed.operators) i;
      stations = (makes.sealed.stations ∙ ap (λ d. d.stations) alike ∙ sym also.sealed.stations) i;
      products = (makes.sealed.products ∙ ap (λ d. d.products) alike ∙ sym also.sealed.products) i;
      devices = (makes.sealed.devices ∙ ap (λ d. d.devices) alike ∙ sym also.sealed.devices) i;
      inbox_capacity = (makes.sealed.inbox_capacity ∙ ap (λ d. d.inbox_capacity) alike ∙ sym also.sealed.inbox_capacity) i;
      start = start i;
      zone = one.zone;
    }

-- TEXTS
same_lines : (ls ms : List SchemeLine) → map Setup ls ≡ map Setup ms → ls ≡ ms
same_lines [] [] e = refl
same_lines [] (m ∷ ms) e = absurd (cc)
same_lines (l ∷ ls) [] e = absurd (cc)
same_lines (l ∷ ls) (m ∷ ms) e =
    let first : l ≡ m = cc in
    let rest : ls ≡ ms = same_lines ls ms (cc) in
    ap₂ (λ (x : SchemeLine) (xs : List SchemeLine). x ∷ xs) first rest

pub text_tells : (one other : SchemeValue) (zone rule : List ℕ) → IsScheme one → IsScheme other → IsZoneText zone → IsZoneText rule → HasRule one.zone zone → HasRule other.zone rule → setup_text_of one zone ≡ setup_text_of other rule
    → one ≡ record other { zone = one.zone }
text_tells one other zone rule is also word wording clock hand same =
    let read = (setup_reads_as one zone is word).spelled in
    let reread = (setup_reads_as other rule also wording).spelled in
    let lines = same_lines (setup_lines_of one zone) (setup_lines_of other rule)
    (one_reading (map Setup (setup_lines_of one zone)) (map Setup (setup_lines_of other rule)) (setup_text_of other rule) (subst (Spells (map Setup (setup_lines_of one zone))) same read) reread) in
    one_scheme (setup_lines_of other rule) one other (subst (λ ls. Make ls one) lines (setup_makes one zone is clock)) (setup_makes other rule also hand)
