-- Equal zones go by the rule of one text, so the days of a scheme stay those of one that adds to it.
use Rattle.std.proofs.Common.{◌≡◌, ℕ, ◌&&◌, true, false, eqb-true, List, [], ◌∷◌, take, nat_eq, Option, Some, None, refl, ◌∙◌, ap}
use Rattle.std.specs.Prelude.{ℤ, option_map}
use Rattle.fare_day.specs.declared.zone.Zone.{Zone}
use Rattle.fare_day.specs.Clock.{HasRule}
use Rattle.jiff_core.specs.declared.offset.Offset.{Offset}
use Rattle.jiff_core.specs.contracts.offset.OffsetPartialEq.TheImpl as offset
use Rattle.jiff_tz.specs.declared.abbreviation.Abbreviation.{Abbreviation}
use Rattle.jiff_tz.specs.contracts.abbreviation.AbbreviationPartialEq.TheImpl as abbreviation
use Rattle.jiff_tz.specs.Abbreviation.{abbreviation_text}
use Rattle.jiff_tz.specs.PosixText.{DstText, TzText, dst_view, tz_view, day_time_view}
use Rattle.jiff_tz.specs.declared.posix.Day.{Day}
use Rattle.jiff_tz.specs.declared.posix.DayTime.{DayTime}
use Rattle.jiff_tz.specs.declared.posix.Dst.{Dst}
use Rattle.jiff_tz.specs.contracts.posix.DayPartialEq.TheImpl as day
use Rattle.jiff_tz.specs.contracts.posix.DayTimePartialEq.TheImpl as day_time
use Rattle.jiff_tz.specs.contracts.posix.DstPartialEq.TheImpl as dst
use Rattle.jiff_tz.specs.contracts.posix.TimeZonePartialEq.TheImpl as rule
use Rattle.jiff_tz.specs.declared.posix.TimeZone.{TimeZone as Rule}
use Rattle.jiff_tz.specs.declared.timezone.TimeZone.{TimeZone}
use Rattle.jiff_tz.specs.declared.timezone.TimeZone.TheVariants.{UTC, Unknown, Fixed, Posix, Tzif}
use Rattle.jiff_tz.specs.declared.posix.Day.TheVariants.{JulianOne, JulianZero, WeekdayOfMonth}
use Rattle.std.specs.Cmp.Lexicographic.{pointwise}
use Rattle.std.specs.Option.{option_eq}
use Rattle.std.specs.Ordering.{int_eq}
use Rattle.std.proofs.lemmas.Bool.Decides.{Decides-int_eq}
use Rattle.fare_day.proofs.Rules.{same_day as one_day, same_day_in_range as one_day_in_range}
use Rattle.fare_scheme.specs.Values.{SchemeValue}
use Rattle.fare_growth.specs.Zones.{same_zone}
use Rattle.fare_growth.specs.Growth.{AddsTo}
use Rattle.fare_growth.specs.Days.{KeepsDays}
use Rattle.fare_growth.proofs.Same.{both}

-- WHAT A RULE SAYS
same_bytes : (xs ys : List ℕ) → pointwise nat_eq xs ys ≡ true → xs ≡ ys
same_bytes [] [] h = refl
same_bytes [] (y ∷ ys) h = absurd (let g = h in cc)
same_bytes (x ∷ xs) [] h = absurd (let g = h in cc)
same_bytes (x ∷ xs) (y ∷ ys) h =
    let parts = both (nat_eq x y) (pointwise nat_eq xs ys) h in
    ap (λ n. n ∷ xs) (eqb-true x y parts.0) ∙ ap (λ zs. y ∷ zs) (same_bytes xs ys parts.1)

same_int : (x y : ℤ) → int_eq x y ≡ true → x ≡ y
same_int x y h = (Decides-int_eq x y).0 h

same_text : (a b : Abbreviation) → (abbreviation.ghosts).eq a b ≡ true → abbreviation_text a ≡ abbreviation_text b
unfolding abbreviation_text
same_text a b h =
    let parts = both (pointwise nat_eq a.bytes b.bytes) (nat_eq a.len b.len) h in
    ap (λ n. take n a.bytes) (eqb-true a.len b.len parts.1) ∙ ap (take b.len) (same_bytes a.bytes b.bytes parts.0)

same_seconds : (a b : Offset) → (offset.ghosts).eq a b ≡ true → a.seconds ≡ b.seconds
same_seconds a b h = same_int a.seconds b.seconds h

same_day : (a b : Day) → (day.ghosts).eq a b ≡ true → a ≡ b
same_day (JulianOne a) (JulianOne b) h = ap JulianOne (eqb-true a b h)
same_day (JulianZero a) (JulianZero b) h = ap JulianZero (eqb-true a b h)
same_day (WeekdayOfMonth a b c) (WeekdayOfMonth d e f) h =
    let parts = both (nat_eq a d) (nat_eq b e && nat_eq c f) h in
    let rest = both (nat_eq b e) (nat_eq c f) parts.1 in
    ap (λ n. WeekdayOfMonth n b c) (eqb-true a d parts.0) ∙ ap (λ n. WeekdayOfMonth d n c) (eqb-true b e rest.0) ∙ ap (WeekdayOfMonth d e) (eqb-true c f rest.1)
same_day a b h = absurd (let g : false ≡ true = h in cc)

same_day_time : (a b : DayTime) → (day_time.ghosts).eq a b ≡ true → day_time_view a ≡ day_time_view b
same_day_time a b h =
    let parts = both ((day.ghosts).eq a.date b.date) (int_eq a.time b.time) h in
    let f : Day → Day × ℤ = λ d. (d, a.time) in
    let g : ℤ → Day × ℤ = λ n. (b.date, n) in
    ap f (same_day a.date b.date parts.0) ∙ ap g (same_int a.time b.time parts.1)

same_dst : (a b : Dst) → (dst.ghosts).eq a b ≡ true → dst_view a ≡ dst_view b
same_dst a b h =
    let starts = (day_time.ghosts).eq a.rule.start b.rule.start in
    let ends = (day_time.ghosts).eq a.rule.end b.rule.end in
    let parts = both ((abbreviation.ghosts).eq a.abbrev b.abbrev) ((offset.ghosts).eq a.offset b.offset && (starts && ends)) h in
    let rest = both ((offset.ghosts).eq a.offset b.offset) (starts && ends) parts.1 in
    let times = both starts ends rest.1 in
    let start = day_time_view a.rule.start in
    let finish = day_time_view a.rule.end in
    let name : List ℕ → DstText = λ n. record { name = n; seconds = a.offset.seconds; start = start; finish = finish } in
    let seconds : ℤ → DstText = λ n. record { name = abbreviation_text b.abbrev; seconds = n; start = start; finish = finish } in
    let begins : Day × ℤ → DstText = λ t. record { name = abbreviation_text b.abbrev; seconds = b.offset.seconds; start = t; finish = finish } in
    let finishes : Day × ℤ → DstText = λ t. record { name = abbreviation_text b.abbrev; seconds = b.offset.seconds; start = day_time_view b.rule.start; finish = t } in
    ap name (same_text a.abbrev b.abbrev parts.0) ∙ ap seconds (same_seconds a.offset b.offset rest.0)
    ∙ ap begins (same_day_time a.rule.start b.rule.start times.0) ∙ ap finishes (same_day_time a.rule.end b.rule.end times.1)

same_dsts : (o p : Option Dst) → option_eq (dst.ghosts).eq o p ≡ true → option_map dst_view o ≡ option_map dst_view p
same_dsts None None h = refl
same_dsts None (Some b) h = absurd (let g = h in cc)
same_dsts (Some a) None h = absurd (let g = h in cc)
same_dsts (Some a) (Some b) h = ap Some (same_dst a b h)

same_rule : (a b : Rule) → (rule.ghosts).eq a b ≡ true → tz_view a ≡ tz_view b
same_rule a b h =
    let parts = both ((abbreviation.ghosts).eq a.std_abbrev b.std_abbrev) ((offset.ghosts).eq a.std_offset b.std_offset && option_eq (dst.ghosts).eq a.dst b.dst) h in
    let rest = both ((offset.ghosts).eq a.std_offset b.std_offset) (option_eq (dst.ghosts).eq a.dst b.dst) parts.1 in
    let name : List ℕ → TzText = λ n. record { std_name = n; std_seconds = a.std_offset.seconds; dst = option_map dst_view a.dst } in
    let seconds : ℤ → TzText = λ n. record { std_name = abbreviation_text b.std_abbrev; std_seconds = n; dst = option_map dst_view a.dst } in
    let summer : Option DstText → TzText = λ d. record { std_name = abbreviation_text b.std_abbrev; std_seconds = b.std_offset.seconds; dst = d } in
    ap name (same_text a.std_abbrev b.std_abbrev parts.0) ∙ ap seconds (same_seconds a.std_offset b.std_offset rest.0) ∙ ap summer (same_dsts a.dst b.dst rest.1)

-- ZONES
-- the zone of this clock
abbrev zone_of : TimeZone → Zone
zone_of rule = record { rule = rule }

in_zone : (a b : TimeZone) (text : List ℕ) → same_zone (zone_of a) (zone_of b) ≡ true → HasRule (zone_of a) text → HasRule (zone_of b) text
in_zone (Posix p) (Posix q) text h is = is ∙ ap Some (same_rule p q h)
in_zone (Posix p) UTC text h is = absurd (let g : false ≡ true = h in cc)
in_zone (Posix p) Unknown text h is = absurd (let g : false ≡ true = h in cc)
in_zone (Posix p) (Fixed o) text h is = absurd (let g : false ≡ true = h in cc)
in_zone (Posix p) (Tzif t) text h is = absurd (let g : false ≡ true = h in cc)
in_zone UTC b text h is = absurd is
in_zone Unknown b text h is = absurd is
in_zone (Fixed o) b text h is = absurd is
in_zone (Tzif t) b text h is = absurd is

pub keeps_days : (kept later : SchemeValue) → AddsTo kept later → KeepsDays kept later
keeps_days kept later adds =
    let goes_on : (text : List ℕ) → HasRule kept.zone text → HasRule later.zone text = λ text has. in_zone kept.zone.rule later.zone.rule text adds.zone has in
    record {
      start = adds.start;
      rule = goes_on;
      day = λ text moment has. one_day kept.zone later.zone text moment has (goes_on text has);
      in_range = λ text moment has. one_day_in_range kept.zone later.zone text moment has (goes_on text has);
    }
