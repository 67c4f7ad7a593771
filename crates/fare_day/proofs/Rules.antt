-- A rule's offsets are told by what the rule says, however its names are held.
use Rattle.std.proofs.Common.{◌≡◌, ◌∙◌, ℕ, ℤ, pos, ◌+ℤ◌, ◌-ℤ◌, ◌*ℤ◌, ◌&&◌, ◌||◌, int_lt, List, Option, Some, None, if◌then◌else◌, Bool, true, false, ap, sym, refl}
use Rattle.std.specs.Option.{unwrap_or, option_map}
use Rattle.jiff_core.specs.declared.offset.Offset.{Offset}
use Rattle.jiff_core.specs.Timestamp.{nanos_of_seconds}
use Rattle.jiff_tz.specs.PosixRule.{clamp_to, dst_at_by, first_nanosecond, in_window, int_same, last_nanosecond, match_some, nanos_per_day, rule_day, rule_nanos, saturating_add, utc_window}
use Rattle.jiff_tz.specs.PosixText.{DstText, TzText, dst_view, tz_view}
use Rattle.jiff_tz.specs.Year.{year_of_nanos}
use Rattle.jiff_tz.specs.Zone.{offset_at}
use Rattle.jiff_tz.specs.declared.posix.Day.{Day}
use Rattle.jiff_tz.specs.declared.posix.Dst.{Dst}
use Rattle.jiff_tz.specs.declared.posix.TimeZone.{TimeZone as PosixZone}
use Rattle.jiff_tz.specs.declared.timezone.TimeZone.{TimeZone}
use Rattle.jiff_tz.specs.declared.timezone.TimeZone.TheVariants.{UTC, Unknown, Fixed, Posix, Tzif}
use Rattle.fare_day.specs.Clock.{HasRule, IsRuleOf, offset_at as clock_offset}
use Rattle.fare_day.specs.TrafficDay.{date_by_clock, day_number, traffic_day, traffic_day_in_range}
use Rattle.fare_day.specs.declared.zone.Zone.{Zone}

-- WHAT A RULE SAYS
-- when a day and a time of it fall in the year, as `rule_nanos` says of a rule's moment
abbrev pub told_nanos : ℤ → Day × ℤ → ℤ → ℤ
told_nanos y d seconds = match_some (rule_day y d.0) (last_nanosecond y) (λ day.
    clamp_to (first_nanosecond y) (last_nanosecond y)
    (day *ℤ nanos_per_day +ℤ nanos_of_seconds (d.1 -ℤ seconds)))

-- the window of what a rule says of daylight saving time
abbrev pub told_window : DstText → ℤ → ℤ → ℤ × ℤ
told_window d y std =
    let start : ℤ = told_nanos y d.start std in
    let end : ℤ = told_nanos y d.finish d.seconds in
    let shifted : ℤ = saturating_add end (nanos_of_seconds std) in
    if int_same start (first_nanosecond y)
    && (int_lt shifted (first_nanosecond y) || int_lt (last_nanosecond y) shifted)
    then (start, last_nanosecond y)
    else (start, end)

-- the offset at an instant, by what a rule says
abbrev pub told_offset : ℤ → Option DstText → ℤ → ℤ
told_offset std None n = std
told_offset std (Some d) n = if in_window (told_window d (year_of_nanos n) std) n then d.seconds else std

window_told : (d : Dst) (y : ℤ) (std : Offset) → utc_window d y std ≡ told_window (dst_view d) y std.seconds
unfolding utc_window rule_nanos
window_told d y std = refl

dst_told : (d : Dst) (std : Offset) (n : ℤ) (b : Bool) → in_window (told_window (dst_view d) (year_of_nanos n) std.seconds) n ≡ b → (match_some (dst_at_by std (Some d) n) std (λ e. e.offset)).seconds ≡ told_offset std.seconds (Some (dst_view d)) n
dst_told d std n true is = rw (window_told d (year_of_nanos n) std, is)
dst_told d std n false is = rw (window_told d (year_of_nanos n) std, is)

rule_told : (std : Offset) (dst : Option Dst) (n : ℤ) → (match_some (dst_at_by std dst n) std (λ d. d.offset)).seconds ≡ told_offset std.seconds (option_map dst_view dst) n
rule_told std None n = refl
rule_told std (Some d) n = dst_told d std n _ refl

-- the offset at an instant, by what a rule says
abbrev pub told_at : TzText → ℤ → ℤ
told_at told n = told_offset told.std_seconds told.dst n

-- the offset of a rule is told by what it says
told : (rule : PosixZone) (n : ℤ) → offset_at (Posix rule) n ≡ told_at (tz_view rule) n
unfolding offset_at
told rule n = rule_told rule.std_offset rule.dst n

-- zones that are the rule of one text have one offset
one_offset : (x y : TimeZone) (text : List ℕ) (n : ℤ) → IsRuleOf text x → IsRuleOf text y → offset_at x n ≡ offset_at y n
one_offset (Posix x) (Posix y) text n first second =
    told x n
    ∙ ap (λ t. told_at t n) (ap (λ r. unwrap_or r (tz_view x)) (sym first ∙ second))
    ∙ sym (told y n)
one_offset (Posix x) UTC text n first second = absurd second
one_offset (Posix x) Unknown text n first second = absurd second
one_offset (Posix x) (Fixed o) text n first second = absurd second
one_offset (Posix x) (Tzif z) text n first second = absurd second
one_offset UTC y text n first second = absurd first
one_offset Unknown y text n first second = absurd first
one_offset (Fixed o) y text n first second = absurd first
one_offset (Tzif z) y text n first second = absurd first

-- CLOCKS
pub same_offset : (a b : Zone) (text : List ℕ) (moment : ℕ) → HasRule a text → HasRule b text → clock_offset a moment ≡ clock_offset b moment
same_offset a b text moment first second =
    one_offset a.rule b.rule text (nanos_of_seconds (pos moment)) first second

pub same_day : (a b : Zone) (text : List ℕ) (moment : ℕ) → HasRule a text → HasRule b text → traffic_day a moment ≡ traffic_day b moment
same_day a b text moment first second =
    ap (λ offset. date_by_clock (pos moment +ℤ offset)) (same_offset a b text moment first second)

pub same_day_in_range : (a b : Zone) (text : List ℕ) (moment : ℕ) → HasRule a text → HasRule b text → traffic_day_in_range a moment ≡ traffic_day_in_range b moment
same_day_in_range a b text moment first second = ap day_number (same_day a b text moment first second)
