-- The text of what is seen of lines and rounds, for a machine that watches: a family behind the other.
use Rattle.std.specs.Prelude.{ℕ, ◌/◌, ◌%◌, List, [], ◌++◌, Option, Some, None, codes, if◌then◌else◌}
use Rattle.std.specs.List.{flat_map}
use Rattle.std.specs.Fmt.{decimal}
use Rattle.fare_serve.specs.declared.reasons.BrokenLines.{BrokenLines}
use Rattle.fare_serve.specs.declared.reasons.RefusedLines.{RefusedLines}
use Rattle.fare_serve.specs.declared.seen.LineSeen.{LineSeen}
use Rattle.fare_serve.specs.declared.seen.Seen.{Seen}

-- LINES THAT WERE LOST
-- refused for what they greeted with
unfoldable pub greeted_text : ℕ → ℕ → ℕ → List ℕ
greeted_text no_hello bad_version unknown_device =
    codes "# HELP fare_hub_lines_refused_total Lines that were refused since serving began, by the reason.\n# TYPE fare_hub_lines_refused_total counter\nfare_hub_lines_refused_total{reason=\"no_hello\"} " ++ (decimal no_hello
    ++ (codes "\nfare_hub_lines_refused_total{reason=\"bad_version\"} " ++ (decimal bad_version
    ++ (codes "\nfare_hub_lines_refused_total{reason=\"unknown_device\"} " ++ (decimal unknown_device
    ++ codes "\n")))))

-- or for another reason
unfoldable pub ungreeted_text : ℕ → ℕ → ℕ → List ℕ
ungreeted_text failed no_greeting second =
    codes "fare_hub_lines_refused_total{reason=\"failed\"} " ++ (decimal failed
    ++ (codes "\nfare_hub_lines_refused_total{reason=\"no_greeting\"} " ++ (decimal no_greeting
    ++ (codes "\nfare_hub_lines_refused_total{reason=\"second\"} " ++ (decimal second
    ++ codes "\n")))))

abbrev pub refused_text : RefusedLines → List ℕ
refused_text r = greeted_text r.no_hello r.bad_version r.unknown_device ++ ungreeted_text r.failed r.no_greeting r.second

unfoldable pub broken_text : BrokenLines → List ℕ
broken_text b =
    codes "# HELP fare_hub_lines_broken_total Lines that broke since serving began, by the reason.\n# TYPE fare_hub_lines_broken_total counter\nfare_hub_lines_broken_total{reason=\"failed\"} " ++ (decimal b.failed
    ++ (codes "\nfare_hub_lines_broken_total{reason=\"unexpected\"} " ++ (decimal b.unexpected
    ++ codes "\n")))

unfoldable pub replaced_text : ℕ → List ℕ
replaced_text n = codes "# HELP fare_hub_lines_replaced_total Lines that another one of their station replaced since serving began.\n# TYPE fare_hub_lines_replaced_total counter\nfare_hub_lines_replaced_total " ++ (decimal n ++ codes "\n")

-- A STATION'S LINE
-- 1 where it has one, 0 where it has none
unfoldable pub up_sample : ℕ → ℕ → List ℕ
up_sample station up = codes "fare_hub_line_up{station=\"" ++ (decimal station ++ (codes "\"} " ++ (decimal up ++ codes "\n")))

abbrev pub up_line : LineSeen → List ℕ
up_line l = up_sample l.station (if l.is_up then 1 else 0)

abbrev pub up_lines : List LineSeen → List ℕ
up_lines lines = flat_map up_line lines

unfoldable pub up_head : List ℕ
up_head = codes "# HELP fare_hub_line_up Whether the station has a line now.\n# TYPE fare_hub_line_up gauge\n"

unfoldable pub frame_line : ℕ → ℕ → List ℕ
frame_line station seconds = codes "fare_hub_line_last_frame_timestamp_seconds{station=\"" ++ (decimal station ++ (codes "\"} " ++ (decimal seconds ++ codes "\n")))

abbrev pub frame_if : ℕ → Option ℕ → List ℕ
frame_if station None = []
frame_if station (Some seconds) = frame_line station seconds

-- no line for a station off whose line no frame came
abbrev pub frame_text : LineSeen → List ℕ
frame_text l = frame_if l.station l.last_frame

abbrev pub frame_lines : List LineSeen → List ℕ
frame_lines lines = flat_map frame_text lines

unfoldable pub frames_head : List ℕ
frames_head = codes "# HELP fare_hub_line_last_frame_timestamp_seconds When the last round ended in which a frame came off the station's line.\n# TYPE fare_hub_line_last_frame_timestamp_seconds gauge\n"

abbrev pub lines_text : List LineSeen → List ℕ
lines_text lines = up_head ++ (up_lines lines ++ (frames_head ++ frame_lines lines))

-- ROUNDS
unfoldable pub round_head : List ℕ
round_head = codes "# HELP fare_hub_last_round_seconds How long the last round took.\n# TYPE fare_hub_last_round_seconds gauge\n"

-- milliseconds as seconds, with three decimals
unfoldable pub round_line : ℕ → List ℕ
round_line millis = codes "fare_hub_last_round_seconds " ++ (decimal (millis / 1000) ++ (codes "." ++ (decimal ((millis / 100) % 10) ++ (decimal ((millis / 10) % 10) ++ (decimal (millis % 10) ++ codes "\n")))))

-- no line before the first round has ended
abbrev pub round_text : Option ℕ → List ℕ
round_text None = []
round_text (Some millis) = round_line millis

unfoldable pub commits_text : ℕ → ℕ → List ℕ
commits_text outbox ledgers =
    codes "# HELP fare_hub_commits_total Commits of what stations sent and of what owners took since serving began, by the store.\n# TYPE fare_hub_commits_total counter\nfare_hub_commits_total{store=\"outbox\"} " ++ (decimal outbox
    ++ (codes "\nfare_hub_commits_total{store=\"ledgers\"} " ++ (decimal ledgers
    ++ codes "\n")))

-- ALL OF IT
abbrev pub lost_text : Seen → List ℕ
lost_text s = refused_text s.refused ++ (broken_text s.broken ++ replaced_text s.replaced)

abbrev pub rounds_text : Seen → List ℕ
rounds_text s = round_head ++ (round_text s.round_millis ++ commits_text s.outbox_commits s.ledger_commits)

abbrev pub seen_text : Seen → List ℕ
seen_text s = lost_text s ++ (lines_text s.lines.items ++ rounds_text s)
