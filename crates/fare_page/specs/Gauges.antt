-- The text of what waits for owners and of where devices stand, for a machine that watches.
use Rattle.std.specs.Prelude.{ℕ, List, [], ◌++◌, Option, Some, None, codes}
use Rattle.std.specs.List.{flat_map}
use Rattle.std.specs.Fmt.{decimal}
use Rattle.std.specs.Map.{keys_of}
use Rattle.fare_scheme.specs.Values.{SchemeValue}
use Rattle.fare_scheme.specs.Words.{station_of}
use Rattle.fare_desk.specs.declared.waiting.OwnerWaits.{OwnerWaits}

-- OWNERS
-- the line of an owner's number
unfoldable pub gauge_line : List ℕ → ℕ → ℕ → List ℕ
gauge_line name owner n = name ++ (codes "{owner=\"" ++ (decimal owner ++ (codes "\"} " ++ (decimal n ++ codes "\n"))))

-- how many rows wait for an owner, and how many statements
abbrev pub rows_line : OwnerWaits → List ℕ
rows_line w = gauge_line (codes "fare_hub_waiting_rows") w.owner w.waiting.rows

abbrev pub statements_line : OwnerWaits → List ℕ
statements_line w = gauge_line (codes "fare_hub_waiting_statements") w.owner w.waiting.statements

-- when the earliest of the taps was made that wait, if one does
abbrev pub moment_line : ℕ → Option ℕ → List ℕ
moment_line owner None = []
moment_line owner (Some moment) = gauge_line (codes "fare_hub_oldest_waiting_tap_timestamp_seconds") owner moment

abbrev pub oldest_line : OwnerWaits → List ℕ
oldest_line w = moment_line w.owner w.waiting.oldest

-- the heads of these three
unfoldable pub rows_head : List ℕ
rows_head = codes "# HELP fare_hub_waiting_rows Taps in the outbox that an owner has not taken, of lanes that are not retired.\n# TYPE fare_hub_waiting_rows gauge\n"

unfoldable pub statements_head : List ℕ
statements_head = codes "# HELP fare_hub_waiting_statements Statements in the outbox of days that an owner has not closed, of lanes that are not retired.\n# TYPE fare_hub_waiting_statements gauge\n"

unfoldable pub oldest_head : List ℕ
oldest_head = codes "# HELP fare_hub_oldest_waiting_tap_timestamp_seconds When the earliest of the taps was made that wait for an owner, in seconds since 1970; no line where none waits.\n# TYPE fare_hub_oldest_waiting_tap_timestamp_seconds gauge\n"

abbrev pub waiting_text : List OwnerWaits → List ℕ
waiting_text waits = rows_head ++ (flat_map rows_line waits ++ (statements_head ++ (flat_map statements_line waits ++ (oldest_head ++ flat_map oldest_line waits))))

-- DEVICES
-- the line of a device at a station
unfoldable pub placed_line : ℕ → ℕ → List ℕ
placed_line device station = codes "fare_hub_device_info{device=\"" ++ (decimal device ++ (codes "\",station=\"" ++ (decimal station ++ codes "\"} 1\n")))

abbrev pub placed : ℕ → Option ℕ → List ℕ
placed device None = []
placed device (Some station) = placed_line device station

abbrev pub device_line : SchemeValue → ℕ → List ℕ
device_line sc device = placed device (station_of sc device)

unfoldable pub devices_head : List ℕ
devices_head = codes "# HELP fare_hub_device_info At which station a device stands.\n# TYPE fare_hub_device_info gauge\n"

abbrev pub devices_text : SchemeValue → List ℕ
devices_text sc = devices_head ++ flat_map (device_line sc) (keys_of sc.devices)

-- ALL
abbrev pub gauges_text : SchemeValue → List OwnerWaits → List ℕ
gauges_text sc waits = waiting_text waits ++ devices_text sc
