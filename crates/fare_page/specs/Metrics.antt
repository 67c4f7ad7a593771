-- The text of how far serving has come, for a machine that watches.
use Rattle.std.specs.Prelude.{ℕ, List, ◌++◌, codes}
use Rattle.std.specs.List.{flat_map}
use Rattle.std.specs.Fmt.{decimal}
use Rattle.fare_serve.specs.declared.counts.Taken.{Taken}
use Rattle.fare_serve.specs.declared.progress.Progress.{Progress}
use Rattle.fare_page.specs.Seen.{seen_text}

-- what an owner took
unfoldable pub owner_line : Taken → List ℕ
owner_line t = codes "fare_hub_taken_total{owner=\"" ++ (decimal t.owner ++ (codes "\"} " ++ (decimal t.count ++ codes "\n")))

abbrev pub owner_lines : List Taken → List ℕ
owner_lines taken = flat_map owner_line taken

unfoldable pub totals_text : ℕ → ℕ → ℕ → List ℕ
totals_text rounds stored left =
    codes "# HELP fare_hub_rounds_total Rounds that were held since serving began.\n# TYPE fare_hub_rounds_total counter\nfare_hub_rounds_total " ++ (decimal rounds
    ++ (codes "\n# HELP fare_hub_stored_total Taps and statements that were stored since serving began.\n# TYPE fare_hub_stored_total counter\nfare_hub_stored_total " ++ (decimal stored
    ++ (codes "\n# HELP fare_hub_left_total Items that were in a queue or a hand at the ends of sessions.\n# TYPE fare_hub_left_total counter\nfare_hub_left_total " ++ (decimal left
    ++ codes "\n# HELP fare_hub_taken_total Taps and statements that an owner took since serving began.\n# TYPE fare_hub_taken_total counter\n")))))

-- the counts, and behind them what is seen of lines and rounds
abbrev pub metrics_text : Progress → List ℕ
metrics_text p = totals_text p.rounds p.counts.stored p.counts.left ++ (owner_lines p.counts.taken.items ++ seen_text p.seen)
