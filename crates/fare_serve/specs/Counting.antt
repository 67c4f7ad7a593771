-- Counts: how they grow, and their lines.
use Rattle.std.specs.Prelude.{◌≡◌, ◌≢◌, ℕ, ◌+◌, ◌<◌, min, List, ◌++◌, length, map, slice_index_or, codes}
use Rattle.std.specs.List.{flat_map}
use Rattle.std.specs.Fmt.{decimal}
use Rattle.fare_scheme.specs.Values.{SchemeValue}
use Rattle.std.specs.Map.{keys_of}
use Rattle.fare_serve.specs.declared.counts.Taken.{Taken}
use Rattle.fare_sessions.specs.declared.report.SessionsReport.{SessionsReport}
use Rattle.fare_serve.specs.declared.counts.Counts.{Counts}

-- the line of an owner
abbrev pub taken_line : Taken → List ℕ
taken_line t = codes "taken " ++ (decimal t.owner ++ (codes " " ++ (decimal t.count ++ codes "\n")))

abbrev pub taken_lines : List Taken → List ℕ
taken_lines taken = flat_map taken_line taken

abbrev pub stored_line : ℕ → List ℕ
stored_line n = codes "stored " ++ (decimal n ++ codes "\n")

abbrev pub left_line : ℕ → List ℕ
left_line n = codes "left " ++ (decimal n ++ codes "\n")

-- all lines of counts
abbrev pub counts_text : Counts → List ℕ
counts_text c = stored_line c.stored ++ (taken_lines c.taken.items ++ left_line c.left)

abbrev pub owner_in : Taken → ℕ
owner_in t = t.owner

abbrev pub count_in : Taken → ℕ
count_in t = t.count

-- counts have a line for each owner of the scheme, in order
abbrev pub IsCountsOf : SchemeValue → Counts → Type 0
IsCountsOf sc c = map owner_in c.taken.items ≡ keys_of sc.owners

-- the text of counts of this scheme
abbrev pub IsCountsText : SchemeValue → List ℕ → Type 0
IsCountsText sc text = (c : Counts) × IsCountsOf sc c × (text ≡ counts_text c)

-- GROWING
-- a count that stays at 2^64 - 1
abbrev pub kept_count : ℕ → ℕ
kept_count n = min n 18446744073709551615

-- nothing was counted yet, for each owner of the scheme
pub record AreNoCounts (sc : SchemeValue) (c : Counts) : Type 0 where
  pub owners : IsCountsOf sc c
  pub stored : c.stored ≡ 0
  pub taken : (place : ℕ) (d : Taken) → place < length c.taken.items → (slice_index_or c.taken.items place d).count ≡ 0
  pub left : c.left ≡ 0

pub record AddsStations (old new : Counts) (report : SessionsReport) : Type 0 where
  pub stored : new.stored ≡ kept_count (old.stored + report.stored)
  pub taken : new.taken ≡ old.taken
  pub left : new.left ≡ kept_count (old.left + report.left)

-- the owner at a place took so much more
pub record AddsOwner (old new : Counts) (place : ℕ) (report : SessionsReport) : Type 0 where
  pub stored : new.stored ≡ old.stored
  pub owners : map owner_in new.taken.items ≡ map owner_in old.taken.items
  pub here : (d : Taken) → (slice_index_or new.taken.items place d).count ≡ kept_count ((slice_index_or old.taken.items place d).count + report.taken)
  pub others : (other : ℕ) (d : Taken) → other ≢ place → slice_index_or new.taken.items other d ≡ slice_index_or old.taken.items other d
  pub left : new.left ≡ kept_count (old.left + report.left)
