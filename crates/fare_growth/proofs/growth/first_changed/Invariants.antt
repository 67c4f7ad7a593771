use Rattle.std.proofs.Common.{◌≡◌, drop}
use Rattle.std.specs.Prelude.{find, not, option_map}
use Rattle.fare_growth.specs.Entries.{entries}
use Rattle.fare_growth.specs.Growth.{has_entry, changed}
use Rattle.fare_growth.proofs.growth.first_changed.Given as goal

-- no entry before the place is another
abbrev pub invariant-loop-place : goal.invariant-loop-place
invariant-loop-place l = option_map (λ e. e.0) (find (λ e. not (has_entry (entries l.later) e)) (drop l.place (entries l.kept))) ≡ changed l.kept l.later
