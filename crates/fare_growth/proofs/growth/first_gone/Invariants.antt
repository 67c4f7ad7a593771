use Rattle.std.proofs.Common.{◌≡◌, drop}
use Rattle.std.specs.Prelude.{find, not}
use Rattle.fare_growth.specs.Entries.{names}
use Rattle.fare_growth.specs.Growth.{has_name, gone}
use Rattle.fare_growth.proofs.growth.first_gone.Given as goal

-- no entry before the place is gone
abbrev pub invariant-loop-place : goal.invariant-loop-place
invariant-loop-place l = find (λ name. not (has_name (names l.later) name)) (drop l.place (names l.kept)) ≡ gone l.kept l.later
