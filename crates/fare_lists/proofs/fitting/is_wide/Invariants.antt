use Rattle.std.proofs.Common.{take}
use Rattle.fare_lists.specs.Lists.{told_list, AreWide}
use Rattle.fare_lists.proofs.fitting.is_wide.Given as goal

abbrev pub invariant-loop-row : goal.invariant-loop-row
invariant-loop-row l = AreWide l.columns (told_list (take l.row-index l.list))
