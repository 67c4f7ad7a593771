use Rattle.std.proofs.Common.{◌≡◌, take, map}
use Rattle.fare_lists.specs.Lists.{told_list, behind_ids, cells}
use Rattle.fare_lists.proofs.reading.list_of.Given as goal

abbrev pub invariant-loop-row : goal.invariant-loop-row
invariant-loop-row l = behind_ids (take l.row-index l.rows) ≡ map cells (told_list l.list.items)
