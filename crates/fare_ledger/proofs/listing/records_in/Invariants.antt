use Rattle.std.proofs.Common.{take}
use Rattle.fare_ledger.specs.Shown.{ShowRows}
use Rattle.fare_ledger.proofs.listing.records_in.Given as goal

abbrev pub invariant-loop-row : goal.invariant-loop-row
invariant-loop-row l = ShowRows l.owner (take l.row-index l.rows) l.taps.items
