use Rattle.std.proofs.Common.{◌≡◌, take}
use Rattle.sqlite.specs.Held.{state}
use Rattle.fare_opening.proofs.Copied.{AreCopied}
use Rattle.fare_opening.proofs.moving.put_copies.Given as goal

abbrev pub invariant-loop-row : goal.invariant-loop-row
invariant-loop-row g l = (l.tx.conn.ghost_name ≡ l.fn.tx.conn.ghost_name) × AreCopied (state g.S.Store l.fn.tx.conn.now) (state g.S.Store l.tx.conn.now) l.put (take l.row-index l.rows)
