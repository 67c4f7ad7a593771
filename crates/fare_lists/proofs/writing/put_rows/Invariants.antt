use Rattle.std.proofs.Common.{◌≡◌, take}
use Rattle.sqlite.specs.Held.{state}
use Rattle.fare_lists.specs.Lists.{told_list, rows_from}
use Rattle.fare_lists.proofs.Put.{ArePut}
use Rattle.fare_lists.proofs.writing.put_rows.Given as goal

abbrev pub invariant-loop-place : goal.invariant-loop-place
invariant-loop-place g l = (l.tx.conn.ghost_name ≡ l.fn.tx.conn.ghost_name) × ArePut (state g.S.Store l.fn.tx.conn.now) (state g.S.Store l.tx.conn.now) l.put (rows_from 1 (told_list (take l.place l.rows)))
