use Rattle.std.proofs.Common.{arith, refl}
use Rattle.sqlite.specs.Held.{state}
use Rattle.sqlite.specs.State.{HasCleanDisk}
use Rattle.fare_tables.proofs.Making.{on_ok}
use Rattle.fare_opening.specs.Moves.{Clears}
use Rattle.fare_opening.specs.Moving.{moving_told, columns_of}
use Rattle.fare_opening.proofs.Cleared.{clears_moving}
use Rattle.fare_opening.proofs.Moved.{both_moved}
use Rattle.fare_opening.proofs.moving.move_these.Goals as goal

pub returns-clause-moved : goal.returns-clause-moved
returns-clause-moved g c clean inside d o w moving design older site has =
    let m = moving_told c.args.moving.now in
    let a = (state g.S.Store c.args.tx.now.conn.now).now in
    let b = (state g.S.Store c.put_copies.new.tx.conn.now).now in
    let e = (state g.S.Store c.clear_rows.new.tx.conn.now).now in
    let late = clean in
    let before : HasCleanDisk (state g.S.Store c.put_copies.new.tx.conn.now) = omega (arith, late, c.clear_rows.ensures.survives.clean) in
    let one = c.in_ok-put_copies.ensures.made before inside d o m w moving refl site has in
    on_ok c.clear_rows.result (λ (it : Clears w m.from (columns_of o.own m.from) b e × _). (both_moved d o m w c.args.rows.now a b e design older moving site one.0 it.0, it.1)) (c.clear_rows.ensures.cleared clean one.1 d m.from (columns_of o.own m.from) w (clears_moving d o m design older moving) site one.0.schema)
