use Rattle.std.proofs.Common.{◌≡◌, None, Some, option_map, refl, sym, ap, subst, ◌∙◌}
use Rattle.sqlite.specs.Held.{state}
use Rattle.fare_tables.proofs.Making.{on_ok}
use Rattle.fare_opening.specs.Moves.{Moves, MovesAny}
use Rattle.fare_opening.specs.Moving.{moving_told}
use Rattle.fare_opening.proofs.Moved.{moves_it}
use Rattle.fare_opening.proofs.moving.move_rows.Goals as goal

pub returns-in-Some-clause-moved : goal.returns-in-Some-clause-moved
returns-in-Some-clause-moved g c clean inside d o w told design older site has =
    let a = (state g.S.Store c.args.tx.now.conn.now).now in
    let e = (state g.S.Store c.move_these.new.tx.conn.now).now in
    let m = moving_told c.in-Some.moving in
    let is : o.moving ≡ Some m = sym told ∙ ap (option_map moving_told) c.in-Some.is in
    on_ok c.move_these.result (λ (it : Moves o w c.args.rows.now a e m × _). (subst (MovesAny o w c.args.rows.now a e) (sym is) it.0, it.1)) (c.move_these.ensures.moved clean inside d o w (moves_it d o m older is) design older site has)

pub returns-in-None-clause-moved : goal.returns-in-None-clause-moved
returns-in-None-clause-moved g c clean inside d o w told design older site has =
    let a = (state g.S.Store c.args.tx.now.conn.now).now in
    let is : o.moving ≡ None = sym told ∙ ap (option_map moving_told) c.in-None.is in
    (subst (MovesAny o w c.args.rows.now a a) (sym is) refl, inside)
