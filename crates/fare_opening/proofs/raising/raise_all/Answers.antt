use Rattle.std.proofs.Common.{arith, subst, sym}
use Rattle.sqlite.specs.Held.{state}
use Rattle.sqlite.specs.State.{HasCleanDisk}
use Rattle.fare_tables.proofs.Making.{on_ok}
use Rattle.fare_layout.specs.Growing.{GrowsBy}
use Rattle.fare_opening.specs.Raising.{SetsMeta}
use Rattle.fare_opening.proofs.Raised.{meta_stays, schema_stays, is_raised, all_raised}
use Rattle.fare_opening.proofs.raising.raise_all.Goals as goal

pub returns-clause-raised : goal.returns-clause-raised
returns-clause-raised g c clean inside rising =
    let d = g.D.Design.parts in
    let design = c.sound.ensures.design in
    let rows = c.args.rows.now in
    let a = (state g.S.Store c.args.tx.now.conn.now).now in
    let b = (state g.S.Store c.make_tables.new.tx.conn.now).now in
    let m = (state g.S.Store c.move_rows.new.tx.conn.now).now in
    let e = (state g.S.Store c.put_format.new.tx.conn.now).now in
    let late = clean in
    let before : HasCleanDisk (state g.S.Store c.move_rows.new.tx.conn.now) = omega (arith, late, c.put_format.ensures.survives.clean) in
    let first : HasCleanDisk (state g.S.Store c.make_tables.new.tx.conn.now) = omega (arith, before, c.move_rows.ensures.survives.clean) in
    all_raised d c.args.older.now c.put_format.result a e rows _ rising (λ o older told owner v w can. (
    let grown = c.in_ok-make_tables.ensures.made first inside w.schema (subst (λ t. GrowsBy a.schema t w.schema) (sym told.missing) can.rises.grows) in
    let moves = c.in_ok-move_rows.ensures.moved before grown.1 d o w told.moving design older can.rises.site grown.0.schema in
    on_ok c.put_format.result (λ (s : SetsMeta d owner w m e × _). (is_raised d o owner v w a b m design older can grown.0 rows moves.0 e s.0 (rising.read o older told v can.rises.from can.rises.has), s.1))
    (c.put_format.ensures.set clean moves.1 w can.rises.site (schema_stays d o owner v w a b m design older can grown.0 rows moves.0) o.format owner (meta_stays d o owner v w a b m design older can grown.0 rows moves.0))))
