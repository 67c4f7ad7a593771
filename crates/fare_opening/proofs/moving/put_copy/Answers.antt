use Rattle.std.proofs.Common.{suc, [], ◌∷◌, ap, subst, ◌∙◌}
use Rattle.sqlite.specs.Held.{state}
use Rattle.sqlite.specs.Values.{bound}
use Rattle.fare_tables.proofs.Making.{on_ok}
use Rattle.fare_opening.specs.Listed.{IsPutting, Puts}
use Rattle.fare_opening.specs.Moving.{columns_of}
use Rattle.fare_opening.proofs.Filled.{puts_moving, fills_with}
use Rattle.fare_opening.proofs.moving.put_copy.Goals as goal

pub returns-clause-made : goal.returns-clause-made
returns-clause-made g c clean inside d o m w moving text site has =
    let a = (state g.S.Store c.args.tx.now.conn.now).now in
    let b = (state g.S.Store c.put_row.new.tx.conn.now).now in
    let columns = columns_of o.own m.from in
    let params = bound c.as_slice.result.now in
    let putting : IsPutting d m.to (suc columns) c.args.put.now = subst (IsPutting d m.to (suc columns)) text (puts_moving d o m moving) in
    on_ok c.put_row.result (λ (it : Puts w m.to (suc columns) (params ∷ []) a b × _). (fills_with w m.to columns c.args.row.now params a b (λ n ok. ap bound c.as_slice.ensures.value ∙ c.in_ok-cells.ensures n ok) it.0, it.1)) (c.put_row.ensures.made clean inside d m.to (suc columns) w putting site has)
