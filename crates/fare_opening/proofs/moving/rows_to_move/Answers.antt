use Rattle.std.proofs.Common.{◌≡◌, Some, option_map, sym, ap, subst, ◌∙◌}
use Rattle.sqlite.specs.Held.{state}
use Rattle.std.specs.Prelude.{IfSome}
use Rattle.std.proofs.lemmas.Result.{IfOk-weaker}
use Rattle.fare_opening.specs.Moving.{MovingParts, moving_told, columns_of, AreNumbered}
use Rattle.fare_opening.specs.Parts.{parts_of}
use Rattle.fare_opening.specs.Sites.{rows_at}
use Rattle.fare_opening.proofs.Moved.{moves_it}
use Rattle.fare_opening.proofs.ReadRows.{reads_moving}
use Rattle.fare_opening.proofs.moving.rows_to_move.Goals as goal

pub read_rows-requires : goal.read_rows-requires
read_rows-requires g c =
    let d = c.requires.0 in
    let o = c.requires.1 in
    let older = c.requires.2 in
    let m = moving_told c.in-Some.moving in
    let is : o.moving ≡ Some m = sym c.requires.3 ∙ ap (option_map moving_told) c.in-Some.is in
    (parts_of o, m.from, columns_of o.own m.from, reads_moving d o m older (moves_it d o m older is), c.requires.4)

pub returns-in-Some-clause-rows : goal.returns-in-Some-clause-rows
returns-in-Some-clause-rows g c clean has =
    let old = state g.S.Store c.args.conn.now in
    let m = moving_told c.in-Some.moving in
    IfOk-weaker c.read_rows.result _ _ (λ rows read d o older told site. (
    let is : o.moving ≡ Some m = sym told ∙ ap (option_map moving_told) c.in-Some.is in
    subst (λ x. IfSome x (λ (m : MovingParts). AreNumbered (columns_of o.own m.from) (rows_at c.args.site.now m.from old.now.trees) → rows.items ≡ rows_at c.args.site.now m.from old.now.trees)) (sym is)
    (read (parts_of o) m.from (columns_of o.own m.from) (reads_moving d o m older (moves_it d o m older is)) site))) (c.read_rows.ensures.rows clean has)
