use Rattle.std.proofs.Common.{◌≡◌, Ok, [], ◌∷◌, ap}
use Rattle.sqlite.specs.Held.{state}
use Rattle.sqlite.specs.State.{Executes}
use Rattle.fare_tables.specs.Cells.{int}
use Rattle.fare_opening.specs.Parts.{MetaParts}
use Rattle.fare_opening.proofs.Makes.{puts_row}
use Rattle.fare_opening.proofs.making.put_meta.Goals as goal

pub returns-clause-made : goal.returns-clause-made
returns-clause-made g c clean inside w site blank =
    let old = state g.S.Store c.args.tx.now.conn.now in
    let new = state g.S.Store c.change.new.tx.conn.now in
    let ran = c.in_ok-change.ensures.ran clean inside in
    let text : c.meta.result.now.put.now ≡ g.D.Design.parts.meta.put = ap (λ (m : MetaParts). m.put) c.meta.ensures in
    let h : Executes g.D.Design.parts.meta.put (int g.D.Design.parts.format ∷ int c.args.owner ∷ []) old new (Ok c.in_ok-change.field-0) = rw (c.parameter.ensures, c.parameter-2.ensures, c.from.ensures, c.from-2.ensures, c.format.ensures, text) at ran.0 in
    (let put = puts_row g.D.Design.parts c.args.owner w old new c.in_ok-change.field-0 c.sound.ensures.design site blank h in (put.0, put.1, ran.1))
