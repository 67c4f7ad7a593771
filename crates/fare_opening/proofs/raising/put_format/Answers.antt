use Rattle.std.proofs.Common.{◌≡◌, Ok, [], ◌∷◌, ap}
use Rattle.sqlite.specs.Held.{state}
use Rattle.sqlite.specs.State.{Executes}
use Rattle.fare_tables.specs.Cells.{int}
use Rattle.fare_opening.specs.Parts.{MetaParts}
use Rattle.fare_opening.proofs.Raised.{sets_row}
use Rattle.fare_opening.proofs.raising.put_format.Goals as goal

pub returns-clause-set : goal.returns-clause-set
returns-clause-set g c clean inside w site has format owner meta =
    let d = g.D.Design.parts in
    let old = state g.S.Store c.args.tx.now.conn.now in
    let new = state g.S.Store c.change.new.tx.conn.now in
    let ran = c.in_ok-change.ensures.ran clean inside in
    let text : c.meta.result.now.set.now ≡ d.meta.set = ap (λ (m : MetaParts). m.set) c.meta.ensures in
    let h : Executes d.meta.set (int d.format ∷ []) old new (Ok c.in_ok-change.field-0) = rw (c.parameter.ensures, c.from.ensures, c.format.ensures, text) at ran.0 in
    (sets_row d w old new format owner c.in_ok-change.field-0 c.sound.ensures.design site has meta h, ran.1)
