use Rattle.std.proofs.lemmas.Result.{IfOk-weaker}
use Rattle.fare_opening.proofs.Neighbors.{store_beside}
use Rattle.fare_opening.proofs.beside.is_beside.Goals as goal

pub returns-then-branch : goal.returns-then-branch
returns-then-branch g c =
    IfOk-weaker c.olders_are_beside.result _ _ (λ right is. store_beside c.older.result.now g.E.Design.parts c.args.schema.now c.args.site.now c.in_ok-are_beside.field-0 right c.if-branch.true (c.in_ok-are_beside.ensures g.E.Design.parts c.sound.ensures.design c.tables.ensures c.texts.ensures) c.sound.ensures.older is c.older.ensures) c.olders_are_beside.ensures
