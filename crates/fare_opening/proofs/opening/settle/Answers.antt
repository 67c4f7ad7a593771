use Rattle.std.proofs.Common.{◌≢◌}
use Rattle.sqlite.specs.Held.{state}
use Rattle.fare_tables.specs.Making.{no_schema}
use Rattle.fare_opening.specs.Making.{MayGrow}
use Rattle.fare_opening.specs.Opening.{IsVacant, Sees}
use Rattle.fare_opening.specs.declared.looking.Seen.TheVariants.{Ours}
use Rattle.fare_opening.proofs.Standing.{for_none}
use Rattle.fare_opening.proofs.Vacant.{not_vacant, not_blank}
use Rattle.fare_opening.proofs.opening.settle.Goals as goal

pub returns-in-Ours-clause-foreign : goal.returns-in-Ours-clause-foreign
returns-in-Ours-clause-foreign g c =
    let old = state g.S.Store c.args.conn.now in
    let d = g.D.Design.parts in
    let it : Sees d old.now.schema (Ours c.in-Ours.site) = rw c.in-Ours.is at c.requires.seen in
    for_none c.keep_or_raise.result (old.now.schema ≢ no_schema) (not_blank d c.in-Ours.site old.now.schema c.sound.ensures.design it.0 it.1)

pub returns-in-Ours-clause-vacant : goal.returns-in-Ours-clause-vacant
returns-in-Ours-clause-vacant g c =
    let old = state g.S.Store c.args.conn.now in
    let d = g.D.Design.parts in
    let it : Sees d old.now.schema (Ours c.in-Ours.site) = rw c.in-Ours.is at c.requires.seen in
    for_none c.keep_or_raise.result (IsVacant d old → ¬ MayGrow d old.now.schema) (λ vacant. absurd (not_vacant d c.in-Ours.site old.now.schema c.sound.ensures.design it.0 vacant it.1))
